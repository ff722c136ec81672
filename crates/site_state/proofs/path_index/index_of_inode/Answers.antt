use Rattle.std.proofs.Common.{◌∙◌, rules}
use Rattle.std.proofs.lemmas.List.Sorted.{answers_always}
use Rattle.site_state.proofs.PathIndex.{inode_found}
use Rattle.site_state.proofs.path_index.index_of_inode.Goals as goal

-- the closure gives a file's inode
pub returns : goal.returns
returns c =
    let facts = c.binary_search_by_key.ensures in
    c.ok.ensures.value
    ∙ inode_found c.args.files.now c.requires c.args.inode c.binary_search_by_key.result facts.bound (facts.position (λ file. file.inode) (answers_always _ _ _ (λ f a r g called. search rules)))
