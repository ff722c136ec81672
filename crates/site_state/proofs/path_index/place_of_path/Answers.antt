use Rattle.std.proofs.Common.{rules, of_calls}
use Rattle.std.specs.Cmp.Lexicographic.{slice_cmp}
use Rattle.std.specs.Ordering.{nat_cmp}
use Rattle.std.proofs.lemmas.Fn.{always_returns_same}
use Rattle.site_state.specs.PathIndex.{path_of}
use Rattle.site_state.proofs.path_index.place_of_path.Goals as goal

-- the closure compares an inode's path with the one that is sought
pub returns-clause-place : goal.returns-clause-place
returns-clause-place c =
    c.binary_search_by.ensures.position (λ inode. slice_cmp nat_cmp (path_of c.args.files.now inode) c.args.path.now) (always_returns_same _ _ _ (λ a r f k. search (rules, of_calls)))
