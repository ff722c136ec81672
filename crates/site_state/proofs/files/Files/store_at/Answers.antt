use Rattle.std.proofs.Common.{◌+◌, ◌<◌, ◌^◌, List, length, set, Some, sym, ◌∙◌, ap, subst}
use Rattle.site_types.specs.declared.file.FileRec.{FileRec}
use Rattle.site_history.specs.PutSteps.{stored_file}
use Rattle.site_state.specs.FileList.{FileList}
use Rattle.site_state.proofs.Indexed.{file_there, indexed-set}
use Rattle.site_state.proofs.files.Files.store_at.Goals as goal

pub invariant_of-self : goal.invariant_of-self
invariant_of-self c =
    let within = subst (λ (l : List FileRec). c.args.index < length l) (sym (ap (λ (v : FileList). v.list) c.self.view_is)) c.requires in
    indexed-set c.self.inside c.self.invariant c.args.index c.index_mut.result.now c.store_over.new.file within c.index_mut.ensures.value c.store_over.ensures.inode c.store_over.ensures.path

pub returns-clause-list : goal.returns-clause-list
returns-clause-list c = λ file is few.
    let same = ap (λ (v : FileList). v.list) c.self.view_is in
    let here = file_there c.self.inside.items.items c.args.self.now.list c.args.index c.index_mut.result.now file same c.index_mut.ensures.value is in
    ap (λ (l : List FileRec). set l c.args.index c.store_over.new.file) same
    ∙ ap (λ (f : FileRec). set c.args.self.now.list c.args.index f)
    (c.store_over.ensures.file (subst (λ (f : FileRec). f.generation + 1 < 2 ^ 64) (sym here) few)
    ∙ ap (λ (f : FileRec). stored_file (Some f) c.args.moment c.args.put) here)

pub returns-clause-runs : goal.returns-clause-runs
returns-clause-runs c = λ file is.
    let same = ap (λ (v : FileList). v.list) c.self.view_is in
    let here = file_there c.self.inside.items.items c.args.self.now.list c.args.index c.index_mut.result.now file same c.index_mut.ensures.value is in
    c.store_over.ensures.runs ∙ ap (λ (f : FileRec). f.runs) here
