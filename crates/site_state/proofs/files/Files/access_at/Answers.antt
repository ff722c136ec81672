use Rattle.std.proofs.Common.{◌<◌, List, length, refl, sym, ap, subst}
use Rattle.site_types.specs.declared.file.FileRec.{FileRec}
use Rattle.site_history.specs.AccessedSteps.{accessed_at}
use Rattle.site_state.specs.FileList.{FileList}
use Rattle.site_state.proofs.Indexed.{changed_there, indexed-set}
use Rattle.site_state.proofs.files.Files.access_at.Goals as goal

pub invariant_of-self : goal.invariant_of-self
invariant_of-self c =
    let within = subst (λ (l : List FileRec). c.args.index < length l) (sym (ap (λ (v : FileList). v.list) c.self.view_is)) c.requires in
    indexed-set c.self.inside c.self.invariant c.args.index c.index_mut.result.now (accessed_at c.args.moment c.index_mut.result.now) within c.index_mut.ensures.value refl refl

pub returns : goal.returns
returns c = changed_there c.self.inside.items.items c.args.self.now.list c.args.index c.index_mut.result.now (accessed_at c.args.moment) (ap (λ (v : FileList). v.list) c.self.view_is) c.index_mut.ensures.value
