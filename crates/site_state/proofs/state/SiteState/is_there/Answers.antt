use Rattle.std.proofs.Common.{List, sym, ◌∙◌, ap}
use Rattle.std.specs.Prelude.{◌==◌, is_some}
use Rattle.std.specs.List.{list_any}
use Rattle.site_types.specs.declared.file.FileRec.{FileRec}
use Rattle.site_state.proofs.Places.{is_some-position}
use Rattle.site_state.proofs.state.SiteState.is_there.Goals as goal

pub returns : goal.returns
returns c = λ fields keeps.
    let same = c.is_some.ensures ∙ ap is_some c.find_inode.ensures ∙ is_some-position (λ (file : FileRec). file.inode == c.args.inode) c.args.self.now.files.list
    ∙ ap (λ (files : List FileRec). list_any (λ (file : FileRec). file.inode == c.args.inode) files) keeps.files in
    (λ is. sym same ∙ is, λ there. same ∙ there)
