use Rattle.std.proofs.Common.{sym, ◌∙◌, ap}
use Rattle.site_state.specs.FileList.{FileList}
use Rattle.site_state.proofs.Legality.{some_listed, file_at-none}
use Rattle.site_state.proofs.files.Files.get.Goals as goal

pub returns-in-Some-clause-file : goal.returns-in-Some-clause-file
returns-in-Some-clause-file c = some_listed c.args.path.now c.args.self.now.list c.self.inside.items.items c.in-Some.index c.index.result.now
    (ap (λ (v : FileList). v.list) c.self.view_is) (sym c.find.ensures ∙ c.in-Some.is) c.index.ensures

pub returns-in-None-clause-file : goal.returns-in-None-clause-file
returns-in-None-clause-file c = sym (file_at-none c.args.path.now c.args.self.now.list (sym c.find.ensures ∙ c.in-None.is))
