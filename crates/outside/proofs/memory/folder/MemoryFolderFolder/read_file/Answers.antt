use Rattle.std.proofs.Common.{List, sym, ◌∙◌, ap}
use Rattle.outside.proofs.InMemory.{front_answers}
use Rattle.outside.specs.declared.folder.NamedText.{NamedText}
use Rattle.outside.specs.Folders.{text_under}
use Rattle.outside.specs.Texts.{Texts}
use Rattle.outside.proofs.memory.folder.MemoryFolderFolder.read_file.Goals as goal

pub returns-clause-answer : goal.returns-clause-answer
returns-clause-answer c =
    front_answers c.args.self.now.texts c.args.name.now c.in-Some.text.now c.copy_front.result
    (ap (λ (t : List NamedText). text_under t c.args.name.now) (sym (c.as_slice.ensures ∙ ap (λ (t : Texts). t.texts) c.self.view_is)) ∙ sym c.in-Some.ensures)
    c.copy_front.ensures
