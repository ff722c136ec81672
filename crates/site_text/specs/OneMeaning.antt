-- Each text says one list of readings, or has one refusal, and not both. Reading it in steps gives the one or the other.
use Rattle.std.specs.Prelude.{◌≡◌, ◌↔◌, ℕ, List, Option, Ok, Err, ◌⊎◌}
use Rattle.site_text.specs.declared.line.Line.{Line}
use Rattle.site_text.specs.declared.fault.ConfFault.{ConfFault}
use Rattle.site_text.specs.declared.fault.ConfRefusal.{ConfRefusal}
use Rattle.site_text.specs.FileRules.{FileSays, FileWrong}
use Rattle.site_text.specs.FileSteps.{LineReader, file_reading}

pub record SaysOneThing {R : Type 0} (line_of : LineReader R) (LineSays : List R → Line → R → Type 0) (LineWrong : List R → Line → ConfFault → Type 0) (open_section : List R → Option ℕ) (text : List ℕ) : Type 0 where
  pub something : ((said : List R) × FileSays LineSays open_section text said) ⊎ ((refusal : ConfRefusal) × FileWrong LineSays LineWrong open_section text refusal)
  pub one_meaning : (said other : List R) → FileSays LineSays open_section text said → FileSays LineSays open_section text other → said ≡ other
  pub not_both : (said : List R) (refusal : ConfRefusal) → FileSays LineSays open_section text said → FileWrong LineSays LineWrong open_section text refusal → ⊥
  pub one_refusal : (refusal other : ConfRefusal) → FileWrong LineSays LineWrong open_section text refusal → FileWrong LineSays LineWrong open_section text other → refusal ≡ other
  pub read : (said : List R) → (file_reading line_of open_section text ≡ Ok said) ↔ FileSays LineSays open_section text said
  pub refused : (refusal : ConfRefusal) → (file_reading line_of open_section text ≡ Err refusal) ↔ FileWrong LineSays LineWrong open_section text refusal
