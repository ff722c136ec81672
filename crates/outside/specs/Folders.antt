-- What a folder answers.
use Rattle.std.specs.Prelude.{◌≡◌, ℕ, List, Option, None, Some, Result, Ok, Err, find, take}
use Rattle.std.specs.Option.{option_map}
use Rattle.std.specs.Str.{bytes_eq}
use Rattle.outside.specs.declared.folder.TheConstants.{LONGEST_READ}
use Rattle.outside.specs.declared.folder.NamedText.{NamedText}
use Rattle.outside.specs.declared.folder.FolderFault.{FolderFault}
use Rattle.outside.specs.declared.folder.FolderFault.TheVariants.{NoFile, Failed, NoMemory}

-- the text under a name: that of the first entry of this name
abbrev pub text_under : List NamedText → List ℕ → Option (List ℕ)
text_under texts name = option_map (λ e. e.text) (find (λ e. bytes_eq e.name name) texts)

-- what a read of a name answers: the text up to its 65,537th byte, or that there is none
abbrev pub Answers : List NamedText → List ℕ → Result (List ℕ) FolderFault → Type 0
Answers texts name (Ok bytes) = option_map (take LONGEST_READ) (text_under texts name) ≡ Some bytes
Answers texts name (Err NoFile) = text_under texts name ≡ None
Answers texts name (Err Failed) = Unit {0}
Answers texts name (Err NoMemory) = Unit {0}
