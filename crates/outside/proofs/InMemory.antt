-- Objects in memory.
use Rattle.std.proofs.Common.{◌≡◌, ℕ, List, [], ◌∷◌, true, take, sym, ◌∙◌, ap, Some, Result, Ok, Err}
use Rattle.std.specs.Prelude.{◌||◌, nat_eq, MatchResult}
use Rattle.std.specs.Option.{option_map}
use Rattle.std.specs.List.{starts_with}
use Rattle.outside.specs.declared.folder.TheConstants.{LONGEST_READ}
use Rattle.outside.specs.declared.folder.NamedText.{NamedText}
use Rattle.outside.specs.declared.folder.FolderFault.{FolderFault}
use Rattle.outside.specs.declared.folder.FolderFault.TheVariants.{NoFile, Failed, NoMemory}
use Rattle.outside.specs.Folders.{text_under, Answers}
use Rattle.outside.specs.Literals.{contains_text}

-- the front of the text under a name answers a read of it
pub front_answers : (texts : List NamedText) (name text : List ℕ) (r : Result (List ℕ) FolderFault) → text_under texts name ≡ Some text → MatchResult r (λ b. b ≡ take LONGEST_READ text) (λ fault. fault ≡ NoMemory) → Answers texts name r
front_answers texts name text (Ok bytes) e front = ap (λ o. option_map (take LONGEST_READ) o) e ∙ ap (λ b. Some b) (sym front)
front_answers texts name text (Err NoFile) e front = absurd (cc)
front_answers texts name text (Err Failed) e front = tt
front_answers texts name text (Err NoMemory) e front = tt

-- a subject that begins with a text contains it
pub contains_front : (subject text : List ℕ) → starts_with nat_eq subject text ≡ true → contains_text subject text ≡ true
contains_front [] text e = e
contains_front (b ∷ subject) text e = ap (λ v. v || contains_text subject text) e
