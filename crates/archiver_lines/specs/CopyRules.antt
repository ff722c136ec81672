-- Copy lines: what one says, and what is wrong with one.
use Rattle.std.specs.Prelude.{◌≡◌, ◌⊎◌, ℕ, ◌≤◌, ◌<◌, List, [], ◌∷◌, ◌++◌, codes, length, Option, Some, None, Ok, Bool, true, false, ◌==◌, ◌&&◌}
use Rattle.std.specs.List.{list_any}
use Rattle.std.specs.Str.{bytes_eq}
use Rattle.site_text.specs.declared.fault.ConfFault.{ConfFault}
use Rattle.site_text.specs.declared.fault.ConfFault.TheVariants.{UnknownDirective, ExtraField, BadValue, CopyBeforeSet, CopyTwice, TooMany, Conflict, OutOfRange}
use Rattle.site_text.specs.Fields.{Field}
use Rattle.site_text.specs.Numbers.{number_in}
use Rattle.archiver_lines.specs.declared.reading.SetCopy.{SetCopy}
use Rattle.site_text.specs.Ages.{age_of}
use Rattle.site_text.specs.Words.{is_option}
use Rattle.archiver_lines.specs.Names.{MayMention, IsOneTooMany}
use Rattle.archiver_lines.specs.Faults.{LowestFault, Faultless}

-- the set has that copy number already
abbrev pub has_copy : List SetCopy → Field → ℕ → Bool
has_copy copies set copy = list_any (λ c. bytes_eq c.set set && (c.conf.copy == copy)) copies

-- ---- what a copy line says

-- at most one of `-release` and `-norelease`
abbrev pub OptionSays : List Field → Bool → Bool → Type 0
OptionSays [] false false = Unit {0}
OptionSays (field ∷ []) true false = field ≡ codes "-release"
OptionSays (field ∷ []) false true = field ≡ codes "-norelease"
OptionSays fields release norelease = ⊥

-- the age in seconds at which a copy is made where its line gives none
abbrev pub default_age : ℕ
default_age = 240

-- at most two ages
abbrev pub AgesSay : List Field → ℕ → Option ℕ → Type 0
AgesSay [] age None = age ≡ default_age
AgesSay (field ∷ []) age None = age_of field ≡ Ok age
AgesSay (field ∷ next ∷ []) age (Some unage) = (age_of field ≡ Ok age) × (age_of next ≡ Ok unage)
AgesSay fields age unage = ⊥

-- no option stands first
abbrev pub IsPlain : List Field → Type 0
IsPlain [] = Unit {0}
IsPlain (field ∷ fields) = is_option field ≡ false

-- The first field is the number of a copy that the set has not; then come at most one option and at most two ages.
pub record CopySays (target : Option Field) (copies : List SetCopy) (sets : List Field) (field : Field) (fields : List Field) (line : SetCopy) : Type 0 where
  pub belongs : target ≡ Some line.set
  pub archived : ¬ (line.set ≡ codes "no_archive")
  pub room : MayMention sets line.set
  pub number : number_in 9 field ≡ Some line.conf.copy
  pub low : 1 ≤ line.conf.copy
  pub high : line.conf.copy ≤ 4
  pub fresh : has_copy copies line.set line.conf.copy ≡ false
  pub options : List Field
  pub ages : List Field
  pub parts : fields ≡ options ++ ages
  pub option : OptionSays options line.conf.release line.conf.norelease
  pub plain : IsPlain ages
  pub age : AgesSay ages line.conf.age line.conf.unage

-- ---- what is wrong with one

-- The number of a copy is not of its form or not 1 to 4; or there is no set so far, or the set has that number already, is one too
-- many, or is `no_archive`, which has no copies.
abbrev pub NumberFault : Option Field → List SetCopy → List Field → Field → ConfFault → Type 0
NumberFault target copies sets field BadValue = number_in 9 field ≡ None
NumberFault target copies sets field CopyBeforeSet = target ≡ None
NumberFault target copies sets field CopyTwice = (set : Field) × (copy : ℕ) × (target ≡ Some set) × (number_in 9 field ≡ Some copy) × (has_copy copies set copy ≡ true)
NumberFault target copies sets field TooMany = (set : Field) × (target ≡ Some set) × IsOneTooMany sets set
NumberFault target copies sets field Conflict = target ≡ Some (codes "no_archive")
NumberFault target copies sets field OutOfRange = (copy : ℕ) × (number_in 9 field ≡ Some copy) × ((copy < 1) ⊎ (4 < copy))
NumberFault target copies sets field fault = ⊥

abbrev pub IsCopyOption : Field → Type 0
IsCopyOption field = (field ≡ codes "-release") ⊎ (field ≡ codes "-norelease")

-- Behind at most one option stands a field that begins with `-`: it is no option of a copy line, or there is one already, the same
-- or the other, which excludes it.
abbrev pub OptionFault : List Field → Field → ConfFault → Type 0
OptionFault options field UnknownDirective = (is_option field ≡ true) × ¬ IsCopyOption field
OptionFault (option ∷ []) field ExtraField = field ≡ option
OptionFault (option ∷ []) field Conflict = IsCopyOption field × ¬ (field ≡ option)
OptionFault options field fault = ⊥

-- the same of the first of these fields
abbrev pub OptionWrong : List Field → List Field → ConfFault → Type 0
OptionWrong options [] fault = ⊥
OptionWrong options (field ∷ fields) fault = OptionFault options field fault

-- Behind at most two ages stands a field that is none, or one too many.
abbrev pub AgeFault : List Field → Field → ConfFault → Type 0
AgeFault ages field BadValue = (length ages < 2) × ((age : ℕ) → ¬ (age_of field ≡ Ok age))
AgeFault ages field ExtraField = length ages ≡ 2
AgeFault ages field fault = ⊥

-- The fields up to a place are ages, and what stands there is wrong.
pub record AgesWrong (fields : List Field) (fault : ConfFault) : Type 0 where
  pub ages : List Field
  pub field : Field
  pub rest : List Field
  pub cut : fields ≡ ages ++ field ∷ rest
  pub age : ℕ
  pub unage : Option ℕ
  pub before : AgesSay ages age unage
  pub here : AgeFault ages field fault

-- Behind the number stands at most one option, and what follows it is wrong, as an option or as ages.
pub record BehindNumber (fields : List Field) (fault : ConfFault) : Type 0 where
  pub options : List Field
  pub rest : List Field
  pub cut : fields ≡ options ++ rest
  pub release : Bool
  pub norelease : Bool
  pub before : OptionSays options release norelease
  pub here : OptionWrong options rest fault ⊎ (IsPlain rest × AgesWrong rest fault)

abbrev pub CopyWrong : Option Field → List SetCopy → List Field → Field → List Field → ConfFault → Type 0
CopyWrong target copies sets field fields fault = LowestFault (NumberFault target copies sets field) fault
    ⊎ (Faultless (NumberFault target copies sets field) × BehindNumber fields fault)
