-- What fields say that are options, and which of them is the first wrong one.
use Rattle.std.specs.Prelude.{◌≡◌, List, [], ◌∷◌, ◌++◌, Ok, Err, true, false, ◌⊎◌}
use Rattle.site_text.specs.declared.fault.ConfFault.{ConfFault}
use Rattle.site_text.specs.declared.fault.ConfFault.TheVariants.{MissingField, Conflict}
use Rattle.site_text.specs.Fields.{Field, Read}
use Rattle.site_text.specs.Options.{Options, Alone, WithValue}

-- These fields are one option, which gives this.
abbrev pub OptionSays : {V : Type 0} → Options V → List Field → V → Type 0
OptionSays options (field ∷ []) given = options.option field ≡ Ok (Alone given)
OptionSays {V} options (field ∷ value ∷ []) given = (kind : Field → Read V) × (options.option field ≡ Ok (WithValue kind)) × (kind value ≡ Ok given)
OptionSays options fields given = ⊥

-- Each part is an option, and what it gives excludes none of those given before it.
abbrev pub PartsSay : {V : Type 0} → Options V → List V → List (List Field) → List V → Type 0
PartsSay options before [] given = given ≡ before
PartsSay {V} options before (part ∷ parts) given = (v : V) × OptionSays options part v × (options.excludes before v ≡ false) × PartsSay options (before ++ v ∷ []) parts given

-- the fields of all parts, one part after the other
abbrev pub fields_in : List (List Field) → List Field
fields_in [] = []
fields_in (part ∷ parts) = part ++ fields_in parts

-- The fields, cut into such parts, give this, behind what was given before.
pub record OptionsSay {V : Type 0} (options : Options V) (before : List V) (fields : List Field) (given : List V) : Type 0 where
  pub parts : List (List Field)
  pub cut : fields ≡ fields_in parts
  pub say : PartsSay options before parts given

-- What an option gives excludes what was given before.
abbrev pub IsExcluded : {V : Type 0} → Options V → List V → V → ConfFault → Type 0
IsExcluded options before given fault = (options.excludes before given ≡ true) × (fault ≡ Conflict)

-- The value of an option is not there, is not of its kind, or gives what excludes what was given before.
abbrev pub ValueWrong : {V : Type 0} → Options V → (Field → Read V) → List V → List Field → ConfFault → Type 0
ValueWrong options kind before [] fault = fault ≡ MissingField
ValueWrong {V} options kind before (field ∷ fields) fault = (kind field ≡ Err fault) ⊎ ((v : V) × (kind field ≡ Ok v) × IsExcluded options before v fault)

-- The first of these fields is no option that may stand there, or its value is wrong, or it gives what excludes what was given before.
abbrev pub OptionWrong : {V : Type 0} → Options V → List V → List Field → ConfFault → Type 0
OptionWrong options before [] fault = ⊥
OptionWrong {V} options before (field ∷ fields) fault = (options.option field ≡ Err fault)
    ⊎ ((kind : Field → Read V) × (options.option field ≡ Ok (WithValue kind)) × ValueWrong options kind before fields fault)
    ⊎ ((v : V) × (options.option field ≡ Ok (Alone v)) × IsExcluded options before v fault)

-- The fields up to a place are options, and what stands there is wrong.
pub record OptionsWrong {V : Type 0} (options : Options V) (before : List V) (fields : List Field) (fault : ConfFault) : Type 0 where
  pub parts : List (List Field)
  pub rest : List Field
  pub given : List V
  pub cut : fields ≡ fields_in parts ++ rest
  pub say : PartsSay options before parts given
  pub here : OptionWrong options given rest fault
