-- The options of a line. Each is a field; some take the next field as their value.
use Rattle.std.specs.Prelude.{List, Bool}
use Rattle.site_text.specs.Fields.{Field, Read}
use Rattle.site_text.specs.Words.{option_named}

-- what an option gives: this, where it stands alone; or what the next field says, which is its value
pub data OptionForm (V : Type 0) : Type 0 where
  Alone : V → OptionForm V
  WithValue : (Field → Read V) → OptionForm V

-- The options that may stand on a line: the option that a field is, or what is wrong with the field; and whether what an option
-- gives excludes one of those given before it.
pub record Options (V : Type 0) : Type 0 where
  pub option : Field → Read (OptionForm V)
  pub excludes : List V → V → Bool

-- the options of a table, as `("-ignore", Alone ..)` and `("-hwm", WithValue ..)`
abbrev pub listed : {V : Type 0} → List (Field × OptionForm V) → Field → Read (OptionForm V)
listed table field = option_named table field
