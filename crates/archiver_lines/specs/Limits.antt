-- How many there may be in one archiver.cmd, and what its numbers and sizes may be.
use Rattle.std.specs.Prelude.{ℕ}
use Rattle.base.specs.declared.limits.TheConstants.{FIELD_NUMBER_MAX, FIELD_SIZE_MAX}
use Rattle.site_text.specs.Fields.{Field, Read}
use Rattle.site_text.specs.Values.{number_value, size_value}

-- assignment lines
abbrev pub most_assignments : ℕ
most_assignments = 64

-- sets
abbrev pub most_sets : ℕ
most_sets = 64

-- expressions for volumes, with pools put in
abbrev pub most_exprs : ℕ
most_exprs = 256

abbrev pub any_number : Field → Read ℕ
any_number field = number_value 0 FIELD_NUMBER_MAX field

abbrev pub any_size : Field → Read ℕ
any_size field = size_value 0 FIELD_SIZE_MAX field
