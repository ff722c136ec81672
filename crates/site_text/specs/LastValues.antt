-- Of what several lines or options say, all values in their order, or the last one.
use Rattle.std.specs.Prelude.{List, Option, None}
use Rattle.std.specs.List.{filter_map, last_or}

-- the values of those that say one, the first first
abbrev pub all_of : {A B : Type 0} → (A → Option B) → List A → List B
all_of says given = filter_map says given

-- the value of the last of those that say one
abbrev pub last_of : {A B : Type 0} → (A → Option B) → List A → Option B
last_of says given = last_or None (filter_map says given)
