-- The options of params.
use Rattle.std.specs.Prelude.{List, [], ◌∷◌, codes, length, Option, Some, None, Bool, true, false, ◌&&◌, ◌||◌, not, if◌then◌else◌, drop, nat_eq}
use Rattle.std.specs.List.{list_any, starts_with}
use Rattle.base.specs.declared.limits.TheConstants.{FIELD_NUMBER_MAX}
use Rattle.site_text.specs.Fields.{Field, Read, map_read}
use Rattle.site_text.specs.Words.{word_value}
use Rattle.site_text.specs.Values.{any_value, age_value, number_value}
use Rattle.site_text.specs.Options.{Options, OptionForm, Alone, WithValue, listed}
use Rattle.archiver_lines.specs.Names.{same_name}
use Rattle.archiver_lines.specs.Limits.{any_number, any_size}
use Rattle.archiver_lines.specs.declared.param_options.Given.{Given}
use Rattle.archiver_lines.specs.declared.param_options.Given.TheVariants as given
use Rattle.archiver_lines.specs.declared.param_options.Join.{Join}
use Rattle.archiver_lines.specs.declared.param_options.Join.TheVariants as joins
use Rattle.archiver_lines.specs.declared.param_options.SortKey.{SortKey}
use Rattle.archiver_lines.specs.declared.param_options.SortKey.TheVariants as keys
use Rattle.archiver_lines.specs.declared.param_options.Owner.{Owner}
use Rattle.archiver_lines.specs.declared.param_options.Owner.TheVariants as owners
use Rattle.archiver_lines.specs.declared.param_options.ReservePart.{ReservePart}
use Rattle.archiver_lines.specs.declared.param_options.ReservePart.TheVariants as parts
use Rattle.archiver_lines.specs.declared.param_options.Unarchage.{Unarchage}
use Rattle.archiver_lines.specs.declared.param_options.Unarchage.TheVariants as unarchages
use Rattle.archiver_lines.specs.declared.reading.CopyName.{CopyName}
use Rattle.archiver_lines.specs.declared.reading.ParamsLine.{ParamsLine}

abbrev pub join_words : List (Field × Join)
join_words = (codes "path", joins.Path) ∷ (codes "none", joins.None) ∷ []

abbrev pub sort_words : List (Field × SortKey)
sort_words = (codes "path", keys.Path) ∷ (codes "age", keys.Age) ∷ (codes "size", keys.Size) ∷ (codes "none", keys.None) ∷ []

abbrev pub reserve_words : List (Field × ReservePart)
reserve_words =
    (codes "set", parts.Set) ∷ (codes "dir", parts.Owner owners.Dir) ∷ (codes "user", parts.Owner owners.User)
    ∷ (codes "group", parts.Owner owners.Group) ∷ (codes "fs", parts.Fs) ∷ []

abbrev pub unarchage_words : List (Field × Unarchage)
unarchage_words = (codes "access", unarchages.Access) ∷ (codes "modify", unarchages.Modify) ∷ []

-- ---- the table

-- one that takes a value of a kind, and what it gives with it
abbrev pub valued : {A : Type 0} → (A → Given) → (Field → Read A) → OptionForm Given
valued gives kind = WithValue (λ field. map_read gives (kind field))

-- the same of one without effect
abbrev pub ignored : {A : Type 0} → (Field → Read A) → OptionForm Given
ignored kind = valued (λ value. given.Nothing) kind

abbrev pub sort_by : SortKey → Bool → Given
sort_by key reverse = given.Sort (record { key = key; reverse = reverse })

abbrev pub param_options : List (Field × OptionForm Given)
param_options =
    (codes "-archmax", valued given.Archmax any_size)
    ∷ (codes "-fillvsns", Alone given.Fillvsns)
    ∷ (codes "-join", valued given.Join (word_value join_words))
    ∷ (codes "-sort", valued (λ key. sort_by key false) (word_value sort_words))
    ∷ (codes "-rsort", valued (λ key. sort_by key true) (word_value sort_words))
    ∷ (codes "-reserve", valued given.Reserve (word_value reserve_words))
    ∷ (codes "-ovflmin", valued given.Ovflmin any_size)
    ∷ (codes "-startage", valued given.Startage age_value)
    ∷ (codes "-startcount", valued given.Startcount (number_value 1 FIELD_NUMBER_MAX))
    ∷ (codes "-startsize", valued given.Startsize any_size)
    ∷ (codes "-unarchage", valued given.Unarchage (word_value unarchage_words))
    ∷ (codes "-recycle_hwm", valued given.RecycleHwm (number_value 0 100))
    ∷ (codes "-recycle_mingain", valued given.RecycleMingain (number_value 0 100))
    ∷ (codes "-recycle_vsncount", valued given.RecycleVsncount any_number)
    ∷ (codes "-recycle_dataquantity", valued given.RecycleDataquantity any_size)
    ∷ (codes "-recycle_ignore", Alone given.RecycleIgnore)
    ∷ (codes "-lock", Alone given.Nothing)
    ∷ (codes "-tapenonstop", Alone given.Nothing)
    ∷ (codes "-bufsize", ignored any_number)
    ∷ (codes "-recycle_mailaddr", ignored any_value)
    ∷ (codes "-drives", ignored any_number)
    ∷ (codes "-drivemin", ignored any_size)
    ∷ (codes "-drivemax", ignored any_size)
    ∷ []

-- the option that a field is in the table
unfoldable pub listed_option : Field → Read (OptionForm Given)
listed_option field = listed param_options field

-- what stands behind `-bufsize=`, where the field begins so
unfoldable pub bufsize_in : Field → Option Field
bufsize_in field = if starts_with nat_eq field (codes "-bufsize=") then Some (drop (length (codes "-bufsize=")) field) else None

-- The option that a field is: `-bufsize=N` with its number in the field itself, or one of the table.
abbrev pub param_option : Field → Read (OptionForm Given)
param_option field = by_bufsize (bufsize_in field)
  where
    by_bufsize : Option Field → Read (OptionForm Given)
    by_bufsize (Some number) = map_read (λ n. Alone given.Nothing) (any_number number)
    by_bufsize None = listed_option field

-- ---- options that exclude each other

-- dir, user or group, of which a reservation has at most one
abbrev pub owner_of : Given → Option Owner
owner_of (given.Reserve (parts.Owner owner)) = Some owner
owner_of g = None

abbrev pub is_same_owner : Owner → Owner → Bool
is_same_owner owners.Dir owners.Dir = true
is_same_owner owners.User owners.User = true
is_same_owner owners.Group owners.Group = true
is_same_owner one other = false

abbrev pub are_two_owners : Option Owner → Option Owner → Bool
are_two_owners (Some one) (Some other) = not (is_same_owner one other)
are_two_owners one other = false

abbrev pub exclude : Given → Given → Bool
exclude a b = are_two_owners (owner_of a) (owner_of b)

abbrev pub exclude_any : List Given → Given → Bool
exclude_any before g = list_any (λ b. exclude b g) before

-- The options for a name, behind these lines of params. The uses of -reserve for one name exclude each other over all its lines.
abbrev pub params_table : List ParamsLine → CopyName → Options Given
params_table lines name = record {
  option = param_option;
  excludes = λ before g. exclude_any before g || list_any (λ l. same_name l.name name && exclude_any l.given g) lines;
}
