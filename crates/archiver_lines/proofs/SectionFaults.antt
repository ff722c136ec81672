-- Lines of params and vsns are refused as what is wrong with them.
use Rattle.std.proofs.Common.{◌≡◌, ℕ, ◌<◌, ◌≤◌, Bool, true, false, length, ◌+◌, List, [], ◌∷◌, Ok, Err, refl, sym, ap, ◌∙◌, ◌⊎◌, inl, inr}
use Rattle.std.specs.Prelude.{not, nat_lt}
use Rattle.std.proofs.lemmas.Bool.{ltb-true, lt-ltb}
use Rattle.site_text.specs.declared.fault.ConfFault.{ConfFault}
use Rattle.site_text.specs.declared.fault.ConfFault.TheVariants.{MissingField, BadValue, TooMany}
use Rattle.site_text.specs.Values.{is_media}
use Rattle.site_text.specs.Fields.{Field, Read, ◌>>=◌, map_read, next_field, refuse_if}
use Rattle.site_text.specs.OptionSteps.{options_of}
use Rattle.site_text.proofs.OptionLaws.{options_wrong, options_refused}
use Rattle.archiver_lines.specs.declared.param_options.Given.{Given}
use Rattle.archiver_lines.specs.declared.reading.CopyName.{CopyName}
use Rattle.archiver_lines.specs.declared.reading.Reading.{Reading}
use Rattle.archiver_lines.specs.declared.reading.ParamsLine.{ParamsLine}
use Rattle.archiver_lines.specs.declared.reading.VsnExpr.{VsnExpr}
use Rattle.archiver_lines.specs.NameSteps.{copy_name}
use Rattle.archiver_lines.specs.ParamOptions.{params_table}
use Rattle.archiver_lines.specs.SectionRules.{item_table, all_exprs, exprs_count, ParamsWrong, ItemsWrong, BehindName, VsnsWrong}
use Rattle.archiver_lines.specs.SectionSteps.{items_of, params_line, vsns_line}
use Rattle.archiver_lines.specs.Limits.{most_exprs}
use Rattle.archiver_lines.specs.Told.{exprs_of, file_systems_of, sets_of, params_of, pools_of}
use Rattle.archiver_lines.specs.NameRules.{NameSays}
use Rattle.archiver_lines.proofs.NameLaws.{name_read, name_said}
use Rattle.archiver_lines.proofs.NameFaults.{name_wrong, name_refused}
use Rattle.archiver_lines.proofs.SectionLaws.{params_read_of, params_told, vsns_read_of, exprs_read, some_read, media_read, room_read, items_are, some_fields}
use Rattle.archiver_lines.proofs.Tests.{not_less, is_not_less}
use Rattle.archiver_lines.proofs.Faults.{bind_err}

-- ---- params

abbrev named_read : Field → List Reading → Field → Read CopyName
named_read site before field = copy_name site (file_systems_of before) (sets_of before) field

abbrev options_read_of : List Reading → CopyName → List Field → Read (List Given)
options_read_of before name fields = options_of (params_table (params_of before) name) [] fields

abbrev told_params : CopyName → List Given → Read ParamsLine
told_params name given = Ok (params_told name given)

pub params_wrong : (site : Field) (before : List Reading) (field : Field) (fields : List Field) (fault : ConfFault) → params_read_of site before field fields ≡ Err fault → ParamsWrong site before field fields fault
unfolding params_line
params_wrong site before field fields fault is = go (bind_err (named_read site before field) (λ name. options_read_of before name fields >>= λ given. told_params name given) fault is)
  where
    options : (name : CopyName) → NameSays site before field name
        → (options_read_of before name fields ≡ Err fault) ⊎ ((given : List Given) × (options_read_of before name fields ≡ Ok given) × (told_params name given ≡ Err fault)) → ParamsWrong site before field fields fault
    options name says (inl e) = inr (name, says, options_wrong (params_table (params_of before) name) [] fields fault e)
    options name says (inr (given, e, absent)) = absurd cc

    go : (named_read site before field ≡ Err fault) ⊎ ((name : CopyName) × (named_read site before field ≡ Ok name) × ((options_read_of before name fields >>= λ given. told_params name given) ≡ Err fault)) → ParamsWrong site before field fields fault
    go (inl e) = inl (name_wrong site before field fault e)
    go (inr (name, e, rest)) = options name (name_said site before field name e) (bind_err (options_read_of before name fields) (λ given. told_params name given) fault rest)

pub params_refused : (site : Field) (before : List Reading) (field : Field) (fields : List Field) (fault : ConfFault) → ParamsWrong site before field fields fault → params_read_of site before field fields ≡ Err fault
unfolding params_line
params_refused site before field fields fault (inl wrong) = rw (name_refused site before field fault wrong) refl
params_refused site before field fields fault (inr (name, says, wrong)) = rw (name_read site before field name says, options_refused (params_table (params_of before) name) [] fields fault wrong) refl

-- ---- vsns

-- the items are read as their table gives them
by_table : (before : List Reading) (number : ℕ) (media : Field) (items : List Field) (read : Read (List (List VsnExpr))) → options_of (item_table (pools_of before) media number) [] items ≡ read
    → items_of (pools_of before) media number [] items ≡ map_read all_exprs read
by_table before number media items read is = items_are (pools_of before) media number [] items ∙ ap (map_read all_exprs) is

abbrev media_of : Field → List Field → Field × List Field
media_of media items = (media, items)

items_wrong : (before : List Reading) (number : ℕ) (name : CopyName) (media : Field) (items : List Field) (fault : ConfFault) → some_read before number name (media_of media items) ≡ Err fault → ItemsWrong before number media items fault
items_wrong before number name media [] fault is = (let e : MissingField ≡ fault = cc in sym e)
items_wrong before number name media (item ∷ items) fault is =
    go (options_of (item_table (pools_of before) media number) [] (item ∷ items)) refl (rw (some_fields item items) at is)
  where
    go : (read : Read (List (List VsnExpr))) → options_of (item_table (pools_of before) media number) [] (item ∷ items) ≡ read → exprs_read before number name (media_of media (item ∷ items)) ≡ Err fault → ItemsWrong before number media (item ∷ items) fault
    go (Err first) e is =
        let d : first ≡ fault = (let h = rw (by_table before number media (item ∷ items) (Err first) e) at is in cc) in
        options_wrong (item_table (pools_of before) media number) [] (item ∷ items) fault (e ∙ ap (λ (f : ConfFault). Err f) d)
    go (Ok given) e is = (let h = rw (by_table before number media (item ∷ items) (Ok given) e) at is in absurd cc)

items_refused : (before : List Reading) (number : ℕ) (name : CopyName) (media : Field) (items : List Field) (fault : ConfFault) → ItemsWrong before number media items fault → some_read before number name (media_of media items) ≡ Err fault
items_refused before number name media [] fault is = rw is refl
items_refused before number name media (item ∷ items) fault wrong =
    rw (some_fields item items, by_table before number media (item ∷ items) (Err fault) (options_refused (item_table (pools_of before) media number) [] (item ∷ items) fault wrong)) refl

media_wrong : (before : List Reading) (number : ℕ) (name : CopyName) (fields : List Field) (fault : ConfFault) → media_read before number name fields ≡ Err fault → BehindName before number fields fault
unfolding next_field
media_wrong before number name [] fault is = (let e : MissingField ≡ fault = cc in sym e)
media_wrong before number name (media ∷ items) fault is = go (is_media media) refl is
  where
    go : (b : Bool) → is_media media ≡ b → (refuse_if (not b) BadValue >>= λ u. some_read before number name (media_of media items)) ≡ Err fault → BehindName before number (media ∷ items) fault
    go true legal is = inr (legal, items_wrong before number name media items fault is)
    go false illegal is = inl (illegal, (let e : BadValue ≡ fault = cc in sym e))

media_refused : (before : List Reading) (number : ℕ) (name : CopyName) (fields : List Field) (fault : ConfFault) → BehindName before number fields fault → media_read before number name fields ≡ Err fault
unfolding next_field
media_refused before number name [] fault is = rw is refl
media_refused before number name (media ∷ items) fault (inl (illegal, is)) = rw (illegal, is) refl
media_refused before number name (media ∷ items) fault (inr (legal, wrong)) = rw legal (items_refused before number name media items fault wrong)

-- what is wrong behind a name, the room first
abbrev RoomWrong : List Reading → ℕ → List Field → ConfFault → Type 0
RoomWrong before number fields fault = ((most_exprs < length (exprs_of before) + exprs_count (pools_of before) fields) × (fault ≡ TooMany))
    ⊎ ((length (exprs_of before) + exprs_count (pools_of before) fields ≤ most_exprs) × BehindName before number fields fault)

room_wrong : (before : List Reading) (number : ℕ) (name : CopyName) (fields : List Field) (fault : ConfFault) → room_read before number name fields ≡ Err fault → RoomWrong before number fields fault
room_wrong before number name fields fault is = go (nat_lt most_exprs (length (exprs_of before) + exprs_count (pools_of before) fields)) refl is
  where
    go : (b : Bool) → nat_lt most_exprs (length (exprs_of before) + exprs_count (pools_of before) fields) ≡ b → (refuse_if b TooMany >>= λ u. media_read before number name fields) ≡ Err fault → RoomWrong before number fields fault
    go true p is = inl (ltb-true _ _ p, (let e : TooMany ≡ fault = cc in sym e))
    go false p is = inr (is_not_less _ _ p, media_wrong before number name fields fault is)

room_refused : (before : List Reading) (number : ℕ) (name : CopyName) (fields : List Field) (fault : ConfFault) → RoomWrong before number fields fault → room_read before number name fields ≡ Err fault
room_refused before number name fields fault (inl (over, is)) = rw (lt-ltb _ _ over, is) refl
room_refused before number name fields fault (inr (fits, wrong)) = rw (not_less _ _ fits) (media_refused before number name fields fault wrong)

pub vsns_wrong : (site : Field) (before : List Reading) (number : ℕ) (field : Field) (fields : List Field) (fault : ConfFault) → vsns_read_of site before number field fields ≡ Err fault → VsnsWrong site before number field fields fault
unfolding vsns_line
vsns_wrong site before number field fields fault is = go (bind_err (named_read site before field) (λ name. room_read before number name fields) fault is)
  where
    go : (named_read site before field ≡ Err fault) ⊎ ((name : CopyName) × (named_read site before field ≡ Ok name) × (room_read before number name fields ≡ Err fault)) → VsnsWrong site before number field fields fault
    go (inl e) = inl (name_wrong site before field fault e)
    go (inr (name, e, rest)) = inr (name, name_said site before field name e, room_wrong before number name fields fault rest)

pub vsns_refused : (site : Field) (before : List Reading) (number : ℕ) (field : Field) (fields : List Field) (fault : ConfFault) → VsnsWrong site before number field fields fault → vsns_read_of site before number field fields ≡ Err fault
unfolding vsns_line
vsns_refused site before number field fields fault (inl wrong) = rw (name_refused site before field fault wrong) refl
vsns_refused site before number field fields fault (inr (name, says, wrong)) = rw (name_read site before field name says) (room_refused before number name fields fault wrong)
