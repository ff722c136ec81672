-- The law of lines of recycler.cmd, which the reader cites: what is read from the left is what the line says, both ways.
use Rattle.std.proofs.Common.{◌≡◌, ◌≢◌, ℕ, List, [], ◌∷◌, codes, Bool, true, false, Option, Some, None, Ok, Err, refl, sym, ap, ◌∙◌, inl, inr}
use Rattle.std.proofs.lemmas.Slice.Eq.{bytes_eq-Decides}
use Rattle.site_text.specs.declared.fault.ConfFault.{ConfFault}
use Rattle.site_text.specs.Fields.{Field, Read, ◌>>=◌}
use Rattle.site_text.specs.ValueLines.{value_line}
use Rattle.site_text.specs.DirectiveSteps.{read_directive}
use Rattle.site_text.specs.OptionSteps.{options_of}
use Rattle.site_text.proofs.FormLaws.{directive_said, directive_wrong, directive_read, directive_refused}
use Rattle.site_text.proofs.OptionLaws.{options_said, options_wrong, options_read, options_refused}
use Rattle.daemon_cmds.specs.declared.site_conf.Library.{Library}
use Rattle.daemon_cmds.specs.declared.recycler_conf.RecycleOption.{RecycleOption}
use Rattle.daemon_cmds.specs.declared.recycler_conf.RecyclerReading.{RecyclerReading}
use Rattle.daemon_cmds.specs.declared.recycler_conf.RecyclerReading.TheVariants as readings
use Rattle.daemon_cmds.specs.BarLaws.{fault_or_read}
use Rattle.daemon_cmds.specs.SiteRules.{library_place}
use Rattle.daemon_cmds.specs.RecyclerRules.{recycle_options, recycler_names, recycler_words, NamesLibrary, NamesNone, LibrarySays, LibraryWrong, RecyclerSays, RecyclerWrong}
use Rattle.daemon_cmds.specs.RecyclerSteps.{is_no_recycle, library_in, library_at, library_or_other, read_recycler_line}

abbrev read_of : Read RecyclerReading → RecyclerReading → RecyclerReading
read_of (Ok said) other = said
read_of (Err fault) other = other

abbrev refusal : ConfFault → Read (List RecycleOption)
refusal fault = Err fault

-- the same fault of another reading
abbrev as_options : Read RecyclerReading → Read (List RecycleOption)
as_options (Ok r) = Ok []
as_options (Err fault) = Err fault

abbrev gives_library : ℕ → Read (List RecycleOption) → Read RecyclerReading
gives_library place options = options >>= λ o. Ok (readings.Library place o)

-- ---- with which library a line begins

other_word : (f : Field) (b : Bool) → is_no_recycle f ≡ b → f ≢ codes "no_recycle" → is_no_recycle f ≡ false
other_word f true is differs = absurd (differs ((bytes_eq-Decides f (codes "no_recycle")).0 is))
other_word f false is differs = is

abbrev placed : ℕ → List Field → ℕ × List Field
placed place rest = (place, rest)

names_from : (libraries : List Library) (f : Field) (fs : List Field) (place : ℕ) (rest : List Field) (line : Option (Field × List Field)) (b : Bool) (found : Option ℕ)
    → value_line (f ∷ fs) ≡ line → is_no_recycle f ≡ b → library_place libraries f ≡ found → library_in line b found fs ≡ Some (place, rest) → NamesLibrary libraries (f ∷ fs) place rest
names_from libraries f fs place rest None false (Some first) line other found is =
    let same_pair : placed first fs ≡ placed place rest = cc in
    let same_place : first ≡ place = ap (λ (x : ℕ × List Field). x.0) same_pair in
    let same_rest : fs ≡ rest = ap (λ (x : ℕ × List Field). x.1) same_pair in
    (f, ap (λ (r : List Field). f ∷ r) same_rest, line, (λ same. not_both other ((bytes_eq-Decides f (codes "no_recycle")).1 same)), found ∙ ap some same_place)
  where
    some : ℕ → Option ℕ
    some n = Some n

    not_both : is_no_recycle f ≡ false → is_no_recycle f ≡ true → ⊥
    not_both a b = absurd cc
names_from libraries f fs place rest None false None line other found is = absurd cc
names_from libraries f fs place rest None true o line other found is = absurd cc
names_from libraries f fs place rest (Some x) b o line other found is = absurd cc

at_names : (libraries : List Library) (fields : List Field) (place : ℕ) (rest : List Field) → library_at libraries fields ≡ Some (place, rest) → NamesLibrary libraries fields place rest
at_names libraries [] place rest is = absurd cc
at_names libraries (f ∷ fs) place rest is =
    names_from libraries f fs place rest (value_line (f ∷ fs)) (is_no_recycle f) (library_place libraries f) refl refl refl is

names_at : (libraries : List Library) (fields : List Field) (place : ℕ) (rest : List Field) → NamesLibrary libraries fields place rest → library_at libraries fields ≡ Some (place, rest)
names_at libraries [] place rest (name, shape, line, differs, found) = absurd cc
names_at libraries (f ∷ fs) place rest (name, shape, line, differs, found) =
    let same_name : f ≡ name = cc in
    let same_rest : fs ≡ rest = cc in
    ap (λ (x : Option (Field × List Field)). library_in x (is_no_recycle f) (library_place libraries f) fs) line
    ∙ ap (λ (b : Bool). library_in None b (library_place libraries f) fs) (other_word f (is_no_recycle f) refl (λ same. differs (sym same_name ∙ same)))
    ∙ ap (λ (o : Option ℕ). library_in None false o fs) (ap (library_place libraries) same_name ∙ found)
    ∙ ap (λ (r : List Field). library_in None false (Some place) r) same_rest

at_none : (libraries : List Library) (fields : List Field) → library_at libraries fields ≡ None → NamesNone libraries fields
at_none libraries fields none place rest names = let some : library_at libraries fields ≡ Some (place, rest) = names_at libraries fields place rest names in absurd cc

none_from : (libraries : List Library) (fields : List Field) (library : Option (ℕ × List Field)) → library_at libraries fields ≡ library → NamesNone libraries fields → library_at libraries fields ≡ None
none_from libraries fields (Some x) is none = absurd (none x.0 x.1 (at_names libraries fields x.0 x.1 is))
none_from libraries fields None is none = is

none_at : (libraries : List Library) (fields : List Field) → NamesNone libraries fields → library_at libraries fields ≡ None
none_at libraries fields none = none_from libraries fields (library_at libraries fields) refl none

-- ---- what a line says

-- what a line of a library says
library_said : (libraries : List Library) (fields : List Field) (said : RecyclerReading) (place : ℕ) (rest : List Field) (options : Read (List RecycleOption)) → library_at libraries fields ≡ Some (place, rest)
    → options_of recycle_options [] rest ≡ options → gives_library place options ≡ Ok said → LibrarySays libraries fields said
library_said libraries fields said place rest (Ok options) begins read is = record {
  place = place;
  rest = rest;
  options = options;
  begins = at_names libraries fields place rest begins;
  say = options_said recycle_options [] rest options read;
  is = sym (ap (λ (r : Read RecyclerReading). read_of r said) is);
}
library_said libraries fields said place rest (Err fault) begins read is = fault_or_read fault said (gives_library place (Err fault)) refl is

-- what is wrong with it
library_wrong : (libraries : List Library) (fields : List Field) (fault : ConfFault) (place : ℕ) (rest : List Field) (options : Read (List RecycleOption)) → library_at libraries fields ≡ Some (place, rest)
    → options_of recycle_options [] rest ≡ options → gives_library place options ≡ Err fault → LibraryWrong libraries fields fault
library_wrong libraries fields fault place rest (Ok options) begins read is = fault_or_read fault (readings.Library place options) (gives_library place (Ok options)) is refl
library_wrong libraries fields fault place rest (Err e) begins read is = record {
  place = place;
  rest = rest;
  begins = at_names libraries fields place rest begins;
  wrong = options_wrong recycle_options [] rest fault (read ∙ same);
}
  where
    same : refusal e ≡ refusal fault
    same = ap as_options is

said_from : (libraries : List Library) (number : ℕ) (fields : List Field) (said : RecyclerReading) (library : Option (ℕ × List Field)) → library_at libraries fields ≡ library
    → library_or_other library (read_directive recycler_names (recycler_words number) fields) ≡ Ok said → RecyclerSays libraries number fields said
said_from libraries number fields said (Some x) begins is = inl (library_said libraries fields said x.0 x.1 (options_of recycle_options [] x.1) begins refl is)
said_from libraries number fields said None begins is = inr (at_none libraries fields begins, directive_said recycler_names (recycler_words number) fields said is)

pub recycler_said : (libraries : List Library) (number : ℕ) (fields : List Field) (said : RecyclerReading) → read_recycler_line libraries number fields ≡ Ok said → RecyclerSays libraries number fields said
recycler_said libraries number fields said is = said_from libraries number fields said (library_at libraries fields) refl is

wrong_from : (libraries : List Library) (number : ℕ) (fields : List Field) (fault : ConfFault) (library : Option (ℕ × List Field)) → library_at libraries fields ≡ library
    → library_or_other library (read_directive recycler_names (recycler_words number) fields) ≡ Err fault → RecyclerWrong libraries number fields fault
wrong_from libraries number fields fault (Some x) begins is = inl (library_wrong libraries fields fault x.0 x.1 (options_of recycle_options [] x.1) begins refl is)
wrong_from libraries number fields fault None begins is = inr (at_none libraries fields begins, directive_wrong recycler_names (recycler_words number) fields fault is)

pub recycler_wrong : (libraries : List Library) (number : ℕ) (fields : List Field) (fault : ConfFault) → read_recycler_line libraries number fields ≡ Err fault → RecyclerWrong libraries number fields fault
recycler_wrong libraries number fields fault is = wrong_from libraries number fields fault (library_at libraries fields) refl is

pub recycler_read : (libraries : List Library) (number : ℕ) (fields : List Field) (said : RecyclerReading) → RecyclerSays libraries number fields said → read_recycler_line libraries number fields ≡ Ok said
recycler_read libraries number fields said (inl says) =
    ap (λ (x : _). library_or_other x (read_directive recycler_names (recycler_words number) fields)) (names_at libraries fields says.place says.rest says.begins)
    ∙ ap (gives_library says.place) (options_read recycle_options [] says.rest says.options says.say) ∙ ap said_read (sym says.is)
  where
    said_read : RecyclerReading → Read RecyclerReading
    said_read r = Ok r
recycler_read libraries number fields said (inr (begins, says)) =
    ap (λ (x : _). library_or_other x (read_directive recycler_names (recycler_words number) fields)) (none_at libraries fields begins)
    ∙ directive_read recycler_names (recycler_words number) fields said says

pub recycler_refused : (libraries : List Library) (number : ℕ) (fields : List Field) (fault : ConfFault) → RecyclerWrong libraries number fields fault → read_recycler_line libraries number fields ≡ Err fault
recycler_refused libraries number fields fault (inl wrong) =
    ap (λ (x : _). library_or_other x (read_directive recycler_names (recycler_words number) fields)) (names_at libraries fields wrong.place wrong.rest wrong.begins)
    ∙ ap (gives_library wrong.place) (options_refused recycle_options [] wrong.rest fault wrong.wrong)
recycler_refused libraries number fields fault (inr (begins, wrong)) =
    ap (λ (x : _). library_or_other x (read_directive recycler_names (recycler_words number) fields)) (none_at libraries fields begins)
    ∙ directive_refused recycler_names (recycler_words number) fields fault wrong
