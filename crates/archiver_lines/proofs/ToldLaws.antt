-- What the reader keeps of the lines so far is what they told.
use Rattle.std.proofs.Common.{◌≡◌, ◌+◌, Bool, true, false, List, [], ◌∷◌, ◌++◌, length, fold, Option, Some, None, Result, Ok, Err, OnOk, refl, sym, ap, ◌∙◌, arith}
use Rattle.std.specs.Prelude.{◌||◌, flat_map, unwrap_or}
use Rattle.std.specs.List.{filter_map}
use Rattle.std.proofs.lemmas.List.{length-append, append-nil}
use Rattle.std.proofs.lemmas.List.Elements.{filter_map-append}
use Rattle.std.proofs.lemmas.List.Sums.{fold-append}
use Rattle.std.proofs.lemmas.List.Folds.{list_any-append}
use Rattle.std.proofs.lemmas.Grind.{flat_map-append}
use Rattle.site_text.specs.Fields.{Field}
use Rattle.archiver_lines.specs.declared.reading.Reading.{Reading}
use Rattle.archiver_lines.specs.declared.reading.VsnsLine.{VsnsLine}
use Rattle.archiver_lines.specs.declared.reading.VsnExpr.{VsnExpr}
use Rattle.archiver_lines.specs.declared.known.Known.{Known}
use Rattle.site_text.specs.LastValues.{last_of}
use Rattle.site_text.proofs.LastLaws.{last_of_more}
use Rattle.std.specs.Option.{option_or, option_map_or}
use Rattle.archiver_lines.specs.declared.reading.Opened.{Opened}
use Rattle.archiver_lines.specs.declared.reading.Local.{Local}
use Rattle.archiver_lines.specs.declared.reading.Local.TheVariants.{Global}
use Rattle.archiver_lines.specs.Told.{opened_by, opened_of, file_system_in, part_named, part_of, target_in, mentioned_in, with_set, sets_of, assignment_in, copy_in, params_in, pool_in, vsns_in, vsns_of, exprs_of, begins_vsns, has_vsns_of}
use Rattle.archiver_lines.specs.KnownSteps.{Knows, with_each, with_mentioned, exprs_in, IsAdded}

-- ---- one more line

or_given : {B : Type 0} (said before : Option B) (default : B) → unwrap_or (option_or said before) default ≡ unwrap_or said (unwrap_or before default)
or_given (Some x) before default = refl
or_given None before default = refl

opened_more : (said : List Reading) (r : Reading) → opened_of (said ++ r ∷ []) ≡ unwrap_or (opened_by r) (opened_of said)
opened_more said r = ap (λ (o : Option (Option Opened)). unwrap_or o None) (last_of_more opened_by said r) ∙ or_given (opened_by r) (last_of opened_by said) None

part_given : (site : Field) (name before : Option Field) (local : Local) → option_map_or (part_named site) (option_or name before) local ≡ option_map_or (part_named site) name (option_map_or (part_named site) before local)
part_given site (Some name) before local = refl
part_given site None before local = refl

part_more : (site : Field) (said : List Reading) (r : Reading) → part_of site (said ++ r ∷ []) ≡ option_map_or (part_named site) (file_system_in r) (part_of site said)
part_more site said r = ap (λ (o : Option Field). option_map_or (part_named site) o Global) (last_of_more file_system_in said r) ∙ part_given site (file_system_in r) (last_of file_system_in said) Global

each_step : {A B : Type 0} (says : A → Option B) (found : List B) (x : A) (said : Option B) → says x ≡ said → found ++ filter_map says (x ∷ []) ≡ with_each found said
each_step says found x (Some y) is = rw is refl
each_step says found x None is = rw is (append-nil found)

each_more : {A B : Type 0} (says : A → Option B) (xs : List A) (x : A) → filter_map says (xs ++ x ∷ []) ≡ with_each (filter_map says xs) (says x)
each_more says xs x = filter_map-append says xs (x ∷ []) ∙ each_step says (filter_map says xs) x (says x) refl

mentioned_step : (found : List Field) (said : Option Field) → fold with_set [] (with_each found said) ≡ with_mentioned (fold with_set [] found) said
mentioned_step found (Some name) = fold-append with_set [] found (name ∷ [])
mentioned_step found None = refl

sets_more : (said : List Reading) (r : Reading) → sets_of (said ++ r ∷ []) ≡ with_mentioned (sets_of said) (mentioned_in r)
sets_more said r = ap (fold with_set []) (each_more mentioned_in said r) ∙ mentioned_step (filter_map mentioned_in said) (mentioned_in r)

abbrev exprs_at : VsnsLine → List VsnExpr
exprs_at line = line.exprs

exprs_step : (lines : List VsnsLine) (more : Option VsnsLine) → length (flat_map exprs_at (with_each lines more)) ≡ length (flat_map exprs_at lines) + exprs_in more
exprs_step lines (Some line) = ap length (flat_map-append exprs_at lines (line ∷ [])) ∙ length-append (flat_map exprs_at lines) (flat_map exprs_at (line ∷ [])) ∙ ap (λ (es : List VsnExpr). length (flat_map exprs_at lines) + length es) (append-nil line.exprs)
exprs_step lines None = omega arith

exprs_more : (said : List Reading) (r : Reading) → length (exprs_of (said ++ r ∷ [])) ≡ length (exprs_of said) + exprs_in (vsns_in r)
exprs_more said r = ap (λ (lines : List VsnsLine). length (flat_map exprs_at lines)) (each_more vsns_in said r) ∙ exprs_step (vsns_of said) (vsns_in r)

any_alone : (b : Bool) → b || false ≡ b
any_alone true = refl
any_alone false = refl

has_vsns_more : (said : List Reading) (r : Reading) → has_vsns_of (said ++ r ∷ []) ≡ (has_vsns_of said || begins_vsns r)
has_vsns_more said r = list_any-append begins_vsns said (r ∷ []) ∙ ap (λ (b : Bool). has_vsns_of said || b) (any_alone (begins_vsns r))

-- A line that is added to what is kept is kept as one that was said.
pub one_more : (site : Field) (said : List Reading) (r : Reading) (before now : Known) → IsAdded site r before now → Knows site said before → Knows site (said ++ r ∷ []) now
one_more site said r before now added knows = record {
  opened = added.opened ∙ ap (unwrap_or (opened_by r)) knows.opened ∙ sym (opened_more said r);
  local = added.local ∙ ap (option_map_or (part_named site) (file_system_in r)) knows.local ∙ sym (part_more site said r);
  file_systems = added.file_systems ∙ rw knows.file_systems (sym (each_more file_system_in said r));
  target = added.target ∙ rw knows.target (sym (last_of_more target_in said r));
  assignments = added.assignments ∙ rw knows.assignments (sym (each_more assignment_in said r));
  sets = added.sets ∙ rw knows.sets (sym (sets_more said r));
  copies = added.copies ∙ rw knows.copies (sym (each_more copy_in said r));
  params = added.params ∙ rw knows.params (sym (each_more params_in said r));
  pools = added.pools ∙ rw knows.pools (sym (each_more pool_in said r));
  vsns = added.vsns ∙ rw knows.vsns (sym (each_more vsns_in said r));
  exprs = added.exprs ∙ rw knows.exprs (sym (exprs_more said r));
  has_vsns = added.has_vsns ∙ rw knows.has_vsns (sym (has_vsns_more said r));
}

pub where_added : {E : Type 0} (site : Field) (r : Reading) (before now : Known) (result : Result (Unit {0}) E) → OnOk result (IsAdded site r before now)
    → OnOk result ((said : List Reading) → Knows site said before → Knows site (said ++ r ∷ []) now)
where_added site r before now (Ok x) added = λ said knows. one_more site said r before now added knows
where_added site r before now (Err error) added = tt
