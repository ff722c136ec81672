-- Lines of params and vsns are read as what they say, and say what they are read as.
use Rattle.std.proofs.Common.{◌≡◌, ℕ, ◌≤◌, ◌+◌, Bool, true, false, cond, List, [], ◌∷◌, ◌++◌, length, Ok, Err, refl, sym, ap, subst, ◌∙◌, codes, arith}
use Rattle.std.specs.Prelude.{◌==◌, not, nat_lt}
use Rattle.std.specs.Str.{bytes_eq}
use Rattle.std.proofs.lemmas.Grind.{flat_map-append}
use Rattle.std.proofs.lemmas.List.{append-nil}
use Rattle.std.proofs.lemmas.Bool.{eqb-true}
use Rattle.site_text.specs.declared.fault.ConfFault.TheVariants.{MissingField, BadValue, UnknownPool, TooMany}
use Rattle.site_text.specs.Values.{is_media}
use Rattle.site_text.specs.Fields.{Field, Read, ◌>>=◌, map_read, next_field, refuse_if}
use Rattle.site_text.specs.OptionRules.{OptionsSay}
use Rattle.site_text.specs.OptionSteps.{options_of}
use Rattle.site_text.proofs.OptionLaws.{options_said, options_read}
use Rattle.archiver_lines.specs.declared.param_options.Given.{Given}
use Rattle.archiver_lines.specs.declared.reading.CopyName.{CopyName}
use Rattle.archiver_lines.specs.declared.reading.Reading.{Reading}
use Rattle.archiver_lines.specs.declared.reading.ParamsLine.{ParamsLine}
use Rattle.archiver_lines.specs.declared.reading.PoolLine.{PoolLine}
use Rattle.archiver_lines.specs.declared.reading.VsnExpr.{VsnExpr}
use Rattle.archiver_lines.specs.declared.reading.VsnsLine.{VsnsLine}
use Rattle.archiver_lines.specs.NameSteps.{copy_name}
use Rattle.archiver_lines.specs.ParamOptions.{params_table}
use Rattle.archiver_lines.specs.SectionRules.{expr_of, pool_exprs, is_pool, item_table, all_exprs, exprs_count, ParamsSays, VsnsSays}
use Rattle.archiver_lines.specs.SectionSteps.{items_of, params_line, vsns_line}
use Rattle.archiver_lines.specs.Limits.{most_exprs}
use Rattle.archiver_lines.specs.Told.{exprs_of, file_systems_of, sets_of, params_of, pools_of}
use Rattle.archiver_lines.proofs.Tests.{bind_ok, not_refused, not_false, not_less, is_not_less}
use Rattle.archiver_lines.proofs.NameLaws.{name_read, name_said}
use Rattle.archiver_lines.proofs.AssignLaws.{next_said}
use Rattle.archiver_lines.proofs.Items.{read_counted}

-- ---- params

abbrev pub params_read_of : Field → List Reading → Field → List Field → Read ParamsLine
params_read_of site before field fields = params_line site (file_systems_of before) (sets_of before) (params_of before) field fields

pub params_read : (site : Field) (before : List Reading) (field : Field) (fields : List Field) (line : ParamsLine) → ParamsSays site before field fields line → params_read_of site before field fields ≡ Ok line
unfolding params_line
params_read site before field fields line s = rw (name_read site before field line.name s.name, options_read (params_table (params_of before) line.name) [] fields line.given s.options) refl

abbrev pub params_told : CopyName → List Given → ParamsLine
params_told name given = record { name = name; given = given }

pub params_said : (site : Field) (before : List Reading) (field : Field) (fields : List Field) (line : ParamsLine) → params_read_of site before field fields ≡ Ok line → ParamsSays site before field fields line
unfolding params_line
params_said site before field fields line is =
    let n = bind_ok (copy_name site (file_systems_of before) (sets_of before) field) (λ name. options_of (params_table (params_of before) name) [] fields >>= λ given. Ok (params_told name given)) line is in
    let g = bind_ok (options_of (params_table (params_of before) n.0) [] fields) (λ given. Ok (params_told n.0 given)) line n.2 in
    let e : params_told n.0 g.0 ≡ line = (let h = g.2 in cc) in
    subst (ParamsSays site before field fields) e (record { name = name_said site before field n.0 n.1; options = options_said (params_table (params_of before) n.0) [] fields g.0 g.1 })

-- ---- the items of vsns

all_pushed : (given : List (List VsnExpr)) (exprs : List VsnExpr) → all_exprs (given ++ exprs ∷ []) ≡ all_exprs given ++ exprs
all_pushed given exprs = flat_map-append (λ (es : List VsnExpr). es) given (exprs ∷ []) ∙ ap (λ (es : List VsnExpr). all_exprs given ++ es) (append-nil exprs)

abbrev items_by : List PoolLine → Field → ℕ → List (List VsnExpr) → List Field → Read (List VsnExpr)
items_by pools media line given fields = map_read all_exprs (options_of (item_table pools media line) given fields)

abbrev after_pool : List PoolLine → Field → ℕ → List (List VsnExpr) → Field → List Field → Read (List (List VsnExpr))
after_pool pools media line given pool fields = options_of (item_table pools media line) (given ++ pool_exprs pools media pool ∷ []) fields

pool_step : (pools : List PoolLine) (media : Field) (line : ℕ) (given : List (List VsnExpr)) (pool : Field) (fields : List Field) (known : Bool)
    → items_of pools media line (all_exprs (given ++ pool_exprs pools media pool ∷ [])) fields ≡ items_by pools media line (given ++ pool_exprs pools media pool ∷ []) fields
    → cond known (items_of pools media line (all_exprs given ++ pool_exprs pools media pool) fields) (Err UnknownPool)
    ≡ map_read all_exprs (cond known (Ok (pool_exprs pools media pool)) (Err UnknownPool) >>= λ exprs. Ok (given ++ exprs ∷ []) >>= λ now. options_of (item_table pools media line) now fields)
pool_step pools media line given pool fields true rest = ap (λ (es : List VsnExpr). items_of pools media line es fields) (sym (all_pushed given (pool_exprs pools media pool))) ∙ rest
pool_step pools media line given pool fields false rest = refl

next_step : (pools : List PoolLine) (media : Field) (line : ℕ) (given : List (List VsnExpr)) (f g : Field) (fields : List Field) (b : Bool) → bytes_eq f (codes "-pool") ≡ b
    → items_of pools media line (all_exprs (given ++ pool_exprs pools media g ∷ [])) fields ≡ items_by pools media line (given ++ pool_exprs pools media g ∷ []) fields
    → items_of pools media line (all_exprs (given ++ (expr_of media line f ∷ []) ∷ [])) (g ∷ fields) ≡ items_by pools media line (given ++ (expr_of media line f ∷ []) ∷ []) (g ∷ fields)
    → items_of pools media line (all_exprs given) (f ∷ g ∷ fields) ≡ items_by pools media line given (f ∷ g ∷ fields)
unfolding items_of options_of
next_step pools media line given f g fields true is behind next = rw is (pool_step pools media line given g fields (is_pool pools g) behind)
next_step pools media line given f g fields false is behind next = rw is (ap (λ (es : List VsnExpr). items_of pools media line es (g ∷ fields)) (sym (all_pushed given (expr_of media line f ∷ []))) ∙ next)

last_step : (pools : List PoolLine) (media : Field) (line : ℕ) (given : List (List VsnExpr)) (f : Field) (b : Bool) → bytes_eq f (codes "-pool") ≡ b
    → items_of pools media line (all_exprs given) (f ∷ []) ≡ items_by pools media line given (f ∷ [])
unfolding items_of options_of
last_step pools media line given f true is = rw is refl
last_step pools media line given f false is = rw (is, all_pushed given (expr_of media line f ∷ [])) refl

-- what is read item by item is what the table of items gives, one after the other
pub items_are : (pools : List PoolLine) (media : Field) (line : ℕ) (given : List (List VsnExpr)) (fields : List Field) → items_of pools media line (all_exprs given) fields ≡ items_by pools media line given fields
unfolding items_of options_of
items_are pools media line given [] = refl
items_are pools media line given (f ∷ []) = last_step pools media line given f (bytes_eq f (codes "-pool")) refl
items_are pools media line given (f ∷ g ∷ fields) = next_step pools media line given f g fields (bytes_eq f (codes "-pool")) refl
    (items_are pools media line (given ++ pool_exprs pools media g ∷ []) fields)
    (items_are pools media line (given ++ (expr_of media line f ∷ []) ∷ []) (g ∷ fields))

-- ---- vsns

abbrev pub vsns_read_of : Field → List Reading → ℕ → Field → List Field → Read VsnsLine
vsns_read_of site before number field fields = vsns_line site (file_systems_of before) (sets_of before) (pools_of before) (length (exprs_of before)) number field fields

items_read : (pools : List PoolLine) (media : Field) (line : ℕ) (fields : List Field) (given : List (List VsnExpr)) (exprs : List VsnExpr) → OptionsSay (item_table pools media line) [] fields given → exprs ≡ all_exprs given
    → items_of pools media line [] fields ≡ Ok exprs
items_read pools media line fields given exprs say is = items_are pools media line [] fields ∙ rw (options_read (item_table pools media line) [] fields given say, is) refl

some_step : (f : Field) (fs : List Field) (b : Bool) → length (f ∷ fs) == 0 ≡ b → length (f ∷ fs) == 0 ≡ false
some_step f fs true is = absurd (omega (arith, eqb-true (length (f ∷ fs)) 0 is))
some_step f fs false is = is

pub some_fields : (f : Field) (fs : List Field) → length (f ∷ fs) == 0 ≡ false
some_fields f fs = some_step f fs (length (f ∷ fs) == 0) refl

pub vsns_read : (site : Field) (before : List Reading) (number : ℕ) (field : Field) (fields : List Field) (line : VsnsLine) → VsnsSays site before number field fields line → vsns_read_of site before number field fields ≡ Ok line
unfolding vsns_line next_field
vsns_read site before number field fields line s =
    let read = items_read (pools_of before) s.media number (s.first ∷ s.rest) s.given line.exprs s.items s.is in
    let count = read_counted (pools_of before) s.media number (s.first ∷ s.rest) line.exprs read in
    rw (name_read site before field line.name s.name, s.cut, count, not_less most_exprs (length (exprs_of before) + length line.exprs) s.few, s.legal, some_fields s.first s.rest, read) refl

given_said : (pools : List PoolLine) (media : Field) (line : ℕ) (fields : List Field) (exprs : List VsnExpr) (read : Read (List (List VsnExpr))) → options_of (item_table pools media line) [] fields ≡ read → map_read all_exprs read ≡ Ok exprs
    → (given : List (List VsnExpr)) × OptionsSay (item_table pools media line) [] fields given × (exprs ≡ all_exprs given)
given_said pools media line fields exprs (Ok given) is e = (given, options_said (item_table pools media line) [] fields given is, (let h : all_exprs given ≡ exprs = cc in sym h))
given_said pools media line fields exprs (Err fault) is e = absurd cc

items_said : (pools : List PoolLine) (media : Field) (line : ℕ) (fields : List Field) (exprs : List VsnExpr) → items_of pools media line [] fields ≡ Ok exprs
    → (given : List (List VsnExpr)) × OptionsSay (item_table pools media line) [] fields given × (exprs ≡ all_exprs given)
items_said pools media line fields exprs is = given_said pools media line fields exprs (options_of (item_table pools media line) [] fields) refl (sym (items_are pools media line [] fields) ∙ is)

abbrev pub vsns_told : CopyName → List VsnExpr → VsnsLine
vsns_told name exprs = record { name = name; exprs = exprs }

abbrev pub told_vsns : CopyName → List VsnExpr → Read VsnsLine
told_vsns name exprs = Ok (vsns_told name exprs)

abbrev pub exprs_read : List Reading → ℕ → CopyName → Field × List Field → Read VsnsLine
exprs_read before number name media = items_of (pools_of before) media.0 number [] media.1 >>= λ exprs. told_vsns name exprs

abbrev pub some_read : List Reading → ℕ → CopyName → Field × List Field → Read VsnsLine
some_read before number name media = refuse_if (length media.1 == 0) MissingField >>= λ u. exprs_read before number name media

abbrev pub legal_read : List Reading → ℕ → CopyName → Field × List Field → Read VsnsLine
legal_read before number name media = refuse_if (not (is_media media.0)) BadValue >>= λ u. some_read before number name media

abbrev pub media_read : List Reading → ℕ → CopyName → List Field → Read VsnsLine
media_read before number name fields = next_field fields >>= λ media. legal_read before number name media

-- where there is room for what these fields say
abbrev pub room_read : List Reading → ℕ → CopyName → List Field → Read VsnsLine
room_read before number name fields = refuse_if (nat_lt most_exprs (length (exprs_of before) + exprs_count (pools_of before) fields)) TooMany >>= λ u. media_read before number name fields

abbrev Split : List Field → Type 0
Split fields = (first : Field) × (rest : List Field) × (fields ≡ first ∷ rest)

not_empty : (fields : List Field) → length fields == 0 ≡ false → Split fields
not_empty [] is = absurd cc
not_empty (f ∷ fs) is = (f, fs, refl)

pub vsns_said : (site : Field) (before : List Reading) (number : ℕ) (field : Field) (fields : List Field) (line : VsnsLine) → vsns_read_of site before number field fields ≡ Ok line → VsnsSays site before number field fields line
unfolding vsns_line
vsns_said site before number field fields line is =
    let n = bind_ok (copy_name site (file_systems_of before) (sets_of before) field) (λ name. room_read before number name fields) line is in
    let r = bind_ok (refuse_if (nat_lt most_exprs (length (exprs_of before) + exprs_count (pools_of before) fields)) TooMany) (λ u. media_read before number n.0 fields) line n.2 in
    let m = bind_ok (next_field fields) (λ media. legal_read before number n.0 media) line r.2 in
    let l = bind_ok (refuse_if (not (is_media m.0.0)) BadValue) (λ u. some_read before number n.0 m.0) line m.2 in
    let s = bind_ok (refuse_if (length m.0.1 == 0) MissingField) (λ u. exprs_read before number n.0 m.0) line l.2 in
    let x = bind_ok (items_of (pools_of before) m.0.0 number [] m.0.1) (λ exprs. told_vsns n.0 exprs) line s.2 in
    let e : vsns_told n.0 x.0 ≡ line = (let h = x.2 in cc) in
    let g = items_said (pools_of before) m.0.0 number m.0.1 x.0 x.1 in
    let split = not_empty m.0.1 (not_refused _ MissingField s.0 s.1) in
    let cut = next_said fields m.0 m.1 in
    let count : exprs_count (pools_of before) fields ≡ length x.0 = ap (exprs_count (pools_of before)) cut ∙ read_counted (pools_of before) m.0.0 number m.0.1 x.0 x.1 in
    subst (VsnsSays site before number field fields) e (record {
      name = name_said site before field n.0 n.1;
      media = m.0.0;
      first = split.0;
      rest = split.1;
      cut = cut ∙ ap (λ (fs : List Field). m.0.0 ∷ fs) split.2;
      legal = not_false _ (not_refused _ BadValue l.0 l.1);
      given = g.0;
      items = subst (λ (fs : List Field). OptionsSay (item_table (pools_of before) m.0.0 number) [] fs g.0) split.2 g.1;
      is = g.2;
      few = subst (λ (n : ℕ). length (exprs_of before) + n ≤ most_exprs) count (is_not_less most_exprs (length (exprs_of before) + exprs_count (pools_of before) fields) (not_refused _ TooMany r.0 r.1));
    })
