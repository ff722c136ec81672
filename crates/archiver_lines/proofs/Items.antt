-- The items of vsns lines.
use Rattle.std.proofs.Common.{◌≡◌, ◌<◌, ◌≤◌, ◌+◌, ℕ, Bool, take, get_or, true, false, List, [], ◌∷◌, ◌++◌, length, Ok, Err, refl, sym, ap, subst, ◌∙◌, codes, arith}
use Rattle.std.proofs.lemmas.List.{length-append, length-map}
use Rattle.std.proofs.lemmas.List.Folds.{length-flat_map-take}
use Rattle.std.specs.Str.{bytes_eq}
use Rattle.site_text.specs.Fields.{Field, Read}
use Rattle.site_text.specs.declared.fault.ConfFault.TheVariants.{MissingField, UnknownPool}
use Rattle.archiver_lines.specs.declared.reading.PoolLine.{PoolLine}
use Rattle.archiver_lines.specs.declared.reading.VsnExpr.{VsnExpr}
use Rattle.archiver_lines.specs.SectionRules.{expr_of, is_of_pool, exprs_at, pool_exprs, is_pool, items_count, exprs_count}
use Rattle.archiver_lines.specs.SectionSteps.{items_of}

-- a field that is not `-pool` is an expression, whatever stands behind it
pub item_alone : (pools : List PoolLine) (media : Field) (line : ℕ) (found : List VsnExpr) (field : Field) (fields : List Field) → bytes_eq field (codes "-pool") ≡ false
    → items_of pools media line found (field ∷ fields) ≡ items_of pools media line (found ++ expr_of media line field ∷ []) fields
unfolding items_of
item_alone pools media line found field [] is = rw is refl
item_alone pools media line found field (next ∷ fields) is = rw is refl

pub item_pool : (pools : List PoolLine) (media : Field) (line : ℕ) (found : List VsnExpr) (field pool : Field) (fields rest : List Field) → bytes_eq field (codes "-pool") ≡ true → fields ≡ pool ∷ rest → is_pool pools pool ≡ true
    → items_of pools media line found (field ∷ fields) ≡ items_of pools media line (found ++ pool_exprs pools media pool) rest
unfolding items_of
item_pool pools media line found field pool fields rest is cut known = rw (cut, is, known) refl

pub pool_missing : (pools : List PoolLine) (media : Field) (line : ℕ) (found : List VsnExpr) (field : Field) (fields : List Field) → bytes_eq field (codes "-pool") ≡ true → fields ≡ []
    → items_of pools media line found (field ∷ fields) ≡ Err MissingField
unfolding items_of
pool_missing pools media line found field fields is none = rw (none, is) refl

pub pool_unknown : (pools : List PoolLine) (media : Field) (line : ℕ) (found : List VsnExpr) (field pool : Field) (fields rest : List Field) → bytes_eq field (codes "-pool") ≡ true → fields ≡ pool ∷ rest → is_pool pools pool ≡ false
    → items_of pools media line found (field ∷ fields) ≡ Err UnknownPool
unfolding items_of
pool_unknown pools media line found field pool fields rest is cut unknown = rw (cut, is, unknown) refl

-- where no item is left, all are read
pub all_read : (pools : List PoolLine) (media : Field) (line : ℕ) (found : List VsnExpr) → items_of pools media line found [] ≡ Ok found
unfolding items_of
all_read pools media line found = refl

-- ---- how many there are

-- the lines of a pool up to a place have no more than all of them
pub pool_reached : (pools : List PoolLine) (media pool : Field) (line : PoolLine) (place : ℕ) → place < length pools → line ≡ get_or pools place line → is_of_pool pool media line ≡ true
    → length (pool_exprs (take place pools) media pool) + length line.texts ≤ length (pool_exprs pools media pool)
pool_reached pools media pool line place within is of_pool =
    let at : length (exprs_at pool media line) ≡ length line.texts = rw of_pool (length-map line.texts (expr_of line.media line.line)) in
    let here : length (exprs_at pool media (get_or pools place line)) ≡ length line.texts = ap (λ (p : PoolLine). length (exprs_at pool media p)) (sym is) ∙ at in
    omega (arith, here, length-flat_map-take (exprs_at pool media) pools place line within)

-- an expression is one
pub alone_counted : (pools : List PoolLine) (media field : Field) (fields : List Field) → bytes_eq field (codes "-pool") ≡ false
    → items_count pools media (field ∷ fields) ≡ 1 + items_count pools media fields
unfolding items_count
alone_counted pools media field [] is = rw is refl
alone_counted pools media field (next ∷ fields) is = rw is refl

pub pool_counted : (pools : List PoolLine) (media field pool : Field) (fields rest : List Field) → bytes_eq field (codes "-pool") ≡ true → fields ≡ pool ∷ rest
    → items_count pools media (field ∷ fields) ≡ length (pool_exprs pools media pool) + items_count pools media rest
unfolding items_count
pool_counted pools media field pool fields rest is cut = rw (cut, is) refl

-- `-pool` without its pool says none
pub missing_counted : (pools : List PoolLine) (media field : Field) (fields : List Field) → bytes_eq field (codes "-pool") ≡ true → fields ≡ []
    → items_count pools media (field ∷ fields) ≡ items_count pools media fields
unfolding items_count
missing_counted pools media field fields is none = rw (none, is) refl

-- so many are read, unless an item is wrong
abbrev pub Counts : ℕ → Read (List VsnExpr) → Type 0
Counts count (Ok exprs) = length exprs ≡ count
Counts count (Err fault) = Unit {0}

step_counted : (pools : List PoolLine) (media : Field) (line : ℕ) (found : List VsnExpr) (field next : Field) (fields : List Field) (pool known : Bool) → bytes_eq field (codes "-pool") ≡ pool → is_pool pools next ≡ known
    → Counts (length (found ++ pool_exprs pools media next) + items_count pools media fields) (items_of pools media line (found ++ pool_exprs pools media next) fields)
    → Counts (length (found ++ expr_of media line field ∷ []) + items_count pools media (next ∷ fields)) (items_of pools media line (found ++ expr_of media line field ∷ []) (next ∷ fields))
    → Counts (length found + items_count pools media (field ∷ next ∷ fields)) (items_of pools media line found (field ∷ next ∷ fields))
unfolding items_of items_count
step_counted pools media line found field next fields true true p k by_pool by_expr = rw (p, k) (subst (λ (n : ℕ). Counts n (items_of pools media line (found ++ pool_exprs pools media next) fields)) (omega (arith, length-append found (pool_exprs pools media next))) by_pool)
step_counted pools media line found field next fields true false p k by_pool by_expr = rw (p, k) tt
step_counted pools media line found field next fields false known p k by_pool by_expr = rw p (subst (λ (n : ℕ). Counts n (items_of pools media line (found ++ expr_of media line field ∷ []) (next ∷ fields))) (omega (arith, length-append found (expr_of media line field ∷ []))) by_expr)

last_counted : (pools : List PoolLine) (media : Field) (line : ℕ) (found : List VsnExpr) (field : Field) (pool : Bool) → bytes_eq field (codes "-pool") ≡ pool
    → Counts (length found + items_count pools media (field ∷ [])) (items_of pools media line found (field ∷ []))
unfolding items_of items_count
last_counted pools media line found field true p = rw p tt
last_counted pools media line found field false p = rw p (omega (arith, length-append found (expr_of media line field ∷ [])))

-- So many are read as the items say, behind those that were found before.
pub items_counted : (pools : List PoolLine) (media : Field) (line : ℕ) (found : List VsnExpr) (fields : List Field) → Counts (length found + items_count pools media fields) (items_of pools media line found fields)
unfolding items_of items_count
items_counted pools media line found [] = omega arith
items_counted pools media line found (field ∷ []) = last_counted pools media line found field (bytes_eq field (codes "-pool")) refl
items_counted pools media line found (field ∷ next ∷ fields) = step_counted pools media line found field next fields (bytes_eq field (codes "-pool")) (is_pool pools next) refl refl
    (items_counted pools media line (found ++ pool_exprs pools media next) fields)
    (items_counted pools media line (found ++ expr_of media line field ∷ []) (next ∷ fields))

-- what is read of a line's fields is as many as they say
pub read_counted : (pools : List PoolLine) (media : Field) (line : ℕ) (fields : List Field) (exprs : List VsnExpr) → items_of pools media line [] fields ≡ Ok exprs → exprs_count pools (media ∷ fields) ≡ length exprs
unfolding exprs_count
read_counted pools media line fields exprs is =
    let none_before : length {A = VsnExpr} [] + items_count pools media fields ≡ items_count pools media fields = omega arith in
    sym (subst (Counts (items_count pools media fields)) is (subst (λ (n : ℕ). Counts n (items_of pools media line [] fields)) none_before (items_counted pools media line [] fields)))
