-- The texts of pool lines.
use Rattle.std.proofs.Common.{◌≡◌, ℕ, true, List, ◌∷◌, Ok, refl}
use Rattle.site_text.specs.Fields.{Field, next_field}
use Rattle.site_text.specs.FormSteps.{read_form}
use Rattle.site_text.specs.Values.{is_media}
use Rattle.archiver_lines.specs.SectionRules.{pool_form}

-- the fields of a pool line, taken one after the other
pub pool_read : (number : ℕ) (fields behind others rest : List Field) (pool media first : Field) (texts : List Field) → next_field fields ≡ Ok (pool, behind) → next_field behind ≡ Ok (media, others) → is_media media ≡ true
    → next_field others ≡ Ok (first, rest) → texts ≡ first ∷ rest → read_form (pool_form number) fields ≡ Ok (record { pool = pool; media = media; texts = texts; line = number })
pool_read number fields behind others rest pool media first texts a b legal d is = rw (a, b, legal, d, is) refl
