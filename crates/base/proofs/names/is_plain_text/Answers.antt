use Rattle.std.proofs.Common.{◌≡◌, ℕ, Bool, true, false, List, refl, ◌∙◌, ap}
use Rattle.std.specs.List.{list_all}
use Rattle.std.specs.Str.{IsUtf8, is_utf8, chars}
use Rattle.std.proofs.lemmas.Str.{is_utf8-from_IsUtf8, IsUtf8-from_is_utf8}
use Rattle.base.specs.Paths.{is_path_char, is_plain_text}
use Rattle.base.proofs.names.is_plain_text.Goals as goal

no_text : (path : List ℕ) → ¬ (IsUtf8 path) → false ≡ is_plain_text path
no_text path h = elim_of (is_utf8 path) refl
  where
    elim_of : (b : Bool) → is_utf8 path ≡ b → false ≡ is_plain_text path
    elim_of true e = absurd (h (IsUtf8-from_is_utf8 path e))
    elim_of false e = rw e refl

a_text : (path text : List ℕ) (b : Bool) → text ≡ path → IsUtf8 path → b ≡ list_all is_path_char (chars text) → b ≡ is_plain_text path
a_text path text b same utf8 is = rw (is_utf8-from_IsUtf8 path utf8) (is ∙ ap (λ (t : List ℕ). list_all is_path_char (chars t)) same)

pub returns-in-Err : goal.returns-in-Err
returns-in-Err c = no_text c.args.path.now c.in-Err.ensures.cases.0

pub returns-in-Ok : goal.returns-in-Ok
returns-in-Ok c = a_text c.args.path.now c.in-Ok.text.now _ c.in-Ok.ensures.cases.0 c.in-Ok.ensures.cases.1 c.has_path_chars.ensures
