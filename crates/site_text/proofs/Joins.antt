-- Joining lines one after the other, as the loop does.
use Rattle.std.proofs.Common.{◌≡◌, ℕ, suc, ◌+◌, ◌<◌, ◌≤◌, Bool, true, false, cond, ltb, List, [], ◌∷◌, ◌++◌, length, refl, sym, ap, ◌∙◌, append_assoc, arith, add-one}
use Rattle.std.specs.List.{before_first}
use Rattle.std.specs.Str.Lines.{lines}
use Rattle.std.proofs.lemmas.List.{append-nil}
use Rattle.site_text.specs.declared.line.Line.{Line}
use Rattle.site_text.specs.Lines.{NumberedText, is_continued, is_hash, without_last, ends_continued, put_before, joined, fields_of, is_empty, with_fields, lines_of}

-- whether the last line goes on, where the one before these did so or not
abbrev pub ends_from : Bool → List (List ℕ) → Bool
ends_from b [] = b
ends_from b (l ∷ ls) = ends_continued (l ∷ ls)

pub put_put : (f n : ℕ) (a b : List ℕ) (ls : List NumberedText) → put_before (f, a) (put_before (n, b) ls) ≡ put_before (f, a ++ b) ls
unfolding put_before
put_put f n a b [] = refl
put_put f n a b (l ∷ ls) = ap (λ (t : List ℕ). (f, t) ∷ ls) (sym (append_assoc a b l.1))

pub put_nothing : (k : ℕ) (ls : List (List ℕ)) → put_before (k, []) (joined k ls) ≡ joined k ls
unfolding put_before joined
put_nothing k [] = refl
put_nothing k (l ∷ ls) = here (is_continued l)
  where
    here : (b : Bool) → put_before (k, []) (cond b (put_before (k, without_last l) (joined (suc k) ls)) ((k, before_first is_hash l) ∷ joined (suc k) ls)) ≡ cond b (put_before (k, without_last l) (joined (suc k) ls)) ((k, before_first is_hash l) ∷ joined (suc k) ls)
    here true = put_put k k [] (without_last l) (joined (suc k) ls)
    here false = refl

pub with_fields_cons : (l : NumberedText) (ls : List NumberedText) → with_fields (l ∷ ls) ≡ with_fields (l ∷ []) ++ with_fields ls
unfolding with_fields
with_fields_cons l ls = elim (is_empty (fields_of l.1)) as (λ b. cond b (with_fields ls) (record { number = l.0; fields = fields_of l.1 } ∷ with_fields ls) ≡ cond b [] (record { number = l.0; fields = fields_of l.1 } ∷ []) ++ with_fields ls) [ true ↦ refl | false ↦ refl ]

-- what the loop knows
pub record Joining (text : List ℕ) (found : List Line) (first number : ℕ) (before rest : List ℕ) : Type 0 where
  pub all : found ++ with_fields (put_before (first, before) (joined number (lines rest))) ≡ lines_of text
  pub count : number + length (lines rest) ≡ 1 + length (lines text)
  pub continued : ends_from (ltb first number) (lines rest) ≡ ends_continued (lines text)
  pub short : number + length rest ≤ 1 + length text
  pub order : first ≤ number

pub begins : (text : List ℕ) → Joining text [] 1 1 [] text
unfolding lines_of ends_continued
begins text = record {
  all = ap with_fields (put_nothing 1 (lines text));
  count = refl;
  continued = from_none (lines text);
  short = omega arith;
  order = omega arith;
}
  where
    from_none : (ls : List (List ℕ)) → ends_from false ls ≡ ends_continued ls
    from_none [] = refl
    from_none (l ∷ ls) = refl

ends_step : (b : Bool) (l : List ℕ) (ls : List (List ℕ)) → is_continued l ≡ b → ends_continued (l ∷ ls) ≡ ends_from b ls
unfolding ends_continued
ends_step b l [] is = is
ends_step b l (m ∷ ls) is = refl

pub goes : (text : List ℕ) (found : List Line) (first number : ℕ) (before rest line after : List ℕ) → Joining text found first number before rest
    → lines rest ≡ line ∷ lines after → length after < length rest → is_continued line ≡ true → Joining text found first (number + 1) (before ++ without_last line) after
unfolding joined
goes text found first number before rest line after s cut shorter on =
    let one : joined number (lines rest) ≡ put_before (number, without_last line) (joined (number + 1) (lines after)) = rw (cut, on, add-one) refl in
    let less : ltb first (number + 1) ≡ true = Rattle.std.proofs.lemmas.Bool.lt-ltb _ _ (omega (arith, s.order)) in
    record {
      all = rw (← put_put first number before (without_last line) (joined (number + 1) (lines after)), ← one) s.all;
      count = let e = ap length cut in omega (arith, s.count, e);
      continued = rw less (sym (ends_step true line (lines after) on) ∙ sym (ap (ends_from (ltb first number)) cut) ∙ s.continued);
      short = omega (arith, s.short);
      order = omega (arith, s.order);
    }

pub stops : (text : List ℕ) (found found' : List Line) (first number : ℕ) (before rest line after : List ℕ) → Joining text found first number before rest
    → lines rest ≡ line ∷ lines after → length after < length rest → is_continued line ≡ false → found' ≡ found ++ with_fields ((first, before ++ before_first is_hash line) ∷ [])
    → Joining text found' (number + 1) (number + 1) [] after
unfolding joined put_before
stops text found found' first number before rest line after s cut shorter on is =
    let text-is = before ++ before_first is_hash line in
    let one : put_before (first, before) (joined number (lines rest)) ≡ (first, text-is) ∷ joined (number + 1) (lines after) = rw (cut, on, add-one) refl in
    let less : ltb (number + 1) (number + 1) ≡ false = Rattle.std.proofs.lemmas.Bool.le-ltb _ _ (omega arith) in
    record {
      all = rw (put_nothing (number + 1) (lines after), is) (append_assoc found (with_fields ((first, text-is) ∷ [])) (with_fields (joined (number + 1) (lines after))) ∙ ap (λ (t : List Line). found ++ t) (sym (with_fields_cons (first, text-is) (joined (number + 1) (lines after))) ∙ ap with_fields (sym one)) ∙ s.all);
      count = let e = ap length cut in omega (arith, s.count, e);
      continued = rw less (sym (ends_step false line (lines after) on) ∙ sym (ap (ends_from (ltb first number)) cut) ∙ s.continued);
      short = omega (arith, s.short);
      order = omega arith;
    }

pub ended : (text : List ℕ) (found : List Line) (first number : ℕ) (before : List ℕ) → Joining text found first number before [] → (found ≡ lines_of text) × (ltb first number ≡ ends_continued (lines text)) × (number ≡ 1 + length (lines text))
unfolding joined put_before with_fields
ended text found first number before s = (sym (append-nil found) ∙ s.all, s.continued, omega (arith, s.count))
