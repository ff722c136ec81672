-- The first word of a text is the word that stands there.
use Rattle.std.proofs.Common.{◌≡◌, ℕ, suc, ◌+◌, ◌<◌, Bool, true, false, not, ◌&&◌, List, [], ◌∷◌, ◌++◌, length, take, drop, refl, sym, ap, ◌∙◌, arith, ◌⊎◌, inl, inr}
use Rattle.std.specs.List.{list_all, position_or_len}
use Rattle.std.proofs.Math.Seq.{take-append_seam, drop-append_seam}
use Rattle.std.proofs.lemmas.List.{take-append-drop}
use Rattle.desk.specs.Forms.{is_blank, is_of_word, from_word, first_word, after_word}
use Rattle.desk.specs.Says.{IsBlank, BeginsBlank, WordStands}

one_and : (k : ℕ) → 1 + k ≡ suc k
one_and k = omega arith

and_first : (a b : Bool) → (a && b) ≡ true → a ≡ true
and_first true b e = refl
and_first false b e = e

and_second : (a b : Bool) → (a && b) ≡ true → b ≡ true
and_second true b e = e
and_second false b e = absurd (cc)

-- ---- from the first word on

from_blank : (b : ℕ) (bs : List ℕ) → is_blank b ≡ true → from_word (b ∷ bs) ≡ from_word bs
from_blank b bs blank = rw (blank, one_and (position_or_len is_of_word bs)) refl

from_other : (b : ℕ) (bs : List ℕ) → is_blank b ≡ false → from_word (b ∷ bs) ≡ b ∷ bs
from_other b bs other = rw other refl

from_gap : (gap text : List ℕ) → IsBlank gap → from_word (gap ++ text) ≡ from_word text
from_gap [] text blank = refl
from_gap (b ∷ bs) text blank = from_blank b (bs ++ text) (and_first _ _ blank) ∙ from_gap bs text (and_second _ _ blank)

from_blanks : (text : List ℕ) → IsBlank text → from_word text ≡ []
from_blanks [] blank = refl
from_blanks (b ∷ bs) blank = from_blank b bs (and_first _ _ blank) ∙ from_blanks bs (and_second _ _ blank)

plain_first : (b : Bool) → not b ≡ true → b ≡ false
plain_first true e = absurd (cc)
plain_first false e = refl

from_plain : (word rest : List ℕ) → 0 < length word → list_all is_of_word word ≡ true → from_word (word ++ rest) ≡ word ++ rest
from_plain [] rest there plain = absurd (omega arith)
from_plain (b ∷ bs) rest there plain = from_other b (bs ++ rest) (plain_first _ (and_first _ _ plain))

-- ---- where the word ends

ends_after : (word rest : List ℕ) → list_all is_of_word word ≡ true → BeginsBlank rest → position_or_len is_blank (word ++ rest) ≡ length word
ends_after [] [] plain apart = refl
ends_after [] (b ∷ bs) plain apart = rw apart refl
ends_after (b ∷ bs) rest plain apart =
    rw (plain_first (is_blank b) (and_first (is_of_word b) (list_all is_of_word bs) plain), ends_after bs rest (and_second (is_of_word b) (list_all is_of_word bs) plain) apart, one_and (length bs)) refl

pub first_is : (text word rest : List ℕ) → WordStands text word rest → first_word text ≡ word
unfolding first_word
first_is text word rest stands =
    let from : from_word text ≡ word ++ rest = ap from_word stands.parts ∙ from_gap stands.gap (word ++ rest) stands.gap_blank ∙ from_plain word rest stands.there stands.plain in
    rw (from, ends_after word rest stands.plain stands.apart) (take-append_seam word rest)

pub after_is : (text word rest : List ℕ) → WordStands text word rest → after_word text ≡ rest
unfolding after_word
after_is text word rest stands =
    let from : from_word text ≡ word ++ rest = ap from_word stands.parts ∙ from_gap stands.gap (word ++ rest) stands.gap_blank ∙ from_plain word rest stands.there stands.plain in
    rw (from, ends_after word rest stands.plain stands.apart) (drop-append_seam word rest)

pub blank_has_none : (text : List ℕ) → IsBlank text → first_word text ≡ []
unfolding first_word
blank_has_none text blank = rw (from_blanks text blank) refl

-- ---- and a word stands there, or there are blanks alone

record Ends (text : List ℕ) : Type 0 where
  plain : list_all is_of_word (take (position_or_len is_blank text) text) ≡ true
  apart : BeginsBlank (drop (position_or_len is_blank text) text)

ends_by : (b : ℕ) (bs : List ℕ) (test : Bool) → is_blank b ≡ test → Ends bs → Ends (b ∷ bs)
ends_by b bs true is ends = record { plain = rw is refl; apart = rw is is }
ends_by b bs false is ends = record { plain = rw (is, one_and (position_or_len is_blank bs), is) ends.plain; apart = rw (is, one_and (position_or_len is_blank bs)) ends.apart }

ends_of : (text : List ℕ) → Ends text
ends_of [] = record { plain = refl; apart = tt }
ends_of (b ∷ bs) = ends_by b bs (is_blank b) refl (ends_of bs)

longer : (b : ℕ) (bs : List ℕ) → is_blank b ≡ false → 0 < length (take (position_or_len is_blank (b ∷ bs)) (b ∷ bs))
longer b bs other = rw (other, one_and (position_or_len is_blank bs)) (omega arith)

-- what a text has at its front
abbrev pub Front : List ℕ → Type 0
Front text = IsBlank text ⊎ WordStands text (first_word text) (after_word text)

front_by : (b : ℕ) (bs : List ℕ) (test : Bool) → is_blank b ≡ test → Front bs → Front (b ∷ bs)
unfolding first_word after_word
front_by b bs true is (inl blank) = inl (rw is blank)
front_by b bs true is (inr stands) = inr (rw (from_blank b bs is) (record {
  gap = b ∷ stands.gap;
  parts = ap (λ (t : List ℕ). b ∷ t) stands.parts;
  gap_blank = rw is stands.gap_blank;
  there = stands.there;
  plain = stands.plain;
  apart = stands.apart;
}))
front_by b bs false is others = inr (rw (from_other b bs is) (record {
  gap = [];
  parts = sym (take-append-drop (position_or_len is_blank (b ∷ bs)) (b ∷ bs));
  gap_blank = refl;
  there = longer b bs is;
  plain = (ends_of (b ∷ bs)).plain;
  apart = (ends_of (b ∷ bs)).apart;
}))

pub front_of : (text : List ℕ) → Front text
front_of [] = inl refl
front_of (b ∷ bs) = front_by b bs (is_blank b) refl (front_of bs)
