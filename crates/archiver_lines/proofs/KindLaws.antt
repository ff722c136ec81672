-- A line is of the kind that is found in steps, and of no other.
use Rattle.std.proofs.Common.{◌≡◌, ◌≢◌, ◌==◌, true, false, Bool, length, List, [], ◌∷◌, Option, Some, None, inl, inr, refl, sym, ap, subst, ◌∙◌}
use Rattle.std.specs.Str.{bytes_eq}
use Rattle.std.proofs.Math.Dec.{eqb-suc-zero}
use Rattle.site_text.specs.Fields.{Field}
use Rattle.site_text.specs.Words.{named}
use Rattle.site_text.specs.ValueLines.{value_line}
use Rattle.archiver_lines.specs.declared.kinds.LineKind.{LineKind}
use Rattle.archiver_lines.specs.declared.kinds.LineKind.TheVariants as kinds
use Rattle.archiver_lines.specs.declared.reading.Section.{Section}
use Rattle.archiver_lines.specs.declared.reading.Opened.{Opened}
use Rattle.archiver_lines.specs.KindRules.{words, end_word, IsInside, IsOutside, IsOfKind, plain_kind}
use Rattle.archiver_lines.specs.KindSteps.{inside_kind, word_kind, outside_kind, kind_of}
use Rattle.archiver_lines.proofs.Tests.{is_same, is_other}

-- ---- where a section is open

not_alone : (f g h : Field) (fs : List Field) → f ∷ g ∷ fs ≢ h ∷ []
not_alone f g h fs is = absurd cc

abbrev alone : Field → List Field
alone f = f ∷ []

other_alone : (f g : Field) → bytes_eq f g ≡ false → alone f ≢ alone g
other_alone f g is e = is_other f g is (let same_word : f ≡ g = cc in same_word)

word_ends : (section : Section) (f : Field) (b : Bool) → bytes_eq f (end_word section) ≡ b → IsInside section (f ∷ []) (inside_kind section f [])
word_ends section f true is = inl (ap alone (is_same f (end_word section) is), rw is refl)
word_ends section f false is = inr (other_alone f (end_word section) is, rw is refl)

more_within : (section : Section) (f g : Field) (fs : List Field) → inside_kind section f (g ∷ fs) ≡ kinds.Within section
more_within section f g fs = let some : (length (g ∷ fs) == 0) ≡ false = eqb-suc-zero (length fs) in rw some refl

of_inside : (section : Section) (f : Field) (fs : List Field) → IsInside section (f ∷ fs) (inside_kind section f fs)
of_inside section f [] = word_ends section f (bytes_eq f (end_word section)) refl
of_inside section f (g ∷ fs) = inr (not_alone f g (end_word section) fs, more_within section f g fs)

inside_one : (section : Section) (fields : List Field) (first second : LineKind) → IsInside section fields first → IsInside section fields second → first ≡ second
inside_one section fields first second (inl (a, is)) (inl (b, too)) = is ∙ sym too
inside_one section fields first second (inl (a, is)) (inr (b, too)) = absurd (b a)
inside_one section fields first second (inr (a, is)) (inl (b, too)) = absurd (a b)
inside_one section fields first second (inr (a, is)) (inr (b, too)) = is ∙ sym too

-- ---- where none is

at_value : (f : Field) (fs : List Field) (x : Field × List Field) → value_line (f ∷ fs) ≡ Some x → outside_kind (f ∷ fs) f fs ≡ kinds.Value
at_value f fs x line = rw line refl

at_one : (f : Field) → value_line (f ∷ []) ≡ None → outside_kind (f ∷ []) f [] ≡ word_kind f
at_one f line = rw line refl

at_more : (f g : Field) (fs : List Field) → value_line (f ∷ g ∷ fs) ≡ None → outside_kind (f ∷ g ∷ fs) f (g ∷ fs) ≡ plain_kind f
at_more f g fs line =
    let some : (length (g ∷ fs) == 0) ≡ false = eqb-suc-zero (length fs) in
    rw (line, some) refl

word_stands : (f : Field) (kind : LineKind) → named words f ≡ Some kind → word_kind f ≡ kind
word_stands f kind is = rw is refl

word_plain : (f : Field) → named words f ≡ None → word_kind f ≡ plain_kind f
word_plain f is = rw is refl

is_value : (fields : List Field) (x : Field × List Field) → value_line fields ≡ Some x → value_line fields ≢ None
is_value fields x is none = absurd cc

-- the one field of a line
the_word : (f : Field) → named words f ≡ None → (word : Field) → f ∷ [] ≡ word ∷ [] → named words word ≡ None
the_word f is word e = let same_word : f ≡ word = cc in subst (λ (g : Field). named words g ≡ None) same_word is

of_word : (f : Field) (o : Option LineKind) → named words f ≡ o → value_line (f ∷ []) ≡ None → IsOutside (f ∷ []) (word_kind f)
of_word f (Some kind) is line = inr (inl (line, (f, refl, is ∙ ap some (sym (word_stands f kind is)))))
  where
    some : LineKind → Option LineKind
    some kind = Some kind
of_word f None is line = inr (inr (line, the_word f is, (f, [], refl, word_plain f is)))

of_more : (f g : Field) (fs : List Field) → value_line (f ∷ g ∷ fs) ≡ None → IsOutside (f ∷ g ∷ fs) (plain_kind f)
of_more f g fs line = inr (inr (line, (λ word e. absurd (not_alone f g word fs e)), (f, g ∷ fs, refl, refl)))

of_outside : (f : Field) (fs : List Field) (o : Option (Field × List Field)) → value_line (f ∷ fs) ≡ o → IsOutside (f ∷ fs) (outside_kind (f ∷ fs) f fs)
of_outside f fs (Some x) line = inl (is_value (f ∷ fs) x line, at_value f fs x line)
of_outside f [] None line = subst (IsOutside (f ∷ [])) (sym (at_one f line)) (of_word f (named words f) refl line)
of_outside f (g ∷ fs) None line = subst (IsOutside (f ∷ g ∷ fs)) (sym (at_more f g fs line)) (of_more f g fs line)

same_stands : (f g : Field) (first second : LineKind) → f ≡ g → named words f ≡ Some first → named words g ≡ Some second → first ≡ second
same_stands f g first second e is too = let both : named words f ≡ named words g = ap (named words) e in cc

head_of : (fields : List Field) (f g : Field) (fs gs : List Field) → fields ≡ f ∷ fs → fields ≡ g ∷ gs → f ≡ g
head_of fields f g fs gs is too = cc

stands_and_not : (f : Field) (kind : LineKind) → named words f ≡ Some kind → named words f ≡ None → ⊥
stands_and_not f kind is none = absurd cc

outside_one : (fields : List Field) (first second : LineKind) → IsOutside fields first → IsOutside fields second → first ≡ second
outside_one fields first second (inl (a, is)) (inl (b, too)) = is ∙ sym too
outside_one fields first second (inl (a, is)) (inr (inl (b, word))) = absurd (a b)
outside_one fields first second (inl (a, is)) (inr (inr (b, none, plain))) = absurd (a b)
outside_one fields first second (inr (inl (a, word))) (inl (b, too)) = absurd (b a)
outside_one fields first second (inr (inr (a, none, plain))) (inl (b, too)) = absurd (b a)
outside_one fields first second (inr (inl (a, (f, alone_f, is)))) (inr (inl (b, (g, alone_g, too)))) = same_stands f g first second (head_of fields f g [] [] alone_f alone_g) is too
outside_one fields first second (inr (inl (a, (f, alone_f, is)))) (inr (inr (b, none, plain))) = absurd (stands_and_not f first is (none f alone_f))
outside_one fields first second (inr (inr (a, none, plain))) (inr (inl (b, (g, alone_g, too)))) = absurd (stands_and_not g second too (none g alone_g))
outside_one fields first second (inr (inr (a, none, (f, fs, begins, is)))) (inr (inr (b, none_too, (g, gs, begins_too, too)))) =
    is ∙ ap plain_kind (head_of fields f g fs gs begins begins_too) ∙ sym too

-- ---- either

pub of_kind : (opened : Option Opened) (fields : List Field) → IsOfKind opened fields (kind_of opened fields)
unfolding kind_of
of_kind opened [] = refl
of_kind (Some begun) (f ∷ fs) = of_inside begun.section f fs
of_kind None (f ∷ fs) = of_outside f fs (value_line (f ∷ fs)) refl

pub kind_is : (opened : Option Opened) (fields : List Field) (kind : LineKind) → IsOfKind opened fields kind → kind_of opened fields ≡ kind
kind_is opened [] kind is = of_kind opened [] ∙ sym is
kind_is (Some begun) (f ∷ fs) kind is = inside_one begun.section (f ∷ fs) (kind_of (Some begun) (f ∷ fs)) kind (of_kind (Some begun) (f ∷ fs)) is
kind_is None (f ∷ fs) kind is = outside_one (f ∷ fs) (kind_of None (f ∷ fs)) kind (of_kind None (f ∷ fs)) is
