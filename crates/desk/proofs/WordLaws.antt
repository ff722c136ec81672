-- What is read from the left by forms is what the words say, both ways.
use Rattle.std.proofs.Common.{◌≡◌, ℕ, zero, suc, ◌+◌, ◌<◌, ◌≤◌, List, [], ◌∷◌, length, take, drop, Option, Some, None, Ok, Err, refl, sym, ap, subst, ◌∙◌, arith, ◌⊎◌, inl, inr}
use Rattle.site_text.specs.Numbers.{number_in, number_within}
use Rattle.site_text.specs.Sizes.{size_in_bytes}
use Rattle.site_events.specs.declared.reply.LineRefusal.{LineRefusal}
use Rattle.site_events.specs.declared.reply.LineRefusal.TheVariants.{BadWord}
use Rattle.desk.specs.Forms.{Form, Word, Number, Size, Rest, Value, Values, Read, ◌>>=◌, any_word, size_word, first_word, after_word, told, word_at, number_at, size_at, end_at, value_at, values_at}
use Rattle.desk.specs.Says.{IsBlank, WordStands, word_value, WordSays, WordUnfit, StandsBehind, Says, IsWrong, BeginsWith, AllSay, WordFollows, WrongHere, FirstWrong}
use Rattle.desk.proofs.WordCuts.{Front, front_of, first_is, after_is, blank_has_none}

-- ---- one word

abbrev UnfitHere : Form → List ℕ → Type 0
UnfitHere form text = IsBlank text ⊎ WordUnfit form text

abbrev JudgesWord : (form : Form) → ℕ → List ℕ → Read (Value form × List ℕ) → Type 0
JudgesWord form number text (Ok value) = WordSays form text value.0 value.1
JudgesWord form number text (Err e) = (e ≡ BadWord number) × UnfitHere form text

told_by : (form : Form) (number : ℕ) (text : List ℕ) (value : Option (Value form)) → word_value form (first_word text) ≡ value → WordStands text (first_word text) (after_word text)
    → JudgesWord form number text (told number value (after_word text))
told_by form number text None is stands = (refl, inr (record { word = first_word text; rest = after_word text; stands = stands; unfit = is }))
told_by form number text (Some value) is stands = record { word = first_word text; stands = stands; says = is }

word_judged : (form : Form) (number : ℕ) (text : List ℕ) → word_value form [] ≡ None → Front text → JudgesWord form number text (told number (word_value form (first_word text)) (after_word text))
word_judged form number text none (inl blank) = rw (blank_has_none text blank, none) (refl, inl blank)
word_judged form number text none (inr stands) = told_by form number text (word_value form (first_word text)) refl stands

word_reads : (form : Form) (number : ℕ) (text : List ℕ) (value : Value form) (rest : List ℕ) → WordSays form text value rest → told number (word_value form (first_word text)) (after_word text) ≡ Ok (value, rest)
word_reads form number text value rest says = rw (first_is text says.word rest says.stands, after_is text says.word rest says.stands, says.says) refl

word_refuses : (form : Form) (number : ℕ) (text : List ℕ) → word_value form [] ≡ None → UnfitHere form text → told number (word_value form (first_word text)) (after_word text) ≡ Err (BadWord number)
word_refuses form number text none (inl blank) = rw (blank_has_none text blank, none) refl
word_refuses form number text none (inr wrong) = rw (first_is text wrong.word wrong.rest wrong.stands, wrong.unfit) refl

no_number : (digits low high : ℕ) → number_within digits low high [] ≡ None
unfolding number_within number_in
no_number digits low high = refl

no_size : size_word [] ≡ None
unfolding size_in_bytes number_in
no_size = refl

-- ---- one place

abbrev JudgesPlace : (form : Form) → ℕ → List ℕ → Read (Value form × List ℕ) → Type 0
JudgesPlace form number text (Ok value) = Says form text value.0 value.1
JudgesPlace form number text (Err e) = (e ≡ BadWord number) × IsWrong form text

as_word : (number : ℕ) (text : List ℕ) (read : Read (List ℕ × List ℕ)) → JudgesWord Word number text read → JudgesPlace Word number text read
as_word number text (Ok value) says = says
as_word number text (Err e) wrong = wrong

as_number : (digits low high number : ℕ) (text : List ℕ) (read : Read (ℕ × List ℕ)) → JudgesWord (Number digits low high) number text read → JudgesPlace (Number digits low high) number text read
as_number digits low high number text (Ok value) says = says
as_number digits low high number text (Err e) wrong = wrong

as_size : (number : ℕ) (text : List ℕ) (read : Read (ℕ × List ℕ)) → JudgesWord Size number text read → JudgesPlace Size number text read
as_size number text (Ok value) says = says
as_size number text (Err e) wrong = wrong

stands_behind : (text : List ℕ) → StandsBehind text (drop 1 text)
stands_behind [] = refl
stands_behind (b ∷ bs) = refl

is_behind : (text value : List ℕ) → StandsBehind text value → drop 1 text ≡ value
is_behind [] value says = sym says
is_behind (b ∷ bs) value says = sym says

place_judged : (form : Form) (number : ℕ) (text : List ℕ) → JudgesPlace form number text (value_at form number text)
unfolding word_at number_at size_at
place_judged Word number text = as_word number text (told number (any_word (first_word text)) (after_word text)) (word_judged Word number text refl (front_of text))
place_judged (Number digits low high) number text =
    as_number digits low high number text (told number (number_within digits low high (first_word text)) (after_word text)) (word_judged (Number digits low high) number text (no_number digits low high) (front_of text))
place_judged Size number text = as_size number text (told number (size_word (first_word text)) (after_word text)) (word_judged Size number text no_size (front_of text))
place_judged Rest number text = (stands_behind text, refl)

place_reads : (form : Form) (number : ℕ) (text : List ℕ) (value : Value form) (rest : List ℕ) → Says form text value rest → value_at form number text ≡ Ok (value, rest)
unfolding word_at number_at size_at
place_reads Word number text value rest says = word_reads Word number text value rest says
place_reads (Number digits low high) number text value rest says = word_reads (Number digits low high) number text value rest says
place_reads Size number text value rest says = word_reads Size number text value rest says
place_reads Rest number text value rest says = rw (is_behind text value says.0, says.1) refl

place_refuses : (form : Form) (number : ℕ) (text : List ℕ) → IsWrong form text → value_at form number text ≡ Err (BadWord number)
unfolding word_at number_at size_at
place_refuses Word number text wrong = word_refuses Word number text refl wrong
place_refuses (Number digits low high) number text wrong = word_refuses (Number digits low high) number text (no_number digits low high) wrong
place_refuses Size number text wrong = word_refuses Size number text no_size wrong
place_refuses Rest number text wrong = absurd wrong

-- ---- no word

some_word : (word : List ℕ) → 0 < length word → any_word word ≡ Some word
some_word [] there = absurd (omega arith)
some_word (b ∷ bs) there = refl

end_reads : (number : ℕ) (text : List ℕ) → IsBlank text → end_at number text ≡ Ok tt
unfolding end_at
end_reads number text blank = rw (blank_has_none text blank) refl

end_refuses : (number : ℕ) (text : List ℕ) → WordFollows text → end_at number text ≡ Err (BadWord number)
unfolding end_at
end_refuses number text follows = rw (first_is text follows.word follows.rest follows.stands, some_word follows.word follows.stands.there) refl

-- ---- all words

pub record Refused (forms : List Form) (number : ℕ) (text : List ℕ) (e : LineRefusal) : Type 0 where
  pub bad : ℕ
  pub is : e ≡ BadWord bad
  pub wrong : FirstWrong forms number text bad

abbrev pub Judges : (forms : List Form) → ℕ → List ℕ → Read (Values forms) → Type 0
Judges forms number text (Ok values) = AllSay forms text values
Judges forms number text (Err e) = Refused forms number text e

wrong_at_once : (forms : List Form) (number : ℕ) (text : List ℕ) (e : LineRefusal) → e ≡ BadWord number → WrongHere forms text → Refused forms number text e
wrong_at_once forms number text e is wrong = record {
  bad = number;
  is = is;
  wrong = record { place = 0; within = omega arith; values = tt; rest = text; before = refl; here = wrong; is = omega arith };
}

end_judged : (number : ℕ) (text : List ℕ) → Front text → Judges [] number text (end_at number text)
end_judged number text (inl blank) = rw (end_reads number text blank) (record { rest = text; words = refl; ends = blank })
end_judged number text (inr stands) =
    let follows : WordFollows text = record { word = first_word text; rest = after_word text; stands = stands } in
    rw (end_refuses number text follows) (wrong_at_once [] number text (BadWord number) refl follows)

deeper : (form : Form) (forms : List Form) (number : ℕ) (text : List ℕ) (value : Value form) (next : List ℕ) (read : Read (Values forms)) → Says form text value next → Judges forms (number + 1) next read
    → Judges (form ∷ forms) number text (read >>= λ values. Ok (value, values))
deeper form forms number text value next (Ok values) says all = record { rest = all.rest; words = (next, says, all.words); ends = all.ends }
deeper form forms number text value next (Err e) says refused = record {
  bad = refused.bad;
  is = refused.is;
  wrong = record {
    place = suc refused.wrong.place;
    within = omega (arith, refused.wrong.within);
    values = (value, refused.wrong.values);
    rest = refused.wrong.rest;
    before = (next, says, refused.wrong.before);
    here = refused.wrong.here;
    is = omega (arith, refused.wrong.is);
  };
}

step : (form : Form) (forms : List Form) (number : ℕ) (text : List ℕ) (read : Read (Value form × List ℕ)) → JudgesPlace form number text read → ((next : List ℕ) → Judges forms (number + 1) next (values_at forms (number + 1) next))
    → Judges (form ∷ forms) number text (read >>= λ value. values_at forms (number + 1) value.1 >>= λ values. Ok (value.0, values))
step form forms number text (Ok value) says others = deeper form forms number text value.0 value.1 (values_at forms (number + 1) value.1) says (others value.1)
step form forms number text (Err e) wrong others = wrong_at_once (form ∷ forms) number text e wrong.0 wrong.1

pub judged : (forms : List Form) (number : ℕ) (text : List ℕ) → Judges forms number text (values_at forms number text)
judged [] number text = end_judged number text (front_of text)
judged (form ∷ forms) number text = step form forms number text (value_at form number text) (place_judged form number text) (λ next. judged forms (number + 1) next)

reads_from : (forms : List Form) (number : ℕ) (text : List ℕ) (values : Values forms) (rest : List ℕ) → BeginsWith forms text values rest → IsBlank rest → values_at forms number text ≡ Ok values
reads_from [] number text values rest is blank = end_reads number text (subst IsBlank is blank)
reads_from (form ∷ forms) number text values rest begins blank =
    rw (place_reads form number text values.0 begins.0 begins.1, reads_from forms (number + 1) begins.0 values.1 rest begins.2 blank) refl

pub reads : (forms : List Form) (number : ℕ) (text : List ℕ) (values : Values forms) → AllSay forms text values → values_at forms number text ≡ Ok values
reads forms number text values all = reads_from forms number text values all.rest all.words all.ends

refuses_at : (forms : List Form) (place number : ℕ) (text : List ℕ) (values : Values (take place forms)) (rest : List ℕ) → place ≤ length forms → BeginsWith (take place forms) text values rest → WrongHere (drop place forms) rest
    → values_at forms number text ≡ Err (BadWord (number + place))
refuses_at [] zero number text values rest within is here = end_refuses number text (subst WordFollows is here) ∙ ap (λ (n : ℕ). Err (BadWord n)) (omega arith)
refuses_at [] (suc place) number text values rest within is here = absurd (omega (arith, within))
refuses_at (form ∷ forms) zero number text values rest within is here =
    rw (place_refuses form number text (subst (IsWrong form) is here)) (ap (λ (n : ℕ). Err (BadWord n)) (omega arith))
refuses_at (form ∷ forms) (suc place) number text values rest within begins here =
    rw (place_reads form number text values.0 begins.0 begins.1, refuses_at forms place (number + 1) begins.0 values.1 rest (omega (arith, within)) begins.2 here)
    (ap (λ (n : ℕ). Err (BadWord n)) (omega arith))

pub refuses : (forms : List Form) (number : ℕ) (text : List ℕ) (bad : ℕ) → FirstWrong forms number text bad → values_at forms number text ≡ Err (BadWord bad)
refuses forms number text bad wrong = refuses_at forms wrong.place number text wrong.values wrong.rest wrong.within wrong.before wrong.here ∙ ap (λ (n : ℕ). Err (BadWord n)) (sym wrong.is)
