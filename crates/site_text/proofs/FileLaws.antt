-- Reading the lines of a file one after the other, as a loop does.
use Rattle.std.proofs.Common.{◌≡◌, ℕ, ◌+◌, ◌<◌, ◌≤◌, List, [], ◌∷◌, ◌++◌, length, take, drop, get_or, Option, Err, refl, sym, ap, ◌∙◌, subst, inl, append_assoc}
use Rattle.std.proofs.lemmas.List.{take_more, take_all, take-append-drop, drop_more, append-nil}
use Rattle.site_text.specs.declared.line.Line.{Line}
use Rattle.site_text.specs.declared.fault.ConfFault.{ConfFault}
use Rattle.site_text.specs.declared.fault.LineError.{LineError}
use Rattle.site_text.specs.declared.fault.LineError.TheVariants.{Fault, NoMemory}
use Rattle.site_text.specs.Faults.{refused_at}
use Rattle.site_text.specs.Fields.{Read, Fails}
use Rattle.site_text.specs.FileRules.{LinesSayBehind, LinesSay, FirstWrongLine, LinesAnswer}

-- one more line behind those that said these readings
pub more_said : {R : Type 0} (LineSays : List R → Line → R → Type 0) (before : List R) (front : List Line) (said : List R) (line : Line) (r : R) → LinesSayBehind LineSays before front said → LineSays (before ++ said) line r
    → LinesSayBehind LineSays before (front ++ line ∷ []) (said ++ r ∷ [])
more_said {R} LineSays before [] [] line r all says = let P : List R → Type 0 = λ b. LineSays b line r in (subst P (append-nil before) says, tt)
more_said LineSays before [] (s ∷ said) line r all says = absurd all
more_said LineSays before (l ∷ front) [] line r all says = absurd all
more_said {R} LineSays before (l ∷ front) (s ∷ said) line r (first, all) says =
    let P : List R → Type 0 = λ b. LineSays b line r in (first, more_said LineSays (before ++ s ∷ []) front said line r all (subst P (sym (append_assoc before (s ∷ []) said)) says))

-- what the lines before a place said and told
pub record Standing {R C : Type 0} (LineSays : List R → Line → R → Type 0) (Tells : List R → C → Type 0) (lines : List Line) (i : ℕ) (known : C) : Type 0 where
  pub said : List R
  pub lines_say : LinesSay LineSays (take i lines) said
  pub tells : Tells said known

one_more : {A : Type 0} (xs : List A) (i : ℕ) (x : A) → i < length xs → x ≡ get_or xs i x → take (i + 1) xs ≡ take i xs ++ x ∷ []
one_more xs i x lt item = take_more xs i x lt ∙ ap (λ (y : _). take i xs ++ y ∷ []) (sym item)

cut_there : {A : Type 0} (xs : List A) (i : ℕ) (x : A) → i < length xs → x ≡ get_or xs i x → xs ≡ take i xs ++ x ∷ drop (i + 1) xs
cut_there xs i x lt item = sym (take-append-drop i xs) ∙ ap (λ (t : _). take i xs ++ t) (drop_more xs i x lt ∙ ap (λ (y : _). y ∷ drop (i + 1) xs) (sym item))

pub starts : {R C : Type 0} (LineSays : List R → Line → R → Type 0) (Tells : List R → C → Type 0) (lines : List Line) (known : C) → Tells [] known → Standing LineSays Tells lines 0 known
starts LineSays Tells lines known tells = record { said = []; lines_say = tt; tells = tells }

pub goes_on : {R C : Type 0} (LineSays : List R → Line → R → Type 0) (Tells : List R → C → Type 0) (lines : List Line) (i : ℕ) (known known' : C) (line : Line) (r : R)
    → (s : Standing LineSays Tells lines i known) → i < length lines → line ≡ get_or lines i line → LineSays s.said line r → Tells (s.said ++ r ∷ []) known' → Standing LineSays Tells lines (i + 1) known'
goes_on LineSays Tells lines i known known' line r s lt item says tells = record {
  said = s.said ++ r ∷ [];
  lines_say = (let P : List Line → Type 0 = λ ls. LinesSay LineSays ls (s.said ++ r ∷ []) in subst P (sym (one_more lines i line lt item)) (more_said LineSays [] (take i lines) s.said line r s.lines_say says));
  tells = tells;
}

pub stops : {R C : Type 0} (LineSays : List R → Line → R → Type 0) (LineWrong : List R → Line → ConfFault → Type 0) (Tells : List R → C → Type 0) (lines : List Line) (i : ℕ) (known : C) (line : Line) (fault : ConfFault)
    → (s : Standing LineSays Tells lines i known) → i < length lines → line ≡ get_or lines i line → LineWrong s.said line fault → FirstWrongLine LineSays LineWrong lines (record { line = line.number; fault = fault })
stops LineSays LineWrong Tells lines i known line fault s lt item wrong = record {
  front = take i lines;
  line = line;
  rest = drop (i + 1) lines;
  cut = cut_there lines i line lt item;
  said = s.said;
  front_says = s.lines_say;
  wrong = wrong;
  at = refl;
}

pub ends : {R C : Type 0} (LineSays : List R → Line → R → Type 0) (Tells : List R → C → Type 0) (lines : List Line) (i : ℕ) (known : C) → (s : Standing LineSays Tells lines i known) → length lines ≤ i → LinesSay LineSays lines s.said
ends LineSays Tells lines i known s le = let P : List Line → Type 0 = λ ls. LinesSay LineSays ls s.said in subst P (take_all i lines le) s.lines_say

-- the error of a line is that of the lines
pub refuses : {R C : Type 0} (LineSays : List R → Line → R → Type 0) (LineWrong : List R → Line → ConfFault → Type 0) (open_section : List R → Option ℕ) (Tells : List R → C → Type 0) (lines : List Line) (i : ℕ) (known : C) (line : Line) (error : LineError) (read : Read R)
    → (s : Standing LineSays Tells lines i known) → i < length lines → line ≡ get_or lines i line → Fails error read → ((fault : ConfFault) → read ≡ Err fault → LineWrong s.said line fault)
    → LinesAnswer LineSays LineWrong open_section Tells lines (Err (refused_at line.number error))
refuses LineSays LineWrong open_section Tells lines i known line (Fault fault) read s lt item fails wrong = inl (stops LineSays LineWrong Tells lines i known line fault s lt item (wrong fault fails))
refuses LineSays LineWrong open_section Tells lines i known line NoMemory read s lt item fails wrong = tt
