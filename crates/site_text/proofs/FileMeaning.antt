-- Each text says one list of readings or has one refusal, and not both.
use Rattle.std.proofs.Common.{◌≡◌, ℕ, Bool, true, false, List, [], ◌∷◌, ◌++◌, length, Option, Some, None, Result, Ok, Err, refl, sym, ap, ◌∙◌, subst, append_assoc, inl, inr}
use Rattle.std.specs.Prelude.{◌⊎◌, ◌↔◌, if◌then◌else◌, not}
use Rattle.std.specs.Str.{is_utf8}
use Rattle.std.specs.Str.Lossy.{utf8_valid_len}
use Rattle.std.proofs.lemmas.List.{append-nil}
use Rattle.std.proofs.lemmas.Bool.{false≢true}
use Rattle.std.proofs.lemmas.Str.{IsUtf8-from_is_utf8, is_utf8-from_IsUtf8}
use Rattle.site_text.specs.declared.line.Line.{Line}
use Rattle.site_text.specs.declared.fault.ConfFault.{ConfFault}
use Rattle.site_text.specs.declared.fault.ConfFault.TheVariants as faults
use Rattle.site_text.specs.declared.fault.ConfRefusal.{ConfRefusal}
use Rattle.site_text.specs.Lines.{physical_lines, line_of_byte, ends_continued, lines_of}
use Rattle.site_text.specs.Fields.{Read}
use Rattle.site_text.specs.FileRules.{LinesSayBehind, LinesSay, FirstWrongLine, IsText, NotTextAt, FileSays, FileWrong}
use Rattle.site_text.specs.FileSteps.{LineReader, at_line, read_lines, closed_reading, file_reading}
use Rattle.site_text.proofs.FileLaws.{more_said}

abbrev then_read : {A B : Type 0} → Result A ConfRefusal → (A → Result B ConfRefusal) → Result B ConfRefusal
then_read (Ok x) go = go x
then_read (Err refusal) go = Err refusal

-- how a relation on lines and reading them from the left belong together
pub record Agrees {R : Type 0} (line : LineReader R) (LineSays : List R → Line → R → Type 0) (LineWrong : List R → Line → ConfFault → Type 0) : Type 0 where
  pub says : (before : List R) (l : Line) (r : R) → (line before l ≡ Ok r) ↔ LineSays before l r
  pub wrong : (before : List R) (l : Line) (fault : ConfFault) → (line before l ≡ Err fault) ↔ LineWrong before l fault

next_line : {R A : Type 0} (number : ℕ) (read : Read R) (go : R → Result A ConfRefusal) (step : R → Result A ConfRefusal) (more : A → Result A ConfRefusal) → ((r : R) → go r ≡ then_read (step r) more)
    → at_line number read go ≡ then_read (at_line number read step) more
next_line number (Ok r) go step more is = is r
next_line number (Err fault) go step more is = refl

steps-append : {R : Type 0} (line : LineReader R) (before : List R) (front rest : List Line) → read_lines line before (front ++ rest) ≡ then_read (read_lines line before front) (λ said. read_lines line said rest)
steps-append line before [] rest = refl
steps-append line before (l ∷ front) rest = next_line l.number (line before l) (λ r. read_lines line (before ++ r ∷ []) (front ++ rest)) (λ r. read_lines line (before ++ r ∷ []) front) (λ said. read_lines line said rest) (λ r. steps-append line (before ++ r ∷ []) front rest)

-- ---- the relation gives the steps

abbrev read_so_far : {R : Type 0} → List R → Result (List R) ConfRefusal
read_so_far said = Ok said

lines_read_behind : {R : Type 0} (line : LineReader R) (LineSays : List R → Line → R → Type 0) (LineWrong : List R → Line → ConfFault → Type 0) → Agrees line LineSays LineWrong
    → (before : List R) (lines : List Line) (said : List R) → LinesSayBehind LineSays before lines said → read_lines line before lines ≡ Ok (before ++ said)
lines_read_behind {R} line LineSays LineWrong agrees before [] [] all = ap (read_so_far {R = R}) (sym (append-nil before))
lines_read_behind line LineSays LineWrong agrees before [] (r ∷ said) all = absurd all
lines_read_behind line LineSays LineWrong agrees before (l ∷ lines) [] all = absurd all
lines_read_behind {R} line LineSays LineWrong agrees before (l ∷ lines) (r ∷ said) (says, all) =
    let this = (agrees.says before l r).1 says in
    rw this (lines_read_behind line LineSays LineWrong agrees (before ++ r ∷ []) lines said all ∙ ap (read_so_far {R = R}) (append_assoc before (r ∷ []) said))

lines_read : {R : Type 0} (line : LineReader R) (LineSays : List R → Line → R → Type 0) (LineWrong : List R → Line → ConfFault → Type 0) → Agrees line LineSays LineWrong
    → (lines : List Line) (said : List R) → LinesSay LineSays lines said → read_lines line [] lines ≡ Ok said
lines_read line LineSays LineWrong agrees lines said all = lines_read_behind line LineSays LineWrong agrees [] lines said all

abbrev refused_there : {A : Type 0} → ConfFault → ℕ → Result A ConfRefusal
refused_there fault line = Err (record { line = line; fault = fault })

wrong_read : {R : Type 0} (line : LineReader R) (LineSays : List R → Line → R → Type 0) (LineWrong : List R → Line → ConfFault → Type 0) → Agrees line LineSays LineWrong
    → (lines : List Line) (refusal : ConfRefusal) → FirstWrongLine LineSays LineWrong lines refusal → read_lines line [] lines ≡ Err refusal
wrong_read line LineSays LineWrong agrees lines refusal w =
    let first = lines_read line LineSays LineWrong agrees w.front w.said w.front_says in
    let this = (agrees.wrong w.said w.line refusal.fault).1 w.wrong in
    ap (read_lines line []) w.cut ∙ steps-append line [] w.front (w.line ∷ w.rest) ∙ rw (first, this) (ap (refused_there refusal.fault) (sym w.at))

-- ---- the steps give the relation

abbrev Judges : {R : Type 0} → (List R → Line → R → Type 0) → (List R → Line → ConfFault → Type 0) → List Line → Result (List R) ConfRefusal → Type 0
Judges LineSays LineWrong lines (Ok said) = LinesSay LineSays lines said
Judges LineSays LineWrong lines (Err refusal) = FirstWrongLine LineSays LineWrong lines refusal

judged : {R : Type 0} (line : LineReader R) (LineSays : List R → Line → R → Type 0) (LineWrong : List R → Line → ConfFault → Type 0) → Agrees line LineSays LineWrong
    → (front rest : List Line) (said : List R) → LinesSay LineSays front said → Judges LineSays LineWrong (front ++ rest) (read_lines line said rest)
judged {R} line LineSays LineWrong agrees front [] said before = let P : List Line → Type 0 = λ ls. LinesSay LineSays ls said in subst P (sym (append-nil front)) before
judged {R} line LineSays LineWrong agrees front (l ∷ rest) said before = by_line (line said l) refl (λ r. judged line LineSays LineWrong agrees (front ++ l ∷ []) rest (said ++ r ∷ []))
  where
    by_line : (read : Read R) → line said l ≡ read → ((r : R) → LinesSay LineSays (front ++ l ∷ []) (said ++ r ∷ []) → Judges LineSays LineWrong ((front ++ l ∷ []) ++ rest) (read_lines line (said ++ r ∷ []) rest))
        → Judges LineSays LineWrong (front ++ l ∷ rest) (at_line l.number read (λ r. read_lines line (said ++ r ∷ []) rest))
    by_line (Ok r) is more = let P : List Line → Type 0 = λ ls. Judges LineSays LineWrong ls (read_lines line (said ++ r ∷ []) rest) in subst P (append_assoc front (l ∷ []) rest) (more r (more_said LineSays [] front said l r before ((agrees.says said l r).0 is)))
    by_line (Err fault) is more = record { front = front; line = l; rest = rest; cut = refl; said = said; front_says = before; wrong = (agrees.wrong said l fault).0 is; at = refl }

all_judged : {R : Type 0} (line : LineReader R) (LineSays : List R → Line → R → Type 0) (LineWrong : List R → Line → ConfFault → Type 0) → Agrees line LineSays LineWrong
    → (lines : List Line) → Judges LineSays LineWrong lines (read_lines line [] lines)
all_judged line LineSays LineWrong agrees lines = judged line LineSays LineWrong agrees [] lines [] tt

-- ---- whole texts

abbrev Steps : {R : Type 0} → LineReader R → List ℕ → Result (List R) ConfRefusal
Steps line text = read_lines line [] (lines_of text)

text_decided : (text : List ℕ) (utf8 ended : Bool) → is_utf8 text ≡ utf8 → ends_continued (physical_lines text) ≡ ended → IsText text ⊎ ((line : ℕ) × NotTextAt text line)
text_decided text true false utf8 ended = inl (record { utf8 = IsUtf8-from_is_utf8 text utf8; ended = ended })
text_decided text true true utf8 ended = inr (length (physical_lines text), inr (IsUtf8-from_is_utf8 text utf8, ended, refl))
text_decided text false ended utf8 continued = inr (line_of_byte (utf8_valid_len text) text, inl (λ is. false≢true (sym utf8 ∙ is_utf8-from_IsUtf8 text is), refl))

-- a text is no text at one line at most, and at none if it is one
not_both_texts : (text : List ℕ) (line : ℕ) → IsText text → NotTextAt text line → ⊥
not_both_texts text line is_text (inl (not_utf8, is)) = not_utf8 is_text.utf8
not_both_texts text line is_text (inr (utf8, continued, is)) = false≢true (sym is_text.ended ∙ continued)

one_line : (text : List ℕ) (line other : ℕ) → NotTextAt text line → NotTextAt text other → line ≡ other
one_line text line other (inl (not_utf8, is)) (inl (not_utf8', is')) = is ∙ sym is'
one_line text line other (inl (not_utf8, is)) (inr (utf8, continued, is')) = absurd (not_utf8 utf8)
one_line text line other (inr (utf8, continued, is)) (inl (not_utf8, is')) = absurd (not_utf8 utf8)
one_line text line other (inr (utf8, continued, is)) (inr (utf8', continued', is')) = is ∙ sym is'

abbrev refusal_of : ℕ → ConfFault → ConfRefusal
refusal_of line fault = record { line = line; fault = fault }

same_refusal : (a b : ConfRefusal) → a.line ≡ b.line → a.fault ≡ b.fault → a ≡ b
same_refusal a b line fault = ap (λ (n : ℕ). refusal_of n a.fault) line ∙ ap (refusal_of b.line) fault

ok_same : {A : Type 0} (read : Result A ConfRefusal) (x y : A) → read ≡ Ok x → read ≡ Ok y → x ≡ y
ok_same read x y is is' = cc

err_same : {A : Type 0} (read : Result A ConfRefusal) (x y : ConfRefusal) → read ≡ Err x → read ≡ Err y → x ≡ y
err_same read x y is is' = cc

ok_or_err : {A : Type 0} (read : Result A ConfRefusal) (x : A) (e : ConfRefusal) → read ≡ Ok x → read ≡ Err e → ⊥
ok_or_err read x e is is' = cc

some_same : (o : Option ℕ) (m n : ℕ) → o ≡ Some m → o ≡ Some n → m ≡ n
some_same o m n is is' = cc

none_or_some : (o : Option ℕ) (n : ℕ) → o ≡ None → o ≡ Some n → ⊥
none_or_some o n is is' = cc

pub something : {R : Type 0} (line : LineReader R) (LineSays : List R → Line → R → Type 0) (LineWrong : List R → Line → ConfFault → Type 0) (open_section : List R → Option ℕ) → Agrees line LineSays LineWrong
    → (text : List ℕ) → ((said : List R) × FileSays LineSays open_section text said) ⊎ ((refusal : ConfRefusal) × FileWrong LineSays LineWrong open_section text refusal)
something {R} line LineSays LineWrong open_section agrees text = by_text (text_decided text (is_utf8 text) (ends_continued (physical_lines text)) refl refl)
  where
    by_section : (said : List R) (o : Option ℕ) → IsText text → LinesSay LineSays (lines_of text) said → open_section said ≡ o
        → ((said : List R) × FileSays LineSays open_section text said) ⊎ ((refusal : ConfRefusal) × FileWrong LineSays LineWrong open_section text refusal)
    by_section said None is_text say closed = inl (said, record { is_text = is_text; lines_say = say; closed = closed })
    by_section said (Some number) is_text say open_at = inr (record { line = number; fault = faults.SectionNotClosed }, inr (inr (is_text, record { said = said; lines_say = say; open_at = open_at; fault = refl })))

    by_lines : (read : Result (List R) ConfRefusal) → IsText text → Judges LineSays LineWrong (lines_of text) read
        → ((said : List R) × FileSays LineSays open_section text said) ⊎ ((refusal : ConfRefusal) × FileWrong LineSays LineWrong open_section text refusal)
    by_lines (Ok said) is_text say = by_section said (open_section said) is_text say refl
    by_lines (Err refusal) is_text wrong = inr (refusal, inr (inl (is_text, wrong)))

    by_text : IsText text ⊎ ((number : ℕ) × NotTextAt text number)
        → ((said : List R) × FileSays LineSays open_section text said) ⊎ ((refusal : ConfRefusal) × FileWrong LineSays LineWrong open_section text refusal)
    by_text (inl is_text) = by_lines (Steps line text) is_text (all_judged line LineSays LineWrong agrees (lines_of text))
    by_text (inr (number, there)) = inr (record { line = number; fault = faults.NotText }, inl (there, refl))

pub one_meaning : {R : Type 0} (line : LineReader R) (LineSays : List R → Line → R → Type 0) (LineWrong : List R → Line → ConfFault → Type 0) (open_section : List R → Option ℕ) → Agrees line LineSays LineWrong
    → (text : List ℕ) (said other : List R) → FileSays LineSays open_section text said → FileSays LineSays open_section text other → said ≡ other
one_meaning line LineSays LineWrong open_section agrees text said other a b =
    ok_same (Steps line text) said other (lines_read line LineSays LineWrong agrees (lines_of text) said a.lines_say) (lines_read line LineSays LineWrong agrees (lines_of text) other b.lines_say)

pub not_both : {R : Type 0} (line : LineReader R) (LineSays : List R → Line → R → Type 0) (LineWrong : List R → Line → ConfFault → Type 0) (open_section : List R → Option ℕ) → Agrees line LineSays LineWrong
    → (text : List ℕ) (said : List R) (refusal : ConfRefusal) → FileSays LineSays open_section text said → FileWrong LineSays LineWrong open_section text refusal → ⊥
not_both line LineSays LineWrong open_section agrees text said refusal says (inl (there, fault)) = not_both_texts text refusal.line says.is_text there
not_both line LineSays LineWrong open_section agrees text said refusal says (inr (inl (is_text, wrong))) =
    ok_or_err (Steps line text) said refusal (lines_read line LineSays LineWrong agrees (lines_of text) said says.lines_say) (wrong_read line LineSays LineWrong agrees (lines_of text) refusal wrong)
not_both line LineSays LineWrong open_section agrees text said refusal says (inr (inr (is_text, section))) =
    let same = ok_same (Steps line text) said section.said (lines_read line LineSays LineWrong agrees (lines_of text) said says.lines_say) (lines_read line LineSays LineWrong agrees (lines_of text) section.said section.lines_say) in
    none_or_some (open_section said) refusal.line says.closed (ap open_section same ∙ section.open_at)

pub one_refusal : {R : Type 0} (line : LineReader R) (LineSays : List R → Line → R → Type 0) (LineWrong : List R → Line → ConfFault → Type 0) (open_section : List R → Option ℕ) → Agrees line LineSays LineWrong
    → (text : List ℕ) (refusal other : ConfRefusal) → FileWrong LineSays LineWrong open_section text refusal → FileWrong LineSays LineWrong open_section text other → refusal ≡ other
one_refusal line LineSays LineWrong open_section agrees text a b (inl (there, fault)) (inl (there', fault')) = same_refusal a b (one_line text a.line b.line there there') (fault ∙ sym fault')
one_refusal line LineSays LineWrong open_section agrees text a b (inl (there, fault)) (inr (inl (is_text, wrong))) = absurd (not_both_texts text a.line is_text there)
one_refusal line LineSays LineWrong open_section agrees text a b (inl (there, fault)) (inr (inr (is_text, section))) = absurd (not_both_texts text a.line is_text there)
one_refusal line LineSays LineWrong open_section agrees text a b (inr (inl (is_text, wrong))) (inl (there, fault)) = absurd (not_both_texts text b.line is_text there)
one_refusal line LineSays LineWrong open_section agrees text a b (inr (inr (is_text, section))) (inl (there, fault)) = absurd (not_both_texts text b.line is_text there)
one_refusal line LineSays LineWrong open_section agrees text a b (inr (inl (is_text, wrong))) (inr (inl (is_text', wrong'))) =
    err_same (Steps line text) a b (wrong_read line LineSays LineWrong agrees (lines_of text) a wrong) (wrong_read line LineSays LineWrong agrees (lines_of text) b wrong')
one_refusal line LineSays LineWrong open_section agrees text a b (inr (inl (is_text, wrong))) (inr (inr (is_text', section))) =
    absurd (ok_or_err (Steps line text) section.said a (lines_read line LineSays LineWrong agrees (lines_of text) section.said section.lines_say) (wrong_read line LineSays LineWrong agrees (lines_of text) a wrong))
one_refusal line LineSays LineWrong open_section agrees text a b (inr (inr (is_text, section))) (inr (inl (is_text', wrong))) =
    absurd (ok_or_err (Steps line text) section.said b (lines_read line LineSays LineWrong agrees (lines_of text) section.said section.lines_say) (wrong_read line LineSays LineWrong agrees (lines_of text) b wrong))
one_refusal line LineSays LineWrong open_section agrees text a b (inr (inr (is_text, section))) (inr (inr (is_text', section'))) =
    let same = ok_same (Steps line text) section.said section'.said (lines_read line LineSays LineWrong agrees (lines_of text) section.said section.lines_say) (lines_read line LineSays LineWrong agrees (lines_of text) section'.said section'.lines_say) in
    same_refusal a b (some_same (open_section section.said) a.line b.line section.open_at (ap open_section same ∙ section'.open_at)) (section.fault ∙ sym section'.fault)

-- ---- a whole text, read in steps

abbrev none_at : {A : Type 0} → ℕ → Result A ConfRefusal
none_at number = Err (record { line = number; fault = faults.NotText })

abbrev reading_by : {R : Type 0} → LineReader R → (List R → Option ℕ) → List ℕ → Bool → Bool → Result (List R) ConfRefusal
reading_by line open_section text utf8 continued = if not utf8 then none_at (line_of_byte (utf8_valid_len text) text)
    else if continued then none_at (length (physical_lines text)) else closed_reading open_section (Steps line text)

is_reading_by : {R : Type 0} (line : LineReader R) (open_section : List R → Option ℕ) (text : List ℕ) (utf8 continued : Bool) → is_utf8 text ≡ utf8 → ends_continued (physical_lines text) ≡ continued
    → file_reading line open_section text ≡ reading_by line open_section text utf8 continued
unfolding file_reading
is_reading_by line open_section text utf8 continued e k = ap (λ (b : Bool). reading_by line open_section text b (ends_continued (physical_lines text))) e ∙ ap (reading_by line open_section text utf8) k

module _ {R : Type 0} (line : LineReader R) (LineSays : List R → Line → R → Type 0) (LineWrong : List R → Line → ConfFault → Type 0) (open_section : List R → Option ℕ) (agrees : Agrees line LineSays LineWrong) (text : List ℕ) where
  reading_of_text : IsText text → file_reading line open_section text ≡ closed_reading open_section (Steps line text)
  reading_of_text is_text = is_reading_by line open_section text true false (is_utf8-from_IsUtf8 text is_text.utf8) is_text.ended

  reading_of_none : (number : ℕ) → NotTextAt text number → file_reading line open_section text ≡ none_at number
  reading_of_none number (inl (not_utf8, is)) = by_utf8 (is_utf8 text) refl
    where
      by_utf8 : (utf8 : Bool) → is_utf8 text ≡ utf8 → file_reading line open_section text ≡ none_at number
      by_utf8 false e = is_reading_by line open_section text false (ends_continued (physical_lines text)) e refl ∙ ap (none_at {A = List R}) (sym is)
      by_utf8 true e = absurd (not_utf8 (IsUtf8-from_is_utf8 text e))
  reading_of_none number (inr (utf8, continued, is)) = is_reading_by line open_section text true true (is_utf8-from_IsUtf8 text utf8) continued ∙ ap (none_at {A = List R}) (sym is)

  section_closed : (said : List R) → open_section said ≡ None → closed_reading open_section (Ok said) ≡ Ok said
  section_closed said e = rw e refl

  section_open : (said : List R) (number : ℕ) → open_section said ≡ Some number → closed_reading open_section (Ok said) ≡ refused_there faults.SectionNotClosed number
  section_open said number e = rw e refl

  -- what the relation says is what is read
  pub said_is_read : (said : List R) → FileSays LineSays open_section text said → file_reading line open_section text ≡ Ok said
  said_is_read said says = reading_of_text says.is_text ∙ ap (closed_reading open_section) (lines_read line LineSays LineWrong agrees (lines_of text) said says.lines_say) ∙ section_closed said says.closed

  same_parts : (refusal : ConfRefusal) (fault : ConfFault) → refusal.fault ≡ fault → refused_there {A = List R} fault refusal.line ≡ Err refusal
  same_parts refusal fault is = ap (refused_there_at refusal.line) (sym is)
    where
      refused_there_at : ℕ → ConfFault → Result (List R) ConfRefusal
      refused_there_at number fault = Err (record { line = number; fault = fault })

  pub wrong_is_refused : (refusal : ConfRefusal) → FileWrong LineSays LineWrong open_section text refusal → file_reading line open_section text ≡ Err refusal
  wrong_is_refused refusal (inl (there, fault)) = reading_of_none refusal.line there ∙ same_parts refusal faults.NotText fault
  wrong_is_refused refusal (inr (inl (is_text, wrong))) = reading_of_text is_text ∙ ap (closed_reading open_section) (wrong_read line LineSays LineWrong agrees (lines_of text) refusal wrong)
  wrong_is_refused refusal (inr (inr (is_text, section))) = reading_of_text is_text ∙ ap (closed_reading open_section) (lines_read line LineSays LineWrong agrees (lines_of text) section.said section.lines_say)
      ∙ section_open section.said refusal.line section.open_at ∙ same_parts refusal faults.SectionNotClosed section.fault

  meaning : ((said : List R) × FileSays LineSays open_section text said) ⊎ ((refusal : ConfRefusal) × FileWrong LineSays LineWrong open_section text refusal)
  meaning = something line LineSays LineWrong open_section agrees text

  -- and the other way round
  pub read_is_said : (said : List R) → file_reading line open_section text ≡ Ok said → FileSays LineSays open_section text said
  read_is_said said read = by_meaning meaning
    where
      by_meaning : ((said : List R) × FileSays LineSays open_section text said) ⊎ ((refusal : ConfRefusal) × FileWrong LineSays LineWrong open_section text refusal) → FileSays LineSays open_section text said
      by_meaning (inl (other, says)) = subst (λ (l : List R). FileSays LineSays open_section text l) (ok_same (file_reading line open_section text) other said (said_is_read other says) read) says
      by_meaning (inr (refusal, wrong)) = absurd (ok_or_err (file_reading line open_section text) said refusal read (wrong_is_refused refusal wrong))

  pub refused_is_wrong : (refusal : ConfRefusal) → file_reading line open_section text ≡ Err refusal → FileWrong LineSays LineWrong open_section text refusal
  refused_is_wrong refusal read = by_meaning meaning
    where
      by_meaning : ((said : List R) × FileSays LineSays open_section text said) ⊎ ((refusal : ConfRefusal) × FileWrong LineSays LineWrong open_section text refusal) → FileWrong LineSays LineWrong open_section text refusal
      by_meaning (inl (said, says)) = absurd (ok_or_err (file_reading line open_section text) said refusal (said_is_read said says) read)
      by_meaning (inr (other, wrong)) = subst (λ (r : ConfRefusal). FileWrong LineSays LineWrong open_section text r) (err_same (file_reading line open_section text) other refusal (wrong_is_refused other wrong) read) wrong
