-- One round more.
use Rattle.std.proofs.Common.{◌≡◌, ℕ, ◌+◌, ◌≤◌, List, [], ◌∷◌, ◌++◌, length, refl, sym, ◌∙◌, ap, arith, Bool, false, cond, suc, zero, append_assoc, Option}
use Rattle.std.proofs.lemmas.List.{append-nil}
use Rattle.std.proofs.lemmas.Bool.{ne_eqb}
use Rattle.base.specs.Causes.{AreCounted}
use Rattle.outside.specs.declared.folder.NamedText.{NamedText}
use Rattle.session.specs.Requests.{Request}
use Rattle.session.specs.Rounds.{Phase, Round, IsRoundOf, GoOn, IsRun, phase_after, asked, output, AreInTime, mark_of, marks_from, cause_of, first_of, status_from, faults_of, faults_in, journal_faults_of, journal_faults_in, IsLastArea, folder_faults_of, folder_faults_in}
use Rattle.session.specs.declared.kept.Mark.{Mark}
use Rattle.site_history.specs.Terms.{Terms}

-- A run goes on by a round from where it stands.
pub run_more : (terms : Terms) (told : Bool) (folder : Option (List NamedText)) (phase : Phase) (rs : List Round) (r : Round) → IsRun terms told folder phase rs
    → IsRoundOf terms told folder (phase_after phase rs) r.request.asked r.area r.journal r.reply r.after → IsRun terms told folder phase (rs ++ r ∷ [])
run_more terms told folder phase [] r run turn = (turn, tt)
run_more terms told folder phase (x ∷ rs) r run turn = (run.0, run_more terms told folder x.after rs r run.1 turn)

-- It stands then where the round left it.
pub after_more : (phase : Phase) (rs : List Round) (r : Round) → phase_after phase (rs ++ r ∷ []) ≡ r.after
after_more phase [] r = refl
after_more phase (x ∷ rs) r = after_more x.after rs r

-- What was asked, with the round's request behind it.
pub asked_more : (rs : List Round) (r : Round) → asked (rs ++ r ∷ []) ≡ asked rs ++ r.request ∷ []
asked_more [] r = refl
asked_more (x ∷ rs) r = ap (λ (l : List Request). x.request ∷ l) (asked_more rs r)

-- Each round has one request.
pub asked-length : (rs : List Round) → length (asked rs) ≡ length rs
asked-length [] = refl
asked-length (x ∷ rs) = ap suc (asked-length rs)

-- What was answered, with the round's answer behind it.
pub output_more : (rs : List Round) (r : Round) → output (rs ++ r ∷ []) ≡ output rs ++ r.request.text r.reply
output_more [] r = append-nil (r.request.text r.reply)
output_more (x ∷ rs) r = ap (λ (l : List ℕ). x.request.text x.reply ++ l) (output_more rs r) ∙ sym (append_assoc (x.request.text x.reply) (output rs) (r.request.text r.reply))

-- The marks, with the round's behind them.
pub marks_more : (n : ℕ) (rs : List Round) (r : Round) → marks_from n (rs ++ r ∷ []) ≡ marks_from n rs ++ mark_of (n + length rs + 1) r ∷ []
marks_more n [] r = ap (λ (k : ℕ). mark_of k r ∷ []) (let e : n + 1 ≡ n + 0 + 1 = omega arith in e)
marks_more n (x ∷ rs) r = ap (λ (l : List Mark). mark_of (n + 1) x ∷ l)
    (marks_more (n + 1) rs r ∙ ap (λ (k : ℕ). marks_from (n + 1) rs ++ mark_of k r ∷ []) (let e : n + 1 + length rs + 1 ≡ n + length (x ∷ rs) + 1 = omega arith in e))

-- Each round has one mark.
pub marks-length : (n : ℕ) (rs : List Round) → length (marks_from n rs) ≡ length rs
marks-length n [] = refl
marks-length n (x ∷ rs) = ap suc (marks-length (n + 1) rs)

-- The store's instants go on.
pub in_time_more : (from mid to : ℕ) (rs : List Round) (r : Round) → AreInTime from rs mid → (mid ≤ r.instant) × (r.instant ≤ to) → AreInTime from (rs ++ r ∷ []) to
in_time_more from mid to [] r h k = (omega (arith, h, k.0), k.1)
in_time_more from mid to (x ∷ rs) r h k = (h.0, in_time_more x.instant mid to rs r h.1 k)

-- They end no earlier than they begin.
pub in_time_to : (from to : ℕ) (rs : List Round) → AreInTime from rs to → from ≤ to
in_time_to from to [] h = h
in_time_to from to (x ∷ rs) h = omega (arith, h.0, in_time_to x.instant to rs h.1)

-- They may be counted from an earlier moment.
pub earlier : (from from' to : ℕ) (rs : List Round) → from' ≤ from → AreInTime from rs to → AreInTime from' rs to
earlier from from' to [] le h = omega arith
earlier from from' to (x ∷ rs) le h = (omega (arith, h.0, le), h.1)

-- A cause is the first one.
pub first_suc : (a b : ℕ) → first_of (suc a) b ≡ suc a
first_suc a b = ap (λ (t : Bool). cond t b (suc a)) (ne_eqb (suc a) 0 (λ e. absurd (omega (arith, e))))

first_of_first : (a b c : ℕ) → first_of (first_of a b) c ≡ first_of a (first_of b c)
first_of_first zero b c = refl
first_of_first (suc a) b c = ap (λ (n : ℕ). first_of n c) (first_suc a b) ∙ first_suc a c ∙ sym (first_suc a (first_of b c))

-- Nothing came behind a cause.
pub first_none : (a : ℕ) → first_of a 0 ≡ a
first_none zero = refl
first_none (suc a) = first_suc a 0

-- The status so far, and then what comes.
pub status_then : (rs : List Round) (later : ℕ) → first_of (status_from rs 0) later ≡ status_from rs later
status_then [] later = refl
status_then (x ∷ rs) later = first_of_first (cause_of x.reply) (status_from rs 0) later ∙ ap (λ (n : ℕ). first_of (cause_of x.reply) n) (status_then rs later)

-- The status, with the round's cause behind the others.
pub status_more : (rs : List Round) (r : Round) (later : ℕ) → status_from (rs ++ r ∷ []) later ≡ status_from rs (first_of (cause_of r.reply) later)
status_more [] r later = refl
status_more (x ∷ rs) r later = ap (λ (n : ℕ). first_of (cause_of x.reply) n) (status_more rs r later)

-- The faults that were told, with the round's.
pub faults_more : (rs : List Round) (r : Round) → faults_in (rs ++ r ∷ []) ≡ faults_in rs + faults_of r.reply
faults_more [] r = omega arith
faults_more (x ∷ rs) r = omega (arith, faults_more rs r)

pub journal_faults_more : (rs : List Round) (r : Round) → journal_faults_in (rs ++ r ∷ []) ≡ journal_faults_in rs + journal_faults_of r.reply r.area
journal_faults_more [] r = omega arith
journal_faults_more (x ∷ rs) r = omega (arith, journal_faults_more rs r)

-- The last fault lies where it did after the round.
pub last_area_more : (rs : List Round) (r : Round) (area : ℕ) → r.area ≡ area → IsLastArea (rs ++ r ∷ []) area
last_area_more [] r area e = e
last_area_more (x ∷ []) r area e = e
last_area_more (x ∷ (y ∷ rs)) r area e = last_area_more (y ∷ rs) r area e

pub folder_faults_more : (rs : List Round) (r : Round) → folder_faults_in (rs ++ r ∷ []) ≡ folder_faults_in rs + folder_faults_of r.reply
folder_faults_more [] r = omega arith
folder_faults_more (x ∷ rs) r = omega (arith, folder_faults_more rs r)

-- Faults that were counted one run after another.
pub counted_more : (start n more before now : ℕ) → AreCounted start n before → AreCounted before more now → AreCounted start (n + more) now
counted_more start n more before now h k = omega arith

-- The run goes on behind a round that does not end it.
pub go_on_more : (rs : List Round) (r : Round) → GoOn rs → r.request.closes r.reply ≡ false → GoOn (rs ++ r ∷ [])
go_on_more [] r on e = (e, tt)
go_on_more (x ∷ rs) r on e = (on.0, go_on_more rs r on.1 e)
