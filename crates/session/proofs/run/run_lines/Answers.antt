use Rattle.std.proofs.Common.{◌≡◌, inl, inr, refl, ap, sym, ◌∙◌, subst, ℕ, arith, false, true, IsTrue, []}
use Rattle.std.proofs.KnownBytes.{Appends-nil}
use Rattle.bank.specs.View.{OnlyRead}
use Rattle.site_history.proofs.JournalLaws.{not_bad_journal}
use Rattle.session.specs.Asking.{asks_of}
use Rattle.session.specs.Outcomes.{run_terms, phase_of}
use Rattle.session.specs.Rounds.{first_of}
use Rattle.session.proofs.Handing.{begins_at, handed, with_whole, answered_status}
use Rattle.session.proofs.Refusals.{shut_refused, shut_status, still_settled}
use Rattle.session.proofs.Statuses.{never_bad}
use Rattle.session.proofs.StatusCauses.{by_memory}
use Rattle.session.proofs.run.run_lines.Goals as goal

-- a store that tells nothing promises nothing of what it tells
no_tells : {A : Type 0} → IsTrue false → A
no_tells t = absurd (let e : false ≡ true = t in cc)

-- the store was shut
pub returns-in-Err-clause-spared : goal.returns-in-Err-clause-spared
returns-in-Err-clause-spared g c = λ tells place bad.
    shut_refused (run_terms (g.P.Patterns.found c.args.patterns)) _ _ g.B.Bank.tells (g.B.Bank.view c.args.bank) (g.B.Bank.view c.in-Err.shut.bank) c.in-Err.shut.refusal _ c.refuse-status.ensures.status c.in-Err.ensures.fault (λ t. c.in-Err.ensures.bad_journal t (run_terms (g.P.Patterns.found c.args.patterns)) refl) c.refuse-status.ensures.bytes
    _ c.in-Err.ensures.unchanged refl refl refl refl c.new.ensures

pub returns-in-Err-clause-outcome : goal.returns-in-Err-clause-outcome
returns-in-Err-clause-outcome g c = λ told tells before settled. inr (
  shut_refused (run_terms (g.P.Patterns.found c.args.patterns)) _ _ g.B.Bank.tells (g.B.Bank.view c.args.bank) (g.B.Bank.view c.in-Err.shut.bank) c.in-Err.shut.refusal _ c.refuse-status.ensures.status c.in-Err.ensures.fault (λ t. c.in-Err.ensures.bad_journal t (run_terms (g.P.Patterns.found c.args.patterns)) refl) c.refuse-status.ensures.bytes
      _ c.in-Err.ensures.unchanged refl refl refl refl c.new.ensures,
  still_settled (run_terms (g.P.Patterns.found c.args.patterns)) _ _ before told _ tells c.in-Err.ensures.unchanged settled,
)

pub returns-in-Err-clause-status : goal.returns-in-Err-clause-status
returns-in-Err-clause-status g c =
    shut_status (run_terms (g.P.Patterns.found c.args.patterns)) _ _ g.B.Bank.tells (g.B.Bank.view c.args.bank) (g.B.Bank.view c.in-Err.shut.bank) c.in-Err.shut.refusal _ c.refuse-status.ensures.status c.in-Err.ensures.fault (λ t. c.in-Err.ensures.bad_journal t (run_terms (g.P.Patterns.found c.args.patterns)) refl) c.refuse-status.ensures.bytes _

pub returns-in-Err-clause-good : goal.returns-in-Err-clause-good
returns-in-Err-clause-good g c = λ tells before settled. never_bad (run_terms (g.P.Patterns.found c.args.patterns)) g.B.Bank.tells (g.B.Bank.view c.args.bank) c.args.budget _ _ _ before (returns-in-Err-clause-status g c) tells settled

-- no memory was found to read a line
pub returns-in_default-clause-outcome : goal.returns-in_default-clause-outcome
returns-in_default-clause-outcome g c = λ told tells before settled.
    let read : IsTrue g.B.Bank.tells → OnlyRead (g.B.Bank.view c.args.bank) (g.B.Bank.view c.hand_back.result.bank) =
    λ t. subst (λ (b : g.row.B.Denot). OnlyRead (g.B.Bank.view c.args.bank) (g.B.Bank.view b)) (sym c.hand_back.ensures.bank) (c.in-Ok.ensures.unchanged t) in inr (
      record {
        unread = refl;
        no_read_failed = refl;
        folder_stays = refl;
        folder_unread = refl;
        no_marks = c.hand_back.ensures.marks ∙ c.new-2.ensures.items;
        refusal = inr (inl (c.hand_back.ensures.status, Appends-nil (g.O.Sink.written c.args.output.now)));
        only_read = read;
      },
      still_settled (run_terms (g.P.Patterns.found c.args.patterns)) _ _ before told _ tells read settled,
    )

pub returns-in_default-clause-spared : goal.returns-in_default-clause-spared
returns-in_default-clause-spared g c = λ tells place bad. absurd (not_bad_journal (run_terms (g.P.Patterns.found c.args.patterns)) _ (c.in-Ok.ensures.journal tells (run_terms (g.P.Patterns.found c.args.patterns)) refl).0 place (c.in-Ok.ensures.journal tells (run_terms (g.P.Patterns.found c.args.patterns)) refl).1 bad)

pub returns-in_default-clause-status : goal.returns-in_default-clause-status
returns-in_default-clause-status g c = by_memory (run_terms (g.P.Patterns.found c.args.patterns)) g.B.Bank.tells _ c.args.budget _ _ c.hand_back.result.status c.hand_back.ensures.status

pub returns-in_default-clause-good : goal.returns-in_default-clause-good
returns-in_default-clause-good g c = λ tells before settled is. absurd (omega (arith, is, c.hand_back.ensures.status))

-- the store was opened, and a session followed
pub returns-clause-outcome : goal.returns-clause-outcome
returns-clause-outcome g c = λ told tells before settled.
    inl (with_whole (run_terms (g.P.Patterns.found c.args.patterns)) told c.args.budget _ _ _ _ before _ _
    (handed (run_terms (g.P.Patterns.found c.args.patterns)) asks_of phase_of told g.B.Bank.faults g.B.Bank.journal_faults g.B.Bank.last_fault g.B.Bank.view _ _ _ _ _ _ _ _ _ _ _ _ _ _ _ _ c.args.bank c.in-Ok.engine c.converse-ending.new.session.engine before (λ found. refl)
    (c.in-Ok.ensures.stands (run_terms (g.P.Patterns.found c.args.patterns)) refl told tells before settled) (begins_at (run_terms (g.P.Patterns.found c.args.patterns)) told g.B.Bank.view c.in-Ok.engine _) (λ t. c.in-Ok.ensures.unchanged (tells t)) settled (λ t. g.met.B.Bank.sound _ (tells t)) c.in-Ok.ensures.later c.in-Ok.ensures.journal_later
    _ _ _ _ _ _ _
    (c.converse-ending.ensures.passes (run_terms (g.P.Patterns.found c.args.patterns)) told tells) (c.converse-ending.ensures.session (run_terms (g.P.Patterns.found c.args.patterns)) told tells)
    c.in-Ok-new.ensures.whole_budget c.hand_back-2.ensures.bank c.hand_back-2.ensures.marks
    (c.hand_back-2.ensures.status ∙ ap (λ (n : ℕ). first_of c.converse-ending.new.session.status n) c.code.ensures)))

pub returns-clause-status : goal.returns-clause-status
returns-clause-status g c = answered_status (run_terms (g.P.Patterns.found c.args.patterns)) false c.args.budget _ _ _ _ [] _ _ g.B.Bank.tells _ (λ t. c.in-Ok.ensures.journal t (run_terms (g.P.Patterns.found c.args.patterns)) refl)
    (handed (run_terms (g.P.Patterns.found c.args.patterns)) asks_of phase_of false g.B.Bank.faults g.B.Bank.journal_faults g.B.Bank.last_fault g.B.Bank.view _ _ _ _ _ _ _ _ _ _ _ _ _ _ _ _ c.args.bank c.in-Ok.engine c.converse-ending.new.session.engine [] (λ found. refl)
    (c.in-Ok.ensures.stands (run_terms (g.P.Patterns.found c.args.patterns)) refl false no_tells [] no_tells) (begins_at (run_terms (g.P.Patterns.found c.args.patterns)) false g.B.Bank.view c.in-Ok.engine _) no_tells no_tells no_tells c.in-Ok.ensures.later c.in-Ok.ensures.journal_later
    _ _ _ _ _ _ _
    (c.converse-ending.ensures.passes (run_terms (g.P.Patterns.found c.args.patterns)) false no_tells) (c.converse-ending.ensures.session (run_terms (g.P.Patterns.found c.args.patterns)) false no_tells)
    c.in-Ok-new.ensures.whole_budget c.hand_back-2.ensures.bank c.hand_back-2.ensures.marks
    (c.hand_back-2.ensures.status ∙ ap (λ (n : ℕ). first_of c.converse-ending.new.session.status n) c.code.ensures))

pub returns-clause-good : goal.returns-clause-good
returns-clause-good g c = λ tells before settled. never_bad (run_terms (g.P.Patterns.found c.args.patterns)) g.B.Bank.tells (g.B.Bank.view c.args.bank) c.args.budget _ _ _ before (returns-clause-status g c) tells settled

-- a bad journal shuts the store
pub returns-clause-spared : goal.returns-clause-spared
returns-clause-spared g c = λ tells place bad. absurd (not_bad_journal (run_terms (g.P.Patterns.found c.args.patterns)) _ (c.in-Ok.ensures.journal tells (run_terms (g.P.Patterns.found c.args.patterns)) refl).0 place (c.in-Ok.ensures.journal tells (run_terms (g.P.Patterns.found c.args.patterns)) refl).1 bad)
