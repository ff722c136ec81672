use Rattle.std.proofs.Common.{arith, refl, subst}
use Rattle.bank.proofs.Readings.{nothing_read}
use Rattle.site_history.specs.Answers.{answer_to}
use Rattle.site_history.specs.Worlds.{site_of, at_moment}
use Rattle.site_history.proofs.Turns.{answer-turn}
use Rattle.decisions.specs.declared.plan.Plan.{Plan}
use Rattle.decisions.specs.Plans.{IsPlanOf}
use Rattle.decisions.specs.Needs.{IsPerformable}
use Rattle.engine.proofs.Replies.{course_goes, no_bad_journal, no_fault}
use Rattle.engine.proofs.Turning.{stays_here}
use Rattle.engine.proofs.engine.Engine.perform.Goals as goal

pub returns-in-Answer-clause-turn : goal.returns-in-Answer-clause-turn
returns-in-Answer-clause-turn g c = λ terms told tells w stands event of. (
  at_moment c.args.self.now.clock w,
  answer-turn terms told w event c.args.self.now.clock _ c.in-Answer.reply
      (subst (λ (p : Plan). IsPlanOf (site_of terms w) w.running (answer_to terms (site_of terms w) w.running c.args.self.now.clock event) p) c.in-Answer.is of)
      (course_goes c.in-Answer.reply _ (subst (λ (p : Plan). IsPerformable c.args.self.now.site p) c.in-Answer.is c.requires.performable)),
  stays_here terms told g.B.Bank.view c.args.self.now _ (at_moment c.args.self.now.clock w) stands (λ fields keeps. keeps) refl refl refl refl (λ t. nothing_read _ (g.met.B.Bank.sound _ (tells t))),
)

pub returns-in-Answer-clause-served : goal.returns-in-Answer-clause-served
returns-in-Answer-clause-served g c =
    let named = subst (λ (p : Plan). IsPerformable c.args.self.now.site p) c.in-Answer.is c.requires.performable in record {
      causes = record {
        later = omega arith;
        journal_later = omega arith;
        fault = λ e. absurd (no_fault c.in-Answer.reply named e);
        journal_fault = λ e zero. absurd (no_fault c.in-Answer.reply named e);
      };
      ready = λ other. c.requires.ready;
      journal = λ terms content. no_bad_journal terms content c.in-Answer.reply named;
      size = refl;
      patterns = refl;
      instant = λ t. omega arith;
    }

pub returns-in-Make-clause-turn : goal.returns-in-Make-clause-turn
returns-in-Make-clause-turn g c = λ terms told tells w stands event of.
    c.make.ensures.turn terms told tells w stands event
    (subst (λ (p : Plan). IsPlanOf (site_of terms w) w.running (answer_to terms (site_of terms w) w.running c.args.self.now.clock event) p) c.in-Make.is of)

pub make-requires-clause-recordable : goal.make-requires-clause-recordable
make-requires-clause-recordable g c = (subst (λ (p : Plan). IsPerformable c.args.self.now.site p) c.in-Make.is c.requires.performable).0

pub make-requires-clause-named : goal.make-requires-clause-named
make-requires-clause-named g c = (subst (λ (p : Plan). IsPerformable c.args.self.now.site p) c.in-Make.is c.requires.performable).1
