use Rattle.std.proofs.Common.{◌+◌, ◌<◌, ◌≤◌, Some, length, refl, subst, arith, rules}
use Rattle.bank.proofs.Readings.{nothing_read}
use Rattle.site_history.specs.Worlds.{World, site_of, at_moment, made_in, owing_in}
use Rattle.site_history.specs.Turns.{Turn}
use Rattle.site_history.proofs.Turns.{full-turn, made-turn, owes-turn, fails-turn}
use Rattle.site_events.specs.declared.reply.Reply.TheVariants.{BankFault}
use Rattle.engine.proofs.Making.{place_it, bytes_stand, made_by, reply_by, plan_answered, plan_may, work_stays, work_moves, failed_is}
use Rattle.engine.proofs.Replies.{course_goes, no_bad_journal, no_fault}
use Rattle.engine.proofs.Turning.{stays_here}
use Rattle.engine.proofs.engine.Engine.make.Goals as goal

pub returns-in_default-clause-turn : goal.returns-in_default-clause-turn
returns-in_default-clause-turn g c = λ terms told tells w stands event of. (
  at_moment c.args.self.now.clock w,
  refl,
  stays_here terms told g.B.Bank.view c.args.self.now _ (at_moment c.args.self.now.clock w) stands (λ fields keeps. keeps) refl refl refl refl (λ t. nothing_read _ (g.met.B.Bank.sound _ (tells t))),
)

pub returns-then-not-has_room-clause-turn : goal.returns-then-not-has_room-clause-turn
returns-then-not-has_room-clause-turn g c = λ terms told tells w stands event of.
    let now = at_moment c.args.self.now.clock w in
    let view = g.B.Bank.view in (
      now,
      full-turn terms told w event c.args.self.now.clock 0
          (reply_by terms told view c.args.self.now now stands c.requires.ready event c.args.prepared c.args.work c.args.self.now.clock of)
          (made_by terms told view c.args.self.now now stands c.requires.ready event c.args.prepared c.args.work c.args.self.now.clock of)
          (plan_answered terms told view c.args.self.now now stands c.requires.ready event c.args.prepared c.args.work c.args.self.now.clock of)
          c.args.self.now.journal.place c.write_payload.new.payload.items (place_it terms told view c.args.self.now now stands c.requires.ready) c.in-Ok.ensures.written
          (let full : c.args.self.now.journal.size < c.args.self.now.journal.place + 6 + length c.write_payload.new.payload.items = search rules in omega (arith, full, stands.size)),
      stays_here terms told view c.args.self.now _ now stands (λ fields keeps. keeps) refl refl refl refl (λ t. nothing_read _ (g.met.B.Bank.sound _ (tells t))),
    )

pub returns-in_default-do_work-clause-turn : goal.returns-in_default-do_work-clause-turn
returns-in_default-do_work-clause-turn g c = λ terms told tells w stands event of.
    let now = at_moment c.args.self.now.clock w in
    let view = g.B.Bank.view in (
      now,
      subst (λ (x : World). Turn terms told w event c.args.self.now.clock (g.B.Bank.last_fault c.do_work.new.bank) BankFault x) (failed_is w event c.args.self.now.clock stands.idle)
          (fails-turn terms told w event c.args.self.now.clock _ (λ journal. absurd (omega (arith, journal, c.in_default-do_work.ensures.counted.area)))),
      work_stays terms told view c.args.self.now now stands c.requires.ready (made_by terms told view c.args.self.now now stands c.requires.ready event c.args.prepared c.args.work c.args.self.now.clock of)
          (plan_may terms told view c.args.self.now now stands c.requires.ready event c.args.prepared c.args.work c.args.self.now.clock of refl) _ (λ fields keeps. keeps) refl refl refl refl
          (λ t. g.met.B.Bank.sound _ (tells t)) (λ t. c.do_work.ensures.wrote (tells t)),
    )

pub returns-in-Ok-commit-clause-turn : goal.returns-in-Ok-commit-clause-turn
returns-in-Ok-commit-clause-turn g c = λ terms told tells w stands event of.
    let now = at_moment c.args.self.now.clock w in
    let view = g.B.Bank.view in
    let made = made_by terms told view c.args.self.now now stands c.requires.ready event c.args.prepared c.args.work c.args.self.now.clock of in
    let reply = reply_by terms told view c.args.self.now now stands c.requires.ready event c.args.prepared c.args.work c.args.self.now.clock of in (
      made_in (Some made) now,
      made-turn terms told w event c.args.self.now.clock _ reply made
          (plan_answered terms told view c.args.self.now now stands c.requires.ready event c.args.prepared c.args.work c.args.self.now.clock of)
          c.args.self.now.journal.place c.write_payload.new.payload.items (place_it terms told view c.args.self.now now stands c.requires.ready) c.in-Ok.ensures.written
          (let fits : c.args.self.now.journal.place + 6 + length c.write_payload.new.payload.items ≤ c.args.self.now.journal.size = search rules in omega (arith, fits, stands.size))
          c.in-Ok-do_work.reply (course_goes c.in-Ok-do_work.reply _ c.in-Ok-do_work.ensures.named)
          (c.in-Ok-do_work.ensures.gives told tells (site_of terms w) reply of.1 (λ t. bytes_stand terms told view c.args.self.now now stands c.requires.ready t (g.met.B.Bank.sound _ (tells t)))),
      work_moves terms told view c.args.self.now now stands c.requires.ready made
          (plan_may terms told view c.args.self.now now stands c.requires.ready event c.args.prepared c.args.work c.args.self.now.clock of refl) _ (λ fields keeps. keeps) refl refl refl refl
          (λ t. g.met.B.Bank.sound _ (tells t)) (λ t. c.do_work.ensures.wrote (tells t)) c.in-Ok.ensures.written (λ t. c.in-Ok-do_work.ensures.stored (tells t)) _ (made_in (Some made) now)
          (c.in-Ok-commit.ensures.made terms told tells now made refl),
    )

pub returns-in-Err-clause-turn : goal.returns-in-Err-clause-turn
returns-in-Err-clause-turn g c = λ terms told tells w stands event of.
    let now = at_moment c.args.self.now.clock w in
    let view = g.B.Bank.view in
    let made = made_by terms told view c.args.self.now now stands c.requires.ready event c.args.prepared c.args.work c.args.self.now.clock of in
    let reply = reply_by terms told view c.args.self.now now stands c.requires.ready event c.args.prepared c.args.work c.args.self.now.clock of in (
      owing_in (Some made) now,
      owes-turn terms told w event c.args.self.now.clock _ reply made
          (plan_answered terms told view c.args.self.now now stands c.requires.ready event c.args.prepared c.args.work c.args.self.now.clock of)
          c.args.self.now.journal.place c.write_payload.new.payload.items (place_it terms told view c.args.self.now now stands c.requires.ready) c.in-Ok.ensures.written
          (let fits : c.args.self.now.journal.place + 6 + length c.write_payload.new.payload.items ≤ c.args.self.now.journal.size = search rules in omega (arith, fits, stands.size)) c.in-Err.ensures.area,
      work_moves terms told view c.args.self.now now stands c.requires.ready made
          (plan_may terms told view c.args.self.now now stands c.requires.ready event c.args.prepared c.args.work c.args.self.now.clock of refl) _ (λ fields keeps. keeps) refl refl refl refl
          (λ t. g.met.B.Bank.sound _ (tells t)) (λ t. c.do_work.ensures.wrote (tells t)) c.in-Ok.ensures.written (λ t. c.in-Ok-do_work.ensures.stored (tells t)) _ (owing_in (Some made) now)
          (c.in-Err.ensures.owed terms told tells now made refl),
    )

pub returns-in-Ok-commit-clause-served : goal.returns-in-Ok-commit-clause-served
returns-in-Ok-commit-clause-served g c =
    let named = c.in-Ok-do_work.ensures.named in record {
      causes = record {
        later = omega (arith, c.in-Ok-do_work.ensures.counted.later, c.commit.ensures.later);
        journal_later = omega (arith, c.in-Ok-do_work.ensures.counted.journal, c.commit.ensures.journal_later);
        fault = λ e. absurd (no_fault c.in-Ok-do_work.reply named e);
        journal_fault = λ e zero. absurd (no_fault c.in-Ok-do_work.reply named e);
      };
      ready = λ other. c.in-Ok-commit.ensures.open;
      journal = λ terms content. no_bad_journal terms content c.in-Ok-do_work.reply named;
      size = c.commit.ensures.size;
      patterns = c.commit.ensures.patterns;
      instant = λ t. omega (arith, (c.do_work.ensures.wrote t).meanwhile.later, c.commit.ensures.instant t);
    }
