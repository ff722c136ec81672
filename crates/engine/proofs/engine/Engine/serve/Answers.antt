use Rattle.std.proofs.Common.{◌≡◌, arith, ℕ, refl, ap, subst}
use Rattle.site_history.specs.Worlds.{site_of, steps_of, at_moment}
use Rattle.site_history.specs.Turns.{moment_of, Turn}
use Rattle.site_history.proofs.WorldLaws.{world_kept, world_bytes}
use Rattle.engine.proofs.Serving.{stands_later, stays_later, moves_from}
use Rattle.engine.proofs.engine.Engine.serve.Goals as goal

pub returns-in-Ok-clause-turn : goal.returns-in-Ok-clause-turn
returns-in-Ok-clause-turn g c = λ terms told tells w stands.
    let same : c.max-self.result ≡ moment_of w.clock c.args.now = omega (arith, c.max-self.ensures, c.min.ensures, stands.clock) in
    let keeps = (stands.in_step c.requires).1.keeps in
    let turn = c.perform.ensures.turn terms told tells w
    (stands_later terms told g.B.Bank.view w c.max-self.result c.args.self.now _ stands refl c.decide.ensures.keeps refl refl refl refl (omega (arith, same)) (omega (arith, same, stands.range)))
    c.args.event (c.in-Ok.ensures.answers terms (steps_of w) (site_of terms w) w.running (world_kept terms w stands.kept) (world_bytes terms w stands.kept) keeps) in (
      turn.0,
      subst (λ (n : ℕ). Turn terms told w c.args.event n (g.B.Bank.last_fault c.perform.new.self.bank) c.perform.result turn.0) same turn.1,
      moves_from terms told g.B.Bank.view w c.max-self.result c.args.self.now _ c.perform.new.self turn.0 refl turn.2,
    )

pub returns-in-Err-clause-turn : goal.returns-in-Err-clause-turn
returns-in-Err-clause-turn g c = λ terms told tells w stands.
    let same : c.max-self.result ≡ moment_of w.clock c.args.now = omega (arith, c.max-self.ensures, c.min.ensures, stands.clock) in (
      at_moment c.max-self.result w,
      ap (λ (n : ℕ). at_moment n w) same,
      stays_later terms told g.B.Bank.view w c.max-self.result c.args.self.now _ stands refl c.decide.ensures.keeps refl refl refl refl (omega (arith, same)) (omega (arith, same, stands.range))
          (λ t. g.met.B.Bank.sound _ (tells t)),
    )
