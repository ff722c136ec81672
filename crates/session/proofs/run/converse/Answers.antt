use Rattle.std.proofs.Common.{refl, sym, arith, ◌∙◌}
use Rattle.bank.proofs.Instants.{joined, weakened, started}
use Rattle.session.specs.Rounds.{phase_after}
use Rattle.input.proofs.Steps.{falls_by}
use Rattle.session.proofs.Closing.{begun, goes_over, goes_on, ends_at, stopped_at}
use Rattle.session.proofs.run.converse.Goals as goal

pub requests-init : goal.requests-init
requests-init g c = record {
  ran = λ terms told tells phase h. begun terms g.L.Protocol.asks _ _ _ _ _ phase _ _ c.requires.marks c.requires.status c.requires.fresh.still_open h refl
      (λ t. g.met.B.Bank.sound _ (tells t)) h.world.images;
  passes = λ terms told tells phase h t. started _ _ (g.met.B.Bank.sound _ (tells t)) (λ image is. tt);
  size = refl;
  patterns = refl;
  clock = λ some. (refl, some);
  folder_texts = refl;
  folder_later = omega arith;
  source_later = omega arith;
  sink_later = omega arith;
  bank_later = omega arith;
  source_beside = refl;
  sink_beside = refl;
}

pub requests-smaller-in-Skipped : goal.requests-smaller-in-Skipped
requests-smaller-in-Skipped g c = let t = c.in-Skipped.ensures.hears in falls_by _ _ _ _ _ t.moved t.some

pub requests-preserved-in-Skipped : goal.requests-preserved-in-Skipped
requests-preserved-in-Skipped g c = record {
  ran = λ terms told tells phase h. goes_over terms g.L.Protocol.asks _ _ _ _ _ _ _ phase (sym h.world.due ∙ c.requires.ready) _ _ (c.requests.invariant.ran terms told tells phase h) _ _ _ c.in-Skipped.ensures.hears;
  passes = c.requests.invariant.passes;
  size = c.requests.invariant.size;
  patterns = c.requests.invariant.patterns;
  clock = c.requests.invariant.clock;
  folder_texts = c.requests.invariant.folder_texts;
  folder_later = c.requests.invariant.folder_later;
  source_later = omega (arith, c.requests.invariant.source_later, c.hear.ensures.later);
  sink_later = c.requests.invariant.sink_later;
  bank_later = c.requests.invariant.bank_later;
  source_beside = c.hear.ensures.beside ∙ c.requests.invariant.source_beside;
  sink_beside = c.requests.invariant.sink_beside;
}

pub returns-in-Some-clause-session : goal.returns-in-Some-clause-session
returns-in-Some-clause-session g c = λ terms told tells phase h.
    let r = c.requests.invariant.ran terms told tells phase h in
    let heard = c.in-Asks.ensures.hears in
    let round = c.in-Some.ensures.round terms told tells (phase_after phase r.rounds) r.stands heard.0 heard.1 in
    ends_at terms g.L.Protocol.asks _ _ _ _ _ _ _ phase (sym h.world.due ∙ c.requires.ready) _ _ r _ _ _ heard.0 heard.2 _ _ _ _ _ _ _ _ _ _ _ _ round.0 refl c.in-Some.ensures.folder_texts round.1
    c.requires.fresh.nothing_held c.requires.fresh.still_open c.requests.invariant.sink_later c.in-Some.ending round.1.writes_answer

pub returns-in-Some-clause-passes : goal.returns-in-Some-clause-passes
returns-in-Some-clause-passes g c = λ terms told tells phase h t.
    let r = c.requests.invariant.ran terms told tells phase h in
    let heard = c.in-Asks.ensures.hears in
    let round = c.in-Some.ensures.round terms told tells (phase_after phase r.rounds) r.stands heard.0 heard.1 in
    joined _ _ _ _ (c.requests.invariant.passes terms told tells phase h t) (weakened _ _ _ _ (round.1.meanwhile t) (λ image is. tt))

pub returns-in-Some-clause-clock : goal.returns-in-Some-clause-clock
returns-in-Some-clause-clock g c = λ some. let before = c.requests.invariant.clock some in (c.one_round.ensures.clock before.1).0 ∙ before.0

pub requests-smaller : goal.requests-smaller
requests-smaller g c = let t = c.in-Asks.ensures.hears.2 in falls_by _ _ _ _ _ t.moved t.some

pub requests-preserved : goal.requests-preserved
requests-preserved g c = record {
  ran = λ terms told tells phase h.
      let r = c.requests.invariant.ran terms told tells phase h in
      let heard = c.in-Asks.ensures.hears in
      let round = c.in-None.ensures.round terms told tells (phase_after phase r.rounds) r.stands heard.0 heard.1 in
      goes_on terms g.L.Protocol.asks _ _ _ _ _ _ _ phase (sym h.world.due ∙ c.requires.ready) _ _ r _ _ _ heard.0 heard.2 _ _ _ _ _ _ _ _ _ _ _ _ round.0 refl c.in-None.ensures.folder_texts round.1 round.1.writes_answer;
  passes = λ terms told tells phase h t.
      let r = c.requests.invariant.ran terms told tells phase h in
      let heard = c.in-Asks.ensures.hears in
      let round = c.in-None.ensures.round terms told tells (phase_after phase r.rounds) r.stands heard.0 heard.1 in
      joined _ _ _ _ (c.requests.invariant.passes terms told tells phase h t) (weakened _ _ _ _ (round.1.meanwhile t) (λ image is. tt));
  size = c.in-None.ensures.size ∙ c.requests.invariant.size;
  patterns = c.in-None.ensures.patterns ∙ c.requests.invariant.patterns;
  clock = λ some. let before = c.requests.invariant.clock some in let after = c.one_round.ensures.clock before.1 in (after.0 ∙ before.0, after.1);
  folder_texts = c.one_round.ensures.folder_texts ∙ c.requests.invariant.folder_texts;
  folder_later = omega (arith, c.requests.invariant.folder_later, c.one_round.ensures.folder_later);
  source_later = omega (arith, c.requests.invariant.source_later, c.hear.ensures.later);
  sink_later = omega (arith, c.requests.invariant.sink_later, c.one_round.ensures.later);
  bank_later = omega (arith, c.requests.invariant.bank_later, c.one_round.ensures.bank_later);
  source_beside = c.hear.ensures.beside ∙ c.requests.invariant.source_beside;
  sink_beside = c.one_round.ensures.beside ∙ c.requests.invariant.sink_beside;
}

pub returns-in-Stopped-clause-session : goal.returns-in-Stopped-clause-session
returns-in-Stopped-clause-session g c = λ terms told tells phase h.
    stopped_at terms g.L.Protocol.asks _ _ _ _ _ _ _ phase (sym h.world.due ∙ c.requires.ready) _ _ (c.requests.invariant.ran terms told tells phase h) _ _ _ c.requires.fresh.nothing_held c.requires.fresh.still_open c.requests.invariant.source_later c.in-Stopped.ending c.in-Stopped.ensures.hears
