use Rattle.std.proofs.Common.{ℕ, List, length, sym, ◌∙◌, ap, arith, subst}
use Rattle.bank.specs.Inside.{WroteInside}
use Rattle.site_types.specs.declared.file.Run.{Run}
use Rattle.cache_space.specs.Space.{AreMaximal, blocks_in}
use Rattle.site_history.specs.Extents.{extents_over, AllStand}
use Rattle.site_history.specs.Pinned.{StandInAll, in_blocks_of}
use Rattle.site_history.proofs.Storing.{nothing_stands}
use Rattle.site_history.proofs.Turns.{is_reply}
use Rattle.site_history.specs.Steps.{put_runs}
use Rattle.decisions.specs.declared.plan.Work.{Work}
use Rattle.decisions.specs.Needs.{NamesNoFault}
use Rattle.decisions.specs.Plans.{Gives, stored_bytes}
use Rattle.engine.proofs.Loading.{read_inside, load_gives}
use Rattle.engine.proofs.Pieces.{nothing_written}
use Rattle.engine.proofs.work.do_work.Goals as goal

pub returns-in-Nothing-clause-wrote : goal.returns-in-Nothing-clause-wrote
returns-in-Nothing-clause-wrote g c = λ told. nothing_written _ _ (g.met.B.Bank.sound _ told)

pub returns-in-Nothing-clause-stored : goal.returns-in-Nothing-clause-stored
returns-in-Nothing-clause-stored g c = λ told.
    subst (λ (work : Work). StandInAll (g.B.Bank.view c.args.bank.now) (extents_over (put_runs c.args.step.now) (stored_bytes work))) (sym c.in-Nothing.is)
    (nothing_stands (g.B.Bank.view c.args.bank.now) (put_runs c.args.step.now))

pub returns-in-Nothing-clause-gives : goal.returns-in-Nothing-clause-gives
returns-in-Nothing-clause-gives g c = λ told tells site defined given stand.
    is_reply told defined c.in-Nothing.reply (sym (subst (λ (work : Work). Gives site work defined) c.in-Nothing.is given))

pub returns-in-Nothing-clause-named : goal.returns-in-Nothing-clause-named
returns-in-Nothing-clause-named g c = subst (λ (work : Work). NamesNoFault work) c.in-Nothing.is c.requires.named

pub store-requires : goal.store-requires
store-requires g c = subst (λ (runs : List Run). AreMaximal runs) (sym c.runs_of.ensures) c.requires.maximal

pub returns-in_err-store-in-Store-clause-wrote : goal.returns-in_err-store-in-Store-clause-wrote
returns-in_err-store-in-Store-clause-wrote g c = λ told.
    subst (λ (runs : List Run). WroteInside 1 (in_blocks_of runs) (g.B.Bank.view c.args.bank.now) (g.B.Bank.view c.store.new.bank)) c.runs_of.ensures (c.store.ensures.wrote told)

pub returns-in_ok-store-in-Store-clause-wrote : goal.returns-in_ok-store-in-Store-clause-wrote
returns-in_ok-store-in-Store-clause-wrote g c = λ told.
    subst (λ (runs : List Run). WroteInside 1 (in_blocks_of runs) (g.B.Bank.view c.args.bank.now) (g.B.Bank.view c.store.new.bank)) c.runs_of.ensures (c.store.ensures.wrote told)

pub returns-in_ok-store-in-Store-clause-stored : goal.returns-in_ok-store-in-Store-clause-stored
returns-in_ok-store-in-Store-clause-stored g c = λ told.
    subst (λ (work : Work). StandInAll (g.B.Bank.view c.store.new.bank) (extents_over (put_runs c.args.step.now) (stored_bytes work))) (sym c.in-Store.is)
    (subst (λ (runs : List Run). StandInAll (g.B.Bank.view c.store.new.bank) (extents_over runs c.in-Store.bytes)) c.runs_of.ensures
    (subst (λ (bytes : List ℕ). StandInAll (g.B.Bank.view c.store.new.bank) (extents_over c.runs_of.result.now bytes)) c.as_slice.ensures (c.in_ok-store-in-Store.ensures.stored told)))

pub returns-in_ok-store-in-Store-clause-gives : goal.returns-in_ok-store-in-Store-clause-gives
returns-in_ok-store-in-Store-clause-gives g c = λ told tells site defined given stand.
    is_reply told defined c.in-Store.reply (sym (subst (λ (work : Work). Gives site work defined) c.in-Store.is given))

pub returns-in_ok-store-in-Store-clause-named : goal.returns-in_ok-store-in-Store-clause-named
returns-in_ok-store-in-Store-clause-named g c = subst (λ (work : Work). NamesNoFault work) c.in-Store.is c.requires.named

pub returns-in_err-bytes-in-Load-clause-wrote : goal.returns-in_err-bytes-in-Load-clause-wrote
returns-in_err-bytes-in-Load-clause-wrote g c = λ told. read_inside (put_runs c.args.step.now) _ _ (c.load_all.ensures.unchanged told)

pub returns-in_ok-bytes-in-Load-clause-wrote : goal.returns-in_ok-bytes-in-Load-clause-wrote
returns-in_ok-bytes-in-Load-clause-wrote g c = λ told. read_inside (put_runs c.args.step.now) _ _ (c.load_all.ensures.unchanged told)

pub returns-in_ok-bytes-in-Load-clause-stored : goal.returns-in_ok-bytes-in-Load-clause-stored
returns-in_ok-bytes-in-Load-clause-stored g c = λ told.
    subst (λ (work : Work). StandInAll (g.B.Bank.view c.load_all.new.bank) (extents_over (put_runs c.args.step.now) (stored_bytes work))) (sym c.in-Load.is)
    (nothing_stands (g.B.Bank.view c.load_all.new.bank) (put_runs c.args.step.now))

pub returns-in_ok-bytes-in-Load-clause-gives : goal.returns-in_ok-bytes-in-Load-clause-gives
returns-in_ok-bytes-in-Load-clause-gives g c = λ told tells site defined given stand.
    load_gives told (g.B.Bank.view c.args.bank.now).content site c.in-Load.runs c.in-Load.buffer c.from_vec.result defined (subst (λ (work : Work). Gives site work defined) c.in-Load.is given) stand
    (ap length c.from_vec.ensures ∙ c.in_ok-bytes-in-Load.ensures.length)
    (λ t whole room enough there. c.from_vec.ensures
    ∙ c.in_ok-bytes-in-Load.ensures.bytes (tells t) whole (omega (arith, room, ap blocks_in c.as_slice-in-Load.ensures)) enough
    (subst (λ (runs : List Run). AllStand (g.B.Bank.view c.args.bank.now).content (extents_over runs whole)) (sym c.as_slice-in-Load.ensures) there))
