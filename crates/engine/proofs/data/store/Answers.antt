use Rattle.std.proofs.Common.{◌≡◌, ℕ, List, [], length, sym, ◌∙◌, subst, eqb-true}
use Rattle.std.proofs.lemmas.List.{nil_from_length}
use Rattle.bank.proofs.Inside.{inside_nothing, inside_then}
use Rattle.journal.proofs.RecordLaws.{ok_then}
use Rattle.site_history.specs.Extents.{extents_over}
use Rattle.site_history.specs.Pinned.{StandInAll, in_blocks_of}
use Rattle.site_history.proofs.Storing.{nothing_stands, synced_bytes}
use Rattle.engine.proofs.Pieces.{nothing_written}
use Rattle.engine.proofs.data.store.Goals as goal

pub returns-then-is_empty-clause-wrote : goal.returns-then-is_empty-clause-wrote
returns-then-is_empty-clause-wrote g c = λ told. nothing_written _ _ (g.met.B.Bank.sound _ told)

pub returns-then-is_empty-clause-stored : goal.returns-then-is_empty-clause-stored
returns-then-is_empty-clause-stored g c = λ told.
    let none : c.args.bytes.now ≡ [] = nil_from_length c.args.bytes.now (eqb-true (length c.args.bytes.now) 0 (sym c.is_empty.ensures ∙ c.if-is_empty.true)) in
    subst (λ (l : List ℕ). StandInAll (g.B.Bank.view c.args.bank.now) (extents_over c.args.runs.now l)) (sym none) (nothing_stands (g.B.Bank.view c.args.bank.now) c.args.runs.now)

pub returns-clause-wrote : goal.returns-clause-wrote
returns-clause-wrote g c = λ told. inside_then 1 (in_blocks_of c.args.runs.now) _ _ _ (c.write_runs.ensures.wrote told)
    (inside_nothing 1 (in_blocks_of c.args.runs.now) _ _ (g.met.B.Bank.sound _ told) (g.met.B.Bank.sound _ told) (c.sync.ensures.unchanged told))

pub returns-clause-stored : goal.returns-clause-stored
returns-clause-stored g c = λ told. ok_then c.sync.result _ _
    (λ only. synced_bytes _ _ c.args.runs.now c.args.bytes.now (c.sync.ensures.unchanged told) only (c.in_ok-write_runs.ensures.written told))
    (c.sync.ensures.durable told)
