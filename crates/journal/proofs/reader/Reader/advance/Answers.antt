use Rattle.std.proofs.Common.{◌<◌, ◌≤◌, ◌+◌, ◌^◌, ◌∷◌, ℕ, length, sym, subst, arith}
use Rattle.std.specs.Int.{w32, to_le_bytes}
use Rattle.std.specs.Prelude.{slice_range}
use Rattle.bank.specs.Content.{Stands}
use Rattle.bank.proofs.Readings.{nothing_read, read_stands}
use Rattle.journal.specs.Records.{IsRecord}
use Rattle.journal.specs.Readers.{ReaderState, IsOver}
use Rattle.journal.proofs.Reading.{read_record, part_stands, length-part, some_has, stood_before}
use Rattle.journal.proofs.reader.Reader.advance.Goals as goal

pub returns-then-self-clause-unchanged : goal.returns-then-self-clause-unchanged
returns-then-self-clause-unchanged g c = λ told. nothing_read _ (g.met.B.Bank.sound _ told)

pub returns-clause-found : goal.returns-clause-found
returns-clause-found g c = λ told over.
    let content = (g.B.Bank.view c.args.bank.now).content 0 in
    let only = c.head_at.ensures.unchanged told in
    let here : Stands content c.self.inside.window.start c.self.inside.window.bytes.items = subst (λ (s : ReaderState). IsOver content s) (sym c.self.view_is) over in
    let head = some_has _ c.in-Some.length _ (λ (n : ℕ). (n < 2 ^ 32) × Stands content c.self.inside.place (1 ∷ to_le_bytes w32 n)) c.in-Some.is (c.in_ok-length.ensures.head told here) in
    let window = c.cover.new.self in
    let found = c.in_ok-self-inside.ensures in
    let offset = c.in_ok-self-inside.field-0 in
    let fits : offset + c.in-Some.length ≤ length window.bytes.items = omega (arith, found.within, window.whole) in
    let mid = found.over told (read_stands 0 _ _ _ _ only (c.in_ok-length.ensures.over told here)) in
    let stands = part_stands content window.start (c.self.inside.place + 5) offset c.in-Some.length window.bytes.items (stood_before _ _ _ _ only mid) found.place fits in
    let long = length-part offset c.in-Some.length window.bytes.items fits in
    subst (λ (s : ReaderState). IsRecord content s.place (slice_range window.bytes.items offset (offset + c.in-Some.length)) s.size) c.self.view_is
    (read_record content c.self.inside.place c.in-Some.length c.self.inside.size _ head.1 stands long (omega (arith, long), omega (arith, long)) (omega (arith, long)))
