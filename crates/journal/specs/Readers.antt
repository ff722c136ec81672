-- The records of a journal, read one after another.
use Rattle.std.specs.Prelude.{◌≡◌, ℕ, ◌+◌, ◌≤◌, List, length}
use Rattle.bank.specs.Content.{Content, Stands}
use Rattle.journal.specs.Records.{IsPayload, IsRecord, AreRecords, IsEnd, IsBadAt, end_of}
use Rattle.journal.specs.declared.reader.Found.{Found}
use Rattle.journal.specs.declared.reader.Found.TheVariants.{Record, End, BadLength}

-- where the next record stands, the bytes of the area, how many records were passed, and the payload of the last of them; and
-- which bytes are in memory, from which place on
pub record ReaderState : Type 0 where
  pub place : ℕ
  pub size : ℕ
  pub count : ℕ
  pub payload : List ℕ
  pub start : ℕ
  pub window : List ℕ

-- the bytes in memory are those of the area
abbrev pub IsOver : Content → ReaderState → Type 0
IsOver c reader = Stands c reader.start reader.window

-- What is found at the place: a record, whose payload is the reader's then; the end of the journal; or, behind the records before
-- it, an open gate with a length that no record there has.
abbrev pub IsFound : Content → ReaderState → ReaderState → Found → Type 0
IsFound c old new Record = IsRecord c old.place new.payload old.size
IsFound c old new End = IsEnd c old.place old.size
IsFound c old new BadLength = (payloads : List (List ℕ)) → AreRecords c 0 payloads old.size → old.place ≡ end_of 0 payloads → IsBadAt c old.place old.size payloads

-- the reader goes behind a record; otherwise it stays
abbrev pub GoesOn : ReaderState → ReaderState → Found → Type 0
GoesOn old new Record = IsPayload new.payload × (new.place ≡ old.place + 5 + length new.payload) × (new.place ≤ old.size) × (new.count ≡ old.count + 1)
GoesOn old new _ = (new.place ≡ old.place) × (new.count ≡ old.count)
