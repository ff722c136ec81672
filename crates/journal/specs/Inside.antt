-- What holds of the fields of a journal, and of those of a reader.
use Rattle.std.specs.Prelude.{◌+◌, ◌≤◌, vec_capacity}
use Rattle.base.specs.declared.limits.TheConstants.{JOURNAL_SIZE_MAX}
use Rattle.journal.specs.declared.journal.Journal.TheInside as journal
use Rattle.journal.specs.declared.reader.Reader.TheInside as reader
use Rattle.journal.specs.declared.window.TheConstants.{WINDOW_BYTES}
use Rattle.journal.specs.declared.writing.TheConstants.{BUFFER_ROOM}

-- the next record goes within the area, there are fewer records than bytes, and the buffer has room for a short one
pub record IsWithin (j : journal.Inside) : Type 0 where
  pub small : j.size ≤ JOURNAL_SIZE_MAX
  pub fits : j.place ≤ j.size
  pub few : j.count ≤ j.place
  pub room : BUFFER_ROOM ≤ vec_capacity j.buffer

-- the same of a reader; and the payload in hand lies in the window
pub record IsReading (r : reader.Inside) : Type 0 where
  pub small : r.size ≤ JOURNAL_SIZE_MAX
  pub fits : r.place ≤ r.size
  pub few : r.count ≤ r.place
  pub room : BUFFER_ROOM ≤ vec_capacity r.buffer
  pub held : r.offset + r.length ≤ WINDOW_BYTES
