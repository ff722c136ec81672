-- What runs beside the history of a site: the jobs of its daemons.
use Rattle.std.specs.Prelude.{ℕ, Bool, false, Option, None, List}
use Rattle.site_events.specs.declared.event.Daemon.{Daemon}
use Rattle.site_events.specs.declared.event.Daemon.TheVariants.{Archiver, Stager, Releaser, Recycler}
use Rattle.site_events.specs.declared.event.Event.{Event}
use Rattle.site_events.specs.declared.event.Event.TheVariants.{Turn as TurnEvent}
use Rattle.site_types.specs.declared.file.Run.{Run}
use Rattle.site_types.specs.declared.file.Section.{Section}
use Rattle.site_types.specs.declared.step.Member.{Member}

-- a run that the archiver writes
pub record ArchiveJob : Type 0 where
  pub number : ℕ
  -- the archive set that it is of, from 0
  pub set : ℕ
  -- 1 to 4
  pub copy : ℕ
  -- the key of its members
  pub key : List ℕ
  -- its files, with their generations and the sections in which they are to stand
  pub members : List Member
  -- how many bytes it has moved
  pub moved : ℕ

-- a file that the stager reads back
pub record StageJob : Type 0 where
  pub number : ℕ
  pub inode : ℕ
  pub generation : ℕ
  -- the copy that it reads, 1 to 4, and where that stands
  pub copy : ℕ
  pub sections : List Section
  -- how many first bytes the cache kept at its start
  pub kept : ℕ
  -- the blocks that it fills
  pub runs : List Run
  -- how many bytes it has moved
  pub moved : ℕ

-- what runs; all of it is gone after a reopening
pub record Running : Type 0 where
  pub archiver : Option ArchiveJob
  pub stager : Option StageJob
  -- how many jobs were started
  pub starts : ℕ
  -- whether the releaser frees blocks down to the low mark
  pub releasing : Bool

abbrev pub nothing_runs : Running
nothing_runs = record { archiver = None; stager = None; starts = 0; releasing = false }

-- a daemon's own job is gone
abbrev pub without_job_of : Daemon → Running → Running
without_job_of Archiver running = record running { archiver = None }
without_job_of Stager running = record running { stager = None }
without_job_of Releaser running = running
without_job_of Recycler running = running

-- what runs once the store failed outside the journal: in the turn of a daemon its own job is gone
abbrev pub after_fault : Event → Running → Running
after_fault (TurnEvent daemon) running = without_job_of daemon running
after_fault _ running = running
