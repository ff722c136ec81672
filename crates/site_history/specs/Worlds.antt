-- A world: a site with the steps that led to it, what runs, the clock, and what a fault in the journal left open.
use Rattle.std.specs.Prelude.{◌≡◌, ◌⊎◌, ℕ, ◌+◌, Bool, false, true, Option, Some, None, List, [], ◌∷◌, ◌++◌, length}
use Rattle.step_codec.specs.Written.{written}
use Rattle.site_history.specs.Terms.{Terms}
use Rattle.site_history.specs.Site.{Site, first_site}
use Rattle.site_history.specs.Steps.{HistoryStep}
use Rattle.site_history.specs.Kept.{IsKept, HaveAllBytes}
use Rattle.site_history.specs.Histories.{after_from, after, IsHistoryFrom, journal_length}
use Rattle.site_history.specs.Running.{Running, nothing_runs}

-- a site, with the number of steps that led to it
pub record Base : Type 0 where
  pub steps : ℕ
  pub site : Site

abbrev pub first_base : Base
first_base = record { steps = 0; site = first_site }

pub record World : Type 0 where
  pub base : Base
  -- the steps behind the base
  pub history : List HistoryStep
  -- where the next record goes in the journal's area, in bytes
  pub place : ℕ
  pub running : Running
  -- the moment of the last event, in seconds
  pub clock : ℕ
  -- whether the journal is to be read again before the next event
  pub due : Bool
  -- the step that the journal may hold or not
  pub owed : Option HistoryStep

abbrev pub site_of : Terms → World → Site
site_of terms w = after_from terms w.base.site w.history

-- how many steps led to its site
abbrev pub steps_of : World → ℕ
steps_of w = w.base.steps + length w.history

-- ---- worlds in which nothing is open

-- a world of this history from the first site, whose records stand in the journal; nothing runs
abbrev pub at : List HistoryStep → ℕ → World
at history clock = record {
  base = first_base;
  history = history;
  place = journal_length history;
  running = nothing_runs;
  clock = clock;
  due = false;
  owed = None;
}

-- a world as opening gives it: its clock is the moment of the last step
abbrev pub new_world : Terms → List HistoryStep → World
new_world terms history = at history (after terms history).fields.moment

-- What holds of every site after so many steps holds of the base, and each step behind it is legal in its place.
pub record IsOnKeptBase (terms : Terms) (w : World) : Type 0 where
  pub fields : IsKept w.base.steps w.base.site.fields
  pub bytes : HaveAllBytes w.base.site
  pub history : IsHistoryFrom terms w.base.site w.history

-- It stands on the first site, and the next record goes behind those of its history.
pub record IsFromFirst (w : World) : Type 0 where
  pub base : w.base ≡ first_base
  pub place : w.place ≡ journal_length w.history

-- A world as the journal gives it: nothing runs and nothing is open. The journal holds all steps since the first site.
pub record IsFreshWorld (terms : Terms) (w : World) : Type 0 where
  pub kept : IsOnKeptBase terms w
  pub first : IsFromFirst w
  pub idle : w.running ≡ nothing_runs
  pub ready : w.due ≡ false
  pub nothing_owed : w.owed ≡ None

-- ---- how a world goes on

-- the world at another moment
abbrev pub at_moment : ℕ → World → World
at_moment moment w = record w { clock = moment }

-- the history with a step
abbrev pub with_step : List HistoryStep → Option HistoryStep → List HistoryStep
with_step history None = history
with_step history (Some made) = history ++ made ∷ []

-- where the next record goes behind that of a step: it has a gate, a length of four bytes and the written form
abbrev pub place_behind : ℕ → Option HistoryStep → ℕ
place_behind place None = place
place_behind place (Some made) = place + (5 + length (written made.step))

-- the step is made
abbrev pub made_in : Option HistoryStep → World → World
made_in step w = record w { history = with_step w.history step; place = place_behind w.place step }

-- the journal failed at its record: nothing runs, and the step is owed
abbrev pub owing_in : Option HistoryStep → World → World
owing_in step w = record w { running = nothing_runs; due = true; owed = step }

-- the history with the step that is owed, if one is
abbrev pub whole_of : World → List HistoryStep
whole_of w = with_step w.history w.owed

-- the history, or that with the step that is owed
abbrev pub IsWithOrWithout : World → List HistoryStep → Type 0
IsWithOrWithout w steps = (steps ≡ w.history) ⊎ ((made : HistoryStep) × (w.owed ≡ Some made) × (steps ≡ w.history ++ made ∷ []))
