-- What an engine stands for, and how an event moves it.
use Rattle.std.specs.Prelude.{◌≡◌, ◌<◌, ◌≤◌, Bool, false, IsTrue, None, Some}
use Rattle.base.specs.declared.limits.TheConstants.{END_OF_TIME}
use Rattle.bank.specs.Content.{Image}
use Rattle.bank.specs.View.{View, IsImage, LeavesOnly}
use Rattle.site_history.specs.Terms.{Terms}
use Rattle.site_history.specs.Steps.{HistoryStep}
use Rattle.site_history.specs.Running.{nothing_runs}
use Rattle.site_history.specs.Worlds.{World, site_of, steps_of, IsOnKeptBase, IsFromFirst}
use Rattle.site_history.specs.Turns.{IsReopened}
use Rattle.site_history.specs.Images.{ReadsAs, ReadsBetween}
use Rattle.site_state.specs.Keeps.{Keeps}
use Rattle.engine.specs.declared.engine.Engine.{Engine}

-- the engine keeps what the world's site has, and its journal goes on at the world's place
pub record IsInStep (terms : Terms) {B P : Type 0} (engine : Engine B P) (w : World) : Type 0 where
  pub keeps : Keeps engine.site (site_of terms w).fields
  pub count : engine.journal.count ≡ steps_of w
  pub place : engine.journal.place ≡ w.place

-- The engine has counted the steps of the world, which stands on a kept base, and where no reopening is due it is in step with
-- it; it runs no job. Where the store tells its content, the world stands on the first site, and each image that a crash may
-- leave reads as the world: as its history, or as that with the step owed.
pub record StandsFor (terms : Terms) {B P : Type 0} (told : Bool) (view : B → View) (engine : Engine B P) (w : World) : Type 0 where
  pub kept : IsOnKeptBase terms w
  pub first : IsTrue told → IsFromFirst w
  pub idle : w.running ≡ nothing_runs
  pub steps : engine.steps ≡ steps_of w
  pub clock : engine.clock ≡ w.clock
  pub in_time : (site_of terms w).fields.moment ≤ w.clock
  pub owed_in_time : (made : HistoryStep) → w.owed ≡ Some made → made.step.moment ≤ w.clock
  pub range : w.clock < END_OF_TIME
  pub due : engine.due ≡ w.due
  pub in_step : engine.due ≡ false → (w.owed ≡ None) × IsInStep terms engine w
  pub size : engine.journal.size ≡ terms.size
  pub images : IsTrue told → (c : Image) → IsImage (view engine.bank) c → ReadsAs terms w c

-- It stands for another world then, and each image meanwhile reads as the one before or as a history between the two.
pub record Moves (terms : Terms) {B P : Type 0} (told : Bool) (view : B → View) (old new : Engine B P) (w w' : World) : Type 0 where
  pub stands : StandsFor terms told view new w'
  pub meanwhile : IsTrue told → LeavesOnly (view old.bank) (view new.bank) (ReadsBetween terms w w')

-- A reopening came to the world that the journal held, and the engine stands for it. Each image meanwhile reads as the world before.
pub record IsRecovered (terms : Terms) {B P : Type 0} (told : Bool) (view : B → View) (old new : Engine B P) (w : World) : Type 0 where
  pub world : World
  pub reopened : IsReopened terms told ((view old.bank).content 0) w world
  pub stands : StandsFor terms told view new world
  pub meanwhile : IsTrue told → LeavesOnly (view old.bank) (view new.bank) (ReadsAs terms w)

-- It stands for the world still, and each image meanwhile reads as it.
pub record StaysFor (terms : Terms) {B P : Type 0} (told : Bool) (view : B → View) (old new : Engine B P) (w : World) : Type 0 where
  pub stands : StandsFor terms told view new w
  pub meanwhile : IsTrue told → LeavesOnly (view old.bank) (view new.bank) (ReadsAs terms w)
