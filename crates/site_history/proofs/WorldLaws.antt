-- Worlds and one step more: what holds of the site of a world on a kept base, and how a world goes on with a step.
use Rattle.std.proofs.Common.{◌≡◌, ℕ, ◌+◌, List, [], ◌∷◌, Some, refl, ap, subst, arith, length-append}
use Rattle.site_events.specs.declared.event.Event.{Event}
use Rattle.site_events.specs.declared.event.Event.TheVariants.{Turn as TurnEvent}
use Rattle.site_events.specs.declared.event.Daemon.TheVariants.{Archiver, Stager, Releaser, Recycler}
use Rattle.site_history.specs.Terms.{Terms}
use Rattle.site_history.specs.Site.{Site}
use Rattle.site_history.specs.Steps.{HistoryStep, effect, IsLegal, HasBytes}
use Rattle.site_history.specs.Histories.{after_from, after, IsHistoryFrom, IsHistory}
use Rattle.site_history.specs.Kept.{IsKept, HaveAllBytes}
use Rattle.site_history.specs.Running.{nothing_runs, after_fault}
use Rattle.site_history.specs.Worlds.{Base, World, site_of, steps_of, at, IsOnKeptBase, IsFromFirst, made_in}
use Rattle.site_history.proofs.HistoryLaws.{after_from-push, history_from-push, history_from-counts, journal_length-push}
use Rattle.site_history.proofs.KeptLaws.{IsWhole, whole_effect, first_kept}

-- a history from the first site stands on a kept base
pub first_stands : (terms : Terms) (history : List HistoryStep) (clock : ℕ) → IsHistory terms history → IsOnKeptBase terms (at history clock)
first_stands terms history clock h = record { fields = first_kept; bytes = tt; history = h }

-- where nothing runs, nothing runs after a fault either
pub fault_of_nothing : (event : Event) → after_fault event nothing_runs ≡ nothing_runs
fault_of_nothing (TurnEvent Archiver) = refl
fault_of_nothing (TurnEvent Stager) = refl
fault_of_nothing (TurnEvent Releaser) = refl
fault_of_nothing (TurnEvent Recycler) = refl
fault_of_nothing _ = refl

module _ (terms : Terms) (w : World) where
  module _ (stands : IsOnKeptBase terms w) where
    whole : IsWhole (steps_of w) (site_of terms w)
    whole = history_from-counts terms IsWhole (whole_effect terms) w.base.steps w.base.site w.history (stands.fields, stands.bytes) stands.history

    -- the fields of its site are kept
    pub world_kept : IsKept (steps_of w) (site_of terms w).fields
    world_kept = whole.0

    -- and each file has all its bytes
    pub world_bytes : HaveAllBytes (site_of terms w)
    world_bytes = whole.1

  -- where a world stands on the first site, its history is one from the beginning, and its site what that leaves
  module _ (first : IsFromFirst w) where
    pub site_from_first : site_of terms w ≡ after terms w.history
    site_from_first = ap (λ (b : Base). after_from terms b.site w.history) first.base

    pub history_from_first : IsOnKeptBase terms w → IsHistory terms w.history
    history_from_first stands = subst (λ (b : Base). IsHistoryFrom terms b.site w.history) first.base stands.history

  -- one step more
  module _ (made : HistoryStep) where
    pub site_made : site_of terms (made_in (Some made) w) ≡ effect terms made (site_of terms w)
    site_made = after_from-push terms w.base.site w.history made

    -- its site is that of the step's moment
    pub moment_made : (site_of terms (made_in (Some made) w)).fields.moment ≡ made.step.moment
    moment_made = ap (λ (s : Site). s.fields.moment) site_made

    pub made_stands : IsOnKeptBase terms w → IsLegal terms (site_of terms w).fields made.step → HasBytes made → IsOnKeptBase terms (made_in (Some made) w)
    made_stands stands legal bytes = record {
      fields = stands.fields;
      bytes = stands.bytes;
      history = history_from-push terms w.base.site w.history made stands.history legal bytes;
    }

-- there is one step more
pub steps_made : (w : World) (made : HistoryStep) → steps_of (made_in (Some made) w) ≡ steps_of w + 1
steps_made w made = omega (arith, length-append w.history (made ∷ []))

-- and its record stands in the journal behind the others
pub made_from_first : (w : World) (made : HistoryStep) → IsFromFirst w → IsFromFirst (made_in (Some made) w)
made_from_first w made first = record { base = first.base; place = omega (arith, first.place, journal_length-push w.history made) }
