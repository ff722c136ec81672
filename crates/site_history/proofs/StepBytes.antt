-- The bytes of a step: at its runs they are what it needs in the store (`step_stands`), and no file holds a block of those
-- (`runs_apart`). `with_zeros` is a step with bytes that fit, where its own are not known.
use Rattle.std.proofs.Common.{◌≡◌, ℕ, List, [], length, replicate, refl, false, true}
use Rattle.std.proofs.lemmas.List.{length-replicate}
use Rattle.bank.specs.View.{View}
use Rattle.site_types.specs.declared.step.Step.{Step}
use Rattle.site_types.specs.declared.step.StepKind.{StepKind}
use Rattle.site_types.specs.declared.step.StepKind.TheVariants.{Put}
use Rattle.cache_space.specs.Space.{AreApart}
use Rattle.site_history.specs.Terms.{Terms}
use Rattle.site_history.specs.Site.{Fields, Site, held_runs}
use Rattle.site_history.specs.Steps.{HistoryStep, IsLegal, HasBytes, runs_by, put_runs, step_extents}
use Rattle.site_history.specs.Extents.{extents_over}
use Rattle.site_history.specs.Pinned.{StandInAll}

-- The runs of a step that may come are apart from those that files hold.
apart_by : (terms : Terms) (fields : Fields) (moment : ℕ) (kind : StepKind) → IsLegal terms fields (record { moment = moment; kind = kind }) → AreApart (runs_by kind) (held_runs fields.files)
apart_by terms fields moment (Put put) legal = legal.2.free.1
apart_by terms fields moment _ legal = λ block inside. absurd (let no : false ≡ true = inside in cc)

pub runs_apart : (terms : Terms) (fields : Fields) (step : Step) → IsLegal terms fields step → AreApart (put_runs step) (held_runs fields.files)
runs_apart terms fields step legal = apart_by terms fields step.moment step.kind legal

-- What a step needs in the store are its bytes at its runs.
stands_by : (v : View) (site : Site) (moment : ℕ) (kind : StepKind) (bytes : List ℕ) → StandInAll v (extents_over (runs_by kind) bytes)
    → StandInAll v (step_extents (record { step = record { moment = moment; kind = kind }; bytes = bytes }) site)
stands_by v site moment (Put put) bytes stand = stand
stands_by v site moment _ bytes stand = tt

pub step_stands : (v : View) (site : Site) (made : HistoryStep) → StandInAll v (extents_over (put_runs made.step) made.bytes) → StandInAll v (step_extents made site)
step_stands v site made stand = stands_by v site made.step.moment made.step.kind made.bytes stand

-- as many zeros as it has bytes
abbrev pub zeros_of : StepKind → List ℕ
zeros_of (Put put) = replicate put.length 0
zeros_of _ = []

abbrev pub with_zeros : Step → HistoryStep
with_zeros step = record { step = step; bytes = zeros_of step.kind }

zeros_by : (moment : ℕ) (kind : StepKind) → HasBytes (with_zeros (record { moment = moment; kind = kind }))
zeros_by moment (Put put) = length-replicate put.length 0
zeros_by moment _ = refl

pub zeros_fit : (step : Step) → HasBytes (with_zeros step)
zeros_fit step = zeros_by step.moment step.kind
