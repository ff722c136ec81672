-- The steps are in range, and short enough for a record. `put_in_range` and `put_short` serve the code that writes a put's step
-- down, which knows the rules that it tested; `configured-range` and `configured-short` that of a configuration, where each text
-- is within its limit; `legal-payload` any step that may come.
use Rattle.std.proofs.Common.{◌≡◌, ℕ, ◌<◌, ◌≤◌, ◌^◌, List, length, arith, true}
use Rattle.std.specs.Prelude.{IsTrue}
use Rattle.std.specs.List.{AllByRecursion}
use Rattle.std.proofs.lemmas.Bool.Decides.{nat_tests}
use Rattle.base.specs.Paths.{is_legal_path, is_legal_name}
use Rattle.site_types.specs.declared.file.SiteTexts.{SiteTexts}
use Rattle.step_codec.specs.Lengths.{step_length}
use Rattle.site_types.specs.Ranges.{IsRun, IsInode}
use Rattle.step_codec.specs.Written.{written, InRange}
use Rattle.step_codec.proofs.Lengths.{length-written, written_some}
use Rattle.step_codec.proofs.InRange.{in_range}
use Rattle.site_types.specs.declared.step.PutStep.{PutStep}
use Rattle.site_types.specs.declared.step.Step.{Step}
use Rattle.site_types.specs.declared.step.StepKind.{StepKind}
use Rattle.site_types.specs.declared.step.StepKind.TheVariants.{Configured, Put, Accessed, Removed}
use Rattle.configuration.specs.ConfigurationRules.{AreWithin}
use Rattle.cache_space.specs.Blocks.{blocks_for}
use Rattle.journal.specs.Records.{IsPayload}
use Rattle.site_history.specs.Terms.{Terms}
use Rattle.site_history.specs.Site.{Fields}
use Rattle.site_history.specs.Steps.{IsLegal}
use Rattle.site_history.proofs.RunRanges.{maximal-few}

-- the step of a put
abbrev pub step_of : ℕ → PutStep → Step
step_of moment put = record { moment = moment; kind = Put put }

-- a legal path has at most 1,024 bytes, and a legal name 32
pub path_short : (path : List ℕ) → is_legal_path path ≡ true → length path ≤ 1024
unfolding is_legal_path
path_short path e = grind (arith, nat_tests, e)

pub name_short : (name : List ℕ) → is_legal_name name ≡ true → length name ≤ 32
unfolding is_legal_name
name_short name e = grind (arith, nat_tests, e)

-- a put of so few runs
module _ (put : PutStep) (small : put.length ≤ 16777216) (legal_path : IsTrue (is_legal_path put.path)) (legal_owner : IsTrue (is_legal_name put.owner)) (legal_group : IsTrue (is_legal_name put.group))
    (few : length put.runs ≤ blocks_for put.length) where
  pub put_in_range : (moment : ℕ) → moment < 2 ^ 40 → IsInode put.inode → AllByRecursion IsRun put.runs → InRange (step_of moment put)
  put_in_range moment range inode fit = in_range (step_of moment put) range (
    inode,
    omega (arith, path_short put.path legal_path),
    omega (arith, name_short put.owner legal_owner),
    omega (arith, name_short put.group legal_group),
    omega (arith, small),
    (omega (arith, few, small), fit),
  )

  pub put_short : (moment : ℕ) → step_length (step_of moment put) ≤ 1048576
  put_short moment = omega (arith, path_short put.path legal_path, name_short put.owner legal_owner, name_short put.group legal_group, few, small)

-- a configuration by texts within their limits
pub configured-range : (moment : ℕ) (texts : SiteTexts) → moment < 2 ^ 40 → AreWithin texts → InRange (record { moment = moment; kind = Configured texts })
configured-range moment texts range within = in_range (record { moment = moment; kind = Configured texts }) range (
  omega (arith, within.0),
  omega (arith, within.1),
  omega (arith, within.2),
  omega (arith, within.3),
  omega (arith, within.4),
)

pub configured-short : (moment : ℕ) (texts : SiteTexts) → AreWithin texts → step_length (record { moment = moment; kind = Configured texts }) ≤ 1048576
configured-short moment texts within = omega (arith, within.0, within.1, within.2, within.3, within.4)

-- the written form of a short step is a payload
pub short-payload : (step : Step) → step_length step ≤ 1048576 → IsPayload (written step)
short-payload step short = (written_some step, omega (arith, length-written step, short))

legal_short : (terms : Terms) (fields : Fields) (moment : ℕ) (kind : StepKind) → IsLegal terms fields (record { moment = moment; kind = kind }) → step_length (record { moment = moment; kind = kind }) ≤ 1048576
legal_short terms fields moment (Put put) legal =
    put_short put legal.2.small legal.2.path legal.2.owner legal.2.group
    (omega (arith, maximal-few put.runs legal.2.maximal, legal.2.blocks)) moment
legal_short terms fields moment (Accessed inode) legal = omega arith
legal_short terms fields moment (Removed inode) legal = omega arith
legal_short terms fields moment (Configured texts) legal = configured-short moment texts legal.2.within
legal_short terms fields moment _ legal = absurd legal.2

-- a step that may come has a written form that a record takes
pub legal-payload : (terms : Terms) (fields : Fields) (step : Step) → IsLegal terms fields step → IsPayload (written step)
legal-payload terms fields step legal = short-payload step (legal_short terms fields step.moment step.kind legal)
