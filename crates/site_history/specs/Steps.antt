-- The steps of a site, a row for each kind: which may come, what each changes, and the bytes that it needs in the store.
use Rattle.std.specs.Prelude.{◌≡◌, ℕ, ◌≤◌, List, [], length}
use Rattle.site_types.specs.declared.file.Run.{Run}
use Rattle.site_types.specs.declared.step.Step.{Step}
use Rattle.site_types.specs.declared.step.StepKind.{StepKind}
use Rattle.site_types.specs.declared.step.StepKind.TheVariants.{Configured, Put, Accessed, Removed}
use Rattle.step_codec.specs.Written.{InRange}
use Rattle.site_history.specs.Terms.{Terms}
use Rattle.site_history.specs.Site.{Fields, FileBytes, Site}
use Rattle.site_history.specs.Changes.{without_bytes, IsThere}
use Rattle.site_history.specs.Extents.{Extent}
use Rattle.site_history.specs.PutSteps.{put_effect, put_contents, IsLegalPut, put_extents}
use Rattle.site_history.specs.AccessedSteps.{accessed_effect}
use Rattle.site_history.specs.RemovedSteps.{removed_effect}
use Rattle.site_history.specs.ConfiguredSteps.{configured_effect, IsLegalConfiguration}

-- a step of a history: a put comes with the bytes of its file
pub record HistoryStep : Type 0 where
  pub step : Step
  pub bytes : List ℕ

-- ---- what a step changes

-- of the fields, their moment aside; a kind that is not served changes nothing, and is never legal
abbrev pub effect_of : Terms → ℕ → StepKind → Fields → Fields
effect_of terms moment (Configured texts) fields = configured_effect texts fields
effect_of terms moment (Put put) fields = put_effect terms moment put fields
effect_of terms moment (Accessed inode) fields = accessed_effect moment inode fields
effect_of terms moment (Removed inode) fields = removed_effect inode fields
effect_of terms moment _ fields = fields

-- the moment of the last step
abbrev pub dated : ℕ → Fields → Fields
dated moment fields = record fields { moment = moment }

abbrev pub fields_after : Terms → Step → Fields → Fields
fields_after terms step fields = dated step.moment (effect_of terms step.moment step.kind fields)

-- of the bytes
abbrev pub contents_by : List ℕ → StepKind → List FileBytes → List FileBytes
contents_by bytes (Put put) contents = put_contents bytes put contents
contents_by bytes (Removed inode) contents = without_bytes inode contents
contents_by bytes _ contents = contents

abbrev pub effect : Terms → HistoryStep → Site → Site
effect terms made site = record { fields = fields_after terms made.step site.fields; contents = contents_by made.bytes made.step.kind site.contents }

-- ---- when it may come

-- the rule of its kind
abbrev pub MayCome : Terms → Fields → ℕ → StepKind → Type 0
MayCome terms fields moment (Configured texts) = IsLegalConfiguration fields texts
MayCome terms fields moment (Put put) = IsLegalPut fields put
MayCome terms fields moment (Accessed inode) = IsThere fields inode
MayCome terms fields moment (Removed inode) = IsThere fields inode
MayCome terms fields moment _ = ⊥

-- its fields are in their ranges, its moment is at least the last one, and its kind's rule holds
abbrev pub IsLegal : Terms → Fields → Step → Type 0
IsLegal terms fields step = InRange step × (fields.moment ≤ step.moment) × MayCome terms fields step.moment step.kind

-- a put has as many bytes as its length says, and no other step has any
abbrev pub HasBytesOf : List ℕ → StepKind → Type 0
HasBytesOf bytes (Put put) = length bytes ≡ put.length
HasBytesOf bytes _ = bytes ≡ []

abbrev pub HasBytes : HistoryStep → Type 0
HasBytes made = HasBytesOf made.bytes made.step.kind

-- ---- the bytes that it needs in the store

-- the runs at which its bytes are stored: a put has some, and no other step has any
abbrev pub runs_by : StepKind → List Run
runs_by (Put put) = put.runs
runs_by _ = []

abbrev pub put_runs : Step → List Run
put_runs step = runs_by step.kind

abbrev pub extents_by : List ℕ → StepKind → Site → List Extent
extents_by bytes (Put put) site = put_extents put bytes
extents_by bytes _ site = []

-- what a step adds to what the site has in the store; it stands there before the step is recorded
abbrev pub step_extents : HistoryStep → Site → List Extent
step_extents made site = extents_by made.bytes made.step.kind site
