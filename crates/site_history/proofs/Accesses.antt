-- Steps of a file that is there: `bare_legal` says that one may come, and `read_length` how many bytes a read answers.
use Rattle.std.proofs.Common.{◌≡◌, ℕ, ◌≤◌, ◌<◌, ◌^◌, length, take, min, arith}
use Rattle.std.proofs.lemmas.List.{length-take}
use Rattle.site_types.specs.declared.file.FileRec.{FileRec}
use Rattle.site_types.specs.declared.step.StepKind.{StepKind}
use Rattle.site_types.specs.Ranges.{Ranges}
use Rattle.step_codec.proofs.InRange.{in_range}
use Rattle.site_history.specs.Terms.{Terms}
use Rattle.site_history.specs.Site.{Fields, Site, bytes_of}
use Rattle.site_history.specs.Steps.{MayCome, IsLegal}
use Rattle.site_history.specs.Replies.{bare_step}
use Rattle.site_history.specs.Kept.{HaveAllBytes}
use Rattle.site_history.proofs.KeptLaws.{file-bytes}
use Rattle.site_history.proofs.Finds.{StandsAt}

-- a step without bytes may come where its fields are in their ranges and its kind's rule holds
pub bare_legal : (terms : Terms) (fields : Fields) (moment : ℕ) → fields.moment ≤ moment → moment < 2 ^ 40 → (kind : StepKind) → Ranges kind → MayCome terms fields moment kind
    → IsLegal terms fields (bare_step moment kind).step
bare_legal terms fields moment later range kind ranges rule = (in_range (bare_step moment kind).step range ranges, later, rule)

-- the first bytes of a file, as many as are asked for and are there
pub read_length : (site : Site) (file : FileRec) → StandsAt site.fields.files file → HaveAllBytes site → (upto : ℕ) → length (take upto (bytes_of site.contents file.inode)) ≡ min upto file.length
read_length site file stands bytes upto = omega (arith, length-take upto (bytes_of site.contents file.inode), file-bytes site file stands bytes)
