-- The steps that change one file and leave its bytes: what their changes leave, and that the file is still kept.
use Rattle.std.proofs.Common.{ℕ, ◌+◌, ◌≤◌, refl, arith}
use Rattle.site_types.specs.declared.file.FileRec.{FileRec}
use Rattle.site_history.specs.AccessedSteps.{accessed_at}
use Rattle.site_history.specs.Kept.{IsFileKept}
use Rattle.site_history.proofs.ChangedFiles.{LeavesBytes}

-- a file is kept by a later step that leaves all but its moments
kept-moments : (count moment later : ℕ) (file : FileRec) (modified accessed resided : ℕ) → modified ≤ later → accessed ≤ later → resided ≤ later → IsFileKept count moment file
    → IsFileKept (count + 1) later (record file { modified = modified; accessed = accessed; resided = resided })
kept-moments count moment later file modified accessed resided m a r kept = record {
  path = kept.path;
  owner = kept.owner;
  group = kept.group;
  cached = kept.cached;
  small = kept.small;
  maximal = kept.maximal;
  blocks = kept.blocks;
  from_one = kept.from_one;
  generation = omega (arith, kept.generation);
  modified = m;
  accessed = a;
  resided = r;
}

-- and by one that leaves it
pub kept-later : (count moment later : ℕ) (file : FileRec) → moment ≤ later → IsFileKept count moment file → IsFileKept (count + 1) later file
kept-later count moment later file le kept =
    kept-moments count moment later file file.modified file.accessed file.resided (omega (arith, kept.modified)) (omega (arith, kept.accessed)) (omega (arith, kept.resided)) kept

-- an access
pub accessed_leaves : (moment : ℕ) → LeavesBytes (accessed_at moment)
accessed_leaves moment = record { inode = λ file. refl; length = λ file. refl; cached = λ file. refl; runs = λ file. refl }

pub kept-accessed : (count moment later : ℕ) (file : FileRec) → moment ≤ later → IsFileKept count moment file → IsFileKept (count + 1) later (accessed_at later file)
kept-accessed count moment later file le kept =
    kept-moments count moment later file file.modified later file.resided (omega (arith, kept.modified)) (omega arith) (omega (arith, kept.resided)) kept
