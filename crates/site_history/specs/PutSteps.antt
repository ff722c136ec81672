-- A put: the file that it leaves, when it may come, and the bytes that it needs in the store.
use Rattle.std.specs.Prelude.{◌≡◌, ℕ, ◌+◌, ◌<◌, ◌≤◌, IsTrue, Option, Some, None, List, length, MatchOption}
use Rattle.std.specs.Option.{option_map_or}
use Rattle.base.specs.declared.limits.TheConstants.{FILE_COUNT_MAX, FILE_SIZE_MAX, INODE_MAX}
use Rattle.site_types.specs.declared.file.FileRec.{FileRec}
use Rattle.site_types.specs.declared.file.ReleaseKind.{ReleaseKind}
use Rattle.site_types.specs.declared.file.StageKind.{StageKind}
use Rattle.site_types.specs.declared.step.PutStep.{PutStep}
use Rattle.site_types.specs.Copies.{no_copies}
use Rattle.base.specs.Paths.{is_legal_path, is_legal_name}
use Rattle.cache_space.specs.Blocks.{blocks_for}
use Rattle.cache_space.specs.Space.{AreFree, AreMaximal, blocks_in}
use Rattle.site_history.specs.Terms.{Terms}
use Rattle.site_history.specs.Site.{Fields, FileBytes, file_at, held_runs, cache_blocks}
use Rattle.site_history.specs.Changes.{with_file, with_bytes, without_inode}
use Rattle.site_history.specs.Extents.{Extent, extents_over}

-- The file that a put leaves: a new one, or one whose bytes, owner and group are replaced. It is whole, and its three
-- moments are that of the put. A replaced file keeps its attributes and its copies, which are those of an earlier
-- generation from then on.
abbrev pub stored_file : Option FileRec → ℕ → PutStep → FileRec
stored_file None moment put = record {
  inode = put.inode;
  path = put.path;
  owner = put.owner;
  group = put.group;
  modified = moment;
  accessed = moment;
  resided = moment;
  generation = 1;
  length = put.length;
  cached = put.length;
  release = ReleaseKind.Default;
  partial = 0;
  stage = StageKind.Default;
  runs = put.runs;
  copies = no_copies;
}
stored_file (Some file) moment put = record file {
  owner = put.owner;
  group = put.group;
  modified = moment;
  accessed = moment;
  resided = moment;
  generation = file.generation + 1;
  length = put.length;
  cached = put.length;
  runs = put.runs;
}

-- the inode of a put: that of the file that is there, or the next one
abbrev pub inode_for : Fields → List ℕ → ℕ
inode_for fields path = option_map_or (λ (file : FileRec). file.inode) (file_at path fields.files) fields.next_inode

-- where a file is new, the next inode is used up
abbrev pub next_after : Fields → List ℕ → ℕ
next_after fields path = option_map_or (λ (file : FileRec). fields.next_inode) (file_at path fields.files) (fields.next_inode + 1)

abbrev pub put_effect : Terms → ℕ → PutStep → Fields → Fields
put_effect terms moment put fields = record fields {
  files = with_file (stored_file (file_at put.path fields.files) moment put) fields.files;
  queue = without_inode put.inode fields.queue;
  next_inode = next_after fields put.path;
}

-- it comes with the bytes of its file
abbrev pub put_contents : List ℕ → PutStep → List FileBytes → List FileBytes
put_contents bytes put contents = with_bytes (record { inode = put.inode; bytes = bytes }) contents

-- A put may come where path and names are legal, the length is at most 16,777,216 bytes, the inode is that of the path's
-- file or the next one, where a further file fits, and the runs are maximal runs of free blocks, as many as the length needs.
pub record IsLegalPut (fields : Fields) (put : PutStep) : Type 0 where
  pub path : IsTrue (is_legal_path put.path)
  pub owner : IsTrue (is_legal_name put.owner)
  pub group : IsTrue (is_legal_name put.group)
  pub small : put.length ≤ FILE_SIZE_MAX
  pub inode : put.inode ≡ inode_for fields put.path
  pub fits : MatchOption (file_at put.path fields.files) ((length fields.files < FILE_COUNT_MAX) × (fields.next_inode ≤ INODE_MAX)) (λ _. Unit {0})
  pub maximal : AreMaximal put.runs
  pub free : AreFree (cache_blocks fields) (held_runs fields.files) put.runs
  pub blocks : blocks_in put.runs ≡ blocks_for put.length

-- its bytes stand at its runs before it is recorded
abbrev pub put_extents : PutStep → List ℕ → List Extent
put_extents put bytes = extents_over put.runs bytes
