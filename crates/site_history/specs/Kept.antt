-- What holds of the fields of a site after so many steps of any history.
use Rattle.std.specs.Prelude.{◌≡◌, ℕ, ◌+◌, ◌<◌, ◌≤◌, IsTrue, List, [], ◌∷◌, length}
use Rattle.std.specs.List.{AllByRecursion}
use Rattle.base.specs.declared.limits.TheConstants.{CACHE_BLOCKS_MAX, END_OF_TIME, FILE_COUNT_MAX, FILE_SIZE_MAX, INODE_MAX}
use Rattle.base.specs.Paths.{is_legal_path, is_legal_name}
use Rattle.site_types.specs.declared.file.FileRec.{FileRec}
use Rattle.configuration.specs.ConfigurationRules.{Says}
use Rattle.cache_space.specs.Blocks.{blocks_for}
use Rattle.cache_space.specs.Space.{AreThere, AreDisjoint, AreMaximal, blocks_in}
use Rattle.site_history.specs.Site.{Fields, Site, held_runs, bytes_of, cache_blocks, fresh_volumes}

-- all inodes are below a number
abbrev pub AreBelow : ℕ → List FileRec → Type 0
AreBelow n files = AllByRecursion (λ (file : FileRec). file.inode < n) files

-- the inodes rise, the first from a number on
abbrev pub AreRisingFrom : ℕ → List FileRec → Type 0
AreRisingFrom low [] = Unit {0}
AreRisingFrom low (file ∷ files) = (low ≤ file.inode) × AreRisingFrom (file.inode + 1) files

-- What holds of a file, the last of so many steps at this moment: it is whole in the cache, its runs are maximal and as many
-- blocks as its length needs, its generation is one of the steps, and no moment of it is later.
pub record IsFileKept (count moment : ℕ) (file : FileRec) : Type 0 where
  pub path : IsTrue (is_legal_path file.path)
  pub owner : IsTrue (is_legal_name file.owner)
  pub group : IsTrue (is_legal_name file.group)
  pub cached : file.cached ≡ file.length
  pub small : file.length ≤ FILE_SIZE_MAX
  pub maximal : AreMaximal file.runs
  pub blocks : blocks_in file.runs ≡ blocks_for file.length
  pub from_one : 1 ≤ file.generation
  pub generation : file.generation ≤ count
  pub modified : file.modified ≤ moment
  pub accessed : file.accessed ≤ moment
  pub resided : file.resided ≤ moment

-- What holds of the fields: inodes rise from 1 on below the next one, which is a number of four bytes; each file is kept, and no
-- block is in two runs; the configuration is what the texts say, with a cache of 1 to 16,777,216 blocks, nothing is written on
-- a volume, and nothing is to be staged.
pub record IsKept (count : ℕ) (fields : Fields) : Type 0 where
  pub rising : AreRisingFrom 1 fields.files
  pub below : AreBelow fields.next_inode fields.files
  pub from_one : 1 ≤ fields.next_inode
  pub small : fields.next_inode ≤ INODE_MAX + 1
  pub few : length fields.files ≤ FILE_COUNT_MAX
  pub files : AllByRecursion (IsFileKept count fields.moment) fields.files
  pub there : AreThere (cache_blocks fields) (held_runs fields.files)
  pub disjoint : AreDisjoint (held_runs fields.files)
  pub volumes : fields.volumes ≡ fresh_volumes fields.configuration.site
  pub queue : fields.queue ≡ []
  pub moment : fields.moment < END_OF_TIME
  pub configured : Says fields.texts fields.configuration
  pub blocks : (1 ≤ cache_blocks fields) × (cache_blocks fields ≤ CACHE_BLOCKS_MAX)

-- each file has as many bytes as its length says
abbrev pub HaveAllBytes : Site → Type 0
HaveAllBytes site = AllByRecursion (λ (file : FileRec). length (bytes_of site.contents file.inode) ≡ file.length) site.fields.files
