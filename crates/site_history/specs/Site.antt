-- A site: what it keeps of its files, volumes and queue, and the bytes of its files.
use Rattle.std.specs.Prelude.{ℕ, ◌/◌, ◌==◌, Bool, false, Option, None, List, [], map, find, flat_map}
use Rattle.std.specs.List.{enumerate_from}
use Rattle.std.specs.Option.{option_map_or}
use Rattle.std.specs.Str.{bytes_eq}
use Rattle.daemon_cmds.specs.declared.site_conf.Volume.{Volume}
use Rattle.daemon_cmds.specs.declared.site_conf.SiteConf.{SiteConf}
use Rattle.site_types.specs.declared.file.FileRec.{FileRec}
use Rattle.site_types.specs.declared.file.Run.{Run}
use Rattle.site_types.specs.declared.file.SiteTexts.{SiteTexts}
use Rattle.site_types.specs.Texts.{no_texts}
use Rattle.configuration.specs.declared.read.Configuration.{Configuration}
use Rattle.configuration.specs.ConfigurationTold.{configuration_of}

-- ---- what a site keeps

-- a volume of the site
pub record VolumeState : Type 0 where
  -- its place in the catalog, from 0
  pub number : ℕ
  pub vsn : List ℕ
  -- the place of its library among the site's, from 0
  pub library : ℕ
  pub media : List ℕ
  -- in bytes, a multiple of 512
  pub capacity : ℕ
  -- the end of what was written, in bytes, a multiple of 512
  pub used : ℕ
  -- 1 for a new volume, and one more at each relabelling
  pub label : ℕ
  pub readonly : Bool
  pub unavailable : Bool
  -- the moment at which it was marked for recycling, in seconds
  pub recycling : Option ℕ
  -- the key that it is reserved for; empty where it is not reserved
  pub reserved : List ℕ

-- what a site keeps, without any byte of a file
pub record Fields : Type 0 where
  -- by rising inode
  pub files : List FileRec
  -- in the order of the catalog
  pub volumes : List VolumeState
  -- the inodes that are to be staged, in the order in which they were wanted
  pub queue : List ℕ
  -- the inode of the next new file
  pub next_inode : ℕ
  -- that of the last step, in seconds
  pub moment : ℕ
  -- the command files, by which the site is configured
  pub texts : SiteTexts
  -- what they say
  pub configuration : Configuration

-- all bytes of the file of an inode
pub record FileBytes : Type 0 where
  pub inode : ℕ
  pub bytes : List ℕ

pub record Site : Type 0 where
  pub fields : Fields
  pub contents : List FileBytes

-- ---- the first site

-- a volume on which nothing was written
abbrev pub fresh_volume : ℕ × Volume → VolumeState
fresh_volume (number, volume) = record {
  number = number;
  vsn = volume.vsn;
  library = volume.library;
  media = volume.media;
  capacity = volume.capacity;
  used = 0;
  label = 1;
  readonly = false;
  unavailable = false;
  recycling = None;
  reserved = [];
}

-- the volumes of a site that is configured anew
abbrev pub fresh_volumes : SiteConf → List VolumeState
fresh_volumes site = map fresh_volume (enumerate_from 0 site.volumes)

-- the site of five empty texts: a cache of 64 MiB, no volume and no file
abbrev pub first_fields : Fields
first_fields = record {
  files = [];
  volumes = fresh_volumes (configuration_of no_texts).site;
  queue = [];
  next_inode = 1;
  moment = 0;
  texts = no_texts;
  configuration = configuration_of no_texts;
}

abbrev pub first_site : Site
first_site = record { fields = first_fields; contents = [] }

-- ---- looking up

-- how many blocks of 4,096 bytes the cache has
abbrev pub cache_blocks : Fields → ℕ
cache_blocks fields = fields.configuration.site.cache / 4096

-- the file of a path
abbrev pub file_at : List ℕ → List FileRec → Option FileRec
file_at path files = find (λ (file : FileRec). bytes_eq file.path path) files

-- the blocks that files hold
abbrev pub held_runs : List FileRec → List Run
held_runs files = flat_map (λ (file : FileRec). file.runs) files

-- the bytes of a file
abbrev pub bytes_of : List FileBytes → ℕ → List ℕ
bytes_of contents inode = option_map_or (λ (file : FileBytes). file.bytes) (find (λ (file : FileBytes). file.inode == inode) contents) []
