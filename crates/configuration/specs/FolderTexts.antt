-- The texts of a folder that are a site's command files.
use Rattle.std.specs.Prelude.{◌≡◌, ℕ, ◌+◌, List, [], take, codes, Option, Some, None}
use Rattle.std.specs.Option.{option_map_or}
use Rattle.base.specs.declared.limits.TheConstants.{COMMAND_FILE_MAX}
use Rattle.outside.specs.declared.folder.NamedText.{NamedText}
use Rattle.outside.specs.Folders.{text_under}
use Rattle.site_types.specs.declared.file.SiteTexts.{SiteTexts}

-- The text under a name, up to its 65,537th byte: a longer one is too large for a command file, whatever follows. Where there is
-- none it is empty.
abbrev pub text_read : List NamedText → List ℕ → List ℕ
text_read folder name = option_map_or (take (COMMAND_FILE_MAX + 1)) (text_under folder name) []

abbrev pub texts_in : List NamedText → SiteTexts
texts_in folder = record {
  site = text_read folder (codes "site.conf");
  archiver = text_read folder (codes "archiver.cmd");
  stager = text_read folder (codes "stager.cmd");
  releaser = text_read folder (codes "releaser.cmd");
  recycler = text_read folder (codes "recycler.cmd");
}

-- these were read of a folder; one that tells nothing may give any
abbrev pub AreRead : Option (List NamedText) → SiteTexts → Type 0
AreRead None texts = Unit {0}
AreRead (Some folder) texts = texts ≡ texts_in folder

-- this was read of a folder under a name
abbrev pub IsRead : Option (List NamedText) → List ℕ → List ℕ → Type 0
IsRead None name text = Unit {0}
IsRead (Some folder) name text = text ≡ text_read folder name
