-- the texts of the five command files
use Rattle.std.specs.Prelude.{[]}
use Rattle.site_types.specs.declared.file.SiteTexts.{SiteTexts}

-- no text
abbrev pub no_texts : SiteTexts
no_texts = record { site = []; archiver = []; stager = []; releaser = []; recycler = [] }
