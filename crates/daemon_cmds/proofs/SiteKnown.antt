-- What the code keeps of the lines of a site.conf is what they told.
use Rattle.std.proofs.Common.{◌≡◌, ℕ, List, [], ◌∷◌, ◌++◌, Option, None, refl, sym, ap, ◌∙◌, subst}
use Rattle.std.specs.Prelude.{Result}
use Rattle.std.specs.Option.{option_or}
use Rattle.site_text.specs.declared.line.Line.{Line}
use Rattle.site_text.specs.declared.fault.LineError.{LineError}
use Rattle.site_text.specs.Fields.{Field, Read, Gives}
use Rattle.site_text.specs.Directives.{no_words}
use Rattle.site_text.proofs.TableLaws.{named_stands}
use Rattle.site_text.proofs.LastLaws.{last_of_more, all_of_one, all_of_none}
use Rattle.daemon_cmds.specs.declared.site_conf.Library.{Library}
use Rattle.daemon_cmds.specs.declared.site_conf.Volume.{Volume}
use Rattle.daemon_cmds.specs.declared.site_conf.SiteSoFar.{SiteSoFar}
use Rattle.daemon_cmds.specs.declared.site_conf.SiteReading.{SiteReading}
use Rattle.daemon_cmds.specs.declared.site_conf.SiteReading.TheVariants as readings
use Rattle.daemon_cmds.specs.SiteTold.{name_in, cache_in, high_in, low_in, library_in, volume_in, name_of, cache_of, high_of, low_of, libraries_of, volumes_of}
use Rattle.daemon_cmds.specs.SiteRules.{site_forms, site_bars}
use Rattle.daemon_cmds.specs.SiteSteps.{site_line, site_so_far, KnowsSite, with_site_reading, site_words, form_of, bar_of, form_by_word, bar_by_word, none_by_word, line_by_words}
use Rattle.daemon_cmds.proofs.BarWords.{bar_stands, by_words}

-- ---- one line more

abbrev made : Option Field → Option ℕ → Option ℕ → Option ℕ → List Library → List Volume → SiteSoFar
made name cache high low libraries volumes = record { name = name; cache = cache; high = high; low = low; libraries = libraries; volumes = volumes }

parts : (said : List SiteReading) (r : SiteReading) (libraries : List Library) (volumes : List Volume) → libraries_of (said ++ r ∷ []) ≡ libraries → volumes_of (said ++ r ∷ []) ≡ volumes
    → made (option_or (name_in r) (name_of said)) (option_or (cache_in r) (cache_of said)) (option_or (high_in r) (high_of said)) (option_or (low_in r) (low_of said)) libraries volumes ≡ site_so_far (said ++ r ∷ [])
parts said r libraries volumes more_libraries more_volumes =
    rw (last_of_more name_in said r, last_of_more cache_in said r, last_of_more high_in said r, last_of_more low_in said r, more_libraries, more_volumes) refl

one_more : (said : List SiteReading) (r : SiteReading) → with_site_reading (site_so_far said) r ≡ site_so_far (said ++ r ∷ [])
one_more said (readings.FileSystem name) = let r = readings.FileSystem name in parts said r (libraries_of said) (volumes_of said) (all_of_none library_in said r refl) (all_of_none volume_in said r refl)
one_more said (readings.Cache n) = let r = readings.Cache n in parts said r (libraries_of said) (volumes_of said) (all_of_none library_in said r refl) (all_of_none volume_in said r refl)
one_more said (readings.High n) = let r = readings.High n in parts said r (libraries_of said) (volumes_of said) (all_of_none library_in said r refl) (all_of_none volume_in said r refl)
one_more said (readings.Low n) = let r = readings.Low n in parts said r (libraries_of said) (volumes_of said) (all_of_none library_in said r refl) (all_of_none volume_in said r refl)
one_more said (readings.Library l) = let r = readings.Library l in parts said r (libraries_of said ++ l ∷ []) (volumes_of said) (all_of_one library_in said r l refl) (all_of_none volume_in said r refl)
one_more said (readings.Volume v) = let r = readings.Volume v in parts said r (libraries_of said) (volumes_of said ++ v ∷ []) (all_of_none library_in said r refl) (all_of_one volume_in said r v refl)

pub more : (said : List SiteReading) (known now : SiteSoFar) (r : SiteReading) → now ≡ with_site_reading known r → KnowsSite said known → KnowsSite (said ++ r ∷ []) now
more said known now r is knows = is ∙ ap (λ (k : SiteSoFar). with_site_reading k r) knows ∙ one_more said r

-- ---- reading a line by the code's own words

no_word : (word : Field) → none_by_word word ≡ None
no_word word = refl

words_read : (said : List SiteReading) (fields : List Field) → line_by_words (site_so_far said) fields ≡ site_line said (record { number = 0; fields = fields })
words_read said fields = by_words (bar_by_word (site_so_far said)) (form_by_word (site_so_far said)) none_by_word (site_bars said) (site_forms said) no_words
    (bar_stands (bar_of (site_so_far said)) site_words) (λ name. sym (named_stands (form_of (site_so_far said)) site_words name)) no_word fields

pub line_read : (said : List SiteReading) (known : SiteSoFar) (line : Line) (result : Result SiteReading LineError) → KnowsSite said known → Gives (λ r. r) result (line_by_words known line.fields) → Gives (λ r. r) result (site_line said line)
line_read said known line result knows gives =
    subst (λ (read : Read SiteReading). Gives (λ r. r) result read) (ap (λ (k : SiteSoFar). line_by_words k line.fields) knows ∙ words_read said line.fields) gives
