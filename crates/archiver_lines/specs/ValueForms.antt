-- Value lines of archiver.cmd: each directive with the form of its values.
use Rattle.std.specs.Prelude.{[], ◌∷◌, codes, Ok, Err, if◌then◌else◌}
use Rattle.std.specs.Str.{bytes_eq}
use Rattle.base.specs.declared.limits.TheConstants.{NAME_MAX}
use Rattle.site_text.specs.declared.fault.ConfFault.TheVariants.{BadValue}
use Rattle.site_text.specs.Fields.{Field, Read}
use Rattle.site_text.specs.Values.{name_value}
use Rattle.site_text.specs.Forms.{one_text, ignored_form}
use Rattle.site_text.specs.Directives.{FormTable}
use Rattle.archiver_lines.specs.declared.reading.Reading.{Reading}
use Rattle.archiver_lines.specs.declared.reading.Reading.TheVariants as readings

-- the word `off`
abbrev pub off_value : Field → Read Field
off_value field = if bytes_eq field (codes "off") then Ok field else Err BadValue

-- `fs = NAME`, `archivemeta = off`, and those without effect, which take any values
abbrev pub value_names : FormTable Reading
value_names =
    (codes "fs", one_text (name_value NAME_MAX) readings.FileSystem)
    ∷ (codes "archivemeta", one_text off_value (λ off. readings.Nothing))
    ∷ (codes "bufsize", ignored_form readings.Nothing)
    ∷ (codes "directio", ignored_form readings.Nothing)
    ∷ (codes "logfile", ignored_form readings.Nothing)
    ∷ (codes "notify", ignored_form readings.Nothing)
    ∷ (codes "timeout", ignored_form readings.Nothing)
    ∷ (codes "setarchdone", ignored_form readings.Nothing)
    ∷ (codes "examine", ignored_form readings.Nothing)
    ∷ (codes "background_interval", ignored_form readings.Nothing)
    ∷ (codes "background_time", ignored_form readings.Nothing)
    ∷ (codes "interval", ignored_form readings.Nothing)
    ∷ (codes "scanlist_squash", ignored_form readings.Nothing)
    ∷ (codes "drives", ignored_form readings.Nothing)
    ∷ []
