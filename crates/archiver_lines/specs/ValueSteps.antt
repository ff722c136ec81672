-- Value lines of archiver.cmd by the words that the code has for their directives.
use Rattle.std.specs.Prelude.{List, [], ◌∷◌, codes}
use Rattle.base.specs.declared.limits.TheConstants.{NAME_MAX}
use Rattle.site_text.specs.Fields.{Field, Read}
use Rattle.site_text.specs.Directives.{no_words}
use Rattle.site_text.specs.DirectiveSteps.{read_directive}
use Rattle.site_text.specs.Values.{name_value}
use Rattle.site_text.specs.Forms.{Form, one_text, ignored_form}
use Rattle.archiver_lines.specs.declared.value_lines.Directive.{Directive}
use Rattle.archiver_lines.specs.declared.value_lines.Directive.TheVariants.{FileSystem, Archivemeta, Ignored}
use Rattle.archiver_lines.specs.declared.reading.Reading.{Reading}
use Rattle.archiver_lines.specs.declared.reading.Reading.TheVariants as readings
use Rattle.archiver_lines.specs.ValueForms.{off_value, value_names}

abbrev pub directives : List (Field × Directive)
directives =
    (codes "fs", FileSystem)
    ∷ (codes "archivemeta", Archivemeta)
    ∷ (codes "bufsize", Ignored)
    ∷ (codes "directio", Ignored)
    ∷ (codes "logfile", Ignored)
    ∷ (codes "notify", Ignored)
    ∷ (codes "timeout", Ignored)
    ∷ (codes "setarchdone", Ignored)
    ∷ (codes "examine", Ignored)
    ∷ (codes "background_interval", Ignored)
    ∷ (codes "background_time", Ignored)
    ∷ (codes "interval", Ignored)
    ∷ (codes "scanlist_squash", Ignored)
    ∷ (codes "drives", Ignored)
    ∷ []

-- the form of a directive that the code has a word for
abbrev pub form_of : Directive → Form Reading
form_of FileSystem = one_text (name_value NAME_MAX) readings.FileSystem
form_of Archivemeta = one_text off_value (λ off. readings.Nothing)
form_of Ignored = ignored_form readings.Nothing

-- what a value line says
unfoldable pub value_reading : List Field → Read Reading
value_reading fields = read_directive value_names no_words fields
