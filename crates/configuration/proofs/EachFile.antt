-- Each of the five files: what the steps read of it is what it says, both ways, and so with what is wrong.
use Rattle.std.proofs.Common.{◌≡◌, ℕ, List, Result, Ok, Err, Option}
use Rattle.site_text.specs.declared.fault.ConfFault.{ConfFault}
use Rattle.site_text.specs.declared.fault.ConfRefusal.{ConfRefusal}
use Rattle.site_text.specs.declared.line.Line.{Line}
use Rattle.site_text.specs.FileSteps.{LineReader, file_reading}
use Rattle.site_text.specs.FileRules.{FileSays, FileWrong, no_section}
use Rattle.site_text.specs.Directives.{no_words}
use Rattle.site_text.proofs.FormLaws.{directive_said, directive_wrong, directive_read, directive_refused}
use Rattle.site_text.proofs.FileMeaning.{Agrees, said_is_read, read_is_said, wrong_is_refused, refused_is_wrong}
use Rattle.daemon_cmds.specs.declared.site_conf.SiteConf.{SiteConf}
use Rattle.daemon_cmds.specs.SiteRules.{site_bars, site_forms, SiteLineSays, SiteLineWrong}
use Rattle.daemon_cmds.specs.SiteSteps.{site_line}
use Rattle.daemon_cmds.specs.StagerSteps.{stager_line}
use Rattle.daemon_cmds.specs.StagerRules.{stager_forms, StagerLineSays, StagerLineWrong}
use Rattle.daemon_cmds.specs.ReleaserRules.{releaser_bars, releaser_forms, word_forms, ReleaserLineSays, ReleaserLineWrong}
use Rattle.daemon_cmds.specs.ReleaserSteps.{releaser_line}
use Rattle.daemon_cmds.specs.RecyclerSteps.{recycler_line}
use Rattle.daemon_cmds.specs.RecyclerRules.{RecyclerLineSays, RecyclerLineWrong}
use Rattle.daemon_cmds.specs.BarLaws.{barred_said, barred_wrong, barred_read, barred_refused}
use Rattle.daemon_cmds.specs.RecyclerLaws.{recycler_said, recycler_wrong, recycler_read, recycler_refused}
use Rattle.archiver_lines.specs.LineSteps.{line_of}
use Rattle.archiver_lines.specs.LineRules.{LineSays, LineWrong}
use Rattle.archiver_lines.specs.Told.{open_line}
use Rattle.archiver_lines.proofs.LineLaws.{line_said, line_read, line_wrong, line_refused}
use Rattle.configuration.specs.ConfigurationSteps.{site_reading, archiver_reading, stager_reading, releaser_reading, recycler_reading}

-- this is what the steps read of a text of which the relations say it
pub record Means {R : Type 0} (LineSays : List R → Line → R → Type 0) (LineWrong : List R → Line → ConfFault → Type 0) (open_section : List R → Option ℕ) (text : List ℕ) (reading : Result (List R) ConfRefusal) : Type 0 where
  pub said : (said : List R) → FileSays LineSays open_section text said → reading ≡ Ok said
  pub read : (said : List R) → reading ≡ Ok said → FileSays LineSays open_section text said
  pub wrong : (refusal : ConfRefusal) → FileWrong LineSays LineWrong open_section text refusal → reading ≡ Err refusal
  pub refused : (refusal : ConfRefusal) → reading ≡ Err refusal → FileWrong LineSays LineWrong open_section text refusal

-- where it is so of each line, it is so of whole texts
means : {R : Type 0} (line : LineReader R) (LineSays : List R → Line → R → Type 0) (LineWrong : List R → Line → ConfFault → Type 0) (open_section : List R → Option ℕ) → Agrees line LineSays LineWrong
    → (text : List ℕ) → Means LineSays LineWrong open_section text (file_reading line open_section text)
means line LineSays LineWrong open_section agrees text = record {
  said = said_is_read line LineSays LineWrong open_section agrees text;
  read = read_is_said line LineSays LineWrong open_section agrees text;
  wrong = wrong_is_refused line LineSays LineWrong open_section agrees text;
  refused = refused_is_wrong line LineSays LineWrong open_section agrees text;
}

-- ---- site.conf

site_agrees : Agrees site_line SiteLineSays SiteLineWrong
site_agrees = record {
  says = λ before line r. (
    barred_said (site_bars before) (site_forms before) no_words line.fields r,
    barred_read (site_bars before) (site_forms before) no_words line.fields r,
  );
  wrong = λ before line fault. (
    barred_wrong (site_bars before) (site_forms before) no_words line.fields fault,
    barred_refused (site_bars before) (site_forms before) no_words line.fields fault,
  );
}

pub site_means : (text : List ℕ) → Means SiteLineSays SiteLineWrong no_section text (site_reading text)
unfolding site_reading
site_means text = means site_line SiteLineSays SiteLineWrong no_section site_agrees text

-- ---- archiver.cmd

archiver_agrees : (site : SiteConf) → Agrees (line_of site.name) (LineSays site.name) (LineWrong site.name)
archiver_agrees site = record {
  says = λ before line r. (line_said site.name before line r, line_read site.name before line r);
  wrong = λ before line fault. (line_wrong site.name before line fault, line_refused site.name before line fault);
}

pub archiver_means : (site : SiteConf) (text : List ℕ) → Means (LineSays site.name) (LineWrong site.name) open_line text (archiver_reading site text)
unfolding archiver_reading
archiver_means site text = means (line_of site.name) (LineSays site.name) (LineWrong site.name) open_line (archiver_agrees site) text

-- ---- stager.cmd

stager_agrees : (site : SiteConf) → Agrees (stager_line site) (StagerLineSays site) (StagerLineWrong site)
stager_agrees site = record {
  says = λ before line r. (directive_said (stager_forms site.libraries) no_words line.fields r, directive_read (stager_forms site.libraries) no_words line.fields r);
  wrong = λ before line fault. (directive_wrong (stager_forms site.libraries) no_words line.fields fault, directive_refused (stager_forms site.libraries) no_words line.fields fault);
}

pub stager_means : (site : SiteConf) (text : List ℕ) → Means (StagerLineSays site) (StagerLineWrong site) no_section text (stager_reading site text)
unfolding stager_reading
stager_means site text = means (stager_line site) (StagerLineSays site) (StagerLineWrong site) no_section (stager_agrees site) text

-- ---- releaser.cmd

releaser_agrees : Agrees releaser_line ReleaserLineSays ReleaserLineWrong
releaser_agrees = record {
  says = λ before line r. (
    barred_said (releaser_bars before) releaser_forms word_forms line.fields r,
    barred_read (releaser_bars before) releaser_forms word_forms line.fields r,
  );
  wrong = λ before line fault. (
    barred_wrong (releaser_bars before) releaser_forms word_forms line.fields fault,
    barred_refused (releaser_bars before) releaser_forms word_forms line.fields fault,
  );
}

pub releaser_means : (text : List ℕ) → Means ReleaserLineSays ReleaserLineWrong no_section text (releaser_reading text)
unfolding releaser_reading
releaser_means text = means releaser_line ReleaserLineSays ReleaserLineWrong no_section releaser_agrees text

-- ---- recycler.cmd

recycler_agrees : (site : SiteConf) → Agrees (recycler_line site) (RecyclerLineSays site) (RecyclerLineWrong site)
recycler_agrees site = record {
  says = λ before line r. (recycler_said site.libraries line.number line.fields r, recycler_read site.libraries line.number line.fields r);
  wrong = λ before line fault. (recycler_wrong site.libraries line.number line.fields fault, recycler_refused site.libraries line.number line.fields fault);
}

pub recycler_means : (site : SiteConf) (text : List ℕ) → Means (RecyclerLineSays site) (RecyclerLineWrong site) no_section text (recycler_reading site text)
unfolding recycler_reading
recycler_means site text = means (recycler_line site) (RecyclerLineSays site) (RecyclerLineWrong site) no_section (recycler_agrees site) text
