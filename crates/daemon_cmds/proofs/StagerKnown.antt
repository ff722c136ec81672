-- What the code keeps of the lines of a stager.cmd is what they told.
use Rattle.std.proofs.Common.{◌≡◌, ℕ, ◌+◌, ◌==◌, Bool, true, false, List, [], ◌∷◌, ◌++◌, length, map, Option, Some, None, Result, Ok, Err, refl, sym, ap, ◌∙◌, subst, arith}
use Rattle.std.specs.Prelude.{slice_set, unwrap_or, if◌then◌else◌, IfOk}
use Rattle.std.specs.List.{enumerate_from}
use Rattle.std.specs.Option.{option_or}
use Rattle.std.proofs.lemmas.List.{length-map}
use Rattle.std.proofs.lemmas.List.FromFn.{length-enumerate_from}
use Rattle.std.proofs.lemmas.Bool.{eqb-true, eqb-false}
use Rattle.site_text.specs.declared.line.Line.{Line}
use Rattle.site_text.specs.declared.fault.LineError.{LineError}
use Rattle.site_text.specs.declared.fault.ConfError.{ConfError}
use Rattle.site_text.specs.declared.fault.ConfError.TheVariants.{Refused, NoMemory}
use Rattle.site_text.specs.Fields.{Field, Read, Gives}
use Rattle.site_text.specs.FileRules.{FileAnswers, no_section}
use Rattle.site_text.specs.LastValues.{last_of}
use Rattle.site_text.specs.Directives.{no_words}
use Rattle.site_text.specs.DirectiveSteps.{read_by}
use Rattle.site_text.specs.Words.{named}
use Rattle.site_text.proofs.FormLaws.{read_same}
use Rattle.site_text.proofs.TableLaws.{named_stands}
use Rattle.site_text.proofs.LastLaws.{last_of_more}
use Rattle.daemon_cmds.specs.declared.site_conf.Library.{Library}
use Rattle.daemon_cmds.specs.declared.site_conf.SiteConf.{SiteConf}
use Rattle.daemon_cmds.specs.declared.stager_conf.StagerConf.{StagerConf}
use Rattle.daemon_cmds.specs.declared.stager_conf.StagerReading.{StagerReading}
use Rattle.daemon_cmds.specs.declared.stager_conf.StagerReading.TheVariants as readings
use Rattle.daemon_cmds.specs.StagerTold.{drives_in, maxactive_in, copysel_in, drives_of, TellsStager}
use Rattle.daemon_cmds.specs.StagerRules.{stager_forms, StagerLineSays, StagerLineWrong}
use Rattle.daemon_cmds.specs.StagerSteps.{stager_line, with_stager_reading, stager_words, form_of, form_by_word, none_by_word, line_by_words}
use Rattle.daemon_cmds.proofs.Places.{by_place, unplaced, set_there}

-- ---- no line

pub nothing_told : (site : SiteConf) → map (λ (l : Library). l.drives) site.libraries ≡ drives_of site []
nothing_told site = sym (unplaced (λ (l : Library). l.drives) 0 site.libraries)

-- ---- one line more

-- the drives of a library at a place, by these lines
abbrev drives_at : List StagerReading → ℕ → Library → ℕ
drives_at said place l = unwrap_or (last_of (drives_in place) said) l.drives

one_more : (said : List StagerReading) (r : StagerReading) (place : ℕ) (l : Library) → drives_at (said ++ r ∷ []) place l ≡ unwrap_or (option_or (drives_in place r) (last_of (drives_in place) said)) l.drives
one_more said r place l = ap (λ (o : Option ℕ). unwrap_or o l.drives) (last_of_more (drives_in place) said r)

set_here : (said : List StagerReading) (library n place : ℕ) (l : Library) → place ≡ library → drives_at (said ++ readings.Drives library n ∷ []) place l ≡ n
set_here said library n place l is = one_more said (readings.Drives library n) place l ∙ by_test (library == place) refl
  where
    by_test : (b : Bool) → (library == place) ≡ b → unwrap_or (option_or (if b then Some n else None) (last_of (drives_in place) said)) l.drives ≡ n
    by_test true e = refl
    by_test false e = absurd (eqb-false library place e (sym is))

not_here : (said : List StagerReading) (library n place : ℕ) (l : Library) → (place ≡ library → ⊥) → drives_at (said ++ readings.Drives library n ∷ []) place l ≡ drives_at said place l
not_here said library n place l differs = one_more said (readings.Drives library n) place l ∙ by_test (library == place) refl
  where
    by_test : (b : Bool) → (library == place) ≡ b → unwrap_or (option_or (if b then Some n else None) (last_of (drives_in place) said)) l.drives ≡ drives_at said place l
    by_test true e = absurd (differs (sym (eqb-true library place e)))
    by_test false e = refl

drives_more : (site : SiteConf) (said : List StagerReading) (library n : ℕ) → slice_set (drives_of site said) library n ≡ drives_of site (said ++ readings.Drives library n ∷ [])
drives_more site said library n =
    set_there (drives_at said) (drives_at (said ++ readings.Drives library n ∷ [])) n library 0 site.libraries library (omega arith) (λ q l is. set_here said library n q l is) (λ q l differs. not_here said library n q l differs)

-- a line that says nothing of drives
same_drives : (site : SiteConf) (said : List StagerReading) (r : StagerReading) → ((place : ℕ) → drives_in place r ≡ None) → (n : ℕ) (libraries : List Library) → by_place (drives_at said) n libraries ≡ by_place (drives_at (said ++ r ∷ [])) n libraries
same_drives site said r none n [] = refl
same_drives site said r none n (l ∷ libraries) =
    let here : drives_at (said ++ r ∷ []) n l ≡ drives_at said n l = one_more said r n l ∙ ap (λ (o : Option ℕ). unwrap_or (option_or o (last_of (drives_in n) said)) l.drives) (none n) in
    rw (here, same_drives site said r none (n + 1) libraries) refl

more_told : (site : SiteConf) (said : List StagerReading) (conf : StagerConf) (r : StagerReading) → TellsStager site said conf → TellsStager site (said ++ r ∷ []) (with_stager_reading conf r)
more_told site said conf (readings.Drives library n) tells = let r = readings.Drives library n in record {
  drives = ap (λ (d : List ℕ). slice_set d library n) tells.drives ∙ drives_more site said library n;
  maxactive = rw (last_of_more maxactive_in said r) tells.maxactive;
  copysel = rw (last_of_more copysel_in said r) tells.copysel;
}
more_told site said conf (readings.MaxActive n) tells = let r = readings.MaxActive n in record {
  drives = tells.drives ∙ same_drives site said r (λ place. refl) 0 site.libraries;
  maxactive = rw (last_of_more maxactive_in said r) refl;
  copysel = rw (last_of_more copysel_in said r) tells.copysel;
}
more_told site said conf (readings.CopySel copies) tells = let r = readings.CopySel copies in record {
  drives = tells.drives ∙ same_drives site said r (λ place. refl) 0 site.libraries;
  maxactive = rw (last_of_more maxactive_in said r) tells.maxactive;
  copysel = rw (last_of_more copysel_in said r) refl;
}
more_told site said conf readings.Nothing tells = let r = readings.Nothing in record {
  drives = tells.drives ∙ same_drives site said r (λ place. refl) 0 site.libraries;
  maxactive = rw (last_of_more maxactive_in said r) tells.maxactive;
  copysel = rw (last_of_more copysel_in said r) tells.copysel;
}

pub more : (site : SiteConf) (said : List StagerReading) (conf now : StagerConf) (r : StagerReading) → now ≡ with_stager_reading conf r → TellsStager site said conf → TellsStager site (said ++ r ∷ []) now
more site said conf now r is tells = rw is (more_told site said conf r tells)

-- ---- each library has drives

pub told_drives : (site : SiteConf) (said : List StagerReading) (conf : StagerConf) → TellsStager site said conf → length conf.drives ≡ length site.libraries
told_drives site said conf tells =
    ap length tells.drives ∙ length-map (enumerate_from 0 site.libraries) (λ (l : ℕ × Library). drives_at said l.0 l.1) ∙ length-enumerate_from 0 site.libraries

pub each_has_drives : (site : SiteConf) (text : List ℕ) (result : Result StagerConf ConfError) → FileAnswers (StagerLineSays site) (StagerLineWrong site) no_section (TellsStager site) text result
    → IfOk result (λ conf. length conf.drives ≡ length site.libraries)
each_has_drives site text (Ok conf) (said, says, tells) = told_drives site said conf tells
each_has_drives site text (Err (Refused refusal)) answers = tt
each_has_drives site text (Err NoMemory) answers = tt

-- ---- reading a line by the code's own words

pub words_read : (libraries : List Library) (fields : List Field) → line_by_words libraries fields ≡ read_by (named (stager_forms libraries)) (named no_words) fields
words_read libraries fields = read_same (form_by_word libraries) none_by_word (named (stager_forms libraries)) (named no_words) (λ name. sym (named_stands (form_of libraries) stager_words name)) (λ word. refl) fields

pub line_read : (site : SiteConf) (said : List StagerReading) (line : Line) (result : Result StagerReading LineError) → Gives (λ r. r) result (line_by_words site.libraries line.fields) → Gives (λ r. r) result (stager_line site said line)
line_read site said line result gives = subst (λ (read : Read StagerReading). Gives (λ r. r) result read) (words_read site.libraries line.fields) gives
