-- What the code keeps of the lines of a recycler.cmd is what they told.
use Rattle.std.proofs.Common.{◌≡◌, ℕ, ◌+◌, ◌^◌, ◌==◌, Bool, true, false, ◌||◌, List, [], ◌∷◌, ◌++◌, length, map, Option, Some, None, Result, Ok, Err, refl, sym, ap, ◌∙◌, append_assoc, arith}
use Rattle.std.specs.Prelude.{slice_get, unwrap_or, if◌then◌else◌, IfOk}
use Rattle.std.specs.List.{enumerate_from, list_any}
use Rattle.std.specs.Option.{option_or}
use Rattle.std.proofs.lemmas.List.{length-map, append-nil}
use Rattle.std.proofs.lemmas.Grind.{flat_map-append}
use Rattle.std.proofs.lemmas.List.FromFn.{length-enumerate_from}
use Rattle.std.proofs.lemmas.Bool.{eqb-true, eqb-false}
use Rattle.site_text.specs.declared.fault.ConfError.{ConfError}
use Rattle.site_text.specs.declared.fault.ConfError.TheVariants.{Refused, NoMemory}
use Rattle.site_text.specs.Fields.{Field, map_read}
use Rattle.site_text.specs.FileRules.{FileAnswers, no_section}
use Rattle.site_text.specs.LastValues.{last_of}
use Rattle.site_text.specs.Words.{option_named}
use Rattle.site_text.proofs.TableLaws.{option_stands}
use Rattle.site_text.proofs.LastLaws.{last_of_more, all_of_one, all_of_none, any_more}
use Rattle.daemon_cmds.specs.declared.site_conf.Library.{Library}
use Rattle.daemon_cmds.specs.declared.site_conf.SiteConf.{SiteConf}
use Rattle.daemon_cmds.specs.declared.recycler_conf.LibraryRecycling.{LibraryRecycling}
use Rattle.daemon_cmds.specs.declared.recycler_conf.NoRecycle.{NoRecycle}
use Rattle.daemon_cmds.specs.declared.recycler_conf.RecyclerConf.{RecyclerConf}
use Rattle.daemon_cmds.specs.declared.recycler_conf.RecycleOption.{RecycleOption}
use Rattle.daemon_cmds.specs.declared.recycler_conf.RecycleOption.TheVariants as given
use Rattle.daemon_cmds.specs.declared.recycler_conf.RecyclerReading.{RecyclerReading}
use Rattle.daemon_cmds.specs.declared.recycler_conf.RecyclerReading.TheVariants as readings
use Rattle.daemon_cmds.specs.RecyclerTold.{hwm_in, mingain_in, vsncount_in, dataquantity_in, is_ignore, recycling_of, options_in, no_recycle_in, options_for, recycled_libraries, TellsRecycler}
use Rattle.daemon_cmds.specs.RecyclerRules.{recycle_options, RecyclerLineSays, RecyclerLineWrong}
use Rattle.daemon_cmds.specs.RecyclerSteps.{with_option, with_options, set_if_there, with_recycler_reading, recycle_words, option_form}
use Rattle.daemon_cmds.proofs.Places.{by_place, unplaced, changed, changed_there}

-- ---- no line

pub nothing_told : (site : SiteConf) → map (λ (l : Library). recycling_of []) site.libraries ≡ recycled_libraries site []
nothing_told site = sym (unplaced (λ (l : Library). recycling_of []) 0 site.libraries)

-- ---- the options of one line more

abbrev with_one : List RecycleOption → RecycleOption → LibraryRecycling
with_one before o = record {
  hwm = unwrap_or (option_or (hwm_in o) (last_of hwm_in before)) 95;
  mingain = unwrap_or (option_or (mingain_in o) (last_of mingain_in before)) 60;
  vsncount = unwrap_or (option_or (vsncount_in o) (last_of vsncount_in before)) 1;
  dataquantity = unwrap_or (option_or (dataquantity_in o) (last_of dataquantity_in before)) (2 ^ 30);
  ignore = is_ignore o || list_any is_ignore before;
}

with_one_is : (before : List RecycleOption) (o : RecycleOption) → with_one before o ≡ recycling_of (before ++ o ∷ [])
with_one_is before o = rw (last_of_more hwm_in before o, last_of_more mingain_in before o, last_of_more vsncount_in before o, last_of_more dataquantity_in before o, any_more is_ignore before o) refl

one_option : (before : List RecycleOption) (o : RecycleOption) → with_option (recycling_of before) o ≡ with_one before o
one_option before (given.Hwm n) = refl
one_option before (given.MinGain n) = refl
one_option before (given.VsnCount n) = refl
one_option before (given.DataQuantity n) = refl
one_option before given.Ignore = refl
one_option before given.Nothing = refl

all_options : (before options : List RecycleOption) → with_options (recycling_of before) options ≡ recycling_of (before ++ options)
all_options before [] = ap recycling_of (sym (append-nil before))
all_options before (o ∷ options) =
    ap (λ (l : LibraryRecycling). with_options l options) (one_option before o ∙ with_one_is before o) ∙ all_options (before ++ o ∷ []) options ∙ ap recycling_of (append_assoc before (o ∷ []) options)

-- ---- one line more

abbrev recycled_at : List RecyclerReading → ℕ → Library → LibraryRecycling
recycled_at said place l = recycling_of (options_for place said)

options_more : (place : ℕ) (said : List RecyclerReading) (r : RecyclerReading) → options_for place (said ++ r ∷ []) ≡ options_for place said ++ options_in place r
options_more place said r = flat_map-append (options_in place) said (r ∷ []) ∙ ap (λ (os : List RecycleOption). options_for place said ++ os) (append-nil (options_in place r))

changed_here : (said : List RecyclerReading) (library : ℕ) (options : List RecycleOption) (place : ℕ) (l : Library) → place ≡ library
    → recycled_at (said ++ readings.Library library options ∷ []) place l ≡ with_options (recycled_at said place l) options
changed_here said library options place l is =
    ap recycling_of (options_more place said (readings.Library library options)) ∙ by_test (library == place) refl ∙ sym (all_options (options_for place said) options)
  where
    by_test : (b : Bool) → (library == place) ≡ b → recycling_of (options_for place said ++ (if b then options else [])) ≡ recycling_of (options_for place said ++ options)
    by_test true e = refl
    by_test false e = absurd (eqb-false library place e (sym is))

not_changed : (said : List RecyclerReading) (library : ℕ) (options : List RecycleOption) (place : ℕ) (l : Library) → (place ≡ library → ⊥)
    → recycled_at (said ++ readings.Library library options ∷ []) place l ≡ recycled_at said place l
not_changed said library options place l differs =
    ap recycling_of (options_more place said (readings.Library library options)) ∙ by_test (library == place) refl
  where
    by_test : (b : Bool) → (library == place) ≡ b → recycling_of (options_for place said ++ (if b then options else [])) ≡ recycling_of (options_for place said)
    by_test true e = absurd (differs (sym (eqb-true library place e)))
    by_test false e = ap recycling_of (append-nil (options_for place said))

is_changed : (libraries : List LibraryRecycling) (library : ℕ) (options : List RecycleOption) (o : Option LibraryRecycling) → set_if_there libraries library options o ≡ changed (λ l. with_options l options) libraries library o
is_changed libraries library options None = refl
is_changed libraries library options (Some l) = refl

libraries_more : (site : SiteConf) (said : List RecyclerReading) (library : ℕ) (options : List RecycleOption)
    → set_if_there (recycled_libraries site said) library options (slice_get (recycled_libraries site said) library) ≡ recycled_libraries site (said ++ readings.Library library options ∷ [])
libraries_more site said library options =
    is_changed (recycled_libraries site said) library options (slice_get (recycled_libraries site said) library)
    ∙ changed_there (recycled_at said) (recycled_at (said ++ readings.Library library options ∷ [])) (λ l. with_options l options) library 0 site.libraries library (omega arith)
    (λ q l is. changed_here said library options q l is) (λ q l differs. not_changed said library options q l differs)

-- a line that says nothing of libraries
same_libraries : (said : List RecyclerReading) (r : RecyclerReading) → ((place : ℕ) → options_in place r ≡ []) → (n : ℕ) (libraries : List Library) → by_place (recycled_at said) n libraries ≡ by_place (recycled_at (said ++ r ∷ [])) n libraries
same_libraries said r none n [] = refl
same_libraries said r none n (l ∷ libraries) =
    let here : options_for n (said ++ r ∷ []) ≡ options_for n said = options_more n said r ∙ ap (λ (os : List RecycleOption). options_for n said ++ os) (none n) ∙ append-nil (options_for n said) in
    rw (here, same_libraries said r none (n + 1) libraries) refl

more_told : (site : SiteConf) (said : List RecyclerReading) (conf : RecyclerConf) (r : RecyclerReading) → TellsRecycler site said conf → TellsRecycler site (said ++ r ∷ []) (with_recycler_reading conf r)
more_told site said conf (readings.Library library options) tells = let r = readings.Library library options in record {
  libraries = ap (λ (ls : List LibraryRecycling). set_if_there ls library options (slice_get ls library)) tells.libraries ∙ libraries_more site said library options;
  no_recycle = tells.no_recycle ∙ sym (all_of_none no_recycle_in said r refl);
}
more_told site said conf (readings.NoRecycle volumes) tells = let r = readings.NoRecycle volumes in record {
  libraries = tells.libraries ∙ same_libraries said r (λ place. refl) 0 site.libraries;
  no_recycle = ap (λ (all : List NoRecycle). all ++ volumes ∷ []) tells.no_recycle ∙ sym (all_of_one no_recycle_in said r volumes refl);
}
more_told site said conf readings.Nothing tells = let r = readings.Nothing in record {
  libraries = tells.libraries ∙ same_libraries said r (λ place. refl) 0 site.libraries;
  no_recycle = tells.no_recycle ∙ sym (all_of_none no_recycle_in said r refl);
}

pub more : (site : SiteConf) (said : List RecyclerReading) (conf now : RecyclerConf) (r : RecyclerReading) → now ≡ with_recycler_reading conf r → TellsRecycler site said conf → TellsRecycler site (said ++ r ∷ []) now
more site said conf now r is tells = rw is (more_told site said conf r tells)

-- ---- each library is recycled

pub told_libraries : (site : SiteConf) (said : List RecyclerReading) (conf : RecyclerConf) → TellsRecycler site said conf → length conf.libraries ≡ length site.libraries
told_libraries site said conf tells =
    ap length tells.libraries ∙ length-map (enumerate_from 0 site.libraries) (λ (l : ℕ × Library). recycled_at said l.0 l.1) ∙ length-enumerate_from 0 site.libraries

pub each_is_recycled : (site : SiteConf) (text : List ℕ) (result : Result RecyclerConf ConfError) → FileAnswers (RecyclerLineSays site) (RecyclerLineWrong site) no_section (TellsRecycler site) text result
    → IfOk result (λ conf. length conf.libraries ≡ length site.libraries)
each_is_recycled site text (Ok conf) (said, says, tells) = told_libraries site said conf tells
each_is_recycled site text (Err (Refused refusal)) answers = tt
each_is_recycled site text (Err NoMemory) answers = tt

-- ---- options by the code's own words

pub option_found : (field : Field) → recycle_options.option field ≡ map_read option_form (option_named recycle_words field)
option_found field = option_stands option_form recycle_words field
