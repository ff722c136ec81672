-- The library of each volume is one of the site's.
use Rattle.std.proofs.Common.{◌≡◌, ℕ, zero, suc, ◌<◌, Bool, true, false, List, [], ◌∷◌, ◌++◌, length, Option, Some, None, Ok, refl, subst, append_assoc, arith}
use Rattle.std.specs.List.{All}
use Rattle.std.specs.Str.{bytes_eq}
use Rattle.std.proofs.lemmas.List.Elements.{All-append}
use Rattle.std.proofs.lemmas.List.Quantifiers.{position-Some}
use Rattle.std.proofs.lemmas.List.{length-append, append-nil}
use Rattle.site_text.specs.declared.fault.ConfFault.TheVariants.{BadValue, Conflict}
use Rattle.site_text.specs.declared.line.Line.{Line}
use Rattle.site_text.specs.Fields.{Field, ◌>>=◌, refuse_if, wanted}
use Rattle.site_text.specs.FileRules.{FileSays, LinesSayBehind, no_section}
use Rattle.site_text.proofs.FormGives.{AllSay, directive_gives}
use Rattle.site_text.proofs.LastLaws.{all_of_one, all_of_none}
use Rattle.daemon_cmds.specs.declared.site_conf.Library.{Library}
use Rattle.daemon_cmds.specs.declared.site_conf.Volume.{Volume}
use Rattle.daemon_cmds.specs.declared.site_conf.SiteConf.{SiteConf}
use Rattle.daemon_cmds.specs.declared.site_conf.SiteSoFar.{SiteSoFar}
use Rattle.daemon_cmds.specs.declared.site_conf.SiteReading.{SiteReading}
use Rattle.daemon_cmds.specs.declared.site_conf.SiteReading.TheVariants as readings
use Rattle.daemon_cmds.specs.SiteTold.{library_in, volume_in, libraries_of, volumes_of, TellsSite}
use Rattle.daemon_cmds.specs.SiteRules.{library_place, known_library, site_forms, SiteLineSays}
use Rattle.daemon_cmds.specs.SiteSteps.{KnowsSite}

-- a library that stands before has a place among them
place_from : (libraries : List Library) (name : Field) (place : ℕ) (unfit : Bool) (found : Option ℕ) → library_place libraries name ≡ found
    → (refuse_if unfit BadValue >>= λ fine. wanted found Conflict) ≡ Ok place → place < length libraries
place_from libraries name place true found at is = absurd cc
place_from libraries name place false None at is = absurd cc
place_from libraries name place false (Some p) at is =
    let same : p ≡ place = cc in
    subst (λ (n : ℕ). n < length libraries) same (position-Some (λ (l : Library). bytes_eq l.name name) libraries p (record { name = []; drives = 0 }) at).0

place_known : (libraries : List Library) (name : Field) (place : ℕ) → known_library libraries name ≡ Ok place → place < length libraries
unfolding known_library
place_known libraries name place is = place_from libraries name place _ (library_place libraries name) refl is

-- if a line gives a volume, its library is one of these
abbrev Placed : List Library → SiteReading → Type 0
Placed libraries (readings.Volume v) = v.library < length libraries
Placed libraries r = Unit {0}

forms_place : (before : List SiteReading) → AllSay (Placed (libraries_of before)) (site_forms before)
forms_place before = (
  (λ field value is. tt),
  (
    (λ field value is. tt),
    (
      (λ field value is. tt),
      (
        (λ field value is. tt),
        ((λ field value is other drives also. tt), ((λ field value is media m is_media vsn v is_vsn capacity c is_capacity. place_known (libraries_of before) field value is), tt)),
      ),
    ),
  ),
)

said_placed : (before : List SiteReading) (line : Line) (r : SiteReading) → SiteLineSays before line r → Placed (libraries_of before) r
said_placed before line r says = directive_gives (Placed (libraries_of before)) (site_forms before) line.fields r (forms_place before) says.says

-- more libraries do no harm
abbrev IsPlaced : List Library → Volume → Type 0
IsPlaced libraries v = v.library < length libraries

one_library : (libraries : List Library) (library : Library) (volumes : List Volume) → All (IsPlaced libraries) volumes → All (IsPlaced (libraries ++ library ∷ [])) volumes
one_library libraries library volumes all = λ k d lt. let below = all k d lt in let more = length-append libraries (library ∷ []) in rw more (omega (below, arith))

none_placed : (libraries : List Library) → All (IsPlaced libraries) []
none_placed libraries = λ k d lt. absurd (omega (lt, arith))

one_placed : (libraries : List Library) (v : Volume) → IsPlaced libraries v → All (IsPlaced libraries) (v ∷ [])
one_placed libraries v below zero d lt = below
one_placed libraries v below (suc k) d lt = absurd (omega (lt, arith))

abbrev AllPlaced : List SiteReading → Type 0
AllPlaced said = All (IsPlaced (libraries_of said)) (volumes_of said)

-- a line that gives neither
as_before : (before : List SiteReading) (r : SiteReading) → library_in r ≡ None → volume_in r ≡ None → AllPlaced before → AllPlaced (before ++ r ∷ [])
as_before before r no_library no_volume all = rw (all_of_none library_in before r no_library, all_of_none volume_in before r no_volume) all

one_line : (before : List SiteReading) (r : SiteReading) → Placed (libraries_of before) r → AllPlaced before → AllPlaced (before ++ r ∷ [])
one_line before (readings.FileSystem name) placed all = as_before before (readings.FileSystem name) refl refl all
one_line before (readings.Cache n) placed all = as_before before (readings.Cache n) refl refl all
one_line before (readings.High n) placed all = as_before before (readings.High n) refl refl all
one_line before (readings.Low n) placed all = as_before before (readings.Low n) refl refl all
one_line before (readings.Library l) placed all = let r = readings.Library l in
    rw (all_of_one library_in before r l refl, all_of_none volume_in before r refl) (one_library (libraries_of before) l (volumes_of before) all)
one_line before (readings.Volume v) placed all = let r = readings.Volume v in
    rw (all_of_none library_in before r refl, all_of_one volume_in before r v refl)
    (All-append (IsPlaced (libraries_of before)) (volumes_of before) (v ∷ []) all (one_placed (libraries_of before) v placed))

all_placed : (before : List SiteReading) (lines : List Line) (said : List SiteReading) → LinesSayBehind SiteLineSays before lines said → AllPlaced before → AllPlaced (before ++ said)
all_placed before [] [] say all = rw (append-nil before) all
all_placed before [] (r ∷ said) say all = absurd say
all_placed before (line ∷ lines) [] say all = absurd say
all_placed before (line ∷ lines) (r ∷ said) (says, say) all =
    subst AllPlaced (append_assoc before (r ∷ []) said) (all_placed (before ++ r ∷ []) lines said say (one_line before r (said_placed before line r says) all))

-- all volumes of a site
pub each_volume_has_its_library : (text : List ℕ) (known : SiteSoFar) (site : SiteConf) → ((said : List SiteReading) × FileSays SiteLineSays no_section text said × KnowsSite said known)
    → ((said : List SiteReading) → KnowsSite said known → TellsSite said site) → All (λ v. v.library < length site.libraries) site.volumes
each_volume_has_its_library text known site (said, says, knows) tells =
    let told = tells said knows in
    rw (told.libraries, told.volumes) (all_placed [] _ said says.lines_say (none_placed []))
