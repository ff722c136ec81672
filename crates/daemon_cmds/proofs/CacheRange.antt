-- The cache that a site.conf gives has 4 KiB to 64 GiB.
use Rattle.std.proofs.Common.{◌≡◌, ℕ, ◌≤◌, ◌^◌, Bool, true, false, List, [], ◌∷◌, ◌++◌, Option, Some, None, Ok, Err, refl, arith}
use Rattle.std.specs.Prelude.{nat_le, if◌then◌else◌, ◌==◌, ◌&&◌, ◌%◌, unwrap_or}
use Rattle.std.specs.List.{last_or, filter_map}
use Rattle.std.proofs.lemmas.Bool.{leb-true}
use Rattle.site_text.specs.declared.fault.ConfFault.TheVariants.{OutOfRange}
use Rattle.site_text.specs.declared.line.Line.{Line}
use Rattle.site_text.specs.Fields.{Field, Read, ◌>>=◌}
use Rattle.site_text.specs.Values.{bad_value, multiple_value}
use Rattle.site_text.specs.Sizes.{size_of}
use Rattle.site_text.specs.FileRules.{LinesSayBehind, LinesSay}
use Rattle.site_text.proofs.FormGives.{AllSay, directive_gives}
use Rattle.daemon_cmds.specs.declared.site_conf.SiteReading.{SiteReading}
use Rattle.daemon_cmds.specs.declared.site_conf.SiteReading.TheVariants as readings
use Rattle.daemon_cmds.specs.SiteTold.{cache_in, cache_of, default_cache}
use Rattle.daemon_cmds.specs.SiteRules.{site_forms, SiteLineSays}

abbrev pub IsCacheSize : ℕ → Type 0
IsCacheSize n = (4096 ≤ n) × (n ≤ 2 ^ 36)

-- a cache that a field says
abbrev size_or_not : ℕ → Bool → Read ℕ
size_or_not n fits = if fits then Ok n else Err OutOfRange

size_tested : (n m : ℕ) (low high whole : Bool) → nat_le 4096 n ≡ low → nat_le n (2 ^ 36) ≡ high → size_or_not n (low && high && whole) ≡ Ok m → IsCacheSize m
size_tested n m true true true is_low is_high is = let same : n ≡ m = cc in rw (← same) (leb-true 4096 n is_low, leb-true n (2 ^ 36) is_high)
size_tested n m true true false is_low is_high is = absurd cc
size_tested n m true false whole is_low is_high is = absurd cc
size_tested n m false high whole is_low is_high is = absurd cc

size_read : (m : ℕ) (size : Read ℕ) → (size >>= λ n. size_or_not n (nat_le 4096 n && nat_le n (2 ^ 36) && (n % 4096 == 0))) ≡ Ok m → IsCacheSize m
size_read m (Ok n) is = size_tested n m (nat_le 4096 n) (nat_le n (2 ^ 36)) (n % 4096 == 0) refl refl is
size_read m (Err fault) is = absurd cc

cache_read : (field : Field) (n : ℕ) → multiple_value 4096 4096 (2 ^ 36) field ≡ Ok n → IsCacheSize n
unfolding multiple_value
cache_read field n is = size_read n (bad_value (size_of field)) is

-- if a line gives a cache, its size is in range
abbrev Fits : SiteReading → Type 0
Fits (readings.Cache n) = IsCacheSize n
Fits r = Unit {0}

forms_fit : (before : List SiteReading) → AllSay Fits (site_forms before)
forms_fit before = (
  (λ field value is. tt),
  (
    cache_read,
    (
      (λ field value is. tt),
      (
        (λ field value is. tt),
        ((λ field value is other drives also. tt), ((λ field value is media m is_media vsn v is_vsn capacity c is_capacity. tt), tt)),
      ),
    ),
  ),
)

said_fits : (before : List SiteReading) (line : Line) (r : SiteReading) → SiteLineSays before line r → Fits r
said_fits before line r says = directive_gives Fits (site_forms before) line.fields r (forms_fit before) says.says

abbrev AllFit : List SiteReading → Type 0
AllFit [] = Unit {0}
AllFit (r ∷ said) = Fits r × AllFit said

all_fit : (before : List SiteReading) (lines : List Line) (said : List SiteReading) → LinesSayBehind SiteLineSays before lines said → AllFit said
all_fit before [] [] say = tt
all_fit before [] (r ∷ said) say = absurd say
all_fit before (line ∷ lines) [] say = absurd say
all_fit before (line ∷ lines) (r ∷ said) (says, say) = (said_fits before line r says, all_fit (before ++ r ∷ []) lines said say)

abbrev FitsIf : Option ℕ → Type 0
FitsIf (Some n) = IsCacheSize n
FitsIf None = Unit {0}

last_fits : (o : Option ℕ) (said : List SiteReading) → FitsIf o → AllFit said → FitsIf (last_or o (filter_map cache_in said))
last_fits o [] fits all = fits
last_fits o (readings.Cache n ∷ said) fits (first, all) = last_fits (Some n) said first all
last_fits o (readings.FileSystem name ∷ said) fits (first, all) = last_fits o said fits all
last_fits o (readings.High n ∷ said) fits (first, all) = last_fits o said fits all
last_fits o (readings.Low n ∷ said) fits (first, all) = last_fits o said fits all
last_fits o (readings.Library library ∷ said) fits (first, all) = last_fits o said fits all
last_fits o (readings.Volume volume ∷ said) fits (first, all) = last_fits o said fits all

or_default : (o : Option ℕ) → FitsIf o → IsCacheSize (unwrap_or o default_cache)
or_default (Some n) fits = fits
or_default None fits = (omega arith, omega arith)

-- The cache of a site has 4 KiB to 64 GiB, also where no line gives one.
pub cache_in_range : (said : List SiteReading) (lines : List Line) → LinesSay SiteLineSays lines said → IsCacheSize (unwrap_or (cache_of said) default_cache)
cache_in_range said lines say = or_default (cache_of said) (last_fits None said tt (all_fit [] lines said say))
