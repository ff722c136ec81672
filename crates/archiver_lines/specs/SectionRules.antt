-- Lines of sections: what one says, and what is wrong with one.
use Rattle.std.specs.Prelude.{◌≡◌, ◌⊎◌, ℕ, ◌+◌, ◌≤◌, ◌<◌, List, [], ◌∷◌, codes, length, map, flat_map, Ok, Err, Bool, true, false, ◌&&◌, if◌then◌else◌}
use Rattle.std.specs.List.{list_any}
use Rattle.std.specs.Str.{bytes_eq}
use Rattle.site_text.specs.declared.fault.ConfFault.{ConfFault}
use Rattle.site_text.specs.declared.fault.ConfFault.TheVariants.{MissingField, BadValue, UnknownPool, TooMany}
use Rattle.site_text.specs.Fields.{Field, Read}
use Rattle.site_text.specs.Values.{is_media, any_value, media_value}
use Rattle.site_text.specs.OptionRules.{OptionsSay, OptionsWrong}
use Rattle.site_text.specs.Options.{Options, Alone, WithValue}
use Rattle.archiver_lines.specs.declared.reading.ParamsLine.{ParamsLine}
use Rattle.archiver_lines.specs.declared.reading.VsnExpr.{VsnExpr}
use Rattle.archiver_lines.specs.declared.reading.VsnsLine.{VsnsLine}
use Rattle.archiver_lines.specs.declared.reading.Reading.{Reading}
use Rattle.archiver_lines.specs.declared.reading.CopyName.{CopyName}
use Rattle.site_text.specs.Forms.{Form, AnyMore, text}
use Rattle.archiver_lines.specs.declared.reading.PoolLine.{PoolLine}
use Rattle.archiver_lines.specs.Told.{params_of, pools_of, exprs_of}
use Rattle.archiver_lines.specs.Limits.{most_exprs}
use Rattle.archiver_lines.specs.NameRules.{NameSays, NameWrong}
use Rattle.archiver_lines.specs.ParamOptions.{params_table}

-- ---- params

-- A name, and options of it.
pub record ParamsSays (site : Field) (before : List Reading) (field : Field) (fields : List Field) (line : ParamsLine) : Type 0 where
  pub name : NameSays site before field line.name
  pub options : OptionsSay (params_table (params_of before) line.name) [] fields line.given

-- The name is wrong, or behind a name an option is.
abbrev pub ParamsWrong : Field → List Reading → Field → List Field → ConfFault → Type 0
ParamsWrong site before field fields fault = NameWrong site before field fault
    ⊎ ((name : CopyName) × NameSays site before field name × OptionsWrong (params_table (params_of before) name) [] fields fault)

-- ---- vsnpools

-- `POOL MEDIA EXPR..`, on the line of this number
abbrev pub pool_form : ℕ → Form PoolLine
pool_form number = text any_value (λ pool. text media_value (λ media. text any_value (λ first.
    AnyMore (λ others. record { pool = pool; media = media; texts = first ∷ others; line = number }))))

-- ---- the items of a vsns line

abbrev pub expr_of : Field → ℕ → Field → VsnExpr
expr_of media line text = record { media = media; text = text; line = line }

abbrev pub is_of_pool : Field → Field → PoolLine → Bool
is_of_pool pool media p = bytes_eq p.pool pool && bytes_eq p.media media

abbrev pub exprs_at : Field → Field → PoolLine → List VsnExpr
exprs_at pool media p = if is_of_pool pool media p then map (expr_of p.media p.line) p.texts else []

-- the expressions of a pool with that media type
abbrev pub pool_exprs : List PoolLine → Field → Field → List VsnExpr
pool_exprs pools media pool = flat_map (exprs_at pool media) pools

abbrev pub is_pool : List PoolLine → Field → Bool
is_pool pools name = list_any (λ p. bytes_eq p.pool name) pools

-- what the name of a pool behind `-pool` gives
abbrev pub pool_value : List PoolLine → Field → Field → Read (List VsnExpr)
pool_value pools media pool = if is_pool pools pool then Ok (pool_exprs pools media pool) else Err UnknownPool

-- The items of a line: `-pool` takes the name of a pool, any other field is an expression.
abbrev pub item_table : List PoolLine → Field → ℕ → Options (List VsnExpr)
item_table pools media line = record {
  option = λ field. Ok (if bytes_eq field (codes "-pool") then WithValue (pool_value pools media) else Alone (expr_of media line field ∷ []));
  excludes = λ before exprs. false;
}

abbrev pub all_exprs : List (List VsnExpr) → List VsnExpr
all_exprs given = flat_map (λ exprs. exprs) given

-- How many expressions items say, whatever is wrong with them: an expression is one, and `-pool POOL` is as many as the pool has with
-- that media type.
unfoldable pub items_count : List PoolLine → Field → List Field → ℕ
items_count pools media [] = 0
items_count pools media (field ∷ []) = if bytes_eq field (codes "-pool") then 0 else 1
items_count pools media (field ∷ next ∷ fields) = if bytes_eq field (codes "-pool")
    then length (pool_exprs pools media next) + items_count pools media fields
    else 1 + items_count pools media (next ∷ fields)

-- the same of the fields behind a name: a media type, and items
unfoldable pub exprs_count : List PoolLine → List Field → ℕ
exprs_count pools [] = 0
exprs_count pools (media ∷ items) = items_count pools media items

-- ---- vsns

-- A name, a media type and one or more items, whose expressions are not too many.
pub record VsnsSays (site : Field) (before : List Reading) (number : ℕ) (field : Field) (fields : List Field) (line : VsnsLine) : Type 0 where
  pub name : NameSays site before field line.name
  pub media : Field
  pub first : Field
  pub rest : List Field
  pub cut : fields ≡ media ∷ first ∷ rest
  pub legal : is_media media ≡ true
  pub given : List (List VsnExpr)
  pub items : OptionsSay (item_table (pools_of before) media number) [] (first ∷ rest) given
  pub is : line.exprs ≡ all_exprs given
  pub few : length (exprs_of before) + length line.exprs ≤ most_exprs

-- There is no item, or one is wrong.
abbrev pub ItemsWrong : List Reading → ℕ → Field → List Field → ConfFault → Type 0
ItemsWrong before number media [] fault = fault ≡ MissingField
ItemsWrong before number media (item ∷ items) fault = OptionsWrong (item_table (pools_of before) media number) [] (item ∷ items) fault

-- There is no media type, it is not of its form, or behind it the items are wrong.
abbrev pub BehindName : List Reading → ℕ → List Field → ConfFault → Type 0
BehindName before number [] fault = fault ≡ MissingField
BehindName before number (media ∷ items) fault = ((is_media media ≡ false) × (fault ≡ BadValue))
    ⊎ ((is_media media ≡ true) × ItemsWrong before number media items fault)

-- The name is wrong; or, behind a name, the expressions so far and those of this line are too many; or they are not, and what stands
-- there is wrong.
abbrev pub VsnsWrong : Field → List Reading → ℕ → Field → List Field → ConfFault → Type 0
VsnsWrong site before number field fields fault = NameWrong site before field fault
    ⊎ ((name : CopyName) × NameSays site before field name
    × (((most_exprs < length (exprs_of before) + exprs_count (pools_of before) fields) × (fault ≡ TooMany))
    ⊎ ((length (exprs_of before) + exprs_count (pools_of before) fields ≤ most_exprs) × BehindName before number fields fault)))
