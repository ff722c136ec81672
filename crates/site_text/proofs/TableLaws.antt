-- A table whose entries stand for something, looked up by the words that stand for them in the code.
use Rattle.std.proofs.Common.{◌≡◌, Bool, true, false, cond, List, [], ◌∷◌, Option, Some, None, refl, ap, ◌∙◌}
use Rattle.std.specs.Prelude.{option_map}
use Rattle.std.specs.Str.{bytes_eq}
use Rattle.site_text.specs.Fields.{Field, map_read, wanted}
use Rattle.site_text.specs.declared.fault.ConfFault.{ConfFault}
use Rattle.site_text.specs.Words.{named, standing_for, option_named, no_option}

by_first : {D E : Type 0} (meaning : D → E) (d : D) (rest : Option E) (others : Option D) (b : Bool) → rest ≡ option_map meaning others → cond b (Some (meaning d)) rest ≡ option_map meaning (cond b (Some d) others)
by_first meaning d rest others true is = refl
by_first meaning d rest others false is = is

pub named_stands : {D E : Type 0} (meaning : D → E) (table : List (Field × D)) (word : Field) → named (standing_for meaning table) word ≡ option_map meaning (named table word)
named_stands meaning [] word = refl
named_stands meaning (entry ∷ entries) word = by_first meaning entry.1 (named (standing_for meaning entries) word) (named entries word) (bytes_eq word entry.0) (named_stands meaning entries word)

wanted_stands : {D E : Type 0} (meaning : D → E) (o : Option D) (fault : ConfFault) → wanted (option_map meaning o) fault ≡ map_read meaning (wanted o fault)
wanted_stands meaning (Some d) fault = refl
wanted_stands meaning None fault = refl

pub option_stands : {D E : Type 0} (meaning : D → E) (table : List (Field × D)) (field : Field) → option_named (standing_for meaning table) field ≡ map_read meaning (option_named table field)
option_stands {D} {E} meaning table field = ap (λ (o : Option E). wanted o (no_option field)) (named_stands meaning table field) ∙ wanted_stands meaning (named table field) (no_option field)
