-- Tables of directives: each name or word with the form of the fields that follow it.
use Rattle.std.specs.Prelude.{List, []}
use Rattle.site_text.specs.Fields.{Field}
use Rattle.site_text.specs.Forms.{Form}

abbrev pub FormTable : Type 0 → Type 0
FormTable R = List (Field × Form R)

-- no word is a line by itself
abbrev pub no_words : {R : Type 0} → FormTable R
no_words = []
