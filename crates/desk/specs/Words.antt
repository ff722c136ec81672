-- The words of an answer, as the code keeps them.
use Rattle.std.specs.Prelude.{ℕ, List, ◌++◌, codes, decimal}
use Rattle.desk.specs.declared.line.Word.{Word}
use Rattle.desk.specs.declared.line.Word.TheVariants.{Text, Number, Place, SetCopy}

abbrev pub word_text : Word → List ℕ
word_text (Text text) = text.now
word_text (Number number) = decimal number
word_text (Place number) = decimal number ++ codes ":"
word_text (SetCopy set copy) = set.now ++ codes "." ++ decimal copy
