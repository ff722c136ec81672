-- Lines whose directive may be barred, read by the code's own words: the same as by the tables.
use Rattle.std.specs.Prelude.{option_map, option_and_then}
use Rattle.std.proofs.Common.{◌≡◌, List, Option, Some, None, refl, sym, ap, ◌∙◌}
use Rattle.site_text.specs.declared.fault.ConfFault.{ConfFault}
use Rattle.site_text.specs.Fields.{Field}
use Rattle.site_text.specs.Directives.{FormTable}
use Rattle.site_text.specs.DirectiveSteps.{Lookup, read_by}
use Rattle.site_text.specs.ValueLines.{value_line}
use Rattle.site_text.specs.Words.{named, standing_for}
use Rattle.site_text.proofs.FormLaws.{read_same}
use Rattle.site_text.proofs.TableLaws.{named_stands}
use Rattle.daemon_cmds.specs.BarRules.{BarTable, barred, given_fault}
use Rattle.daemon_cmds.specs.BarSteps.{unless_barred, read_unless_barred, read_unless_barred_by}

same_given : {X Y : Type 0} (f g : X → Option Y) → ((x : X) → f x ≡ g x) → (o : Option X) → option_and_then f o ≡ option_and_then g o
same_given f g same (Some x) = same x
same_given f g same None = refl

-- a table in which each word stands for its bar, looked up by the words
fault_of_word : {D : Type 0} (bar : D → Option ConfFault) (o : Option D) → option_and_then bar o ≡ given_fault (option_map bar o)
fault_of_word bar (Some d) = refl
fault_of_word bar None = refl

pub bar_stands : {D : Type 0} (bar : D → Option ConfFault) (table : List (Field × D)) (name : Field) → option_and_then bar (named table name) ≡ given_fault (named (standing_for bar table) name)
bar_stands bar table name = fault_of_word bar (named table name) ∙ ap given_fault (sym (named_stands bar table name))

pub by_words : {R : Type 0} (bars : Field → Option ConfFault) (names words : Lookup R) (bar_table : BarTable) (name_table word_table : FormTable R)
    → ((name : Field) → bars name ≡ given_fault (named bar_table name)) → ((name : Field) → names name ≡ named name_table name) → ((word : Field) → words word ≡ named word_table word)
    → (fields : List Field) → read_unless_barred_by bars names words fields ≡ read_unless_barred bar_table name_table word_table fields
by_words {R} bars names words bar_table name_table word_table same_bars same_names same_words fields =
    ap (λ (bar : Option ConfFault). unless_barred bar (read_by names words fields)) (same_given (λ (line : Field × List Field). bars line.0) (λ (line : Field × List Field). given_fault (named bar_table line.0)) (λ line. same_bars line.0) (value_line fields))
    ∙ ap (unless_barred (barred bar_table fields)) (read_same names words (named name_table) (named word_table) same_names same_words fields)
