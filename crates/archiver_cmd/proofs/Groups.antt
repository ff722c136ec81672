-- The names of vsns lines, each with the expressions of its lines.
use Rattle.std.proofs.Common.{◌≡◌, ◌<◌, ℕ, ◌+◌, Bool, true, false, List, [], ◌∷◌, ◌++◌, length, take, map, fold, refl, sym, ap, ◌∙◌, get_or}
use Rattle.std.specs.List.{list_any}
use Rattle.std.specs.Prelude.{◌||◌}
use Rattle.std.proofs.lemmas.List.{map-append, take_more}
use Rattle.std.proofs.lemmas.List.Sums.{fold-append}
use Rattle.archiver_lines.specs.declared.reading.CopyName.{CopyName}
use Rattle.archiver_lines.specs.declared.reading.VsnsLine.{VsnsLine}
use Rattle.archiver_lines.specs.Names.{same_name}
use Rattle.archiver_cmd.specs.declared.conf.VsnsGroup.{VsnsGroup}
use Rattle.archiver_cmd.specs.Conf.{group_of, names_of, with_name}

-- there is a group of a name where it is one of the names
has_named : (lines : List VsnsLine) (names : List CopyName) (name : CopyName) → list_any (λ g. same_name g.name name) (map (group_of lines) names) ≡ list_any (λ n. same_name n name) names
has_named lines [] name = refl
has_named lines (n ∷ names) name = ap (λ (b : Bool). same_name n name || b) (has_named lines names name)

-- a name that has a group already
pub name_there : (lines : List VsnsLine) (names : List CopyName) (name : CopyName) (groups : List VsnsGroup) → groups ≡ map (group_of lines) names → list_any (λ g. same_name g.name name) groups ≡ true
    → groups ≡ map (group_of lines) (with_name names name)
name_there lines names name groups is there =
    let h : list_any (λ n. same_name n name) names ≡ true = sym (has_named lines names name) ∙ ap (λ (gs : List VsnsGroup). list_any (λ g. same_name g.name name) gs) (sym is) ∙ there in
    rw h is

-- a name that had none
pub name_added : (lines : List VsnsLine) (names : List CopyName) (name : CopyName) (groups : List VsnsGroup) (group : VsnsGroup) → groups ≡ map (group_of lines) names → list_any (λ g. same_name g.name name) groups ≡ false
    → group ≡ group_of lines name → groups ++ group ∷ [] ≡ map (group_of lines) (with_name names name)
name_added lines names name groups group is absent one =
    let h : list_any (λ n. same_name n name) names ≡ false = sym (has_named lines names name) ∙ ap (λ (gs : List VsnsGroup). list_any (λ g. same_name g.name name) gs) (sym is) ∙ absent in
    rw (h, is, one) (sym (map-append (group_of lines) names (name ∷ [])))

abbrev name_of : VsnsLine → CopyName
name_of line = line.name

-- the names of one line more
pub names_more : (lines : List VsnsLine) (place : ℕ) (line : VsnsLine) → place < length lines → line ≡ get_or lines place line → names_of (take (place + 1) lines) ≡ with_name (names_of (take place lines)) line.name
names_more lines place line within is =
    ap names_of (take_more lines place line within ∙ ap (λ (l : VsnsLine). take place lines ++ l ∷ []) (sym is))
    ∙ ap (fold with_name []) (map-append name_of (take place lines) (line ∷ []))
    ∙ fold-append with_name [] (map name_of (take place lines)) (line.name ∷ [])
