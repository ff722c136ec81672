-- The copies that are not named, put behind the others one by one.
use Rattle.std.proofs.Common.{◌≡◌, ℕ, ◌==◌, Bool, true, false, not, List, [], ◌∷◌, ◌++◌, filter, refl, sym, ap, ◌∙◌, append_assoc}
use Rattle.std.specs.Prelude.{if◌then◌else◌}
use Rattle.std.proofs.lemmas.List.{append-nil}
use Rattle.std.proofs.lemmas.List.Folds.{list_any-append}
use Rattle.daemon_cmds.specs.StagerRules.{is_named, completed}
use Rattle.daemon_cmds.specs.StagerSteps.{with_copy}

-- a number, where it is not named
abbrev piece : Bool → ℕ → List ℕ
piece named n = if named then [] else n ∷ []

abbrev missing : List ℕ → ℕ → List ℕ
missing copies n = piece (is_named copies n) n

-- one more behind those that are there, among which it is not
by_named : (copies more : List ℕ) (n : ℕ) (b : Bool) → is_named copies n ≡ b → is_named more n ≡ false → with_copy (copies ++ more) n ≡ copies ++ (more ++ piece b n)
by_named copies more n true is fresh = rw (list_any-append (λ c. c == n) copies more, is) (ap (λ (m : List ℕ). copies ++ m) (sym (append-nil more)))
by_named copies more n false is fresh = rw (list_any-append (λ c. c == n) copies more, is, fresh) (append_assoc copies more (n ∷ []))

one_more : (copies more : List ℕ) (n : ℕ) → is_named more n ≡ false → with_copy (copies ++ more) n ≡ copies ++ (more ++ missing copies n)
one_more copies more n fresh = by_named copies more n (is_named copies n) refl fresh

-- a number is not among other ones
not_there : (b : Bool) (m n : ℕ) → (m == n) ≡ false → is_named (piece b m) n ≡ false
not_there true m n differ = refl
not_there false m n differ = rw differ refl

not_behind : (more : List ℕ) (b : Bool) (m n : ℕ) → is_named more n ≡ false → (m == n) ≡ false → is_named (more ++ piece b m) n ≡ false
not_behind more b m n fresh differ = list_any-append (λ c. c == n) more (piece b m) ∙ rw fresh (not_there b m n differ)

-- the numbers that are not named
kept : (p : ℕ → Bool) (n : ℕ) (ns : List ℕ) (b : Bool) → p n ≡ b → piece b n ++ filter (λ m. not (p m)) ns ≡ filter (λ m. not (p m)) (n ∷ ns)
kept p n ns true is = rw is refl
kept p n ns false is = rw is refl

all_kept : (copies : List ℕ) → ((missing copies 1 ++ missing copies 2) ++ missing copies 3) ++ missing copies 4 ≡ filter (λ n. not (is_named copies n)) (1 ∷ 2 ∷ 3 ∷ 4 ∷ [])
all_kept copies =
    let p = is_named copies in
    let four = ap (λ (m : List ℕ). ((missing copies 1 ++ missing copies 2) ++ missing copies 3) ++ m) (sym (append-nil (missing copies 4)) ∙ kept p 4 [] (p 4) refl) in
    let three = append_assoc (missing copies 1 ++ missing copies 2) (missing copies 3) (filter (λ m. not (p m)) (4 ∷ [])) ∙ ap (λ (m : List ℕ). (missing copies 1 ++ missing copies 2) ++ m) (kept p 3 (4 ∷ []) (p 3) refl) in
    let two = append_assoc (missing copies 1) (missing copies 2) (filter (λ m. not (p m)) (3 ∷ 4 ∷ [])) ∙ ap (λ (m : List ℕ). missing copies 1 ++ m) (kept p 2 (3 ∷ 4 ∷ []) (p 2) refl) in
    four ∙ three ∙ two ∙ kept p 1 (2 ∷ 3 ∷ 4 ∷ []) (p 1) refl

pub all_put : (copies : List ℕ) → with_copy (with_copy (with_copy (with_copy copies 1) 2) 3) 4 ≡ completed copies
unfolding completed
all_put copies =
    let m1 = missing copies 1 in
    let m2 = m1 ++ missing copies 2 in
    let m3 = m2 ++ missing copies 3 in
    let first : with_copy copies 1 ≡ copies ++ m1 = ap (λ (c : List ℕ). with_copy c 1) (sym (append-nil copies)) ∙ one_more copies [] 1 refl in
    let second : with_copy (copies ++ m1) 2 ≡ copies ++ m2 = one_more copies m1 2 (not_there (is_named copies 1) 1 2 refl) in
    let third : with_copy (copies ++ m2) 3 ≡ copies ++ m3 = one_more copies m2 3 (not_behind m1 (is_named copies 2) 2 3 (not_there (is_named copies 1) 1 3 refl) refl) in
    let fourth : with_copy (copies ++ m3) 4 ≡ copies ++ (m3 ++ missing copies 4) =
    one_more copies m3 4 (not_behind m2 (is_named copies 3) 3 4 (not_behind m1 (is_named copies 2) 2 4 (not_there (is_named copies 1) 1 4 refl) refl) refl) in
    ap (λ (c : List ℕ). with_copy (with_copy (with_copy c 2) 3) 4) first ∙ ap (λ (c : List ℕ). with_copy (with_copy c 3) 4) second ∙ ap (λ (c : List ℕ). with_copy c 4) third ∙ fourth
    ∙ ap (λ (m : List ℕ). copies ++ m) (all_kept copies)
