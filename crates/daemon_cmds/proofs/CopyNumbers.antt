-- The copy numbers of `A:B:..`, read from the front.
use Rattle.std.proofs.Common.{◌≡◌, ℕ, ◌+◌, List, [], ◌∷◌, ◌++◌, take, drop, Some, None, Ok, Err, refl, sym, ap, append_assoc}
use Rattle.std.specs.Prelude.{position}
use Rattle.site_text.specs.declared.fault.ConfFault.{ConfFault}
use Rattle.site_text.specs.Fields.{Read, ◌>>=◌}
use Rattle.site_text.proofs.Cuts.{at_some, at_none}
use Rattle.daemon_cmds.specs.StagerRules.{is_colon, copy_number, each_number, copy_numbers}

-- what is read, behind the numbers that were read before
abbrev pub behind : List ℕ → Read (List ℕ) → Read (List ℕ)
behind copies (Ok more) = Ok (copies ++ more)
behind copies (Err fault) = Err fault

-- nothing was read before
pub behind_nothing : (read : Read (List ℕ)) → behind [] read ≡ read
behind_nothing (Ok more) = refl
behind_nothing (Err fault) = refl

abbrev pub numbers_read : List ℕ → Read (List ℕ)
numbers_read copies = Ok copies

-- a number goes from what is read to what was read before
moved : (copies : List ℕ) (n : ℕ) (read : Read (List ℕ)) → behind copies (read >>= λ more. Ok (n ∷ more)) ≡ behind (copies ++ n ∷ []) read
moved copies n (Ok more) = ap numbers_read (sym (append_assoc copies (n ∷ []) more))
moved copies n (Err fault) = refl

-- the numbers of a text whose first colon is known
first_part : (rest : List ℕ) (at : ℕ) → position is_colon rest ≡ Some at
    → copy_numbers rest ≡ (copy_number (take at rest) >>= λ n. copy_numbers (drop (at + 1) rest) >>= λ more. Ok (n ∷ more))
unfolding copy_numbers
first_part rest at is = ap (each_number) (at_some is_colon rest at is).cut

-- the first part is a number
pub goes_on : (copies rest part more : List ℕ) (at n : ℕ) → position is_colon rest ≡ Some at → part ≡ take at rest → more ≡ drop (at + 1) rest
    → copy_number part ≡ Ok n → behind (copies ++ n ∷ []) (copy_numbers more) ≡ behind copies (copy_numbers rest)
goes_on copies rest part more at n is part_is more_is number =
    rw (first_part rest at is, sym part_is, sym more_is, number) (sym (moved copies n (copy_numbers more)))

-- the first part is none
pub stops : (copies rest part : List ℕ) (at : ℕ) (fault : ConfFault) → position is_colon rest ≡ Some at → part ≡ take at rest
    → copy_number part ≡ Err fault → behind copies (copy_numbers rest) ≡ Err fault
stops copies rest part at fault is part_is wrong = rw (first_part rest at is, sym part_is, wrong) refl

-- there is no colon: the text is one part
pub ends : (copies rest : List ℕ) (n : ℕ) → position is_colon rest ≡ None → copy_number rest ≡ Ok n → behind copies (copy_numbers rest) ≡ Ok (copies ++ n ∷ [])
unfolding copy_numbers
ends copies rest n is number = rw (at_none is_colon rest is, number) refl

pub ends_wrong : (copies rest : List ℕ) (fault : ConfFault) → position is_colon rest ≡ None → copy_number rest ≡ Err fault → behind copies (copy_numbers rest) ≡ Err fault
unfolding copy_numbers
ends_wrong copies rest fault is wrong = rw (at_none is_colon rest is, wrong) refl
