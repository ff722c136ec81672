-- The lowest fault of a field, and readings that tell it.
use Rattle.std.proofs.Common.{◌≡◌, ℕ, zero, suc, List, [], ◌∷◌, Ok, Err, refl, sym, ap, subst, ◌∙◌, ◌⊎◌, inl, inr, arith}
use Rattle.site_text.specs.declared.fault.ConfFault.{ConfFault}
use Rattle.site_text.specs.declared.fault.ConfFault.TheVariants.{UnknownDirective, MissingField, ExtraField, BadValue, CopyBeforeSet, CopyTwice, UnknownSet, UnknownPool, SectionNotClosed, TooMany, Conflict, Duplicate, OutOfRange, NotText}
use Rattle.site_text.specs.Fields.{Read, ◌>>=◌}
use Rattle.archiver_lines.specs.Faults.{fault_number, LowestFault, Faultless}

-- where a reading of two steps fails, the first does, or the second behind what the first gives
pub bind_err : {A B : Type 0} (r : Read A) (f : A → Read B) (fault : ConfFault) → (r >>= f) ≡ Err fault → (r ≡ Err fault) ⊎ ((x : A) × (r ≡ Ok x) × (f x ≡ Err fault))
bind_err (Ok x) f fault e = inr (x, refl, e)
bind_err (Err d) f fault e = inl (let h : d ≡ fault = cc in rw h refl)

abbrev fault_in : List ConfFault → ℕ → ConfFault
fault_in [] place = NotText
fault_in (fault ∷ faults) zero = fault
fault_in (fault ∷ faults) (suc place) = fault_in faults place

abbrev fault_at : ℕ → ConfFault
fault_at = fault_in (NotText ∷ UnknownDirective ∷ MissingField ∷ ExtraField ∷ BadValue ∷ CopyBeforeSet ∷ CopyTwice ∷ UnknownSet ∷ UnknownPool ∷ SectionNotClosed ∷ TooMany ∷ Conflict ∷ Duplicate ∷ OutOfRange ∷ [])

numbered_so : (fault : ConfFault) → fault_at (fault_number fault) ≡ fault
numbered_so UnknownDirective = refl
numbered_so MissingField = refl
numbered_so ExtraField = refl
numbered_so BadValue = refl
numbered_so CopyBeforeSet = refl
numbered_so CopyTwice = refl
numbered_so UnknownSet = refl
numbered_so UnknownPool = refl
numbered_so SectionNotClosed = refl
numbered_so TooMany = refl
numbered_so Conflict = refl
numbered_so Duplicate = refl
numbered_so OutOfRange = refl
numbered_so NotText = refl

same_number : (fault other : ConfFault) → fault_number fault ≡ fault_number other → fault ≡ other
same_number fault other is = sym (numbered_so fault) ∙ ap fault_at is ∙ numbered_so other

one_lowest : (HasFault : ConfFault → Type 0) (fault other : ConfFault) → LowestFault HasFault fault → LowestFault HasFault other → fault ≡ other
one_lowest HasFault fault other a b = same_number fault other (omega (arith, a.lowest other b.there, b.lowest fault a.there))

-- A reading fails with the lowest fault, and passes where there is none.
abbrev pub Judges : {A : Type 0} → (ConfFault → Type 0) → Read A → Type 0
Judges HasFault (Ok x) = Faultless HasFault
Judges HasFault (Err fault) = LowestFault HasFault fault

pub fails : {A : Type 0} (HasFault : ConfFault → Type 0) (read : Read A) (fault : ConfFault) → Judges HasFault read → LowestFault HasFault fault → read ≡ Err fault
fails HasFault (Ok x) fault none lowest = absurd (none fault lowest.there)
fails HasFault (Err first) fault here lowest = rw (one_lowest HasFault first fault here lowest) refl

pub passes : {A : Type 0} (HasFault : ConfFault → Type 0) (read : Read A) → Judges HasFault read → Faultless HasFault → (x : A) × (read ≡ Ok x)
passes HasFault (Ok x) none faultless = (x, refl)
passes HasFault (Err first) here faultless = absurd (faultless first here.there)

pub failed : {A : Type 0} (HasFault : ConfFault → Type 0) (read : Read A) (fault : ConfFault) → Judges HasFault read → read ≡ Err fault → LowestFault HasFault fault
failed HasFault (Ok x) fault judged is = absurd cc
failed HasFault (Err first) fault judged is = let e : first ≡ fault = cc in subst (LowestFault HasFault) e judged

pub passed : {A : Type 0} (HasFault : ConfFault → Type 0) (read : Read A) (x : A) → Judges HasFault read → read ≡ Ok x → Faultless HasFault
passed HasFault (Ok y) x judged is = judged
passed HasFault (Err first) x judged is = absurd cc
