-- Reading the fields of a line from the left: what they say, or the fault of the first field that is wrong.
use Rattle.std.specs.Prelude.{◌≡◌, ℕ, List, [], ◌∷◌, Option, Some, None, Result, Ok, Err, Bool, true, false}
use Rattle.site_text.specs.declared.fault.ConfFault.{ConfFault}
use Rattle.site_text.specs.declared.fault.ConfFault.TheVariants.{MissingField, ExtraField}
use Rattle.site_text.specs.declared.fault.LineError.{LineError}
use Rattle.site_text.specs.declared.fault.LineError.TheVariants.{Fault, NoMemory}

abbrev pub Field : Type 0
Field = List ℕ

-- what is read, or the fault
abbrev pub Read : Type 0 → Type 0
Read A = Result A ConfFault

infixl 10 ◌>>=◌
abbrev pub ◌>>=◌ : {A B : Type 0} → Read A → (A → Read B) → Read B
(Ok x) >>= f = f x
(Err fault) >>= f = Err fault

abbrev pub map_read : {A B : Type 0} → (A → B) → Read A → Read B
map_read f (Ok x) = Ok (f x)
map_read f (Err fault) = Err fault

-- ---- what functions answer

-- What a function read of a cursor, seen by view, with the fields that it left, is what reading gives.
abbrev pub Reads : {X Y : Type 0} → (X → Y) → Result X ConfFault → List Field → Read (Y × List Field) → Type 0
Reads view (Ok x) rest read = read ≡ Ok (view x, rest)
Reads view (Err fault) rest read = read ≡ Err fault

-- an error is what reading gives, or want of memory
abbrev pub Fails : {Y : Type 0} → LineError → Read Y → Type 0
Fails (Fault fault) read = read ≡ Err fault
Fails NoMemory read = Unit {0}

-- What a function that takes memory read, seen by view, is what reading gives, unless memory ran out.
abbrev pub Gives : {X Y : Type 0} → (X → Y) → Result X LineError → Read Y → Type 0
Gives view (Ok x) read = read ≡ Ok (view x)
Gives view (Err error) read = Fails error read

-- the same of a function that also leaves the fields behind
abbrev pub GivesFront : {X Y : Type 0} → (X → Y) → Result X LineError → List Field → Read (Y × List Field) → Type 0
GivesFront view (Ok x) rest read = read ≡ Ok (view x, rest)
GivesFront view (Err error) rest read = Fails error read

-- the same of a function that leaves what is read in a place of the caller's
abbrev pub Leaves : {Y : Type 0} → Y → Result (Unit {0}) LineError → Read Y → Type 0
Leaves now (Ok x) read = read ≡ Ok now
Leaves now (Err error) read = Fails error read

-- ---- fields

-- the next field and those behind it
unfoldable pub next_field : List Field → Read (Field × List Field)
next_field [] = Err MissingField
next_field (field ∷ fields) = Ok (field, fields)

unfoldable pub no_field : List Field → Read (Unit {0} × List Field)
no_field [] = Ok (tt, [])
no_field (field ∷ fields) = Err ExtraField

-- a text before some fields, where it is not empty
abbrev pub put_field : Field → List Field → List Field
put_field [] fields = fields
put_field (b ∷ bs) fields = (b ∷ bs) ∷ fields

-- ---- tests

-- where the test holds, this fault
abbrev pub refuse_if : Bool → ConfFault → Read (Unit {0})
refuse_if true fault = Err fault
refuse_if false fault = Ok tt

-- where there is no value, this fault
abbrev pub wanted : {A : Type 0} → Option A → ConfFault → Read A
wanted (Some x) fault = Ok x
wanted None fault = Err fault
