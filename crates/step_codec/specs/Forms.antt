-- Forms of fields: what a field may hold, the bytes it is written in, and where bytes are no such field.
use Rattle.std.specs.Prelude.{◌≡◌, ℕ, zero, suc, ◌-◌, ◌*◌, ◌^◌, ◌<◌, ◌≤◌, ◌⊎◌, Bool, ◌&&◌, List, [], ◌∷◌, ◌++◌, length, take, drop, Result, Ok, Err, nat_lt, nat_le, if◌then◌else◌}
use Rattle.std.specs.List.{flat_map, AllByRecursion}
use Rattle.std.specs.Int.{Width, w32, byte_len, to_le_bytes, from_le_bytes}
use Rattle.step_codec.specs.declared.refusal.StepRefusal.{StepRefusal}
use Rattle.step_codec.specs.declared.refusal.StepRefusal.TheVariants.{Truncated, BadField}

infixl 10 ◌>>=◌
abbrev pub ◌>>=◌ : {A B : Type 0} → Result A StepRefusal → (A → Result B StepRefusal) → Result B StepRefusal
(Ok x) >>= f = f x
(Err e) >>= f = Err e

-- A form of a field, or of fields that follow one another.
pub record Form (A : Type 0) : Type 1 where
  -- the one written form of a value
  pub written : A → List ℕ
  -- the values that may be written
  pub InRange : A → Type 0
  -- At the first field without a reading, the bytes end in it, or its value is out of range.
  pub Refuses : List ℕ → StepRefusal → Type 0
  -- the value at the front and the bytes after it, or what is wrong with the first field without a reading
  pub read : List ℕ → Result (A × List ℕ) StepRefusal

-- the bytes begin with a value of the form, and go on with the rest
pub record Begins {A : Type 0} (form : Form A) (bytes : List ℕ) (x : A) (rest : List ℕ) : Type 0 where
  pub bytes_are : bytes ≡ form.written x ++ rest
  pub in_range : form.InRange x

-- so many bytes, and those after them
abbrev pub front_at : ℕ → List ℕ → Result (List ℕ × List ℕ) StepRefusal
front_at count bytes = if nat_lt (length bytes) count then Err Truncated else Ok (take count bytes, drop count bytes)

-- A number: its bytes, least first.

unfoldable pub number_bytes : Width → ℕ → List ℕ
number_bytes w n = to_le_bytes w n

abbrev pub IsWithin : ℕ → ℕ → ℕ → Type 0
IsWithin least most n = (least ≤ n) × (n ≤ most)

abbrev pub is_within : ℕ → ℕ → ℕ → Bool
is_within least most n = nat_le least n && nat_le n most

abbrev pub NumberRefuses : Width → ℕ → ℕ → List ℕ → StepRefusal → Type 0
NumberRefuses w least most bytes Truncated = length bytes < byte_len w
NumberRefuses w least most bytes BadField = (n : ℕ) × (rest : List ℕ) × (n < 2 ^ (8 * byte_len w)) × (bytes ≡ number_bytes w n ++ rest) × (¬ (IsWithin least most n))
NumberRefuses w least most bytes _ = ⊥

unfoldable pub number_at : Width → List ℕ → Result (ℕ × List ℕ) StepRefusal
number_at w bytes = if nat_lt (length bytes) (byte_len w) then Err Truncated else Ok (from_le_bytes w (take (byte_len w) bytes), drop (byte_len w) bytes)

unfoldable pub number_within : Width → ℕ → ℕ → List ℕ → Result (ℕ × List ℕ) StepRefusal
number_within w least most bytes = number_at w bytes >>= λ n. if is_within least most n.0 then Ok n else Err BadField

abbrev pub number_of : Width → ℕ → ℕ → Form ℕ
number_of w least most = record {
  written = number_bytes w;
  InRange = IsWithin least most;
  Refuses = NumberRefuses w least most;
  read = number_within w least most;
}

-- A choice among so many: one byte.

abbrev pub ChoiceRefuses : ℕ → List ℕ → StepRefusal → Type 0
ChoiceRefuses count [] e = e ≡ Truncated
ChoiceRefuses count (b ∷ rest) e = (count ≤ b) × (e ≡ BadField)

abbrev pub byte_at : List ℕ → Result (ℕ × List ℕ) StepRefusal
byte_at [] = Err Truncated
byte_at (b ∷ rest) = Ok (b, rest)

unfoldable pub choice_at : {A : Type 0} → ℕ → (ℕ → A) → List ℕ → Result (A × List ℕ) StepRefusal
choice_at count of bytes = byte_at bytes >>= λ b. if nat_lt b.0 count then Ok (of b.0, b.1) else Err BadField

abbrev pub choice_of : {A : Type 0} → ℕ → (A → ℕ) → (ℕ → A) → Form A
choice_of count code of = record {
  written = λ x. code x ∷ [];
  InRange = λ x. Unit {0};
  Refuses = ChoiceRefuses count;
  read = choice_at count of;
}

-- A text: its length as four bytes, and its bytes.

abbrev pub size : Form ℕ
size = number_of w32 0 (2 ^ 32 - 1)

abbrev pub TextRefuses : List ℕ → StepRefusal → Type 0
TextRefuses bytes e = NumberRefuses w32 0 (2 ^ 32 - 1) bytes e
    ⊎ ((n : ℕ) × (rest : List ℕ) × Begins size bytes n rest × (length rest < n) × (e ≡ Truncated))

unfoldable pub text_at : List ℕ → Result (List ℕ × List ℕ) StepRefusal
text_at bytes = number_within w32 0 (2 ^ 32 - 1) bytes >>= λ n. front_at n.0 n.1

abbrev pub text : Form (List ℕ)
text = record {
  written = λ bytes. number_bytes w32 (length bytes) ++ bytes;
  InRange = λ bytes. length bytes < 2 ^ 32;
  Refuses = TextRefuses;
  read = text_at;
}

-- One form after another.

infixr 7 ◌&◌
abbrev pub ◌&◌ : {A B : Type 0} → Form A → Form B → Form (A × B)
F & G = record {
  written = λ x. F.written x.0 ++ G.written x.1;
  InRange = λ x. F.InRange x.0 × G.InRange x.1;
  Refuses = λ bytes e. F.Refuses bytes e ⊎ ((a : _) × (rest : List ℕ) × Begins F bytes a rest × G.Refuses rest e);
  read = λ bytes. F.read bytes >>= λ a. G.read a.1 >>= λ b. Ok ((a.0, b.0), b.1);
}

-- The parts of a form put together to a value, and taken from it.
abbrev pub made : {A B : Type 0} → (A → B) → (B → A) → Form A → Form B
made of parts F = record {
  written = λ x. F.written (parts x);
  InRange = λ x. F.InRange (parts x);
  Refuses = F.Refuses;
  read = λ bytes. F.read bytes >>= λ a. Ok (of a.0, a.1);
}

-- A list: its count as four bytes, and its items.

abbrev pub count : ℕ → ℕ → Form ℕ
count least most = number_of w32 least most

unfoldable pub items_at : {A : Type 0} → Form A → ℕ → List ℕ → Result (List A × List ℕ) StepRefusal
items_at item zero bytes = Ok ([], bytes)
items_at item (suc n) bytes = item.read bytes >>= λ x. items_at item n x.1 >>= λ xs. Ok (x.0 ∷ xs.0, xs.1)

-- one of the next n items is the first without a reading
abbrev pub ItemsRefuse : {A : Type 0} → Form A → ℕ → List ℕ → StepRefusal → Type 0
ItemsRefuse item zero bytes e = ⊥
ItemsRefuse item (suc n) bytes e = item.Refuses bytes e ⊎ ((x : _) × (rest : List ℕ) × Begins item bytes x rest × ItemsRefuse item n rest e)

abbrev pub ListRefuses : {A : Type 0} → ℕ → ℕ → Form A → List ℕ → StepRefusal → Type 0
ListRefuses least most item bytes e = NumberRefuses w32 least most bytes e
    ⊎ ((n : ℕ) × (rest : List ℕ) × Begins (count least most) bytes n rest × ItemsRefuse item n rest e)

unfoldable pub list_at : {A : Type 0} → ℕ → ℕ → Form A → List ℕ → Result (List A × List ℕ) StepRefusal
list_at least most item bytes = number_within w32 least most bytes >>= λ n. items_at item n.0 n.1

abbrev pub list_of : {A : Type 0} → ℕ → ℕ → Form A → Form (List A)
list_of least most item = record {
  written = λ xs. number_bytes w32 (length xs) ++ flat_map item.written xs;
  InRange = λ xs. IsWithin least most (length xs) × AllByRecursion item.InRange xs;
  Refuses = ListRefuses least most item;
  read = list_at least most item;
}
