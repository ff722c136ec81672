-- Which calls of a store in memory are to fail.
use Rattle.std.specs.Prelude.{ℕ, ◌+◌, Bool, true, false, ◌&&◌, ◌==◌, List, count_by}
use Rattle.std.specs.List.{list_any}
use Rattle.bank.specs.declared.call.Call.{Call}
use Rattle.bank.specs.declared.call.FailAt.{FailAt}
use Rattle.bank.specs.declared.call.BankCall.{BankCall}
use Rattle.bank.specs.declared.call.BankCall.TheVariants.{Read, Write, Sync}

abbrev pub same_kind : BankCall → BankCall → Bool
same_kind Read Read = true
same_kind Write Write = true
same_kind Sync Sync = true
same_kind x y = false

-- how many calls of this kind an area had
abbrev pub count_of : List Call → ℕ → BankCall → ℕ
count_of calls area kind = count_by (λ c. (c.area == area) && same_kind c.kind kind) calls

-- whether the next call of this kind on this area is in the list
abbrev pub is_listed : List FailAt → List Call → ℕ → BankCall → Bool
is_listed fail calls area kind =
    list_any (λ f. (f.area == area) && same_kind f.call kind && (f.number == count_of calls area kind + 1)) fail
