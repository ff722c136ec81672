-- A store in memory that had no call since it began.
use Rattle.std.proofs.Common.{◌≡◌, ℕ, List, [], reverse, sym, ap, subst}
use Rattle.bank.specs.Content.{Image}
use Rattle.bank.specs.View.{OnlyContent}
use Rattle.bank.specs.declared.call.Call.{Call}
use Rattle.bank.specs.Past.{content_of, view_of}

pub reads_as_began : (start : Image) (calls : List Call) → calls ≡ [] → (view_of start (reverse calls)).content ≡ start
reads_as_began start calls none = ap (λ (l : List Call). content_of start (reverse l)) none

pub leaves_what_it_reads : (start : Image) (calls : List Call) → calls ≡ [] → (area : ℕ) → OnlyContent area (view_of start (reverse calls))
leaves_what_it_reads start calls none area = subst (λ (l : List Call). OnlyContent area (view_of start (reverse l))) (sym none) (λ c left. left)
