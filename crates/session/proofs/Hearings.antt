-- From lines to what they ask.
use Rattle.std.proofs.Common.{◌≡◌, ℕ, List, [], ◌∷◌, refl, ap, ◌∙◌, Option, Bool, false, cond, inl, inr, Result, Ok, Err, subst}
use Rattle.std.specs.Prelude.{flat_map}
use Rattle.std.proofs.lemmas.List.{append-nil}
use Rattle.site_events.specs.declared.event.Asked.{Asked}
use Rattle.site_events.specs.declared.reply.LineRefusal.{LineRefusal}
use Rattle.site_events.specs.declared.reply.LineRefusal.TheVariants.{NotACommand, BadWord, LineTooLong, NoMemory as WantOfMemory}
use Rattle.desk.specs.Asks.{is_skipped, asked_of, Answers}
use Rattle.desk.specs.Texts.{text_of}
use Rattle.input.specs.Lines.{RawLine}
use Rattle.input.specs.Lines.{Kept, Long}
use Rattle.input.specs.Lines.{raw_lines}
use Rattle.input.specs.Reading.{Reading, ReadsItem}
use Rattle.session.specs.Requests.{Request}
use Rattle.session.specs.Asking.{ends_run, line_request, requests_of, asks_of}
use Rattle.session.specs.Hearing.{Takes, IsReadAs, IsHeardAs}

-- an answer is what was asked, or want of memory
read_as : (asked meaning : Result Asked LineRefusal) → Answers asked meaning → IsReadAs asked meaning
read_as (Ok asked) meaning h = inl h
read_as (Err NotACommand) meaning h = inl h
read_as (Err (BadWord number)) meaning h = inl h
read_as (Err LineTooLong) meaning h = inl h
read_as (Err WantOfMemory) meaning h = inr refl

-- so the line's request was heard, in whatever form
heard_as : {F : Type 0} (form : F) (asked meaning : Result Asked LineRefusal) → IsReadAs asked meaning → IsHeardAs (λ (f : F). text_of) (λ (f : F). ends_run) asked form (line_request meaning)
heard_as form asked meaning read = record { asks = read; writes = refl; ends = refl }

-- what a line asks was taken
taken : (before now : Option (List ℕ)) (old new : Reading) (line : RawLine) → ReadsItem raw_lines before now old new line → Takes asks_of before now old new (requests_of line)
taken before now old new line r = record {
  used = r.used;
  moved = r.moved;
  was_open = r.was_open;
  some = r.some;
  whole = λ e more ended. ap (λ (l : List RawLine). flat_map requests_of l) ((r.whole e).first more ended);
  last = λ e. ap (λ (l : List RawLine). flat_map requests_of l) (r.last e) ∙ append-nil (requests_of line);
  drained = r.drained;
}

-- a line that is not skipped asks one thing
pub asks : {F : Type 0} (form : F) (before now : Option (List ℕ)) (old new : Reading) (line : List ℕ) (asked : Result Asked LineRefusal) → is_skipped line ≡ false → Answers asked (asked_of line) → ReadsItem raw_lines before now old new (Kept line)
    → (request : Request) × IsHeardAs (λ (f : F). text_of) (λ (f : F). ends_run) asked form request × Takes asks_of before now old new (request ∷ [])
asks form before now old new line asked e read r = (
  line_request (asked_of line),
  heard_as form asked (asked_of line) (read_as asked (asked_of line) read),
  subst (λ (l : List Request). Takes asks_of before now old new l) (ap (λ (t : Bool). cond t [] (line_request (asked_of line) ∷ [])) e) (taken before now old new (Kept line) r),
)

-- and so does one that is too long
pub too_long : {F : Type 0} (form : F) (before now : Option (List ℕ)) (old new : Reading) → ReadsItem raw_lines before now old new Long
    → (request : Request) × IsHeardAs (λ (f : F). text_of) (λ (f : F). ends_run) (Err LineTooLong) form request × Takes asks_of before now old new (request ∷ [])
too_long form before now old new r = (line_request (Err LineTooLong), heard_as form (Err LineTooLong) (Err LineTooLong) (inl refl), taken before now old new Long r)
