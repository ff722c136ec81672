-- A line, byte by byte.
use Rattle.std.proofs.Common.{◌≡◌, ◌≢◌, ℕ, ◌<◌, ◌≤◌, List, [], ◌∷◌, ◌++◌, length, refl, sym, ◌∙◌, ap, subst, arith, Option, Bool, true, false, cond, append_assoc, length-append}
use Rattle.std.proofs.lemmas.Bool.{ne_eqb, lt-leb, eqb-true, eqb-false}
use Rattle.std.proofs.lemmas.List.{append-nil}
use Rattle.std.specs.Prelude.{nat_eq}
use Rattle.input.specs.declared.line.LineRead.{LineRead}
use Rattle.input.specs.declared.line.LineRead.TheVariants.{Line, TooLong, Ended, SourceFault, OverBudget}
use Rattle.input.specs.Reading.{Reading, Moved, ReadsItem}
use Rattle.input.specs.Lines.{RawLine, Kept, Long, line_of, without_return, lines_after, raw_lines}
use Rattle.input.specs.Reads.{ReadsLine, TellsLine}
use Rattle.input.proofs.Pieces.{without_return-length}
use Rattle.input.proofs.Steps.{stays, then_moved, then_stopped}

-- the line buffer has the first bytes of a line, and all of them while it is not long
pub record IsKept (front line : List ℕ) (long : Bool) : Type 0 where
  pub short : long ≡ false → front ≡ line
  pub longer : long ≡ true → 4097 < length front
  pub filled : long ≡ true → length line ≡ 4097
  pub within : length line ≤ 4097

-- a line was read up to here
pub record SoFar (before now : Option (List ℕ)) (old new : Reading) (long : Bool) : Type 0 where
  pub used : List ℕ
  pub front : List ℕ
  pub moved : Moved before now old new used []
  pub reads : (more : List ℕ) (ended : Bool) → raw_lines (used ++ more) ended ≡ lines_after front more ended
  pub kept : IsKept front new.line long
  pub same : new.ended ≡ old.ended
  pub as_long : length used ≡ length front
  pub none : old.ended ≡ true → (used ≡ []) × (front ≡ [])

pub begun : (a : Option (List ℕ)) (x y : Reading) → y ≡ record x { line = [] } → SoFar a a x y false
begun a x y e = subst (λ (r : Reading). SoFar a a x r false) (sym e) record {
  used = [];
  front = [];
  moved = moved_on (stays a x);
  reads = λ more ended. refl;
  kept = record { short = λ _. refl; longer = λ (h : false ≡ true). absurd (cc); filled = λ (h : false ≡ true). absurd (cc); within = omega arith };
  same = refl;
  as_long = refl;
  none = λ _. (refl, refl);
}
  where
    moved_on : Moved a a x x [] [] → Moved a a x (record x { line = [] }) [] []
    moved_on m = record { more = m.more; took = m.took; split = m.split; budget = m.budget; done = m.done; end = m.end }

fed : (front more : List ℕ) (ended : Bool) → lines_after front (10 ∷ more) ended ≡ line_of (without_return front) ∷ raw_lines more ended
fed [] more ended = refl
fed (f ∷ front) more ended = refl

not_fed : (front more : List ℕ) (b : ℕ) (ended : Bool) → b ≢ 10 → lines_after front (b ∷ more) ended ≡ lines_after (front ++ b ∷ []) more ended
not_fed [] more b ended ne = ap (λ (t : Bool). cond t (line_of [] ∷ raw_lines more ended) (lines_after (b ∷ []) more ended)) (ne_eqb b 10 ne)
not_fed (f ∷ front) more b ended ne = ap (λ (t : Bool). cond t (line_of (without_return (f ∷ front)) ∷ raw_lines more ended) (lines_after (f ∷ (front ++ b ∷ [])) more ended)) (ne_eqb b 10 ne)

ended_with : (front : List ℕ) → 0 < length front → lines_after front [] true ≡ line_of front ∷ []
ended_with [] h = absurd (omega arith)
ended_with (f ∷ front) h = refl

open_still : (front : List ℕ) → lines_after front [] false ≡ []
open_still [] = refl
open_still (f ∷ front) = refl

over : (front : List ℕ) → 4096 < length front → Long ≡ line_of front
over front h = ap (λ (t : Bool). cond t (Kept front) Long) (sym (lt-leb (length front) 4096 h))

-- what a line is, from what was kept of it
is_line : (front line : List ℕ) (long : Bool) → IsKept front line long → cond long Long (line_of line) ≡ line_of front
is_line front line true k = over front (omega (arith, k.longer refl))
is_line front line false k = ap line_of (sym (k.short refl))

is_fed_line : (front line : List ℕ) (long : Bool) → IsKept front line long → cond long Long (line_of (without_return line)) ≡ line_of (without_return front)
is_fed_line front line true k = over (without_return front) (omega (arith, k.longer refl, without_return-length front))
is_fed_line front line false k = ap (λ (l : List ℕ). line_of (without_return l)) (sym (k.short refl))

front_some : (front line : List ℕ) (long : Bool) → IsKept front line long → 0 < length line → 0 < length front
front_some front line true k some = omega (arith, k.longer refl)
front_some front line false k some = omega (arith, ap length (k.short refl), some)

front_none : (front line : List ℕ) (long : Bool) → IsKept front line long → length line ≡ 0 → front ≡ []
front_none front line true k none = absurd (omega (arith, k.filled refl, none))
front_none front line false k none = k.short refl ∙ is_nil line none
  where
    is_nil : (l : List ℕ) → length l ≡ 0 → l ≡ []
    is_nil [] h = refl
    is_nil (i ∷ l) h = absurd (omega arith)

-- a byte was added to the line buffer
pub pushed : (line : List ℕ) (long : Bool) (byte : ℕ) → length line < 4097 → (front : List ℕ) → IsKept front line long → IsKept (front ++ byte ∷ []) (line ++ byte ∷ []) long
pushed line long byte room front k = record {
  short = λ no_long. ap (λ (l : List ℕ). l ++ byte ∷ []) (k.short no_long);
  longer = λ yes_long. absurd (omega (arith, k.filled yes_long, room));
  filled = λ yes_long. absurd (omega (arith, k.filled yes_long, room));
  within = omega (arith, length-append line (byte ∷ []), room);
}

-- a byte had no room
pub too_long : (line : List ℕ) (long : Bool) (byte : ℕ) → 4097 ≤ length line → (front : List ℕ) → IsKept front line long → IsKept (front ++ byte ∷ []) line true
too_long line long byte full front k = record {
  short = λ (h : true ≡ false). absurd (cc);
  longer = λ _. omega (arith, length-append front (byte ∷ []), at_least long k, full);
  filled = λ _. omega (arith, k.within, full);
  within = k.within;
}
  where
    at_least : (v : Bool) → IsKept front line v → 4097 ≤ length front
    at_least true k = omega (arith, k.longer refl)
    at_least false k = omega (arith, ap length (k.short refl), full)

module _ (a b c : Option (List ℕ)) (x y z : Reading) (long : Bool) (s : SoFar a b x y long) where
  next_read : (byte : ℕ) (more : List ℕ) (ended : Bool) → raw_lines ((s.used ++ byte ∷ []) ++ more) ended ≡ lines_after s.front (byte ∷ more) ended
  next_read byte more ended = ap (λ (l : List ℕ). raw_lines l ended) (append_assoc s.used (byte ∷ []) more) ∙ s.reads (byte ∷ more) ended

  began : y.ended ≡ false → x.ended ≡ true → ⊥
  began no_end was = absurd (let e : true ≡ false = sym was ∙ sym s.same ∙ no_end in cc)

  -- a byte of the line was used
  pub one_more : (byte : ℕ) (r : Reading) (line' : List ℕ) (long' : Bool) → Moved b c y z (byte ∷ []) [] → y.ended ≡ false → z.ended ≡ false → byte ≢ 10
      → r ≡ record z { line = line' } → ((front : List ℕ) → IsKept front y.line long → IsKept (front ++ byte ∷ []) line' long') → SoFar a c x r long'
  one_more byte r line' long' m no_end no_end' ne e keeps = subst (λ (q : Reading). SoFar a c x q long') (sym e) record {
    used = s.used ++ byte ∷ [];
    front = s.front ++ byte ∷ [];
    moved = moved_on (then_moved a b c x y z s.used (byte ∷ []) [] s.moved m);
    reads = λ more ended. next_read byte more ended ∙ not_fed s.front more byte ended ne;
    kept = keeps s.front s.kept;
    same = no_end' ∙ sym no_end ∙ s.same;
    as_long = omega (arith, length-append s.used (byte ∷ []), length-append s.front (byte ∷ []), s.as_long);
    none = λ was. absurd (began no_end was);
  }
    where
      moved_on : Moved a c x z (s.used ++ byte ∷ []) [] → Moved a c x (record z { line = line' }) (s.used ++ byte ∷ []) []
      moved_on m = record { more = m.more; took = m.took; split = m.split; budget = m.budget; done = m.done; end = m.end }

module _ (a c : Option (List ℕ)) (x z : Reading) where
  -- an answer that tells of the line that was read
  tells_read : (res : LineRead) (line : RawLine) → TellsLine res z.line line → ReadsItem raw_lines a c x z line → ReadsLine a c x z res
  tells_read Line line tells r = subst (λ (l : RawLine). ReadsItem raw_lines a c x z l) tells r
  tells_read TooLong line tells r = subst (λ (l : RawLine). ReadsItem raw_lines a c x z l) tells r
  tells_read Ended line tells r = absurd tells
  tells_read SourceFault line tells r = absurd tells
  tells_read OverBudget line tells r = absurd tells

not_true : (v : Bool) → (v ≡ true → ⊥) → v ≡ false
not_true true h = absurd (h refl)
not_true false h = refl

module _ (a b c : Option (List ℕ)) (x y z : Reading) (long : Bool) (s : SoFar a b x y long) where
  -- a line that its line feed ended
  pub fed_line : (res : LineRead) (byte : ℕ) (r : Reading) → r ≡ record z { line = without_return z.line } → z.line ≡ y.line
      → TellsLine res r.line (cond long Long (line_of r.line)) → byte ≡ 10
      → Moved b c y z (byte ∷ []) [] → y.ended ≡ false → z.ended ≡ false → ReadsLine a c x r res
  fed_line res byte r e same tells ten m no_end no_end' = tells_read a c x r res (line_of (without_return s.front)) told (subst (λ (q : Reading). ReadsItem raw_lines a c x q (line_of (without_return s.front))) (sym e) record {
    used = s.used ++ byte ∷ [];
    moved = moved_on (then_moved a b c x y z s.used (byte ∷ []) [] s.moved m);
    was_open = sym s.same ∙ no_end;
    some = omega (arith, length-append s.used (byte ∷ []));
    whole = λ _. record { first = λ more ended. next_read a b c x y z long s byte more ended ∙ ap (λ (k : ℕ). lines_after s.front (k ∷ more) ended) ten ∙ fed s.front more ended };
    last = λ h. absurd (let e2 : true ≡ false = sym h ∙ no_end' in cc);
    drained = λ h. absurd (let e2 : true ≡ false = sym h ∙ no_end' in cc);
  })
    where
      moved_on : Moved a c x z (s.used ++ byte ∷ []) [] → Moved a c x (record z { line = without_return z.line }) (s.used ++ byte ∷ []) []
      moved_on m = record { more = m.more; took = m.took; split = m.split; budget = m.budget; done = m.done; end = m.end }

      line_is : r.line ≡ without_return y.line
      line_is = ap (λ (q : Reading). q.line) e ∙ ap without_return same

      told : TellsLine res r.line (line_of (without_return s.front))
      told = subst (λ (l : RawLine). TellsLine res r.line l) (ap (λ (l : List ℕ). cond long Long (line_of l)) line_is ∙ is_fed_line s.front y.line long s.kept) tells

  used_end : (ended : Bool) → raw_lines s.used ended ≡ lines_after s.front [] ended
  used_end ended = ap (λ (l : List ℕ). raw_lines l ended) (sym (append-nil s.used)) ∙ s.reads [] ended

  -- a last line without a line feed
  pub last_line : (res : LineRead) → z.line ≡ y.line → TellsLine res z.line (cond long Long (line_of z.line)) → 0 < length z.line → Moved b c y z [] [] → z.ended ≡ true → z.held ≡ [] → ReadsLine a c x z res
  last_line res same tells some m end holds = tells_read a c x z res (line_of s.front) told record {
    used = s.used;
    moved = then_stopped a b c x y z s.used [] s.moved m;
    was_open = not_true x.ended (λ was. absurd (let e : length s.front ≡ 0 = ap length (s.none was).1 in omega (arith, e, has)));
    some = omega (arith, s.as_long, has);
    whole = λ h. absurd (let e2 : true ≡ false = sym end ∙ h in cc);
    last = λ _. used_end true ∙ ended_with s.front has;
    drained = λ _. holds;
  }
    where
      has : 0 < length s.front
      has = front_some s.front y.line long s.kept (subst (λ (l : List ℕ). 0 < length l) same some)

      told : TellsLine res z.line (line_of s.front)
      told = subst (λ (l : RawLine). TellsLine res z.line l) (ap (λ (l : List ℕ). cond long Long (line_of l)) same ∙ is_line s.front y.line long s.kept) tells

  pub no_line : z.line ≡ y.line → length z.line ≡ 0 → Moved b c y z [] [] → z.ended ≡ true → z.held ≡ [] → ReadsLine a c x z Ended
  no_line same nothing m end holds = record {
    used = s.used;
    moved = then_stopped a b c x y z s.used [] s.moved m;
    ended = end;
    nothing_held = holds;
    again = λ was. (s.none was).0;
    none = used_end true ∙ ap (λ (l : List ℕ). lines_after l [] true) (front_none s.front y.line long s.kept (sym (ap length same) ∙ nothing));
  }

  pub cut_line : Moved b c y z [] [] → z.held ≡ [] → z.ended ≡ false → ReadsLine a c x z SourceFault
  cut_line m holds no_end = record {
    used = s.used;
    moved = then_stopped a b c x y z s.used [] s.moved m;
    still_open = no_end;
    nothing_held = holds;
    none = used_end false ∙ open_still s.front;
  }

  pub over_line : (byte : ℕ) → Moved b c y z [] (byte ∷ []) → z.held ≡ [] → z.budget ≡ 0 → z.ended ≡ false → ReadsLine a c x z OverBudget
  over_line byte m holds spent no_end = record {
    used = s.used;
    extra = byte;
    moved = then_stopped a b c x y z s.used (byte ∷ []) s.moved m;
    still_open = no_end;
    nothing_held = holds;
    spent = spent;
    none = used_end false ∙ open_still s.front;
  }

pub is_empty : (b : Bool) (n : ℕ) → b ≡ nat_eq n 0 → b ≡ true → n ≡ 0
is_empty b n e h = eqb-true n 0 (sym e ∙ h)

pub is_not_empty : (b : Bool) (n : ℕ) → b ≡ nat_eq n 0 → b ≡ false → n ≢ 0
is_not_empty b n e h = eqb-false n 0 (sym e ∙ h)
