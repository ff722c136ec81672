-- Steps of a reader, one after another.
use Rattle.std.proofs.Common.{◌≡◌, ℕ, ◌+◌, ◌<◌, List, [], ◌∷◌, ◌++◌, length, refl, sym, ◌∙◌, ap, subst, arith, Option, true, append_assoc, length-append, map}
use Rattle.std.proofs.lemmas.List.{append-nil}
use Rattle.std.proofs.KnownBytes.{Consumes-nil, Consumes-trans}
use Rattle.std.specs.Io.KnownBytes.{Consumes}
use Rattle.input.specs.Reading.{Reading, Moved, Items, ReadsItem, MeetsEnd, StopsAtFault, StopsOverBudget}

-- nothing happened
pub stays : (a : Option (List ℕ)) (x : Reading) → Moved a a x x [] []
stays a x = record {
  more = [];
  took = Consumes-nil a;
  split = append-nil x.held;
  budget = omega arith;
  done = λ e. (refl, e);
  end = λ at. at;
}

-- two steps are one
pub then_moved : (a b c : Option (List ℕ)) (x y z : Reading) (us vs beyond : List ℕ) → Moved a b x y us [] → Moved b c y z vs beyond → Moved a c x z (us ++ vs) beyond
then_moved a b c x y z us vs beyond p q = record {
  more = p.more ++ q.more;
  took = subst (λ (l : List ℕ). Consumes a c l) (ap (λ (l : List ℕ). l ++ (q.more ++ beyond)) (append-nil p.more) ∙ sym (append_assoc p.more q.more beyond)) (Consumes-trans a b c (p.more ++ []) (q.more ++ beyond) p.took q.took);
  split = sym (append_assoc x.held p.more q.more) ∙ ap (λ (l : List ℕ). l ++ q.more) p.split ∙ append_assoc us y.held q.more ∙ ap (λ (l : List ℕ). us ++ l) q.split ∙ sym (append_assoc us vs z.held);
  budget = omega (arith, p.budget, q.budget, length-append p.more q.more);
  done = λ e. let first = p.done e in let second = q.done first.1 in
      (append_assoc p.more q.more beyond ∙ ap (λ (l : List ℕ). p.more ++ l) second.0 ∙ first.0, second.1);
  end = λ at. q.end (p.end at);
}

-- a step that used nothing more
pub then_stopped : (a b c : Option (List ℕ)) (x y z : Reading) (us beyond : List ℕ) → Moved a b x y us [] → Moved b c y z [] beyond → Moved a c x z us beyond
then_stopped a b c x y z us beyond p q = subst (λ (l : List ℕ). Moved a c x z l beyond) (append-nil us) (then_moved a b c x y z us [] beyond p q)

-- what is left to come falls with the bytes used
pub falls_by : (a b : Option (List ℕ)) (x y : Reading) (us : List ℕ) → Moved a b x y us [] → 0 < length us → y.budget + length y.held < x.budget + length x.held
falls_by a b x y us m some = omega (arith, m.budget, ap length m.split, length-append x.held m.more, length-append us y.held, some)

-- at the end a reader that holds nothing goes on to hold nothing
pub ended_holds_nothing : (a b : Option (List ℕ)) (x y : Reading) (us : List ℕ) → Moved a b x y us [] → x.ended ≡ true → x.held ≡ [] → (us ≡ []) × (y.held ≡ [])
ended_holds_nothing a b x y us m ended none = parts us y.held (sym m.split ∙ ap (λ (l : List ℕ). l ++ m.more) none ∙ nil m.more (m.done ended).0)
  where
    nil : (l : List ℕ) → l ++ [] ≡ [] → l ≡ []
    nil l e = sym (append-nil l) ∙ e

    parts : (xs ys : List ℕ) → xs ++ ys ≡ [] → (xs ≡ []) × (ys ≡ [])
    parts [] ys e = (refl, e)
    parts (x ∷ xs) ys e = absurd (cc)

-- what a reader that began with nothing held took in all: the bytes used, those held, and those beyond the budget
pub taken_in_all : (a b : Option (List ℕ)) (x y : Reading) (us beyond : List ℕ) → Moved a b x y us beyond → x.held ≡ [] → Consumes a b ((us ++ y.held) ++ beyond)
taken_in_all a b x y us beyond m none = subst (λ (l : List ℕ). Consumes a b (l ++ beyond)) (sym (ap (λ (l : List ℕ). l ++ m.more) none) ∙ m.split) m.took

-- and within the budget
pub within_budget : (a b : Option (List ℕ)) (x y : Reading) (us beyond : List ℕ) → Moved a b x y us beyond → x.held ≡ [] → length (us ++ y.held) + y.budget ≡ x.budget
within_budget a b x y us beyond m none = omega (arith, m.budget, ap length (sym (ap (λ (l : List ℕ). l ++ m.more) none) ∙ m.split))

-- each item seen through a function
abbrev pub seen_through : {A B : Type 0} → (A → B) → Items A → Items B
seen_through f items = λ bytes ended. map f (items bytes ended)

module _ {A B : Type 0} (f : A → B) (items : Items A) (a b : Option (List ℕ)) (x y : Reading) where
  pub map-reads : (item : A) → ReadsItem items a b x y item → ReadsItem (seen_through f items) a b x y (f item)
  map-reads item r = record {
    used = r.used;
    moved = r.moved;
    was_open = r.was_open;
    some = r.some;
    whole = λ open_. record { first = λ more ended. ap (λ l. map f l) ((r.whole open_).first more ended) };
    last = λ ended. ap (λ l. map f l) (r.last ended);
    drained = r.drained;
  }

  pub map-meets_end : MeetsEnd items a b x y → MeetsEnd (seen_through f items) a b x y
  map-meets_end r = record { used = r.used; moved = r.moved; ended = r.ended; nothing_held = r.nothing_held; again = r.again; none = ap (λ l. map f l) r.none }

  pub map-stops_at_fault : StopsAtFault items a b x y → StopsAtFault (seen_through f items) a b x y
  map-stops_at_fault r = record { used = r.used; moved = r.moved; still_open = r.still_open; nothing_held = r.nothing_held; none = ap (λ l. map f l) r.none }

  pub map-stops_over_budget : StopsOverBudget items a b x y → StopsOverBudget (seen_through f items) a b x y
  map-stops_over_budget r = record { used = r.used; extra = r.extra; moved = r.moved; still_open = r.still_open; nothing_held = r.nothing_held; spent = r.spent; none = ap (λ l. map f l) r.none }
