-- The bytes of a put are written run by run.
use Rattle.std.proofs.Common.{◌≡◌, inl, inr, ⊎_elim, ℕ, zero, suc, ◌+◌, ◌*◌, ◌/◌, ◌<◌, ◌≤◌, Bool, true, false, ◌||◌, List, [], ◌∷◌, ◌++◌, length, take, drop, get_or, min, refl, sym, ◌∙◌, ap, subst, arith, drop-drop}
use Rattle.std.proofs.lemmas.Bool.{cases_lt, both_ways, or_left, false_from_ne_true}
use Rattle.std.proofs.lemmas.List.{take_more, take_min, take_all, drop_min, drop_all}
use Rattle.std.proofs.lemmas.List.Sums.{sum_by-append}
use Rattle.std.proofs.lemmas.List.Folds.{list_any_at}
use Rattle.bank.specs.Content.{Image, Stands}
use Rattle.bank.specs.View.{View, IsSound, OnlyContent, Unchanged, Touches}
use Rattle.bank.specs.Inside.{WroteInside}
use Rattle.bank.proofs.Writes.{wrote}
use Rattle.bank.proofs.Inside.{IsRangeInside, wrote_inside}
use Rattle.site_types.specs.declared.file.Run.{Run}
use Rattle.cache_space.specs.Blocks.{is_in_run, is_in_runs}
use Rattle.cache_space.specs.Space.{AreApart, AreMaximalFrom, AreMaximal, blocks_in}
use Rattle.cache_space.proofs.HeldBlocks.{AreApart-nil_right, AreApart-append_right}
use Rattle.cache_space.proofs.RunLemmas.{is_in_run_tells, is_in_run_from}
use Rattle.site_history.specs.Extents.{Extent, extents_over, AllStand}
use Rattle.site_history.specs.Pinned.{StandInAll, in_blocks_of}
use Rattle.site_history.proofs.WritesElsewhere.{moved_stand}
use Rattle.site_history.proofs.Extents.{runs_clear, stored_stand}
use Rattle.site_history.proofs.ImageLaws.{same_everywhere, same_stand}

-- The part of bytes that goes into a run, behind those that went into the runs before it.
abbrev pub piece_of : List Run → Run → List ℕ → List ℕ
piece_of before run bytes = take (run.count * 4096) (drop (blocks_in before * 4096) bytes)

-- What is left behind one run, and then behind others, is left behind all of them.
pub dropped_runs : (run : Run) (runs : List Run) (bytes : List ℕ) → drop (blocks_in runs * 4096) (drop (run.count * 4096) bytes) ≡ drop (blocks_in (run ∷ runs) * 4096) bytes
dropped_runs run runs bytes =
    let count : run.count * 4096 + blocks_in runs * 4096 ≡ blocks_in (run ∷ runs) * 4096 = omega (arith, sum_by-append (λ (x : Run). x.count) (run ∷ []) runs) in
    drop-drop (blocks_in runs * 4096) (run.count * 4096) bytes ∙ ap (λ (n : ℕ). drop n bytes) count

-- What is laid over runs and one more is what is laid over these, and a piece over that one.
pub extents_over-push : (runs : List Run) (run : Run) (bytes : List ℕ)
    → extents_over (runs ++ run ∷ []) bytes ≡ extents_over runs bytes ++ (record { area = 1; place = run.first * 4096; bytes = piece_of runs run bytes }) ∷ []
extents_over-push [] run bytes = refl
extents_over-push (r ∷ runs) run bytes =
    ap (λ (es : List Extent). (record { area = 1; place = r.first * 4096; bytes = take (r.count * 4096) bytes }) ∷ es)
    (extents_over-push runs run (drop (r.count * 4096) bytes)
    ∙ ap (λ (l : List ℕ). extents_over runs (drop (r.count * 4096) bytes) ++ (record { area = 1; place = run.first * 4096; bytes = take (run.count * 4096) l }) ∷ []) (dropped_runs r runs bytes))

-- Nothing laid over runs stands anywhere.
pub nothing_stands : (v : View) (runs : List Run) → StandInAll v (extents_over runs [])
nothing_stands v [] = tt
nothing_stands v (run ∷ runs) = (
  λ c left. subst (λ (l : List ℕ). Stands c (run.first * 4096) l) (sym (take_all (run.count * 4096) [] (omega arith))) tt,
  subst (λ (l : List ℕ). StandInAll v (extents_over runs l)) (sym (drop_all (run.count * 4096) [] (omega arith))) (nothing_stands v runs),
)

-- Bytes of a range within a run lie in blocks of the runs that have its blocks.
pub run_range : (runs : List Run) (run : Run) (n : ℕ) → n ≤ run.count * 4096 → ((block : ℕ) → is_in_run block run ≡ true → is_in_runs runs block ≡ true)
    → IsRangeInside (run.first * 4096) n (in_blocks_of runs)
run_range runs run n le has k out = ⊎_elim (λ below. inl below) (λ from. ⊎_elim (λ lt. absurd (within from lt)) (λ behind. inr behind) (cases_lt k (run.first * 4096 + n))) (cases_lt k (run.first * 4096))
  where
    within : run.first * 4096 ≤ k → k < run.first * 4096 + n → ⊥
    within from lt = both_ways (in_blocks_of runs k) out (has (k / 4096) (is_in_run_from run (k / 4096) (omega (arith, from)) (omega (arith, lt, le))))

-- The run at a place of a list is one of the list.
pub listed_run : (runs : List Run) (i : ℕ) (d : Run) → i < length runs → (block : ℕ) → is_in_run block (get_or runs i d) ≡ true → is_in_runs runs block ≡ true
listed_run runs i d lt block here = list_any_at (is_in_run block) runs i d lt here

-- Maximal runs from a block on begin there or behind it.
member_above : (low : ℕ) (runs : List Run) (i : ℕ) (d : Run) → AreMaximalFrom low runs → i < length runs → low ≤ (get_or runs i d).first
member_above low [] i d h lt = absurd (omega arith)
member_above low (run ∷ runs) zero d h lt = h.0
member_above low (run ∷ runs) (suc i) d h lt = omega (arith, h.0, member_above (run.first + run.count + 1) runs i d h.2 (omega (arith, lt)))

-- A run that begins behind another is apart from it.
behind_apart : (run other : Run) → other.first + other.count ≤ run.first → AreApart (run ∷ []) (other ∷ [])
behind_apart run other behind block here = false_from_ne_true (is_in_runs (other ∷ []) block) (λ there. omega (
  arith,
  behind,
  (is_in_run_tells run block (alone (is_in_run block run) here)).0,
  (is_in_run_tells other block (alone (is_in_run block other) there)).1,
))
  where
    alone : (b : Bool) → (b || false) ≡ true → b ≡ true
    alone true e = refl
    alone false e = e

-- Each of maximal runs is apart from those before it.
maximal_from_apart : (low : ℕ) (runs : List Run) (i : ℕ) (d : Run) → AreMaximalFrom low runs → i < length runs → AreApart (get_or runs i d ∷ []) (take i runs)
maximal_from_apart low [] i d h lt = absurd (omega arith)
maximal_from_apart low (run ∷ runs) zero d h lt = AreApart-nil_right (run ∷ [])
maximal_from_apart low (run ∷ runs) (suc i) d h lt = AreApart-append_right (get_or runs i d ∷ []) (run ∷ []) (take i runs)
    (behind_apart (get_or runs i d) run (omega (arith, member_above (run.first + run.count + 1) runs i d h.2 (omega (arith, lt)))))
    (maximal_from_apart (run.first + run.count + 1) runs i d h.2 (omega (arith, lt)))

pub maximal_apart : (runs : List Run) (i : ℕ) (d : Run) → AreMaximal runs → i < length runs → AreApart (get_or runs i d ∷ []) (take i runs)
maximal_apart runs i d h lt = maximal_from_apart 0 runs i d h lt

-- A further extent stands too.
stand_push : (c : Image) (es : List Extent) (e : Extent) → AllStand c es → Stands (c e.area) e.place e.bytes → AllStand c (es ++ e ∷ [])
stand_push c [] e h now = (now, tt)
stand_push c (x ∷ es) e h now = (h.0, stand_push c es e h.1 now)

-- One run more is written: what went into the runs before it still stands, and now its piece does.
pub stored_run : (v w : View) (runs : List Run) (run : Run) (bytes piece : List ℕ) → IsSound v → IsSound w → AreApart (run ∷ []) runs → piece ≡ piece_of runs run bytes
    → length piece ≤ run.count * 4096 → Touches 1 (run.first * 4096) (length piece) v w → Stands (w.content 1) (run.first * 4096) piece
    → AllStand v.content (extents_over runs bytes) → AllStand w.content (extents_over (runs ++ run ∷ []) bytes)
stored_run v w runs run bytes piece sound sound_then apart is small torn now h =
    let inside = wrote_inside 1 (in_blocks_of (run ∷ [])) (run.first * 4096) (length piece) v w
    (run_range (run ∷ []) run (length piece) small (λ block here. or_left (is_in_run block run) false here))
    (wrote 1 (run.first * 4096) (length piece) v w sound sound_then torn) in
    subst (λ (es : List Extent). AllStand w.content es) (sym (extents_over-push runs run bytes))
    (stand_push w.content (extents_over runs bytes) _
    (moved_stand 1 (in_blocks_of (run ∷ [])) v w (extents_over runs bytes) (runs_clear (run ∷ []) runs bytes apart) inside h)
    (subst (λ (l : List ℕ). Stands (w.content 1) (run.first * 4096) l) is now))

-- A write into one of the runs writes within their blocks, failed or not.
pub wrote_run : (v w : View) (runs : List Run) (run : Run) (n : ℕ) → IsSound v → IsSound w → n ≤ run.count * 4096 → ((block : ℕ) → is_in_run block run ≡ true → is_in_runs runs block ≡ true)
    → Touches 1 (run.first * 4096) n v w → WroteInside 1 (in_blocks_of runs) v w
wrote_run v w runs run n sound sound_then small has torn =
    wrote_inside 1 (in_blocks_of runs) (run.first * 4096) n v w (run_range runs run n small has) (wrote 1 (run.first * 4096) n v w sound sound_then torn)

module _ (runs : List Run) (bytes rest : List ℕ) (i : ℕ) (d : Run) (lt : i < length runs) (so_far : rest ≡ drop (blocks_in (take i runs) * 4096) bytes) where
  -- As much of what is left as the run has room for is the run's piece.
  pub next_piece : take (min ((get_or runs i d).count * 4096) (length rest)) rest ≡ piece_of (take i runs) (get_or runs i d) bytes
  next_piece = take_min ((get_or runs i d).count * 4096) rest ∙ ap (λ (l : List ℕ). take ((get_or runs i d).count * 4096) l) so_far

  -- And what is left then is left for the runs behind it.
  pub next_rest : drop (min ((get_or runs i d).count * 4096) (length rest)) rest ≡ drop (blocks_in (take (i + 1) runs) * 4096) bytes
  next_rest =
      let count : blocks_in (take i runs) * 4096 + (get_or runs i d).count * 4096 ≡ blocks_in (take (i + 1) runs) * 4096 =
      omega (arith, sum_by-append (λ (x : Run). x.count) (take i runs) (get_or runs i d ∷ []), ap blocks_in (take_more runs i d lt)) in
      drop_min ((get_or runs i d).count * 4096) rest ∙ ap (λ (l : List ℕ). drop ((get_or runs i d).count * 4096) l) so_far
      ∙ drop-drop ((get_or runs i d).count * 4096) (blocks_in (take i runs) * 4096) bytes ∙ ap (λ (n : ℕ). drop n bytes) count

-- The run at place i of maximal runs is written.
pub stored_next : (v w : View) (runs : List Run) (i : ℕ) (d : Run) (bytes piece : List ℕ) → IsSound v → IsSound w → AreMaximal runs → i < length runs
    → piece ≡ piece_of (take i runs) (get_or runs i d) bytes → length piece ≤ (get_or runs i d).count * 4096
    → Touches 1 ((get_or runs i d).first * 4096) (length piece) v w → Stands (w.content 1) ((get_or runs i d).first * 4096) piece
    → AllStand v.content (extents_over (take i runs) bytes) → AllStand w.content (extents_over (take (i + 1) runs) bytes)
stored_next v w runs i d bytes piece sound sound_then maximal lt is small torn now h =
    subst (λ (l : List Run). AllStand w.content (extents_over l bytes)) (sym (take_more runs i d lt))
    (stored_run v w (take i runs) (get_or runs i d) bytes piece sound sound_then (maximal_apart runs i d maximal lt) is small torn now h)

-- Extents that a read gives are given after a call that changed nothing.
pub stand_unchanged : (v w : View) (es : List Extent) → Unchanged v w → AllStand v.content es → AllStand w.content es
stand_unchanged v w es h stand = same_stand v.content w.content es (same_everywhere v.content w.content es h.content) stand

-- Once all runs are written and the cache is synced, the bytes stand in whatever a crash leaves.
pub synced_bytes : (v w : View) (runs : List Run) (bytes : List ℕ) → Unchanged v w → OnlyContent 1 w → AllStand v.content (extents_over runs bytes) → StandInAll w (extents_over runs bytes)
synced_bytes v w runs bytes h only stand = stored_stand w runs bytes only (stand_unchanged v w (extents_over runs bytes) h stand)
