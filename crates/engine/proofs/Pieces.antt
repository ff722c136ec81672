-- The bytes of a file on their way into the runs of the cache and out of them.
use Rattle.std.proofs.Common.{◌≡◌, inl, ℕ, ◌+◌, ◌-◌, ◌*◌, ◌<◌, ◌≤◌, min, List, [], ◌∷◌, ◌++◌, length, take, get_or, refl, sym, ◌∙◌, ap, arith}
use Rattle.bank.specs.Content.{Image, Stands}
use Rattle.bank.specs.View.{View, IsSound, Unchanged, Touches, OnlyRead}
use Rattle.bank.proofs.Spans.{Stands-same}
use Rattle.bank.specs.Inside.{WroteInside}
use Rattle.bank.proofs.Inside.{inside_nothing, inside_then}
use Rattle.site_types.specs.declared.file.Run.{Run}
use Rattle.cache_space.specs.Space.{blocks_in}
use Rattle.site_history.specs.Extents.{extents_over, AllStand}
use Rattle.site_history.specs.Pinned.{in_blocks_of}
use Rattle.site_history.proofs.Storing.{wrote_run, listed_run}
use Rattle.site_history.proofs.FileReads.{read_next}
use Rattle.std.proofs.lemmas.List.{take_more, length-take-le}
use Rattle.std.proofs.lemmas.List.Sums.{sum_by-append}

-- no call changes nothing
pub no_call : (v : View) → Unchanged v v
no_call v = record {
  content = λ a k. refl;
  images = λ a c left. left;
  time = record { later = omega arith; nothing_else = λ t c le left. inl left; keeps = λ t c le left. left };
}

-- before the first write
pub nothing_written : (v : View) (runs : List Run) → IsSound v → WroteInside 1 (in_blocks_of runs) v v
nothing_written v runs sound = inside_nothing 1 (in_blocks_of runs) v v sound sound (no_call v)

-- behind calls that wrote within the runs' blocks, a write into the run at a place writes there too, failed or not
pub wrote_next : (u v w : View) (runs : List Run) (i : ℕ) (d : Run) (n : ℕ) → IsSound v → IsSound w → i < length runs → n ≤ (get_or runs i d).count * 4096
    → WroteInside 1 (in_blocks_of runs) u v → Touches 1 ((get_or runs i d).first * 4096) n v w → WroteInside 1 (in_blocks_of runs) u w
wrote_next u v w runs i d n sound sound_then lt small so_far torn = inside_then 1 (in_blocks_of runs) u v w so_far
    (wrote_run v w runs (get_or runs i d) n sound sound_then small (listed_run runs i d lt) torn)

module _ (runs : List Run) (i : ℕ) (d : Run) (lt : i < length runs) (done room total n : ℕ) (so_far : done ≡ min (blocks_in (take i runs) * 4096) total)
    (room_is : room ≡ (get_or runs i d).count * 4096) (wanted : n ≡ min room (total - done)) where
  -- the blocks of the runs up to one, and those of that one
  next_blocks : blocks_in (take (i + 1) runs) * 4096 ≡ blocks_in (take i runs) * 4096 + room
  next_blocks = omega (arith, room_is, sum_by-append (λ (x : Run). x.count) (take i runs) (get_or runs i d ∷ []), ap blocks_in (take_more runs i d lt))

  -- how many bytes are read once as many as are wanted are read at the run at a place
  pub read_done : done + n ≡ min (blocks_in (take (i + 1) runs) * 4096) total
  read_done = omega (arith, so_far, wanted, next_blocks)

  -- they are the first of the bytes that stand over the runs
  pub read_more : (c : Image) (bytes into got : List ℕ) → total ≡ length into → length into ≤ length bytes → AllStand c (extents_over runs bytes)
      → take done into ≡ take done bytes → length got ≡ n → Stands (c 1) ((get_or runs i d).first * 4096) got → take done into ++ got ≡ take (done + n) bytes
  read_more c bytes into got whole enough stand same long here =
      let front : length (take done into) ≡ done = length-take-le done into (omega (arith, so_far, whole)) in
      read_next c runs i d bytes (take done into) got total n lt (omega (arith, whole, enough)) stand
      (same ∙ ap (λ (k : ℕ). take k bytes) so_far)
      (wanted ∙ ap (λ (k : ℕ). min k (total - done)) room_is ∙ ap (λ (k : ℕ). min ((get_or runs i d).count * 4096) (total - k)) (sym front)) long here
      ∙ ap (λ (k : ℕ). take k bytes) (sym read_done)

-- what stands after calls that wrote nothing stood before them
pub stood_before : (old new : View) (area place : ℕ) (bytes : List ℕ) → OnlyRead old new → Stands (new.content area) place bytes → Stands (old.content area) place bytes
stood_before old new area place bytes h stand = Stands-same (new.content area) (old.content area) place bytes (λ k low high. h.content area k) stand
