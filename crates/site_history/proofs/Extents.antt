-- Where the bytes of files lie: extents over runs of blocks, what is clear of them, and when they stand.
use Rattle.std.proofs.Common.{◌≡◌, ◌≢◌, ℕ, ◌+◌, ◌*◌, ◌/◌, ◌<◌, ◌≤◌, true, false, List, [], ◌∷◌, ◌++◌, length, take, drop, inr, refl, sym, arith, length-take}
use Rattle.std.specs.Prelude.{flat_map}
use Rattle.std.specs.List.{AllByRecursion}
use Rattle.std.proofs.lemmas.Bool.{both_ways, or_left, false_from_ne_true}
use Rattle.bank.specs.Content.{Content, Image, Stands}
use Rattle.bank.specs.View.{View, OnlyContent}
use Rattle.bank.proofs.Spans.{Stands-same}
use Rattle.site_types.specs.declared.file.FileRec.{FileRec}
use Rattle.site_types.specs.declared.file.Run.{Run}
use Rattle.cache_space.specs.Blocks.{is_in_run, is_in_runs}
use Rattle.cache_space.specs.Space.{AreApart}
use Rattle.cache_space.proofs.HeldBlocks.{AreApart-from_append_right}
use Rattle.cache_space.proofs.RunLemmas.{is_in_run_from}
use Rattle.site_history.specs.Site.{FileBytes, Site, held_runs, bytes_of}
use Rattle.site_history.specs.Images.{extents_of, extents}
use Rattle.site_history.specs.Extents.{Extent, extents_over, AllStand}
use Rattle.site_history.specs.Pinned.{StandInAll, IsClearOf, in_blocks_of}
use Rattle.site_history.proofs.WritesElsewhere.{clear_append}

-- The bytes of a run lie in its blocks.
byte_in_run : (first count k : ℕ) → k < count * 4096 → (first ≤ (first * 4096 + k) / 4096) × ((first * 4096 + k) / 4096 < first + count)
byte_in_run first count k lt = (omega (arith, lt), omega (arith, lt))

-- A block of the first of some runs is none of the runs that are apart from these.
apart_first : (new : List Run) (run : Run) (runs : List Run) → AreApart new (run ∷ runs) → (block : ℕ) → is_in_run block run ≡ true → is_in_runs new block ≡ false
apart_first new run runs apart block here = false_from_ne_true (is_in_runs new block)
    (λ there. both_ways (is_in_runs (run ∷ runs) block) (apart block there) (or_left (is_in_run block run) (is_in_runs runs block) here))

-- What is laid over runs is clear of the blocks of runs that are apart from them.
pub runs_clear : (new runs : List Run) (bytes : List ℕ) → AreApart new runs → IsClearOf 1 (in_blocks_of new) (extents_over runs bytes)
runs_clear new [] bytes apart = tt
runs_clear new (run ∷ runs) bytes apart = (inr here, runs_clear new runs (drop (run.count * 4096) bytes) (AreApart-from_append_right new (run ∷ []) runs apart).1)
  where
    here : (k : ℕ) → k < length (take (run.count * 4096) bytes) → in_blocks_of new (run.first * 4096 + k) ≡ false
    here k lt =
        let within = byte_in_run run.first run.count k (omega (arith, lt, length-take (run.count * 4096) bytes)) in
        apart_first new run runs apart ((run.first * 4096 + k) / 4096) (is_in_run_from run ((run.first * 4096 + k) / 4096) within.0 within.1)

-- The bytes of files are clear of the blocks of runs that are apart from those that the files hold.
files_clear : (new : List Run) (contents : List FileBytes) (files : List FileRec) → AreApart new (held_runs files) → IsClearOf 1 (in_blocks_of new) (flat_map (extents_of contents) files)
files_clear new contents [] apart = tt
files_clear new contents (file ∷ files) apart = clear_append 1 (in_blocks_of new) (extents_of contents file) (flat_map (extents_of contents) files)
    (runs_clear new file.runs _ (AreApart-from_append_right new file.runs (held_runs files) apart).0)
    (files_clear new contents files (AreApart-from_append_right new file.runs (held_runs files) apart).1)

-- All bytes of a site are clear of the blocks of runs that are apart from those that its files hold.
pub site_clear : (new : List Run) (site : Site) → AreApart new (held_runs site.fields.files) → IsClearOf 1 (in_blocks_of new) (extents site)
site_clear new site apart = files_clear new site.contents site.fields.files apart

-- Bytes that a read of an area gives, where a crash leaves of the area what a read gives, stand in whatever it leaves.
pub synced_stand : (v : View) (area place : ℕ) (bytes : List ℕ) → OnlyContent area v → Stands (v.content area) place bytes → (c : Content) → v.may_leave area c → Stands c place bytes
synced_stand v area place bytes only h c left = Stands-same (v.content area) c place bytes (λ k low high. sym (only c left k)) h

-- So it is with bytes laid over runs, once the cache is on the medium.
pub stored_stand : (v : View) (runs : List Run) (bytes : List ℕ) → OnlyContent 1 v → AllStand v.content (extents_over runs bytes) → StandInAll v (extents_over runs bytes)
stored_stand v [] bytes only h = tt
stored_stand v (run ∷ runs) bytes only h = (
  synced_stand v 1 (run.first * 4096) (take (run.count * 4096) bytes) only h.0,
  stored_stand v runs (drop (run.count * 4096) bytes) only h.1,
)

-- What stands of two lists of extents stands of both together.
pub stand_append : (v : View) (es fs : List Extent) → StandInAll v es → StandInAll v fs → StandInAll v (es ++ fs)
stand_append v [] fs h k = k
stand_append v (e ∷ es) fs h k = (h.0, stand_append v es fs h.1 k)

pub stand_front : (v : View) (es fs : List Extent) → StandInAll v (es ++ fs) → StandInAll v es
stand_front v [] fs h = tt
stand_front v (e ∷ es) fs h = (h.0, stand_front v es fs h.1)

pub stand_back : (v : View) (es fs : List Extent) → StandInAll v (es ++ fs) → StandInAll v fs
stand_back v [] fs h = h
stand_back v (e ∷ es) fs h = stand_back v es fs h.1

-- All bytes of a site lie in the cache.
abbrev pub AreInCache : List Extent → Type 0
AreInCache es = AllByRecursion (λ (e : Extent). e.area ≡ 1) es

in_cache_append : (es fs : List Extent) → AreInCache es → AreInCache fs → AreInCache (es ++ fs)
in_cache_append [] fs h k = k
in_cache_append (e ∷ es) fs h k = (h.0, in_cache_append es fs h.1 k)

pub runs_in_cache : (runs : List Run) (bytes : List ℕ) → AreInCache (extents_over runs bytes)
runs_in_cache [] bytes = tt
runs_in_cache (run ∷ runs) bytes = (refl, runs_in_cache runs (drop (run.count * 4096) bytes))

files_in_cache : (contents : List FileBytes) (files : List FileRec) → AreInCache (flat_map (extents_of contents) files)
files_in_cache contents [] = tt
files_in_cache contents (file ∷ files) = in_cache_append (extents_of contents file) (flat_map (extents_of contents) files)
    (runs_in_cache file.runs (take file.cached (bytes_of contents file.inode))) (files_in_cache contents files)

pub site_in_cache : (site : Site) → AreInCache (extents site)
site_in_cache site = files_in_cache site.contents site.fields.files

-- Extents in the cache are not touched by what changes area 0 alone.
pub stand_along : (v w : View) (es : List Extent) → AreInCache es → ((a : ℕ) (c : Content) → a ≢ 0 → w.may_leave a c → v.may_leave a c) → StandInAll v es → StandInAll w es
stand_along v w [] cache others h = tt
stand_along v w (e ∷ es) cache others h = (
  (λ c left. h.0 c (others e.area c (λ zero_area. omega (arith, zero_area, cache.0)) left)),
  stand_along v w es cache.1 others h.1,
)

-- They stand in an image whose areas but the first are as they may be left.
pub others_image : (v : View) (c : Image) (es : List Extent) → AreInCache es → ((a : ℕ) → a ≢ 0 → v.may_leave a (c a)) → StandInAll v es → AllStand c es
others_image v c [] cache others h = tt
others_image v c (e ∷ es) cache others h = (
  h.0 (c e.area) (others e.area (λ zero_area. omega (arith, zero_area, cache.0))),
  others_image v c es cache.1 others h.1,
)
