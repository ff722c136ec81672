-- The bytes of a file are read run by run.
use Rattle.std.proofs.Common.{◌≡◌, inl, inr, ℕ, zero, suc, ◌+◌, ◌-◌, ◌*◌, ◌<◌, ◌≤◌, List, [], ◌∷◌, ◌++◌, length, take, drop, get_or, min, sym, ◌∙◌, ap, subst, arith, append-nil, take-take, length-take, length-drop}
use Rattle.std.specs.Prelude.{flat_map}
use Rattle.std.specs.List.{Contains}
use Rattle.std.proofs.lemmas.List.{take_more, length-take-le, take-append-drop, nil_from_length}
use Rattle.std.proofs.lemmas.Bool.{cases_lt}
use Rattle.std.proofs.Math.Seq.{take-add}
use Rattle.std.proofs.lemmas.List.Sums.{sum_by-append}
use Rattle.bank.specs.Content.{Content, Image, Stands}
use Rattle.bank.proofs.Spans.{Stands-front, Stands-only}
use Rattle.site_types.specs.declared.file.FileRec.{FileRec}
use Rattle.site_types.specs.declared.file.Run.{Run}
use Rattle.cache_space.specs.Space.{blocks_in}
use Rattle.site_history.specs.Site.{FileBytes, Site}
use Rattle.site_history.specs.Images.{extents_of, extents}
use Rattle.site_history.specs.Extents.{Extent, extents_over, AllStand}
use Rattle.site_history.proofs.Storing.{piece_of, dropped_runs}

-- What stands of two lists of extents stands of each.
image_front : (c : Image) (es fs : List Extent) → AllStand c (es ++ fs) → AllStand c es
image_front c [] fs h = tt
image_front c (e ∷ es) fs h = (h.0, image_front c es fs h.1)

image_back : (c : Image) (es fs : List Extent) → AllStand c (es ++ fs) → AllStand c fs
image_back c [] fs h = h
image_back c (e ∷ es) fs h = image_back c es fs h.1

-- The bytes of each file of a site stand where those of the site do.
file_stands : (c : Image) (contents : List FileBytes) (files : List FileRec) (i : ℕ) (d : FileRec) → i < length files → AllStand c (flat_map (extents_of contents) files)
    → AllStand c (extents_of contents (get_or files i d))
file_stands c contents [] i d lt h = absurd (omega arith)
file_stands c contents (file ∷ files) zero d lt h = image_front c (extents_of contents file) (flat_map (extents_of contents) files) h
file_stands c contents (file ∷ files) (suc i) d lt h =
    file_stands c contents files i d (omega (arith, lt)) (image_back c (extents_of contents file) (flat_map (extents_of contents) files) h)

-- The bytes of a file that is one of a site's stand where those of the site do.
pub listed_stands : (c : Image) (site : Site) (file : FileRec) → Contains site.fields.files file → AllStand c (extents site) → AllStand c (extents_of site.contents file)
listed_stands c site file listed h = subst (λ (f : FileRec). AllStand c (extents_of site.contents f)) listed.2 (file_stands c site.contents site.fields.files listed.0 file listed.1 h)

-- The piece of each run stands at the run.
pub piece_stands : (c : Image) (runs : List Run) (i : ℕ) (d : Run) (bytes : List ℕ) → i < length runs → AllStand c (extents_over runs bytes)
    → Stands (c 1) ((get_or runs i d).first * 4096) (piece_of (take i runs) (get_or runs i d) bytes)
piece_stands c [] i d bytes lt h = absurd (omega arith)
piece_stands c (run ∷ runs) zero d bytes lt h = h.0
piece_stands c (run ∷ runs) (suc i) d bytes lt h =
    subst (λ (l : List ℕ). Stands (c 1) ((get_or runs i d).first * 4096) (take ((get_or runs i d).count * 4096) l)) (dropped_runs run (take i runs) bytes)
    (piece_stands c runs i d (drop (run.count * 4096) bytes) (omega (arith, lt)) h.1)

-- So many bytes that a read gives are the first ones of what stands there.
read_front : (c : Content) (place : ℕ) (piece got : List ℕ) → length got ≤ length piece → Stands c place piece → Stands c place got → got ≡ take (length got) piece
read_front c place piece got le stand read = Stands-only c place got (take (length got) piece) (sym (length-take-le (length got) piece le)) read
    (Stands-front c place (take (length got) piece) (drop (length got) piece) (subst (λ (l : List ℕ). Stands c place l) (sym (take-append-drop (length got) piece)) stand))

-- What was read before, and as much of the next bytes as is wanted, are the first of all bytes.
joined_reads : (bytes out got : List ℕ) (offset room total n : ℕ) → total ≤ length bytes → out ≡ take (min offset total) bytes → n ≡ min room (total - length out) → length got ≡ n
    → got ≡ take (length got) (take room (drop offset bytes)) → out ++ got ≡ take (min (offset + room) total) bytes
joined_reads bytes out got offset room total n enough so_far wanted long is = elim (cases_lt total offset) [
  | inl past ↦
      let none : length got ≡ 0 = omega (arith, long, wanted, out_long, past) in
      let same : min offset total ≡ min (offset + room) total = omega (arith, past) in
      ap (λ (l : List ℕ). out ++ l) (nil_from_length got none) ∙ append-nil out ∙ so_far ∙ ap (λ (k : ℕ). take k bytes) same
  | inr within ↦
      let here : got ≡ take (length got) (drop offset bytes) = is ∙ take-take (length got) room (drop offset bytes) (omega (arith, long, wanted)) in
      let before : out ≡ take offset bytes = so_far ∙ ap (λ (k : ℕ). take k bytes) (let e : min offset total ≡ offset = omega (arith, within) in e) in
      let all : offset + length got ≡ min (offset + room) total = omega (arith, long, wanted, out_long, within) in
      ap (λ (l : List ℕ). l ++ got) before ∙ ap (λ (l : List ℕ). take offset bytes ++ l) here ∙ sym (take-add offset (length got) bytes) ∙ ap (λ (k : ℕ). take k bytes) all
]
  where
    out_long : length out ≡ min offset total
    out_long = ap length so_far ∙ length-take-le (min offset total) bytes (omega (arith, enough))

-- The run at place i is read, as far as bytes are wanted: what was read so far are the first bytes of the file.
pub read_next : (c : Image) (runs : List Run) (i : ℕ) (d : Run) (bytes out got : List ℕ) (total n : ℕ) → i < length runs → total ≤ length bytes → AllStand c (extents_over runs bytes)
    → out ≡ take (min (blocks_in (take i runs) * 4096) total) bytes → n ≡ min ((get_or runs i d).count * 4096) (total - length out) → length got ≡ n
    → Stands (c 1) ((get_or runs i d).first * 4096) got → out ++ got ≡ take (min (blocks_in (take (i + 1) runs) * 4096) total) bytes
read_next c runs i d bytes out got total n lt enough stand so_far wanted long read =
    joined_reads bytes out got offset room total n enough so_far wanted long
    (read_front (c 1) ((get_or runs i d).first * 4096) (take room (drop offset bytes)) got little (piece_stands c runs i d bytes lt stand) read)
    ∙ ap (λ (k : ℕ). take (min k total) bytes) count
  where
    offset : ℕ
    offset = blocks_in (take i runs) * 4096

    room : ℕ
    room = (get_or runs i d).count * 4096

    count : offset + room ≡ blocks_in (take (i + 1) runs) * 4096
    count = omega (arith, sum_by-append (λ (x : Run). x.count) (take i runs) (get_or runs i d ∷ []), ap blocks_in (take_more runs i d lt))

    little : length got ≤ length (take room (drop offset bytes))
    little = omega (
      arith,
      long,
      wanted,
      ap length so_far,
      length-take (min offset total) bytes,
      length-take room (drop offset bytes),
      length-drop offset bytes,
      enough,
    )
