-- What an image of the store says of a site.
use Rattle.std.specs.Prelude.{◌≡◌, ◌⊎◌, ℕ, ◌+◌, ◌<◌, Some, List, [], ◌∷◌, ◌++◌, length, take, flat_map}
use Rattle.bank.specs.Content.{Image}
use Rattle.bank.specs.View.{View, IsImage}
use Rattle.journal.specs.Records.{HoldsRecords}
use Rattle.site_types.specs.declared.file.FileRec.{FileRec}
use Rattle.site_history.specs.Terms.{Terms}
use Rattle.site_history.specs.Site.{FileBytes, Site, bytes_of}
use Rattle.site_history.specs.Extents.{Extent, AllStand, extents_over}
use Rattle.site_history.specs.Steps.{HistoryStep}
use Rattle.site_history.specs.Histories.{after, IsHistory, written_forms, Begins}
use Rattle.site_history.specs.Worlds.{World, whole_of}

-- the cached bytes of a file at its runs
abbrev pub extents_of : List FileBytes → FileRec → List Extent
extents_of contents file = extents_over file.runs (take file.cached (bytes_of contents file.inode))

-- all bytes that a site has in the store
abbrev pub extents : Site → List Extent
extents site = flat_map (extents_of site.contents) site.fields.files

-- The image reads as this history: its journal, in an area of the size that the terms give, holds the written forms of its steps, and the bytes
-- of each file stand at its runs.
pub record Reads (terms : Terms) (c : Image) (steps : List HistoryStep) : Type 0 where
  pub history : IsHistory terms steps
  pub records : HoldsRecords (c 0) 0 (written_forms steps) terms.size
  pub bytes : AllStand c (extents (after terms steps))

-- the image reads as the history, as that without its last step, or as that with one further step
abbrev pub ReadsNear : Terms → List HistoryStep → Image → Type 0
ReadsNear terms steps c = Reads terms c steps
    ⊎ ((front : List HistoryStep) × (last : HistoryStep) × (steps ≡ front ++ last ∷ []) × Reads terms c front)
    ⊎ ((made : HistoryStep) × Reads terms c (steps ++ made ∷ []))

-- What the store reads is an image of this history, and each image that a crash may leave reads nearly so.
pub record IsSettled (terms : Terms) (v : View) (steps : List HistoryStep) : Type 0 where
  pub now : Reads terms v.content steps
  pub each : (c : Image) → IsImage v c → ReadsNear terms steps c

-- the image reads as the world's history, or as that with the step that is owed
abbrev pub ReadsAs : Terms → World → Image → Type 0
ReadsAs terms w c = Reads terms c w.history ⊎ ((made : HistoryStep) × (w.owed ≡ Some made) × Reads terms c (w.history ++ made ∷ []))

-- The image reads as the first world, or as a history between the two: one that goes on from the first world's, and from which
-- goes on the second's with the step that is owed.
abbrev pub ReadsBetween : Terms → World → World → Image → Type 0
ReadsBetween terms w w' c = ReadsAs terms w c ⊎ ((steps : List HistoryStep) × Begins w.history steps × Begins steps (whole_of w') × Reads terms c steps)

-- settled for the world's history, or for that with the step that is owed
abbrev pub IsSettledAs : Terms → View → World → Type 0
IsSettledAs terms v w = IsSettled terms v w.history ⊎ ((made : HistoryStep) × (w.owed ≡ Some made) × IsSettled terms v (w.history ++ made ∷ []))

-- the same at each byte of these extents
abbrev pub SameAt : Image → Image → List Extent → Type 0
SameAt c d [] = Unit {0}
SameAt c d (e ∷ es) = ((k : ℕ) → k < length e.bytes → d e.area (e.place + k) ≡ c e.area (e.place + k)) × SameAt c d es

-- two images agree in the journal, which has this size, and wherever a site's bytes lie
abbrev pub Agree : Terms → Image → Image → List HistoryStep → Type 0
Agree terms c d steps = ((k : ℕ) → k < terms.size → d 0 k ≡ c 0 k) × SameAt c d (extents (after terms steps))

-- then both read as the history or neither does
abbrev pub AgreeingReadAlike : Type 0
AgreeingReadAlike = (terms : Terms) (c d : Image) (steps : List HistoryStep) → Agree terms c d steps → Reads terms c steps → Reads terms d steps
