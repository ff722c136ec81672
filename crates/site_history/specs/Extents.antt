-- Bytes at places of the store.
use Rattle.std.specs.Prelude.{ℕ, ◌*◌, List, [], ◌∷◌, take, drop}
use Rattle.bank.specs.Content.{Image, Stands}
use Rattle.site_types.specs.declared.file.Run.{Run}

-- bytes at a place of an area
pub record Extent : Type 0 where
  pub area : ℕ
  pub place : ℕ
  pub bytes : List ℕ

abbrev pub AllStand : Image → List Extent → Type 0
AllStand c [] = Unit {0}
AllStand c (e ∷ es) = Stands (c e.area) e.place e.bytes × AllStand c es

-- bytes laid over runs of blocks of 4,096 bytes in the cache, one run after another
abbrev pub extents_over : List Run → List ℕ → List Extent
extents_over [] bytes = []
extents_over (run ∷ runs) bytes = (record { area = 1; place = run.first * 4096; bytes = take (run.count * 4096) bytes }) ∷ extents_over runs (drop (run.count * 4096) bytes)
