-- Changes of the files, their bytes and the queue, of which the effects of steps are made.
use Rattle.std.specs.Prelude.{ℕ, ◌==◌, not, if◌then◌else◌, List, [], ◌∷◌, map, filter}
use Rattle.std.specs.List.{list_any}
use Rattle.std.specs.Prelude.{IsTrue}
use Rattle.site_types.specs.declared.file.FileRec.{FileRec}
use Rattle.site_history.specs.Site.{Fields, FileBytes}

-- a file in the place of that of its inode, or else behind the others
abbrev pub with_file : FileRec → List FileRec → List FileRec
with_file new [] = new ∷ []
with_file new (file ∷ files) = if file.inode == new.inode then new ∷ files else file ∷ with_file new files

abbrev pub without_file : ℕ → List FileRec → List FileRec
without_file inode files = filter (λ (file : FileRec). not (file.inode == inode)) files

-- the files, that of an inode changed
abbrev pub changed_at : ℕ → (FileRec → FileRec) → List FileRec → List FileRec
changed_at inode change files = map (λ (file : FileRec). if file.inode == inode then change file else file) files

-- the fields, that file changed
abbrev pub with_change : ℕ → (FileRec → FileRec) → Fields → Fields
with_change inode change fields = record fields { files = changed_at inode change fields.files }

abbrev pub with_bytes : FileBytes → List FileBytes → List FileBytes
with_bytes new [] = new ∷ []
with_bytes new (file ∷ files) = if file.inode == new.inode then new ∷ files else file ∷ with_bytes new files

abbrev pub without_bytes : ℕ → List FileBytes → List FileBytes
without_bytes inode contents = filter (λ (file : FileBytes). not (file.inode == inode)) contents

-- the queue without an inode
abbrev pub without_inode : ℕ → List ℕ → List ℕ
without_inode inode queue = filter (λ (queued : ℕ). not (queued == inode)) queue

-- a file of this inode is there
abbrev pub IsThere : Fields → ℕ → Type 0
IsThere fields inode = IsTrue (list_any (λ (file : FileRec). file.inode == inode) fields.files)
