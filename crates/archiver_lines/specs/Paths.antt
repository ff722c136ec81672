-- The paths of assignments.
use Rattle.std.specs.Prelude.{◌++◌, codes, Bool, ◌||◌}
use Rattle.std.specs.Str.{bytes_eq}
use Rattle.base.specs.Paths.{is_legal_path}
use Rattle.site_text.specs.Fields.{Field}

-- `.`, or what with a `/` before it is the path of a file
abbrev pub is_set_path : Field → Bool
is_set_path field = bytes_eq field (codes ".") || is_legal_path (codes "/" ++ field)
