-- What the code's search for a path says of a put.
use Rattle.std.proofs.Common.{◌≡◌, ℕ, List, sym, ◌∙◌, ap, true, false, Option, Some, None}
use Rattle.std.specs.Prelude.{is_none}
use Rattle.std.specs.Borrow.{Bor}
use Rattle.std.specs.Option.{option_map_or, option_copied}
use Rattle.site_types.specs.declared.file.FileRec.{FileRec}
use Rattle.site_history.specs.Site.{Fields, file_at}
use Rattle.site_history.specs.PutSteps.{inode_for}
use Rattle.site_state.specs.declared.state.SiteState.{SiteState}
use Rattle.site_state.specs.Keeps.{Keeps}

-- what was answered is what was searched for
pub answered_file : {answer found : Option (Bor FileRec)} {file : Option FileRec} → option_copied answer ≡ file → answer ≡ found → file ≡ option_copied found
answered_file e is = sym e ∙ ap option_copied is

module _ (site : SiteState) (fields : Fields) (keeps : Keeps site fields) (path : List ℕ) where
  listed : file_at path fields.files ≡ file_at path site.files.list
  listed = ap (λ (l : List FileRec). file_at path l) (sym keeps.files)

  -- the path has no file
  module _ (e : file_at path site.files.list ≡ None) where
    pub next_inode_is : site.next_inode ≡ inode_for fields path
    next_inode_is = keeps.next_inode ∙ sym (ap (λ (o : Option FileRec). option_map_or (λ (file : FileRec). file.inode) o fields.next_inode) (listed ∙ e))

    pub next_created : true ≡ is_none (file_at path fields.files)
    next_created = sym (ap (λ (o : Option FileRec). is_none o) (listed ∙ e))

  -- the path has a file
  module _ (file : FileRec) (e : file_at path site.files.list ≡ Some file) where
    pub inode_there_is : file.inode ≡ inode_for fields path
    inode_there_is = sym (ap (λ (o : Option FileRec). option_map_or (λ (there : FileRec). there.inode) o fields.next_inode) (listed ∙ e))

    pub not_created : false ≡ is_none (file_at path fields.files)
    not_created = sym (ap (λ (o : Option FileRec). is_none o) (listed ∙ e))
