-- What a site keeps in memory of what a history leaves.
use Rattle.std.specs.Prelude.{◌≡◌}
use Rattle.cache_space.specs.Space.{taken_by}
use Rattle.site_history.specs.Site.{Fields, held_runs, cache_blocks}
use Rattle.site_state.specs.declared.state.SiteState.{SiteState}

-- its files are those of the fields, and so are the next inode, the moment and the configuration; the blocks that are taken are theirs
pub record Keeps (site : SiteState) (fields : Fields) : Type 0 where
  pub files : site.files.list ≡ fields.files
  pub next_inode : site.next_inode ≡ fields.next_inode
  pub moment : site.moment ≡ fields.moment
  pub configuration : site.configuration ≡ fields.configuration
  pub space : site.space ≡ taken_by (cache_blocks fields) (held_runs fields.files)
