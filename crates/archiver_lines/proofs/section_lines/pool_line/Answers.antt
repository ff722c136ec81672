use Rattle.std.proofs.Common.{◌≡◌, true, rules}
use Rattle.site_text.specs.Values.{is_media}
use Rattle.archiver_lines.proofs.PoolTexts.{pool_read}
use Rattle.archiver_lines.proofs.section_lines.pool_line.Goals as goal

pub returns : goal.returns
returns c =
    let legal : is_media c.in_ok-media.media.now ≡ true = search rules in
    rw (c.in_ok-pool-2.ensures, c.in_ok-media-2.ensures) (pool_read c.args.number _ _ _ _ _ _ _ c.in_ok-texts.texts (rw c.new-fields.ensures at c.in_ok-pool.ensures) c.in_ok-media.ensures legal c.in_ok-first.ensures c.in_ok-texts.ensures)
