use Rattle.std.proofs.lemmas.Result.{err_from_is_err_and}
use Rattle.configuration.proofs.AllFiles.{all_told, releaser_wrong, recycler_wrong}
use Rattle.configuration.proofs.read.read_files.Goals as goal

pub returns-in_err-releaser : goal.returns-in_err-releaser
returns-in_err-releaser c =
    let p = err_from_is_err_and c.from_residual-in_err-releaser.result c.from_residual-in_err-releaser.ensures.1 in
    rw (p.1, p.2) (releaser_wrong c.args.texts.now c.in_ok-site.site c.in_ok-site.ensures c.in_ok-archiver.archiver c.in_ok-archiver.ensures c.in_ok-stager.stager c.in_ok-stager.ensures
    c.in_err-releaser.field-0.0 c.in_err-releaser.ensures)

pub returns-in_err-recycler : goal.returns-in_err-recycler
returns-in_err-recycler c =
    let p = err_from_is_err_and c.from_residual-in_err-recycler.result c.from_residual-in_err-recycler.ensures.1 in
    rw (p.1, p.2) (recycler_wrong c.args.texts.now c.in_ok-site.site c.in_ok-site.ensures c.in_ok-archiver.archiver c.in_ok-archiver.ensures c.in_ok-stager.stager c.in_ok-stager.ensures
    c.in_ok-releaser.releaser c.in_ok-releaser.ensures c.in_err-recycler.field-0.0 c.in_err-recycler.ensures)

pub returns : goal.returns
returns c = all_told c.args.texts.now c.in_ok-site.site c.in_ok-site.ensures c.in_ok-archiver.archiver c.in_ok-archiver.ensures c.in_ok-stager.stager c.in_ok-stager.ensures
    c.in_ok-releaser.releaser c.in_ok-releaser.ensures c.in_ok-recycler.recycler c.in_ok-recycler.ensures
