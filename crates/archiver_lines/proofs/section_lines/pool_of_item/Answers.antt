use Rattle.std.proofs.Common.{◌≡◌, true, false, codes, rules}
use Rattle.std.specs.Str.{bytes_eq}
use Rattle.archiver_lines.specs.SectionRules.{is_pool}
use Rattle.archiver_lines.proofs.Items.{pool_unknown}
use Rattle.archiver_lines.proofs.section_lines.pool_of_item.Goals as goal

pub returns-then-not-is_pool-clause-wrong : goal.returns-then-not-is_pool-clause-wrong
returns-then-not-is_pool-clause-wrong c =
    let is : bytes_eq c.args.first.now (codes "-pool") ≡ true = search rules in
    let unknown : is_pool c.args.pools.now c.in-Some.pool.now ≡ false = search rules in
    λ media line found. pool_unknown c.args.pools.now media line found c.args.first.now c.in-Some.pool.now c.args.fields.now c.take.new.self is c.in-Some.ensures unknown
