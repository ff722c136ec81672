use Rattle.std.proofs.Common.{◌≡◌, true, false, rules}
use Rattle.std.specs.List.{list_any}
use Rattle.archiver_lines.specs.Names.{same_name}
use Rattle.archiver_cmd.proofs.Groups.{name_there, name_added}
use Rattle.archiver_cmd.proofs.conf.add_group.Goals as goal

pub returns-then-has_group : goal.returns-then-has_group
returns-then-has_group c names is =
    let there : list_any (λ g. same_name g.name c.args.line.now.name) c.args.groups.now ≡ true = search rules in
    name_there c.args.lines.now names c.args.line.now.name c.args.groups.now is there

pub returns : goal.returns
returns c names is =
    let absent : list_any (λ g. same_name g.name c.args.line.now.name) c.args.groups.now ≡ false = search rules in
    rw c.in_ok-push.ensures.ok (name_added c.args.lines.now names c.args.line.now.name c.args.groups.now c.in_ok-group.group is absent c.in_ok-group.ensures)
