use Rattle.std.proofs.Common.{List, map, refl, ap, ◌∙◌}
use Rattle.daemon_cmds.specs.declared.site_conf.Library.{Library}
use Rattle.daemon_cmds.proofs.StagerKnown.{nothing_told}
use Rattle.daemon_cmds.proofs.stager.StagerFileCommandFile.start.Goals as goal

pub returns : goal.returns
returns c = record {
  drives = c.in_ok-drives_of.ensures ∙ ap (λ (ls : List Library). map (λ l. l.drives) ls) c.as_slice.ensures ∙ nothing_told c.args.self.now.site.now;
  maxactive = refl;
  copysel = c.in_ok-default_copysel.ensures;
}
