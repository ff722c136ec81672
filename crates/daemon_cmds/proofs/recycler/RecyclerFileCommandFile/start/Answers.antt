use Rattle.std.proofs.Common.{List, map, [], ap, ◌∙◌}
use Rattle.daemon_cmds.specs.declared.site_conf.Library.{Library}
use Rattle.daemon_cmds.specs.RecyclerTold.{recycling_of}
use Rattle.daemon_cmds.proofs.RecyclerKnown.{nothing_told}
use Rattle.daemon_cmds.proofs.recycler.RecyclerFileCommandFile.start.Goals as goal

pub returns : goal.returns
returns c = record {
  libraries = c.in_ok-all_default.ensures ∙ ap (λ (ls : List Library). map (λ l. recycling_of []) ls) c.as_slice.ensures ∙ nothing_told c.args.self.now.site.now;
  no_recycle = c.new.ensures;
}
