use Rattle.std.proofs.Common.{refl, ◌∙◌}
use Rattle.configuration.proofs.Computed.{says-computed}
use Rattle.site_history.proofs.Configuring.{configured-space}
use Rattle.site_state.proofs.state.SiteState.apply_setting.Goals as goal

pub returns : goal.returns
returns c = λ fields texts keeps none setting. record {
  files = keeps.files;
  next_inode = keeps.next_inode;
  moment = refl;
  configuration = says-computed texts c.args.setting.configuration setting.says;
  space = setting.space ∙ configured-space fields texts none;
}
