use Rattle.daemon_cmds.proofs.releaser.each_releaser_says_one_thing.Goals as goal

pub returns : goal.returns
returns c text = record {
  something = c.each_text_says_one_thing.ensures.something text;
  one_meaning = c.each_text_says_one_thing.ensures.one_meaning text;
  not_both = c.each_text_says_one_thing.ensures.not_both text;
  one_refusal = c.each_text_says_one_thing.ensures.one_refusal text;
  read = c.each_text_says_one_thing.ensures.read text;
  refused = c.each_text_says_one_thing.ensures.refused text;
}
