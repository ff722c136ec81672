use Rattle.site_types.specs.declared.step.StepKind.TheVariants.{Accessed, Removed, Wanted, StageFailed, Recycling}
use Rattle.step_codec.proofs.Steps.{kind_in_range, written_by_kind}
use Rattle.step_codec.proofs.encode.write_step.Goals as goal

pub write_row-requires-in-Accessed-clause-fields : goal.write_row-requires-in-Accessed-clause-fields
write_row-requires-in-Accessed-clause-fields c = kind_in_range c.args.step.now (Accessed c.in-Accessed.inode) c.in-Accessed.is c.requires

pub write_row-requires-in-Removed-clause-fields : goal.write_row-requires-in-Removed-clause-fields
write_row-requires-in-Removed-clause-fields c = kind_in_range c.args.step.now (Removed c.in-Removed.inode) c.in-Removed.is c.requires

pub write_row-requires-in-Wanted-clause-fields : goal.write_row-requires-in-Wanted-clause-fields
write_row-requires-in-Wanted-clause-fields c = kind_in_range c.args.step.now (Wanted c.in-Wanted.inodes) c.in-Wanted.is c.requires

pub write_row-requires-in-StageFailed-clause-fields : goal.write_row-requires-in-StageFailed-clause-fields
write_row-requires-in-StageFailed-clause-fields c = kind_in_range c.args.step.now (StageFailed c.in-StageFailed.inode) c.in-StageFailed.is c.requires

pub write_row-requires-in-Recycling-clause-fields : goal.write_row-requires-in-Recycling-clause-fields
write_row-requires-in-Recycling-clause-fields c = kind_in_range c.args.step.now (Recycling c.in-Recycling.volume) c.in-Recycling.is c.requires

pub returns-in-Wanted : goal.returns-in-Wanted
returns-in-Wanted c = rw (← written_by_kind c.args.step.now (Wanted c.in-Wanted.inodes) c.in-Wanted.is) c.write_row-in-Wanted.ensures
