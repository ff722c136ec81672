use Rattle.std.proofs.Common.{◌≡◌, fold}
use Rattle.archiver_lines.specs.AssignmentSteps.{with_criterion}
use Rattle.archiver_lines.proofs.assignments.add_criteria.Given as goal

abbrev pub invariant-loop-criterion : goal.invariant-loop-criterion
invariant-loop-criterion l = l.assignment ≡ fold with_criterion l.initial.assignment l.yielded
