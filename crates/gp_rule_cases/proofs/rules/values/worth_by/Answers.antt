use Rattle.std.proofs.Common.{length}
use Rattle.gp_syntax.specs.WellFormed.{IsWithin}
use Rattle.gp_match.proofs.Loops.{right_all}
use Rattle.gp_rule_cases.proofs.rules.values.worth_by.Goals as goal

pub put_values-requires-clause-within : goal.put_values-requires-clause-within
put_values-requires-clause-within c =
    rw c.as_slice-right.ensures (right_all (IsWithin (length c.args.assignment.now.types) (length c.args.nodes.now)) c.args.parts.now c.requires.labels).0
