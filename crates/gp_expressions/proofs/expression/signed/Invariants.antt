use Rattle.std.proofs.Common.{◌≡◌}
use Rattle.gp_expressions.specs.inside.Rows.{signed_row}
use Rattle.gp_expressions.proofs.RowLaws.{sign_behind}
use Rattle.gp_expressions.proofs.expression.signed.Given as goal

abbrev pub invariant-loop-part : goal.invariant-loop-part
invariant-loop-part g l = (record { tree = l.operands; past = l.past } ≡ signed_row l.fn.head l.fn.sign l.yielded) × (l.next ≡ sign_behind l.fn.head l.fn.sign l.yielded)
