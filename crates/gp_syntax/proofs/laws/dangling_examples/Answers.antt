use Rattle.std.proofs.Common.{refl}
use Rattle.std.specs.Prelude.{pos, false}
use Rattle.gp_values.specs.declared.marks.NodeMark.TheVariants as node_marks
use Rattle.gp_syntax.specs.declared.kinds.VariableType.TheVariants as types
use Rattle.gp_syntax.specs.Expression.{Marked}
use Rattle.gp_syntax.specs.Rows.{plain}
use Rattle.gp_syntax.proofs.Small.{step_deleted}
use Rattle.gp_syntax.proofs.Blocked.{loop_dangles}
use Rattle.gp_syntax.proofs.laws.dangling_examples.Goals as goal

pub returns-clause-blocks : goal.returns-clause-blocks
returns-clause-blocks c = loop_dangles

pub returns-clause-isolated : goal.returns-clause-isolated
returns-clause-isolated c = step_deleted types.List (Marked node_marks.None) false (plain (pos 1)) 0 refl refl refl
