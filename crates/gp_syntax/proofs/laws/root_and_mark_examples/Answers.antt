use Rattle.std.proofs.Common.{refl, true, false}
use Rattle.std.specs.Prelude.{pos}
use Rattle.gp_syntax.specs.declared.kinds.VariableType.TheVariants as types
use Rattle.gp_syntax.specs.Expression.{AnyMark, Variable, Number}
use Rattle.gp_syntax.specs.Rows.{plain, rooted, marked}
use Rattle.gp_syntax.proofs.Small.{step_kept}
use Rattle.gp_syntax.proofs.Blocked.{root_wants_root, other_wants_no_root}
use Rattle.gp_syntax.proofs.laws.root_and_mark_examples.Goals as goal

pub returns-clause-wanted : goal.returns-clause-wanted
returns-clause-wanted c = root_wants_root

pub returns-clause-taken : goal.returns-clause-taken
returns-clause-taken c = step_kept types.List AnyMark true (Variable 0) AnyMark false rooted (plain (pos 1)) 0 refl tt refl refl refl refl

pub returns-clause-other : goal.returns-clause-other
returns-clause-other c = other_wants_no_root

pub returns-clause-any : goal.returns-clause-any
returns-clause-any c = λ mark. step_kept types.List AnyMark false (Number (pos 5)) AnyMark false (marked (pos 1) mark) (marked (pos 5) mark) 0 refl tt refl refl refl refl
