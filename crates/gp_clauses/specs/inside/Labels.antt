-- What is asked of each label of a side.
use Rattle.std.specs.Prelude.{Bool}
use Rattle.gp_values.specs.Names.{Name}
use Rattle.gp_syntax.specs.declared.kinds.VariableType.{VariableType}
use Rattle.gp_syntax.specs.Expression.{Expression}
use Rattle.gp_syntax.specs.Fault.{is_well_typed, is_simple}
use Rattle.gp_clauses.specs.declared.typed.LabelClause.{LabelClause}
use Rattle.gp_clauses.specs.declared.typed.LabelClause.TheVariants as clauses

abbrev pub passes : LabelClause → (Name → VariableType) → Expression Name → Bool
passes clauses.Typed t e = is_well_typed t e
passes clauses.Simple t e = is_simple t e
