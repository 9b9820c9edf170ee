-- Tables of names and of variables as they grow.
use Rattle.std.specs.Prelude.{Bool, true, if◌then◌else◌, List, [], ◌∷◌, ◌++◌, fold, Option, Some, None}
use Rattle.std.specs.Option.{option_map_or}
use Rattle.std.specs.Borrow.{Bor}
use Rattle.gp_values.specs.Names.{Name, has_name, place_of}
use Rattle.gp_syntax.specs.declared.kinds.VariableType.{VariableType}
use Rattle.gp_syntax.specs.declared.kinds.VariableType.TheVariants as types
use Rattle.gp_syntax.specs.declared.expression.Expr.{Expr}
use Rattle.gp_syntax.specs.declared.tree.VariableGroup.{VariableGroup}
use Rattle.gp_syntax.specs.Expression.{Expression}
use Rattle.gp_syntax.specs.Declaration.{DeclaredVariable, variables_in}
use Rattle.gp_syntax.specs.Tree.{expression_of, variables_of}
use Rattle.gp_syntax.specs.Typing.{type_in}
use Rattle.gp_clauses.specs.declared.shape.Operation.{Operation}
use Rattle.gp_clauses.specs.declared.variables.Variables.{Variables}

-- the name at the end, where it is new
abbrev pub with_name : List Name → Name → List Name
with_name names n = if has_name names n then names else names ++ n ∷ []

abbrev pub no_variables : Variables
no_variables = record { names = []; types = [] }

abbrev pub declared_variable : Name → VariableType → DeclaredVariable
declared_variable n t = record { name = n; type = t }

-- the variable at the end, where its name is new
abbrev pub with_variable : Variables → DeclaredVariable → Variables
with_variable v x = if has_name v.names x.name then v else record { names = v.names ++ x.name ∷ []; types = v.types ++ x.type ∷ [] }

-- whether the name is among the others, if there are others
abbrev pub is_kept : Option (Bor (List Name)) → Name → Bool
is_kept None n = true
is_kept (Some names) n = has_name names.now n

abbrev pub with_kept : Option (Bor (List Name)) → Variables → DeclaredVariable → Variables
with_kept kept v x = if is_kept kept x.name then with_variable v x else v

abbrev pub type_by : Variables → Name → VariableType
type_by v x = option_map_or (type_in v.types) (place_of v.names x) types.List

abbrev pub with_names : List Name → List Name → List Name
with_names names more = fold with_name names more

abbrev pub with_variables_in : List Name → Expression Name → List Name
with_variables_in names e = with_names names (variables_in e)

abbrev pub with_operand_names : List Name → (Operation × Expr Name) → List Name
with_operand_names names l = with_variables_in names (expression_of l.1)

-- the variables of a group, those that are kept
abbrev pub with_group : Option (Bor (List Name)) → Variables → VariableGroup → Variables
with_group kept v g = fold (with_kept kept) v (variables_of g)
