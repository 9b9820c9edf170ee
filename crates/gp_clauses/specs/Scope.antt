-- The variables that labels and the condition of a rule may name, as they are kept while a rule is checked.
use Rattle.std.specs.Prelude.{◌≡◌, List, map}
use Rattle.gp_syntax.specs.Declaration.{DeclaredVariable, Declaration, left_variables}
use Rattle.gp_clauses.specs.declared.variables.Variables.{Variables}
use Rattle.gp_clauses.specs.declared.scope.Scope.{Scope}

-- the names of variables, and their types
abbrev pub kept_variables : List DeclaredVariable → Variables
kept_variables vs = record { names = map (λ (v : DeclaredVariable). v.name) vs; types = map (λ (v : DeclaredVariable). v.type) vs }

-- those that are declared, and those that stand in left labels, each in the order of declaration
pub record IsScope (d : Declaration) (s : Scope) : Type 0 where
  pub declared : s.declared ≡ kept_variables d.variables
  pub left : s.left ≡ kept_variables (left_variables d)
