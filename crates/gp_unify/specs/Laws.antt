-- What unification says of labels and of matches, whoever computes it.
use Rattle.std.specs.Prelude.{◌≡◌, ℕ, List, Some}
use Rattle.gp_values.specs.declared.atom.Atom.{Atom}
use Rattle.gp_values.specs.Graph.{Graph}
use Rattle.gp_syntax.specs.Expression.{Expression}
use Rattle.gp_syntax.specs.Value.{Assignment, Setting, Value, value_of}
use Rattle.gp_syntax.specs.Rule.{Rule, Found}
use Rattle.gp_syntax.specs.Match.{MatchBy}
use Rattle.gp_syntax.specs.Step.{Step}
use Rattle.gp_syntax.specs.Typing.{type_in}
use Rattle.gp_syntax.specs.Simple.{IsSimple}
use Rattle.gp_syntax.specs.WellFormed.{IsWellFormed}
use Rattle.gp_unify.specs.Known.{Known, Extends, InTypes}
use Rattle.gp_unify.specs.Unify.{unify}
use Rattle.gp_unify.specs.Candidate.{candidate}

-- What is found gives the label that value, and every assignment in types that gives it has what is found: so there is
-- one least extension, or none.
pub record Unifies : Type 0 where
  pub sound : (s : Setting) (e : Expression ℕ) (v : List Atom) (p q : Known) → unify (type_in s.types) e v p ≡ Some q → Extends q s.assigned → value_of e s ≡ Value v
  pub complete : (s : Setting) (e : Expression ℕ) (v : List Atom) (p : Known) → IsSimple (type_in s.types) e → InTypes s → value_of e s ≡ Value v → Extends p s.assigned
      → (q : Known) × (unify (type_in s.types) e v p ≡ Some q) × Extends q s.assigned

-- By one assignment at most a match is one, the candidate's.
pub record MatchesHaveOneAssignment (r : Rule) (g : Graph) (m : Found) : Type 0 where
  pub candidate : (a : Assignment) → MatchBy r g m a → candidate r g m ≡ Some a
  pub one_assignment : (a b : Assignment) → MatchBy r g m a → MatchBy r g m b → a ≡ b

abbrev pub MatchesTellAssignments : Type 0
MatchesTellAssignments = (r : Rule) (g : Graph) (m : Found) → IsWellFormed r → MatchesHaveOneAssignment r g m

-- A match leads to one graph.
abbrev pub StepOfWellFormedRuleIsUnique : Type 0
StepOfWellFormedRuleIsUnique = (r : Rule) (g : Graph) (m : Found) (h k : Graph) → IsWellFormed r → Step r g m h → Step r g m k → h ≡ k
