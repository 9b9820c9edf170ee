-- What the right side writes again of the left one.
use Rattle.std.specs.Prelude.{◌≡◌, ℕ, IsSomeAnd, slice_get}
use Rattle.gp_syntax.specs.declared.rule.RuleParts.{RuleParts}
use Rattle.gp_syntax.specs.declared.rule.LeftEdge.{LeftEdge}
use Rattle.gp_syntax.specs.declared.rule.RightEdge.{RightEdge}
use Rattle.gp_syntax.specs.Tree.{label_of, expression_of, pattern_of}

-- a right edge has the label and the mark of a left one
pub record SaysSame (p : LeftEdge) (q : RightEdge) : Type 0 where
  pub label : label_of p.label ≡ expression_of q.label
  pub mark : pattern_of p.mark ≡ pattern_of q.mark

-- the left one of this place
abbrev pub IsUnchanged : RuleParts → ℕ → RightEdge → Type 0
IsUnchanged r i q = IsSomeAnd (slice_get r.left_edges i) (λ p. SaysSame p q)
