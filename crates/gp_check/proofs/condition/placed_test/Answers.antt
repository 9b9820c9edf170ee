use Rattle.std.proofs.Common.{ℕ, sym, ap, ◌∙◌}
use Rattle.gp_syntax.specs.Expression.{HasType, HasEdge, HasEdgeWith, Compared}
use Rattle.gp_syntax.specs.Tree.{pattern_of}
use Rattle.gp_syntax.proofs.Trees.{condition_of-HasType, condition_of-HasEdge, condition_of-HasEdgeWith, condition_of-Compared}
use Rattle.gp_clauses.specs.ConditionShapes.{condition_in}
use Rattle.gp_check.specs.inside.Placed.{placed_condition_in}
use Rattle.gp_check.proofs.Placing.{no_test}
use Rattle.gp_check.proofs.condition.placed_test.Goals as goal

pub returns-in_ok-e-in-HasType : goal.returns-in_ok-e-in-HasType
returns-in_ok-e-in-HasType c = condition_of-HasType {R = ℕ} pattern_of c.in-HasType.wanted c.in_ok-e-in-HasType.e ∙ ap (HasType c.in-HasType.wanted) c.in_ok-e-in-HasType.ensures ∙ ap (λ s. placed_condition_in c.args.places (condition_in s)) (sym c.in-HasType.is)

pub returns-in_ok-target-in-HasEdge : goal.returns-in_ok-target-in-HasEdge
returns-in_ok-target-in-HasEdge c =
    condition_of-HasEdge {R = ℕ} pattern_of c.in_ok-source-in-HasEdge.source c.in_ok-target-in-HasEdge.target ∙ (λ i. HasEdge (c.in_ok-source-in-HasEdge.ensures i) (c.in_ok-target-in-HasEdge.ensures i)) ∙ ap (λ s. placed_condition_in c.args.places (condition_in s)) (sym c.in-HasEdge.is)

pub returns-in_ok-label-in-HasEdgeWith : goal.returns-in_ok-label-in-HasEdgeWith
returns-in_ok-label-in-HasEdgeWith c =
    condition_of-HasEdgeWith {R = ℕ} pattern_of c.in_ok-source-in-HasEdgeWith.source c.in_ok-target-in-HasEdgeWith.target c.in_ok-label-in-HasEdgeWith.label c.edge_pattern.result
    ∙ (λ i. HasEdgeWith (c.in_ok-source-in-HasEdgeWith.ensures i) (c.in_ok-target-in-HasEdgeWith.ensures i) (c.in_ok-label-in-HasEdgeWith.ensures i) (c.edge_pattern.ensures i)) ∙ ap (λ s. placed_condition_in c.args.places (condition_in s)) (sym c.in-HasEdgeWith.is)

pub returns-in_ok-e-in-Compared : goal.returns-in_ok-e-in-Compared
returns-in_ok-e-in-Compared c =
    condition_of-Compared {R = ℕ} pattern_of c.in-Compared.comparison c.in_ok-d-in-Compared.d c.in_ok-e-in-Compared.e ∙ (λ i. Compared c.in-Compared.comparison (c.in_ok-d-in-Compared.ensures i) (c.in_ok-e-in-Compared.ensures i)) ∙ ap (λ s. placed_condition_in c.args.places (condition_in s)) (sym c.in-Compared.is)

pub unreachable-requires : goal.unreachable-requires
unreachable-requires c = no_test c.args.test c.requires c.in_default.not-HasType c.in_default.not-HasEdge c.in_default.not-HasEdgeWith c.in_default.not-Compared
