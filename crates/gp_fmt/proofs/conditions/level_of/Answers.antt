use Rattle.std.proofs.Common.{ℕ, sym, ap, ◌∙◌}
use Rattle.gp_fmt.specs.Expressions.{Part, part_of_condition}
use Rattle.gp_fmt.proofs.Forms.{of-HasType, of-HasEdge, of-HasEdgeWith, of-Compared, of-Not, of-And, of-Or}
use Rattle.gp_fmt.proofs.conditions.level_of.Goals as goal

abbrev level : Part → ℕ
level x = x.level

pub returns-in-HasType : goal.returns-in-HasType
returns-in-HasType c = sym (ap (λ x. level (part_of_condition x)) c.in-HasType.is ∙ ap level (of-HasType _ _))

pub returns-in-HasEdge : goal.returns-in-HasEdge
returns-in-HasEdge c = sym (ap (λ x. level (part_of_condition x)) c.in-HasEdge.is ∙ ap level (of-HasEdge _ _))

pub returns-in-HasEdgeWith : goal.returns-in-HasEdgeWith
returns-in-HasEdgeWith c = sym (ap (λ x. level (part_of_condition x)) c.in-HasEdgeWith.is ∙ ap level (of-HasEdgeWith _ _ _ _))

pub returns-in-Compared : goal.returns-in-Compared
returns-in-Compared c = sym (ap (λ x. level (part_of_condition x)) c.in-Compared.is ∙ ap level (of-Compared _ _ _))

pub returns-in-Not : goal.returns-in-Not
returns-in-Not c = sym (ap (λ x. level (part_of_condition x)) c.in-Not.is ∙ ap level (of-Not _))

pub returns-in-And : goal.returns-in-And
returns-in-And c = sym (ap (λ x. level (part_of_condition x)) c.in-And.is ∙ ap level (of-And _ _))

pub returns-in-Or : goal.returns-in-Or
returns-in-Or c = sym (ap (λ x. level (part_of_condition x)) c.in-Or.is ∙ ap level (of-Or _ _))
