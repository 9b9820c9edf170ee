use Rattle.std.proofs.Common.{sym, ap, ◌∙◌}
use Rattle.gp_fmt.specs.Expressions.{part_of_expression}
use Rattle.gp_fmt.proofs.Forms.{of-Number, of-Text, of-Variable, of-InDegree, of-OutDegree, of-Length, of-Empty, of-Negated, of-Sum, of-Product, of-Dot, of-Join}
use Rattle.gp_fmt.proofs.Numerals.{needs}
use Rattle.gp_fmt.proofs.expressions.minus_needs_parentheses.Goals as goal

pub returns-in-Number : goal.returns-in-Number
returns-in-Number c = c.is_from_zero.ensures ∙ sym (ap (λ x. needs (part_of_expression x)) c.in-Number.is ∙ ap needs (of-Number c.in-Number.value))

pub returns-in-Text : goal.returns-in-Text
returns-in-Text c = sym (ap (λ x. needs (part_of_expression x)) c.in-Text.is ∙ ap needs (of-Text _))

pub returns-in-Variable : goal.returns-in-Variable
returns-in-Variable c = sym (ap (λ x. needs (part_of_expression x)) c.in-Variable.is ∙ ap needs (of-Variable _))

pub returns-in-InDegree : goal.returns-in-InDegree
returns-in-InDegree c = sym (ap (λ x. needs (part_of_expression x)) c.in-InDegree.is ∙ ap needs (of-InDegree _))

pub returns-in-OutDegree : goal.returns-in-OutDegree
returns-in-OutDegree c = sym (ap (λ x. needs (part_of_expression x)) c.in-OutDegree.is ∙ ap needs (of-OutDegree _))

pub returns-in-Length : goal.returns-in-Length
returns-in-Length c = sym (ap (λ x. needs (part_of_expression x)) c.in-Length.is ∙ ap needs (of-Length _))

pub returns-in-Empty : goal.returns-in-Empty
returns-in-Empty c = sym (ap (λ x. needs (part_of_expression x)) c.in-Empty.is ∙ ap needs of-Empty)

pub returns-in-Negated : goal.returns-in-Negated
returns-in-Negated c = sym (ap (λ x. needs (part_of_expression x)) c.in-Negated.is ∙ ap needs (of-Negated _))

pub returns-in-Sum : goal.returns-in-Sum
returns-in-Sum c = sym (ap (λ x. needs (part_of_expression x)) c.in-Sum.is ∙ ap needs (of-Sum _ _))

pub returns-in-Product : goal.returns-in-Product
returns-in-Product c = sym (ap (λ x. needs (part_of_expression x)) c.in-Product.is ∙ ap needs (of-Product _ _))

pub returns-in-Dot : goal.returns-in-Dot
returns-in-Dot c = sym (ap (λ x. needs (part_of_expression x)) c.in-Dot.is ∙ ap needs (of-Dot _ _))

pub returns-in-Join : goal.returns-in-Join
returns-in-Join c = sym (ap (λ x. needs (part_of_expression x)) c.in-Join.is ∙ ap needs (of-Join _ _))
