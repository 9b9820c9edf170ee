use Rattle.std.proofs.Common.{ℕ, sym, ap, ◌∙◌}
use Rattle.gp_fmt.specs.Expressions.{Part, part_of_expression}
use Rattle.gp_fmt.proofs.Forms.{of-Number, of-Text, of-Variable, of-InDegree, of-OutDegree, of-Length, of-Empty, of-Negated, of-Sum, of-Product, of-Dot, of-Join}
use Rattle.gp_fmt.proofs.expressions.level_of.Goals as goal

abbrev level : Part → ℕ
level x = x.level

pub returns-in-Number : goal.returns-in-Number
returns-in-Number c = sym (ap (λ x. level (part_of_expression x)) c.in-Number.is ∙ ap level (of-Number _))

pub returns-in-Text : goal.returns-in-Text
returns-in-Text c = sym (ap (λ x. level (part_of_expression x)) c.in-Text.is ∙ ap level (of-Text _))

pub returns-in-Variable : goal.returns-in-Variable
returns-in-Variable c = sym (ap (λ x. level (part_of_expression x)) c.in-Variable.is ∙ ap level (of-Variable _))

pub returns-in-InDegree : goal.returns-in-InDegree
returns-in-InDegree c = sym (ap (λ x. level (part_of_expression x)) c.in-InDegree.is ∙ ap level (of-InDegree _))

pub returns-in-OutDegree : goal.returns-in-OutDegree
returns-in-OutDegree c = sym (ap (λ x. level (part_of_expression x)) c.in-OutDegree.is ∙ ap level (of-OutDegree _))

pub returns-in-Length : goal.returns-in-Length
returns-in-Length c = sym (ap (λ x. level (part_of_expression x)) c.in-Length.is ∙ ap level (of-Length _))

pub returns-in-Empty : goal.returns-in-Empty
returns-in-Empty c = sym (ap (λ x. level (part_of_expression x)) c.in-Empty.is ∙ ap level of-Empty)

pub returns-in-Negated : goal.returns-in-Negated
returns-in-Negated c = sym (ap (λ x. level (part_of_expression x)) c.in-Negated.is ∙ ap level (of-Negated _))

pub returns-in-Sum : goal.returns-in-Sum
returns-in-Sum c = sym (ap (λ x. level (part_of_expression x)) c.in-Sum.is ∙ ap level (of-Sum _ _))

pub returns-in-Product : goal.returns-in-Product
returns-in-Product c = sym (ap (λ x. level (part_of_expression x)) c.in-Product.is ∙ ap level (of-Product _ _))

pub returns-in-Dot : goal.returns-in-Dot
returns-in-Dot c = sym (ap (λ x. level (part_of_expression x)) c.in-Dot.is ∙ ap level (of-Dot _ _))

pub returns-in-Join : goal.returns-in-Join
returns-in-Join c = sym (ap (λ x. level (part_of_expression x)) c.in-Join.is ∙ ap level (of-Join _ _))
