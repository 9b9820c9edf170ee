use Rattle.std.proofs.Common.{ℕ, refl}
use Rattle.gp_syntax.proofs.Trees.{expression_of-Text, expression_of-Variable, expression_of-Empty}
use Rattle.gp_eval.proofs.labels.has_part.Goals as goal

pub returns-in-Text : goal.returns-in-Text
returns-in-Text c = rw (c.in-Text.is, expression_of-Text {R = ℕ} c.in-Text.field-0) refl

pub returns-in-Empty : goal.returns-in-Empty
returns-in-Empty c = rw (c.in-Empty.is, expression_of-Empty {R = ℕ}) refl

pub returns-in-Variable : goal.returns-in-Variable
returns-in-Variable c = rw (c.in-Variable.is, expression_of-Variable {R = ℕ} c.in-Variable.field-0) refl
