use Rattle.std.proofs.Common.{ℕ, sym, ap, ◌∙◌}
use Rattle.gp_fmt.specs.Commands.{CommandPart, part_of_command, level}
use Rattle.gp_fmt.proofs.Forms.{of-Call, of-Procedure, of-Seq, of-If, of-Try, of-Loop, of-Either, of-Skip, of-Fail, of-Break}
use Rattle.gp_fmt.proofs.commands.level_of.Goals as goal

abbrev of : CommandPart → ℕ
of x = level x.form

pub returns-in-Call : goal.returns-in-Call
returns-in-Call c = sym (ap (λ x. of (part_of_command x)) c.in-Call.is ∙ ap of (of-Call _))

pub returns-in-Procedure : goal.returns-in-Procedure
returns-in-Procedure c = sym (ap (λ x. of (part_of_command x)) c.in-Procedure.is ∙ ap of (of-Procedure _))

pub returns-in-Seq : goal.returns-in-Seq
returns-in-Seq c = sym (ap (λ x. of (part_of_command x)) c.in-Seq.is ∙ ap of (of-Seq _ _))

pub returns-in-If : goal.returns-in-If
returns-in-If c = sym (ap (λ x. of (part_of_command x)) c.in-If.is ∙ ap of (of-If _ _ _))

pub returns-in-Try : goal.returns-in-Try
returns-in-Try c = sym (ap (λ x. of (part_of_command x)) c.in-Try.is ∙ ap of (of-Try _ _ _))

pub returns-in-Loop : goal.returns-in-Loop
returns-in-Loop c = sym (ap (λ x. of (part_of_command x)) c.in-Loop.is ∙ ap of (of-Loop _))

pub returns-in-Or : goal.returns-in-Or
returns-in-Or c = sym (ap (λ x. of (part_of_command x)) c.in-Or.is ∙ ap of (of-Either _ _))

pub returns-in-Skip : goal.returns-in-Skip
returns-in-Skip c = sym (ap (λ x. of (part_of_command x)) c.in-Skip.is ∙ ap of of-Skip)

pub returns-in-Fail : goal.returns-in-Fail
returns-in-Fail c = sym (ap (λ x. of (part_of_command x)) c.in-Fail.is ∙ ap of of-Fail)

pub returns-in-Break : goal.returns-in-Break
returns-in-Break c = sym (ap (λ x. of (part_of_command x)) c.in-Break.is ∙ ap of of-Break)
