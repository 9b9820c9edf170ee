use Rattle.std.proofs.Common.{◌≡◌, ◌∙◌, ap, sym, subst, refl, Bool, true, false, cond}
use Rattle.gp_values.specs.Names.{has_name}
use Rattle.gp_scope.specs.inside.Doubles.{name_of}
use Rattle.gp_scope.proofs.Outlines.{name_of-Rule, name_of-Procedure, declared-Rule, declared-Procedure}
use Rattle.gp_scope.proofs.doubled.name_of.Goals as goal

taken : {A : Type 0} (x y : A) (b : Bool) → b ≡ true → cond b x y ≡ x
taken x y true h = refl
taken x y false h = cc

pub returns-in-Rule-clause-name : goal.returns-in-Rule-clause-name
returns-in-Rule-clause-name c = sym (ap name_of c.in-Rule.is ∙ name_of-Rule c.in-Rule.rule)

pub returns-in-Rule-clause-again : goal.returns-in-Rule-clause-again
returns-in-Rule-clause-again c = λ seen os h. rw (c.in-Rule.is, declared-Rule c.in-Rule.rule os, name_of-Rule c.in-Rule.rule) (taken _ _ _ (subst (λ n. has_name seen n ≡ true) (ap name_of c.in-Rule.is ∙ name_of-Rule c.in-Rule.rule) h))

pub returns-in-Procedure-clause-name : goal.returns-in-Procedure-clause-name
returns-in-Procedure-clause-name c = sym (ap name_of c.in-Procedure.is ∙ name_of-Procedure c.in-Procedure.name c.in-Procedure.declarations c.in-Procedure.body)

pub returns-in-Procedure-clause-again : goal.returns-in-Procedure-clause-again
returns-in-Procedure-clause-again c = λ seen os h. rw (c.in-Procedure.is, declared-Procedure c.in-Procedure.name c.in-Procedure.declarations c.in-Procedure.body os, name_of-Procedure c.in-Procedure.name c.in-Procedure.declarations c.in-Procedure.body) (taken _ _ _ (subst (λ n. has_name seen n ≡ true) (ap name_of c.in-Procedure.is ∙ name_of-Procedure c.in-Procedure.name c.in-Procedure.declarations c.in-Procedure.body) h))
