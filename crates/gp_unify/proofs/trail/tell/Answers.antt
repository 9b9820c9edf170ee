use Rattle.std.proofs.Common.{refl}
use Rattle.gp_unify.proofs.Trails.{grown_same}
use Rattle.gp_unify.proofs.trail.tell.Goals as goal

pub returns-then-not-is_of-clause-grown : goal.returns-then-not-is_of-clause-grown
returns-then-not-is_of-clause-grown c = grown_same _ _ _ _ refl refl

pub returns-then-eq-clause-grown : goal.returns-then-eq-clause-grown
returns-then-eq-clause-grown c = grown_same _ _ _ _ refl refl

pub returns-else-eq-clause-grown : goal.returns-else-eq-clause-grown
returns-else-eq-clause-grown c = grown_same _ _ _ _ refl refl

pub returns-in_err-list-in-None-clause-grown : goal.returns-in_err-list-in-None-clause-grown
returns-in_err-list-in-None-clause-grown c = grown_same _ _ _ _ refl refl

pub returns-in_err-bind-in-None-clause-grown : goal.returns-in_err-bind-in-None-clause-grown
returns-in_err-bind-in-None-clause-grown c = c.bind.ensures.grown

pub returns-in_ok-bind-in-None-clause-grown : goal.returns-in_ok-bind-in-None-clause-grown
returns-in_ok-bind-in-None-clause-grown c = c.bind.ensures.grown
