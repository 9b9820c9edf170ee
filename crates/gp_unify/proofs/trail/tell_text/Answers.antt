use Rattle.std.proofs.Common.{refl}
use Rattle.gp_unify.proofs.Trails.{grown_same}
use Rattle.gp_unify.proofs.trail.tell_text.Goals as goal

pub returns-then-not-takes_text-clause-grown : goal.returns-then-not-takes_text-clause-grown
returns-then-not-takes_text-clause-grown c = grown_same _ _ _ _ refl refl

pub returns-then-is_text-clause-grown : goal.returns-then-is_text-clause-grown
returns-then-is_text-clause-grown c = grown_same _ _ _ _ refl refl

pub returns-else-is_text-clause-grown : goal.returns-else-is_text-clause-grown
returns-else-is_text-clause-grown c = grown_same _ _ _ _ refl refl

pub returns-in_err-list-in-None-clause-grown : goal.returns-in_err-list-in-None-clause-grown
returns-in_err-list-in-None-clause-grown c = grown_same _ _ _ _ refl refl

pub returns-in_err-bind-in-None-clause-grown : goal.returns-in_err-bind-in-None-clause-grown
returns-in_err-bind-in-None-clause-grown c = c.bind.ensures.grown

pub returns-in_ok-bind-in-None-clause-grown : goal.returns-in_ok-bind-in-None-clause-grown
returns-in_ok-bind-in-None-clause-grown c = c.bind.ensures.grown
