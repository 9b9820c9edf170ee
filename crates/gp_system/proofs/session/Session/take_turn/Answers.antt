use Rattle.std.proofs.Common.{subst, sym, arith}
use Rattle.gp_run.proofs.Turns.{turns_none, turns_bound, turns_spent, turns_faulty, turns_end, turns_less}
use Rattle.gp_system.specs.inside.Viewed.{Shown, view_of}
use Rattle.gp_system.specs.inside.AfterTurn.{IsInTurn}
use Rattle.gp_system.proofs.Sessions.{same_graph}
use Rattle.gp_system.proofs.Goes.{goes_on, in_turn}
use Rattle.gp_system.proofs.session.Session.take_turn.Goals as goal

pub returns-in-Bound-clause-going : goal.returns-in-Bound-clause-going
returns-in-Bound-clause-going c = turns_bound _ _ _ _ (turns_none _ _) c.in-Bound.ensures.turned

pub returns-in-Some-Stepped-clause-going : goal.returns-in-Some-Stepped-clause-going
returns-in-Some-Stepped-clause-going c = goes_on _ _ _ _ c.in-Made.ensures.turned (rw c.in-Some-Stepped.field-0-is at c.in-Some-Stepped.ensures.called)

pub returns-in-Some-Stepped-clause-less : goal.returns-in-Some-Stepped-clause-less
returns-in-Some-Stepped-clause-less c = omega (arith, turns_less _ _ _ _ c.in-Made.ensures.turned (rw c.in-Some-Stepped.field-0-is at c.in-Some-Stepped.ensures.called))

pub returns-in-Some-Bound-clause-going : goal.returns-in-Some-Bound-clause-going
returns-in-Some-Bound-clause-going c = turns_spent _ _ _ _ _ (turns_none _ _) c.in-Made.ensures.turned (rw c.in-Some-Bound.field-0-is at c.in-Some-Bound.ensures.called)

pub returns-in-Some-Fault-clause-going : goal.returns-in-Some-Fault-clause-going
returns-in-Some-Fault-clause-going c = turns_faulty _ _ _ _ _ _ _ (turns_none _ _) c.in-Made.ensures.turned (rw c.in-Some-Fault.field-0-is at c.in-Some-Fault.ensures.called)

pub returns-in-Some-Blocked-clause-going : goal.returns-in-Some-Blocked-clause-going
returns-in-Some-Blocked-clause-going c =
    turns_end _ _ _ _ _ _ _ (turns_none _ _) c.in-Made.ensures.turned (rw c.in-Some-Blocked.field-0-is at c.in-Some-Blocked.ensures.called) c.end.ensures.ended (same_graph _ _ _ _ c.in-Made.ensures.turned (rw c.in-Some-Blocked.field-0-is at c.in-Some-Blocked.ensures.called))

pub returns-in-None-clause-going : goal.returns-in-None-clause-going
returns-in-None-clause-going c = subst (λ (s : Shown). IsInTurn c.args.call (view_of c.args.self.now) (view_of s)) (sym c.in-None.ensures.given_up) (in_turn _ _ _ c.in-Made.ensures.turned)
