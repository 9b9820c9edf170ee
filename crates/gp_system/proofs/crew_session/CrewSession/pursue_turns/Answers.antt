use Rattle.std.proofs.Common.{◌∙◌, min, ap, subst, arith}
use Rattle.gp_run.specs.Ended.{HasEnded}
use Rattle.opt_system.specs.declared.answers.Mode.TheVariants.{Saturate}
use Rattle.opt_core.specs.declared.event.Ending.{Ending}
use Rattle.gp_system.specs.declared.goal.Fault.{Fault}
use Rattle.gp_system.specs.inside.Pursued.{HasPursued}
use Rattle.gp_system.specs.inside.Viewed.{Shown, view_of}
use Rattle.gp_system.proofs.Endings.{blocked_so, bound_so, faulty_so, leased_so}
use Rattle.gp_system.proofs.crew_session.CrewSession.pursue_turns.Goals as goal

pub returns-in-Ok-Bound-clause-going : goal.returns-in-Ok-Bound-clause-going
returns-in-Ok-Bound-clause-going g c = λ u made.
    (let l = ap (λ (s : Shown). s.left) c.self.view_is in
    let k = ap (λ (s : Shown). s.left) c.self-2.view_is in
    (leased_so c.args.call _ c.args.lease u c.args.self.now c.pursue_call.new.self made (rw c.in-Ok-Bound.field-0-is at c.in-Ok-Bound.ensures) (c.min-given.ensures ∙ ap (λ n. min n c.args.lease) (c.left.ensures ∙ l)) c.requires.lease (omega arith)).0)

pub returns-in-Ok-Bound-2-clause-going : goal.returns-in-Ok-Bound-2-clause-going
returns-in-Ok-Bound-2-clause-going g c = λ u made.
    (let k = ap (λ (s : Shown). s.left) c.self-2.view_is in
    let p = subst (λ (x : Ending Fault). HasPursued (record { call = c.args.call; mode = Saturate }) c.min-given.result x c.args.self.now c.pursue_call.new.self) c.in-Ok-Bound-2.field-0-is c.in-Ok-Bound.ensures in
    bound_so c.args.call c.min-given.result u c.args.self.now c.pursue_call.new.self made p (omega arith))

pub returns-in-Ok-Blocked-clause-going : goal.returns-in-Ok-Blocked-clause-going
returns-in-Ok-Blocked-clause-going g c = λ u made.
    blocked_so c.args.call _ c.end.result u c.args.self.now c.pursue_call.new.self (view_of c.end.new.self) c.requires.set made (rw c.in-Ok-Blocked.field-0-is at c.in-Ok-Blocked.ensures)
    (subst (λ (s : Shown). HasEnded c.end.result (view_of s) (view_of c.end.new.self)) c.self-2.view_is c.end.ensures.ended)

pub returns-in-Ok-Fault-clause-going : goal.returns-in-Ok-Fault-clause-going
returns-in-Ok-Fault-clause-going g c = λ u made. faulty_so c.args.call _ c.in-Ok-Fault.fault u c.args.self.now c.pursue_call.new.self made (rw c.in-Ok-Fault.field-0-is at c.in-Ok-Fault.ensures)
