use Rattle.std.proofs.Common.{◌≤◌, ap, sym, subst, arith}
use Rattle.gp_system.specs.inside.Viewed.{Shown}
use Rattle.gp_system.proofs.Crews.{used_now}
use Rattle.gp_system.proofs.Pursues.{pursued_now}
use Rattle.gp_system.proofs.crew_session.CrewSession.pursue_call.Goals as goal

pub overflow_sub-used : goal.overflow_sub-used
overflow_sub-used g c = (let i = c.in_ok-pursued.ensures.legal.items in let e = i.1 in omega arith)

pub take_in-requires-clause-used : goal.take_in-requires-clause-used
take_in-requires-clause-used g c = used_now _ _ _ _ _ _ _ _ c.in_ok-pursued.ensures

pub take_in-requires-clause-within : goal.take_in-requires-clause-within
take_in-requires-clause-within g c =
    let l = ap (λ (s : Shown). s.left) c.self.view_is in
    let e = ap (λ (s : Shown). s.left) c.take_trail-trail.ensures.empty in
    omega (arith, c.requires.given)

pub returns : goal.returns
returns g c =
    pursued_now c.args.self.now c.self.inside.session c.take_trail-trail.new.self c.take_in.new.self c.self.inside.system c.args.goal c.in_ok-pursued.pursued.ending c.take_trail-trail.result c.in_ok-pursued.pursued.trail c.args.given c.in_ok-pursued.pursued.left c.in_ok-pursued.pursued.entries.items
    c.self.view_is c.self.invariant.system c.in_ok-pursued.ensures c.take_trail-trail.ensures.trail c.take_trail-trail.ensures.well_formed c.take_trail-trail.ensures.numbered (subst (λ (s : Shown). c.args.given ≤ s.left) (sym c.self.view_is) c.requires.given) c.take_trail-trail.ensures.empty c.in_ok-take_in.ensures.taken_in
