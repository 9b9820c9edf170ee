use Rattle.std.proofs.Common.{◌<◌, ◌≤◌, length, arith}
use Rattle.gp_unify.proofs.Trails.{takes_first, takes_place, takes_on, takes_end}
use Rattle.gp_unify.proofs.trail.take_back.Goals as goal

pub told-init : goal.told-init
told-init c = takes_first c.args.count c.args.trail.now.items c.args.assignment.now c.requires.places

pub clear-requires : goal.clear-requires
clear-requires c =
    let l : c.args.count < length c.told.trail.items = omega (arith, c.len.ensures.value) in
    takes_place c.args.count c.args.trail.now.items c.args.assignment.now c.told.trail.items c.pop.new.self.items c.told.assignment c.in-Some.x c.told.invariant c.in-Some.ensures.items l

pub told-preserved-in-Some : goal.told-preserved-in-Some
told-preserved-in-Some c =
    let l : c.args.count < length c.told.trail.items = omega (arith, c.len.ensures.value) in
    rw c.clear.ensures (takes_on c.args.count c.args.trail.now.items c.args.assignment.now c.told.trail.items c.pop.new.self.items c.told.assignment c.in-Some.x c.told.invariant c.in-Some.ensures.items l)

pub returns-clause-assignment : goal.returns-clause-assignment
returns-clause-assignment c =
    let l : length c.told.trail.items ≤ c.args.count = omega (arith, c.len.ensures.value) in
    (takes_end c.args.count c.args.trail.now.items c.args.assignment.now c.told.trail.items c.told.assignment c.told.invariant l).0

pub returns-clause-trail : goal.returns-clause-trail
returns-clause-trail c =
    let l : length c.told.trail.items ≤ c.args.count = omega (arith, c.len.ensures.value) in
    (takes_end c.args.count c.args.trail.now.items c.args.assignment.now c.told.trail.items c.told.assignment c.told.invariant l).1
