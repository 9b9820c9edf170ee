use Rattle.std.proofs.Common.{◌≡◌, Option, Some, IfSome, subst, arith}
use Rattle.std.proofs.lemmas.List.Elements.{All-pop, All-push, All-same}
use Rattle.gp_journal.specs.Trail.{Trail}
use Rattle.gp_journal.proofs.replicas.copies.Goals as goal

pub loop-place-preserved : goal.loop-place-preserved
loop-place-preserved g c =
    let i = c.loop-place.invariant in
    let popped = All-pop (λ (place : Option Trail). IfSome place (λ (t : Trail). t ≡ c.args.trail.now)) c.loop-place.places.items c.pop.new.self.items (Some c.in-Some.place) c.in-Some.ensures.items i.places in
    let there = subst (λ (place : Option Trail). IfSome place (λ (t : Trail). t ≡ c.args.trail.now)) c.in-Some-place.is popped.1 in
    record {
      places = popped.0;
      all = All-same (λ (t : Trail). t ≡ c.args.trail.now) c.push_reserved-in-Some-place.new.self.items _ c.push_reserved-in-Some-place.ensures.items (All-push (λ (t : Trail). t ≡ c.args.trail.now) c.loop-place.trails.items c.in-Some-place.there i.all there);
      len = omega (arith, i.len, c.in-Some.ensures.len, c.push_reserved-in-Some-place.ensures.len);
      room = omega (arith, i.room, c.push_reserved-in-Some-place.ensures.capacity);
    }
