use Rattle.std.proofs.Common.{◌≡◌, ℕ, ◌+◌, ◌-◌, ◌≤◌, [], ◌∷◌, ◌++◌, length, sym, ap, subst, ◌∙◌, append_assoc, append-nil, arith}
use Rattle.std.specs.Vec.Iter.{into_iter_items}
use Rattle.opt_core.specs.Steps.{AllCommitted}
use Rattle.opt_core.specs.inside.Offers.{IsOffered}
use Rattle.opt_core.proofs.Batches.{chained, committed_last, next_applied, told_still, counted, starts_then, rest_stays, same_count, nothing_left}
use Rattle.opt_core.proofs.machine.Core.batch.Goals as goal

pub offer_next-requires-clause-system : goal.offer_next-requires-clause-system
offer_next-requires-clause-system g c =
    let at = c.loop-found in
    c.requires.system ∙ sym (chained (g.S.System.means c.args.s.now) c.args.self.now at.self c.args.told at.yielded at.invariant.1).start.system

pub offer_next-requires-clause-told : goal.offer_next-requires-clause-told
offer_next-requires-clause-told g c =
    let at = c.loop-found in
    told_still (g.S.System.means c.args.s.now) c.args.self.now at.self c.args.told at.yielded at.invariant.1 c.requires.told

pub offer_next-requires-clause-applied : goal.offer_next-requires-clause-applied
offer_next-requires-clause-applied g c =
    let at = c.loop-found in
    let steps : into_iter_items at.found-iterator ≡ c.in-Some.found ∷ into_iter_items c.next.new.self = c.in-Some.ensures.steps.0 in
    let whole = sym (rw steps at at.invariant.0 ∙ c.into_iter-found-iterator.ensures.into_iter_gives.0 ∙ c.into_vec-found-items.ensures) in
    next_applied (g.S.System.means c.args.s.now) c.args.self.now at.self c.args.told c.args.founds at.yielded (into_iter_items c.next.new.self) c.in-Some.found whole at.invariant.1 c.requires.told c.requires.applied

pub overflow_sub-result : goal.overflow_sub-result
overflow_sub-result g c =
    let m = g.S.System.means c.args.s.now in
    let at = c.loop-found in
    let before = same_count c.self.view_is in
    let now = same_count c.self-in-loop-found.view_is in
    let stays = ap length (rest_stays m at.self.ending at.self c.offer_next.new.self c.args.told c.in-Some.found c.in-Some-offer_next.rest c.in-Some-offer_next.ensures).1 in
    let more = counted m c.args.self.now at.self c.args.told at.yielded at.invariant.1 in
    omega arith

pub returns-in-Some-offer_next-clause-answers : goal.returns-in-Some-offer_next-clause-answers
returns-in-Some-offer_next-clause-answers g c =
    let m = g.S.System.means c.args.s.now in
    let at = c.loop-found in
    let steps : into_iter_items at.found-iterator ≡ c.in-Some.found ∷ into_iter_items c.next.new.self = c.in-Some.ensures.steps.0 in
    let whole = sym (rw steps at at.invariant.0 ∙ c.into_iter-found-iterator.ensures.into_iter_gives.0 ∙ c.into_vec-found-items.ensures) in
    let before = same_count c.self.view_is in
    let now = same_count c.self-in-loop-found.view_is in
    let stays = ap length (rest_stays m at.self.ending at.self c.offer_next.new.self c.args.told c.in-Some.found c.in-Some-offer_next.rest c.in-Some-offer_next.ensures).1 in
    let more = counted m c.args.self.now at.self c.args.told at.yielded at.invariant.1 in
    let place : c.len-place.result ≡ length c.args.self.now.entries = omega arith in
    let count : c.len.result - c.len-place.result ≡ length at.yielded = omega arith in
    (place, (at.yielded, c.in-Some.found, into_iter_items c.next.new.self, at.self, whole, count, at.invariant.1, c.in-Some-offer_next.ensures))

pub returns-in-Some-offer_next-clause-start : goal.returns-in-Some-offer_next-clause-start
returns-in-Some-offer_next-clause-start g c =
    let m = g.S.System.means c.args.s.now in
    let at = c.loop-found in
    starts_then m c.args.self.now at.self c.args.told at.yielded at.invariant.1 c.offer_next.new.self
    (rest_stays m at.self.ending at.self c.offer_next.new.self c.args.told c.in-Some.found c.in-Some-offer_next.rest c.in-Some-offer_next.ensures).0

pub loop-found-preserved : goal.loop-found-preserved
loop-found-preserved g c =
    let m = g.S.System.means c.args.s.now in
    let at = c.loop-found in
    let f = c.in-Some.found in
    let d = c.offer_next.new.self in
    let steps : into_iter_items at.found-iterator ≡ f ∷ into_iter_items c.next.new.self = c.in-Some.ensures.steps.0 in
    let one = subst (λ r. IsOffered m at.self c.args.told f r d) c.in_default.is c.offer_next.ensures in (
      append_assoc at.yielded (f ∷ []) _ ∙ rw (← steps) at.invariant.0,
      committed_last m c.args.self.now at.self d c.args.told one.0 at.yielded f at.invariant.1 one.1,
      let was = at.invariant.2 in
          let gone = c.in-Some.ensures.steps.1 in
          let short = ap length steps in
          omega arith,
    )

pub overflow_sub-result-2 : goal.overflow_sub-result-2
overflow_sub-result-2 g c =
    let at = c.loop-found in
    let before = same_count c.self.view_is in
    let now = same_count c.self-2.view_is in
    let more = counted (g.S.System.means c.args.s.now) c.args.self.now at.self c.args.told at.yielded at.invariant.1 in
    omega arith

pub returns-clause-answers : goal.returns-clause-answers
returns-clause-answers g c =
    let m = g.S.System.means c.args.s.now in
    let at = c.loop-found in
    let none = c.in-None.ensures.steps in
    let empty : into_iter_items at.found-iterator ≡ [] = nothing_left _ (sym at.invariant.2 ∙ none.0) in
    let all = sym (append-nil at.yielded) ∙ rw empty at at.invariant.0 ∙ c.into_iter-found-iterator.ensures.into_iter_gives.0 ∙ c.into_vec-found-items.ensures in
    let before = same_count c.self.view_is in
    let now = same_count c.self-2.view_is in
    let more = counted m c.args.self.now at.self c.args.told at.yielded at.invariant.1 in
    let long = ap length all in
    let place : c.len-place.result ≡ length c.args.self.now.entries = omega arith in
    let count : c.len-2.result - c.len-place.result ≡ length c.args.founds = omega arith in
    (place, (count, subst (λ fs. AllCommitted m c.args.self.now c.args.told fs at.self) all at.invariant.1))

pub returns-clause-start : goal.returns-clause-start
returns-clause-start g c =
    let at = c.loop-found in
    (chained (g.S.System.means c.args.s.now) c.args.self.now at.self c.args.told at.yielded at.invariant.1).start
