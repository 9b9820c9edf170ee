use Rattle.std.proofs.Common.{◌≡◌, ◌∙◌, ℕ, ◌+◌, ◌<◌, ◌≤◌, List, length, slice_get, slice_index_or, Some, Contains, true, false, refl, sym, ap, subst, arith}
use Rattle.std.proofs.lemmas.Option.{slice_get_within}
use Rattle.gp_syntax.specs.Run.{Command, Program}
use Rattle.gp_syntax.specs.Run as meant
use Rattle.gp_certify.specs.declared.node.Node.TheVariants as node
use Rattle.gp_certify.specs.declared.end.End.{End}
use Rattle.gp_certify.specs.Places.{IsPart}
use Rattle.gp_certify.specs.inside.View.{View}
use Rattle.gp_certify.specs.Code.{at}
use Rattle.gp_certify.specs.inside.Ways.{HasFirst, above, way_of, ByWay}
use Rattle.gp_certify.specs.inside.Found.{AreEnds, AreEndsAt, AreByWay, IsFound, GoesOn, Leaves}
use Rattle.std.proofs.lemmas.List.Elements.{Contains-get_or}
use Rattle.gp_certify.specs.inside.Grows.{Grows, Has, OfOne}
use Rattle.gp_certify.specs.declared.end.Outcome.TheVariants as outcome
use Rattle.gp_certify.proofs.Grown.{grows_none, of_none, grows_of}
use Rattle.gp_certify.proofs.Parted.{if_ok, part_of, skip_ends, fail_ends, break_ends, procedure_ends, or_ends, first_ends, ways_below}
use Rattle.gp_certify.proofs.Steps.{tape_at, code_at, place_at, part_at, memory_at, ends_at, node_is, first_of_three, same_ends, first_within, first_shape, shape_first, first_less, true_learned, by_none, by_end, by_on, by_behind, by_no_back, firsts_more, found_all, has_turned, no_turn, loop_means, turns_first, turns_more, turn_at}
use Rattle.gp_certify.proofs.ends.+ends.Goals as goal

pub ends_of-returns-in_err-keep-clause-memory : goal.ends_of-returns-in_err-keep-clause-memory
ends_of-returns-in_err-keep-clause-memory g t c = true_learned (g.T.Tape.view c.args.tape.now) c.args.code.now c.fresh_ends.new.memory.found c.keep.new.self.found c.args.node c.args.place c.deref.result.now c.fresh_ends.ensures.memory (subst (λ (z : List End). AreEndsAt (g.T.Tape.view c.args.tape.now) c.args.code.now c.args.node c.args.place z) (sym c.deref.ensures.value) c.in_ok-found.ensures.ends) c.keep.ensures

pub ends_of-returns-clause-memory : goal.ends_of-returns-clause-memory
ends_of-returns-clause-memory g t c = true_learned (g.T.Tape.view c.args.tape.now) c.args.code.now c.fresh_ends.new.memory.found c.keep.new.self.found c.args.node c.args.place c.deref.result.now c.fresh_ends.ensures.memory (subst (λ (z : List End). AreEndsAt (g.T.Tape.view c.args.tape.now) c.args.code.now c.args.node c.args.place z) (sym c.deref.ensures.value) c.in_ok-found.ensures.ends) c.keep.ensures

pub ends_of-returns-in_err-known-clause-same : goal.ends_of-returns-in_err-known-clause-same
ends_of-returns-in_err-known-clause-same g t c = refl

pub ends_of-returns-in_err-known-clause-memory : goal.ends_of-returns-in_err-known-clause-memory
ends_of-returns-in_err-known-clause-memory g t c = c.requires.memory

pub ends_of-returns-in_err-found-clause-same : goal.ends_of-returns-in_err-found-clause-same
ends_of-returns-in_err-found-clause-same g t c = c.fresh_ends.ensures.same

pub ends_of-returns-in_err-found-clause-memory : goal.ends_of-returns-in_err-found-clause-memory
ends_of-returns-in_err-found-clause-memory g t c = c.fresh_ends.ensures.memory

pub ends_of-returns-in_err-keep-clause-same : goal.ends_of-returns-in_err-keep-clause-same
ends_of-returns-in_err-keep-clause-same g t c = c.fresh_ends.ensures.same

pub ends_of-returns-clause-same : goal.ends_of-returns-clause-same
ends_of-returns-clause-same g t c = c.fresh_ends.ensures.same

pub ends_of-returns-clause-ends : goal.ends_of-returns-clause-ends
ends_of-returns-clause-ends g t c = c.in_ok-found.ensures.ends

pub ends_of-fresh_ends-requires : goal.ends_of-fresh_ends-requires
ends_of-fresh_ends-requires g t c = λ κs live. (omega arith, (live, (c.requires.tape, (c.requires.code, (c.requires.node, (c.requires.place, c.requires.memory))))))

pub fresh_ends-call_ends-requires-clause-set : goal.fresh_ends-call_ends-requires-clause-set
fresh_ends-call_ends-requires-clause-set g t c = (c.requires.code.1 c.args.node (node.Call c.in-Call.call) (node_is c.args.code.now c.args.node _ _ c.requires.node c.in-Call.is)).1

pub fresh_ends-loop_ends-requires : goal.fresh_ends-loop_ends-requires
fresh_ends-loop_ends-requires g t c =
    let shape : slice_get c.args.code.now c.args.node ≡ Some (node.Loop c.in-Loop.body) = node_is c.args.code.now c.args.node _ _ c.requires.node c.in-Loop.is in
    λ κs live. (omega arith, (live, (c.requires.tape, (c.requires.code, (shape, (c.requires.place, c.requires.memory))))))

pub fresh_ends-ends_of-requires : goal.fresh_ends-ends_of-requires
fresh_ends-ends_of-requires g t c =
    let h = c.requires.code.1 c.args.node (node.Or c.in-Or.first c.in-Or.second) (node_is c.args.code.now c.args.node _ _ c.requires.node c.in-Or.is) in
    let less : c.in-Or.first < c.args.node = h.1 in
    let n = c.requires.node in
    let first : c.in-Or.first < length c.args.code.now = omega arith in
    λ κs live. (omega arith, (live, (c.requires.tape, (c.requires.code, (first, (c.requires.place, c.requires.memory))))))

pub fresh_ends-ends_of-requires-in-Or : goal.fresh_ends-ends_of-requires-in-Or
fresh_ends-ends_of-requires-in-Or g t c =
    let h = c.requires.code.1 c.args.node (node.Or c.in-Or.first c.in-Or.second) (node_is c.args.code.now c.args.node _ _ c.requires.node c.in-Or.is) in
    let less : c.in-Or.second < c.args.node = h.2 in
    let n = c.requires.node in
    let second : c.in-Or.second < length c.args.code.now = omega arith in
    let same = c.ends_of.ensures.same in
    let tape = tape_at same c.requires.tape in
    let code = code_at c.args.code.now same c.requires.code in
    let place = place_at same c.requires.place in
    let memory = memory_at c.args.code.now c.ends_of.new.memory.found same c.ends_of.ensures.memory in
    λ κs live. (omega arith, (live, (tape, (code, (second, (place, memory))))))

pub fresh_ends-ends_of-requires-in-Proc : goal.fresh_ends-ends_of-requires-in-Proc
fresh_ends-ends_of-requires-in-Proc g t c =
    let h = c.requires.code.1 c.args.node (node.Proc c.in-Proc.field-0 c.in-Proc.body) (node_is c.args.code.now c.args.node _ _ c.requires.node c.in-Proc.is) in
    let less : c.in-Proc.body < c.args.node = h.2 in
    let n = c.requires.node in
    let body : c.in-Proc.body < length c.args.code.now = omega arith in
    λ κs live. (omega arith, (live, (c.requires.tape, (c.requires.code, (body, (c.requires.place, c.requires.memory))))))

pub fresh_ends-first_ends-requires : goal.fresh_ends-first_ends-requires
fresh_ends-first_ends-requires g t c =
    let shape = slice_index_or c.args.code.now c.args.node (node.Call 0) in
    let first : HasFirst c.args.code.now c.args.node c.in-Seq.first = first_of_three c.args.code.now c.args.node shape c.in-Seq.first (node_is c.args.code.now c.args.node (node.Call 0) shape c.requires.node refl) c.in-Seq.is in
    λ κs live. (omega arith, (live, (c.requires.tape, (c.requires.code, (first, (c.requires.place, c.requires.memory))))))

pub fresh_ends-returns-in-Call-clause-ends : goal.fresh_ends-returns-in-Call-clause-ends
fresh_ends-returns-in-Call-clause-ends g t c = if_ok c.call_ends.result _ _ c.call_ends.ensures.ends (λ es a cs h. same_ends (g.T.Tape.view c.args.tape.now) _ _ c.args.place _ (h c.args.node (node.Call c.in-Call.call) (node_is c.args.code.now c.args.node _ _ c.requires.node c.in-Call.is)).0 a)

pub fresh_ends-returns-in_ok-put_ends-in-Or-clause-ends : goal.fresh_ends-returns-in_ok-put_ends-in-Or-clause-ends
fresh_ends-returns-in_ok-put_ends-in-Or-clause-ends g t c = λ cs h. (let m = h c.args.node (node.Or c.in-Or.first c.in-Or.second) (node_is c.args.code.now c.args.node _ _ c.requires.node c.in-Or.is) in let more : AreEndsAt (g.T.Tape.view c.args.tape.now) c.args.code.now c.in-Or.second c.args.place c.in_ok-more-in-Or.more.items = ends_at c.args.code.now c.in-Or.second c.args.place c.in_ok-more-in-Or.more.items (sym c.ends_of.ensures.same) c.in_ok-more-in-Or.ensures.ends in same_ends (g.T.Tape.view c.args.tape.now) _ _ c.args.place _ m.0 (or_ends (g.T.Tape.view c.args.tape.now) c.requires.tape _ _ c.args.place c.in_ok-found-in-Or.found.items c.in_ok-more-in-Or.more.items c.put_ends.new.ends.items c.requires.place (c.in_ok-found-in-Or.ensures.ends cs h) (more cs h) (subst (λ (z : List End). Grows (Contains c.in_ok-found-in-Or.found.items) (Contains c.put_ends.new.ends.items) (Contains z)) c.deref.ensures.value c.in_ok-put_ends-in-Or.ensures)))

pub fresh_ends-returns-in-Skip-clause-ends : goal.fresh_ends-returns-in-Skip-clause-ends
fresh_ends-returns-in-Skip-clause-ends g t c = if_ok c.one_end.result _ _ c.one_end.ensures (λ es e cs h. same_ends (g.T.Tape.view c.args.tape.now) _ _ c.args.place _ (h c.args.node node.Skip (node_is c.args.code.now c.args.node _ _ c.requires.node c.in-Skip.is)) (subst (λ (z : List End). AreEnds (g.T.Tape.view c.args.tape.now) meant.Skip c.args.place z) (sym e) (skip_ends (g.T.Tape.view c.args.tape.now) c.requires.tape c.args.place c.requires.place)))

pub fresh_ends-returns-in-Fail-clause-ends : goal.fresh_ends-returns-in-Fail-clause-ends
fresh_ends-returns-in-Fail-clause-ends g t c = if_ok c.one_end-in-Fail.result _ _ c.one_end-in-Fail.ensures (λ es e cs h. same_ends (g.T.Tape.view c.args.tape.now) _ _ c.args.place _ (h c.args.node node.Fail (node_is c.args.code.now c.args.node _ _ c.requires.node c.in-Fail.is)) (subst (λ (z : List End). AreEnds (g.T.Tape.view c.args.tape.now) meant.Fail c.args.place z) (sym e) (fail_ends (g.T.Tape.view c.args.tape.now) c.requires.tape c.args.place c.requires.place)))

pub fresh_ends-returns-in-Break-clause-ends : goal.fresh_ends-returns-in-Break-clause-ends
fresh_ends-returns-in-Break-clause-ends g t c = if_ok c.one_end-in-Break.result _ _ c.one_end-in-Break.ensures (λ es e cs h. same_ends (g.T.Tape.view c.args.tape.now) _ _ c.args.place _ (h c.args.node node.Break (node_is c.args.code.now c.args.node _ _ c.requires.node c.in-Break.is)) (subst (λ (z : List End). AreEnds (g.T.Tape.view c.args.tape.now) meant.Break c.args.place z) (sym e) (break_ends (g.T.Tape.view c.args.tape.now) c.requires.tape c.args.place c.requires.place)))

pub fresh_ends-returns-in-Proc-clause-ends : goal.fresh_ends-returns-in-Proc-clause-ends
fresh_ends-returns-in-Proc-clause-ends g t c = if_ok c.ends_of-in-Proc.result _ _ c.ends_of-in-Proc.ensures.ends (λ es a cs h. (let m = h c.args.node (node.Proc c.in-Proc.field-0 c.in-Proc.body) (node_is c.args.code.now c.args.node _ _ c.requires.node c.in-Proc.is) in same_ends (g.T.Tape.view c.args.tape.now) _ _ c.args.place _ m.0 (procedure_ends (g.T.Tape.view c.args.tape.now) c.requires.tape c.in-Proc.field-0 c.args.place _ _ c.requires.place m.1 (a cs h))))

pub fresh_ends-returns-in_err-found-in-Or-clause-same : goal.fresh_ends-returns-in_err-found-in-Or-clause-same
fresh_ends-returns-in_err-found-in-Or-clause-same g t c = c.ends_of.ensures.same

pub fresh_ends-returns-in_err-found-in-Or-clause-memory : goal.fresh_ends-returns-in_err-found-in-Or-clause-memory
fresh_ends-returns-in_err-found-in-Or-clause-memory g t c = c.ends_of.ensures.memory

pub fresh_ends-returns-in_err-more-in-Or-clause-same : goal.fresh_ends-returns-in_err-more-in-Or-clause-same
fresh_ends-returns-in_err-more-in-Or-clause-same g t c = c.ends_of-in-Or.ensures.same ∙ c.ends_of.ensures.same

pub fresh_ends-returns-in_err-more-in-Or-clause-memory : goal.fresh_ends-returns-in_err-more-in-Or-clause-memory
fresh_ends-returns-in_err-more-in-Or-clause-memory g t c = memory_at c.args.code.now c.ends_of-in-Or.new.memory.found (sym c.ends_of.ensures.same) c.ends_of-in-Or.ensures.memory

pub fresh_ends-returns-in_err-put_ends-in-Or-clause-same : goal.fresh_ends-returns-in_err-put_ends-in-Or-clause-same
fresh_ends-returns-in_err-put_ends-in-Or-clause-same g t c = c.ends_of-in-Or.ensures.same ∙ c.ends_of.ensures.same

pub fresh_ends-returns-in_err-put_ends-in-Or-clause-memory : goal.fresh_ends-returns-in_err-put_ends-in-Or-clause-memory
fresh_ends-returns-in_err-put_ends-in-Or-clause-memory g t c = memory_at c.args.code.now c.ends_of-in-Or.new.memory.found (sym c.ends_of.ensures.same) c.ends_of-in-Or.ensures.memory

pub fresh_ends-returns-in_ok-put_ends-in-Or-clause-same : goal.fresh_ends-returns-in_ok-put_ends-in-Or-clause-same
fresh_ends-returns-in_ok-put_ends-in-Or-clause-same g t c = c.ends_of-in-Or.ensures.same ∙ c.ends_of.ensures.same

pub fresh_ends-returns-in_ok-put_ends-in-Or-clause-memory : goal.fresh_ends-returns-in_ok-put_ends-in-Or-clause-memory
fresh_ends-returns-in_ok-put_ends-in-Or-clause-memory g t c = memory_at c.args.code.now c.ends_of-in-Or.new.memory.found (sym c.ends_of.ensures.same) c.ends_of-in-Or.ensures.memory

pub fresh_ends-returns-in-Loop-clause-same : goal.fresh_ends-returns-in-Loop-clause-same
fresh_ends-returns-in-Loop-clause-same g t c = c.loop_ends.ensures.same

pub fresh_ends-returns-in-Loop-clause-memory : goal.fresh_ends-returns-in-Loop-clause-memory
fresh_ends-returns-in-Loop-clause-memory g t c = c.loop_ends.ensures.memory

pub fresh_ends-returns-in-Loop-clause-ends : goal.fresh_ends-returns-in-Loop-clause-ends
fresh_ends-returns-in-Loop-clause-ends g t c = c.loop_ends.ensures.ends

pub fresh_ends-returns-in-Seq-clause-same : goal.fresh_ends-returns-in-Seq-clause-same
fresh_ends-returns-in-Seq-clause-same g t c = c.first_ends.ensures.same

pub fresh_ends-returns-in-Seq-clause-memory : goal.fresh_ends-returns-in-Seq-clause-memory
fresh_ends-returns-in-Seq-clause-memory g t c = c.first_ends.ensures.memory

pub fresh_ends-returns-in-Seq-clause-ends : goal.fresh_ends-returns-in-Seq-clause-ends
fresh_ends-returns-in-Seq-clause-ends g t c = c.first_ends.ensures.ends

pub first_ends-ends_of-requires : goal.first_ends-ends_of-requires
first_ends-ends_of-requires g t c =
    let less : c.args.first < c.args.node = first_less (g.T.Tape.view c.args.tape.now).program c.args.code.now c.args.node c.args.first c.requires.code c.requires.first in
    let within : c.args.node < length c.args.code.now = first_within c.args.code.now c.args.node c.args.first c.requires.first in
    let first : c.args.first < length c.args.code.now = omega arith in
    λ κs live. (omega arith, (live, (c.requires.tape, (c.requires.code, (first, (c.requires.place, c.requires.memory))))))

pub first_ends-way_ends-requires : goal.first_ends-way_ends-requires
first_ends-way_ends-requires g t c =
    let v = g.T.Tape.view c.args.tape.now in
    let shape = slice_index_or c.args.code.now c.args.node (node.Call 0) in
    let z = slice_index_or c.deref-end-items.result.now c.firsts.end-index (record { place = 0; outcome = outcome.Gives }) in
    let same = c.firsts.invariant.same in
    let tape = tape_at same c.requires.tape in
    let code = code_at c.args.code.now same c.requires.code in
    let memory = memory_at c.args.code.now c.firsts.memory.found same c.firsts.invariant.memory in
    let within : c.args.node < length c.args.code.now = first_within c.args.code.now c.args.node c.args.first c.requires.first in
    let below : above c.way_of-way.result ≤ c.args.node = rw c.way_of-way.ensures (ways_below v.program c.requires.code.0 c.args.node shape z.outcome (c.requires.code.1 c.args.node shape (first_shape c.args.code.now c.args.node c.args.first (node.Call 0) c.requires.first))) in
    let here : Contains c.in_ok-firsts.firsts.items z = subst (λ (l : List End). Contains l z) c.deref-end-items.ensures.value (Contains-get_or c.deref-end-items.result.now c.firsts.end-index _ c.firsts-test.true) in
    let part : IsPart (g.T.Tape.view c.firsts.tape).trace c.args.place z.place = part_at same (part_of v c.requires.tape (at c.requires.code.0 c.args.first) c.args.place z ((c.in_ok-firsts.ensures.ends c.requires.code.0 c.requires.code.1).sound z here)) in
    let bound : above c.way_of-way.result ≤ length c.args.code.now = omega arith in
    λ κs live. (omega arith, (live, (tape, (code, (bound, (part, memory))))))

pub first_ends-firsts-preserved : goal.first_ends-firsts-preserved
first_ends-firsts-preserved g t c = firsts_more (g.T.Tape.view c.args.tape.now) (g.T.Tape.view c.firsts.tape) (g.T.Tape.view c.way_ends.new.tape) c.args.code.now c.way_ends.new.memory.found _ c.args.place c.deref-end-items.result.now c.firsts.end-index _ c.firsts.found.items c.put_ends.new.ends.items c.deref.result.now _ _ c.way_of-way.result c.firsts.memory.found c.firsts-test.true c.firsts.invariant refl c.way_of-way.ensures c.way_ends.ensures.same c.way_ends.ensures.memory (rw c.deref.ensures.value c.in_ok-more.ensures.ends) c.in_ok-put_ends.ensures

pub first_ends-returns-clause-ends : goal.first_ends-returns-clause-ends
first_ends-returns-clause-ends g t c =
    λ cs h. (let v = g.T.Tape.view c.args.tape.now in
    let n : c.firsts.end-index ≡ length c.deref-end-items.result.now = omega arith in
    let es = c.in_ok-firsts.firsts.items in
    let k : c.firsts.end-index ≡ length es = n ∙ ap length c.deref-end-items.ensures.value in
    let f = subst (λ (l : List End). Grows (Contains c.new-found.result.items) (Contains c.firsts.found.items) (OfOne (λ f e. ByWay v cs (way_of (slice_index_or c.args.code.now c.args.node (node.Call 0)) f.outcome) c.args.place f e) l c.firsts.end-index)) c.deref-end-items.ensures.value (c.firsts.invariant.found cs h) in
    let q = subst (λ (m : ℕ). Grows (Contains c.new-found.result.items) (Contains c.firsts.found.items) (OfOne (λ f e. ByWay v cs (way_of (slice_index_or c.args.code.now c.args.node (node.Call 0)) f.outcome) c.args.place f e) es m)) k f in
    first_ends v c.requires.tape cs c.args.node (slice_index_or c.args.code.now c.args.node (node.Call 0)) c.args.first c.args.place es c.firsts.found.items c.requires.place (h c.args.node (slice_index_or c.args.code.now c.args.node (node.Call 0)) (first_shape c.args.code.now c.args.node c.args.first (node.Call 0) c.requires.first)) (shape_first c.args.code.now c.args.node c.args.first (node.Call 0) c.requires.first) (c.in_ok-firsts.ensures.ends cs h)
    (subst (λ (l : List End). Grows (Contains l) (Contains c.firsts.found.items) (OfOne (λ f e. ByWay v cs (way_of (slice_index_or c.args.code.now c.args.node (node.Call 0)) f.outcome) c.args.place f e) es (length es))) c.new-found.ensures.items q))

pub first_ends-bounds-code-node : goal.first_ends-bounds-code-node
first_ends-bounds-code-node g t c = first_within c.args.code.now c.args.node c.args.first c.requires.first

pub first_ends-returns-in_err-firsts-clause-same : goal.first_ends-returns-in_err-firsts-clause-same
first_ends-returns-in_err-firsts-clause-same g t c = c.ends_of.ensures.same

pub first_ends-returns-in_err-firsts-clause-memory : goal.first_ends-returns-in_err-firsts-clause-memory
first_ends-returns-in_err-firsts-clause-memory g t c = c.ends_of.ensures.memory

pub first_ends-firsts-init : goal.first_ends-firsts-init
first_ends-firsts-init g t c = record { same = c.ends_of.ensures.same; memory = c.ends_of.ensures.memory; found = λ cs h. grows_none _ _ (of_none _ _) }

pub first_ends-returns-in_err-more-clause-same : goal.first_ends-returns-in_err-more-clause-same
first_ends-returns-in_err-more-clause-same g t c = c.way_ends.ensures.same ∙ c.firsts.invariant.same

pub first_ends-returns-in_err-more-clause-memory : goal.first_ends-returns-in_err-more-clause-memory
first_ends-returns-in_err-more-clause-memory g t c = memory_at c.args.code.now c.way_ends.new.memory.found (sym c.firsts.invariant.same) c.way_ends.ensures.memory

pub first_ends-returns-in_err-put_ends-clause-same : goal.first_ends-returns-in_err-put_ends-clause-same
first_ends-returns-in_err-put_ends-clause-same g t c = c.way_ends.ensures.same ∙ c.firsts.invariant.same

pub first_ends-returns-in_err-put_ends-clause-memory : goal.first_ends-returns-in_err-put_ends-clause-memory
first_ends-returns-in_err-put_ends-clause-memory g t c = memory_at c.args.code.now c.way_ends.new.memory.found (sym c.firsts.invariant.same) c.way_ends.ensures.memory

pub first_ends-returns-clause-same : goal.first_ends-returns-clause-same
first_ends-returns-clause-same g t c = c.firsts.invariant.same

pub first_ends-returns-clause-memory : goal.first_ends-returns-clause-memory
first_ends-returns-clause-memory g t c = c.firsts.invariant.memory

pub way_ends-returns-in-Stops-clause-ends : goal.way_ends-returns-in-Stops-clause-ends
way_ends-returns-in-Stops-clause-ends g t c = subst (λ (z : List End). AreByWay (g.T.Tape.view c.args.tape.now) c.args.code.now c.args.way c.args.place c.args.end z) (sym c.new.ensures.items) (by_none (g.T.Tape.view c.args.tape.now) c.args.code.now c.args.way c.args.place c.args.end c.in-Stops.is)

pub way_ends-returns-in-Ends-clause-ends : goal.way_ends-returns-in-Ends-clause-ends
way_ends-returns-in-Ends-clause-ends g t c = if_ok c.one_end.result _ _ c.one_end.ensures (λ es e. by_end (g.T.Tape.view c.args.tape.now) c.args.code.now c.args.way c.args.place c.args.end es.items c.in-Ends.is e)

pub way_ends-returns-in-On-clause-ends : goal.way_ends-returns-in-On-clause-ends
way_ends-returns-in-On-clause-ends g t c = if_ok c.ends_of.result _ _ c.ends_of.ensures.ends (λ es e. by_on (g.T.Tape.view c.args.tape.now) c.args.code.now c.args.way c.args.place c.in-On.part c.args.end es.items c.in-On.is e)

pub way_ends-returns-else-not-takes_back-clause-ends : goal.way_ends-returns-else-not-takes_back-clause-ends
way_ends-returns-else-not-takes_back-clause-ends g t c = if_ok c.ends_of-in-OnBehind.result _ _ c.ends_of-in-OnBehind.ensures.ends (λ es e. by_behind (g.T.Tape.view c.args.tape.now) c.args.code.now c.args.way c.args.place c.in-OnBehind.part c.args.end es.items c.in-OnBehind.is (c.if-not-takes_back.ensures.0 refl) e)

pub way_ends-returns-then-not-takes_back-clause-ends : goal.way_ends-returns-then-not-takes_back-clause-ends
way_ends-returns-then-not-takes_back-clause-ends g t c = subst (λ (z : List End). AreByWay (g.T.Tape.view c.args.tape.now) c.args.code.now c.args.way c.args.place c.args.end z) (sym c.new-then-not-takes_back.ensures.items) (by_no_back (g.T.Tape.view c.args.tape.now) c.args.code.now c.args.way c.args.place c.in-OnBehind.part c.args.end c.in-OnBehind.is (λ s. absurd (let n : false ≡ true = c.if-not-takes_back.ensures.1 s in cc)))

pub way_ends-returns-in-On-clause-same : goal.way_ends-returns-in-On-clause-same
way_ends-returns-in-On-clause-same g t c = c.ends_of.ensures.same

pub way_ends-returns-else-not-takes_back-clause-same : goal.way_ends-returns-else-not-takes_back-clause-same
way_ends-returns-else-not-takes_back-clause-same g t c = c.ends_of-in-OnBehind.ensures.same

pub way_ends-returns-in-On-clause-memory : goal.way_ends-returns-in-On-clause-memory
way_ends-returns-in-On-clause-memory g t c = c.ends_of.ensures.memory

pub way_ends-returns-else-not-takes_back-clause-memory : goal.way_ends-returns-else-not-takes_back-clause-memory
way_ends-returns-else-not-takes_back-clause-memory g t c = c.ends_of-in-OnBehind.ensures.memory

pub loop_ends-turns-init : goal.loop_ends-turns-init
loop_ends-turns-init g t c = turns_first (g.T.Tape.view c.args.tape.now) c.args.code.now c.args.memory.now.found c.args.node c.args.body c.args.place c.in_ok-reached.reached c.requires.tape c.requires.memory c.requires.shape c.requires.place c.in_ok-reached.ensures.starts c.in_ok-reached.ensures.ends

pub loop_ends-overflow_add-floor : goal.loop_ends-overflow_add-floor
loop_ends-overflow_add-floor g t c =
    let at = turn_at (g.T.Tape.view c.args.tape.now) (g.T.Tape.view c.turns.tape) c.args.code.now c.turns.memory.found c.args.node c.args.place c.turns.floor c.in-Some.start c.turns.reached c.requires.code c.turns.invariant c.in-Some.ensures.some.was in
    let w = tape_at c.turns.invariant.same c.requires.tape in
    let l : c.in-Some.start ≤ length (g.T.Tape.view c.turns.tape).trace = at.1 in
    let s = w.short in
    omega arith

pub loop_ends-turn_ends-requires : goal.loop_ends-turn_ends-requires
loop_ends-turn_ends-requires g t c =
    let at = turn_at (g.T.Tape.view c.args.tape.now) (g.T.Tape.view c.turns.tape) c.args.code.now c.turns.memory.found c.args.node c.args.place c.turns.floor c.in-Some.start c.turns.reached c.requires.code c.turns.invariant c.in-Some.ensures.some.was in
    let l : c.in-Some.start ≤ length (g.T.Tape.view c.turns.tape).trace = at.1 in
    let same = c.turns.invariant.same in
    let tape = tape_at same c.requires.tape in
    let code = code_at c.args.code.now same c.requires.code in
    let memory = memory_at c.args.code.now c.turns.memory.found same c.turns.invariant.memory in
    let within : c.args.node < length c.args.code.now = slice_get_within c.args.code.now c.args.node (node.Loop c.args.body) c.requires.shape in
    let less : c.args.body < c.args.node = (loop_means (g.T.Tape.view c.args.tape.now) c.args.code.now c.requires.code.0 c.args.node c.args.body c.requires.shape c.requires.code.1).1 in
    let body : c.args.body < length c.args.code.now = omega arith in
    λ κs live. (omega arith, (live, (tape, (code, (body, (l, memory))))))

pub loop_ends-turns-smaller : goal.loop_ends-turns-smaller
loop_ends-turns-smaller g t c =
    let at = turn_at (g.T.Tape.view c.args.tape.now) (g.T.Tape.view c.turns.tape) c.args.code.now c.turns.memory.found c.args.node c.args.place c.turns.floor c.in-Some.start c.turns.reached c.requires.code c.turns.invariant c.in-Some.ensures.some.was in
    let f : c.turns.floor ≤ c.in-Some.start = at.0 in
    let l : c.in-Some.start ≤ length (g.T.Tape.view c.turns.tape).trace = at.1 in
    let same : length (g.T.Tape.view c.turn_ends.new.tape).trace ≡ length (g.T.Tape.view c.turns.tape).trace = ap (λ (v : View). length v.trace) c.turn_ends.ensures.same in
    omega arith

pub loop_ends-turns-preserved : goal.loop_ends-turns-preserved
loop_ends-turns-preserved g t c = turns_more (g.T.Tape.view c.args.tape.now) (g.T.Tape.view c.turns.tape) (g.T.Tape.view c.turn_ends.new.tape) c.args.code.now c.turns.memory.found c.turn_ends.new.memory.found c.args.node c.args.body c.args.place c.turns.floor c.in-Some.start c.turns.reached _ c.turn_ends.new.reached c.requires.tape c.requires.code c.requires.shape c.turns.invariant c.in-Some.ensures.some refl c.turn_ends.ensures.same c.turn_ends.ensures.memory c.in_ok-turn_ends.ensures.turned

pub loop_ends-returns-clause-ends : goal.loop_ends-returns-clause-ends
loop_ends-returns-clause-ends g t c = λ cs h. (let m = loop_means (g.T.Tape.view c.args.tape.now) c.args.code.now cs c.args.node c.args.body c.requires.shape h in same_ends (g.T.Tape.view c.args.tape.now) _ _ c.args.place _ m.0 (found_all (g.T.Tape.view c.args.tape.now) c.requires.tape (at cs c.args.body) c.args.place c.turns.floor c.turns.reached (subst (λ (p : Command). IsFound (g.T.Tape.view c.args.tape.now) p c.args.place c.turns.floor c.turns.reached) m.0 (c.turns.invariant.found cs h)) c.in_default.ensures.none))

pub loop_ends-returns-in_err-reached-clause-same : goal.loop_ends-returns-in_err-reached-clause-same
loop_ends-returns-in_err-reached-clause-same g t c = refl

pub loop_ends-returns-in_err-reached-clause-memory : goal.loop_ends-returns-in_err-reached-clause-memory
loop_ends-returns-in_err-reached-clause-memory g t c = c.requires.memory

pub loop_ends-returns-in_err-turn_ends-clause-same : goal.loop_ends-returns-in_err-turn_ends-clause-same
loop_ends-returns-in_err-turn_ends-clause-same g t c = c.turn_ends.ensures.same ∙ c.turns.invariant.same

pub loop_ends-returns-in_err-turn_ends-clause-memory : goal.loop_ends-returns-in_err-turn_ends-clause-memory
loop_ends-returns-in_err-turn_ends-clause-memory g t c = memory_at c.args.code.now c.turn_ends.new.memory.found (sym c.turns.invariant.same) c.turn_ends.ensures.memory

pub turn_ends-after_body-requires-clause-part : goal.turn_ends-after_body-requires-clause-part
turn_ends-after_body-requires-clause-part g t c =
    let z = slice_index_or c.deref-end-items.result.now c.ends.end-index (record { place = 0; outcome = outcome.Gives }) in
    let here : Contains c.in_ok-ends.ends.items z = subst (λ (l : List End). Contains l z) c.deref-end-items.ensures.value (Contains-get_or c.deref-end-items.result.now c.ends.end-index _ c.ends-test.true) in
    part_at c.ends_of.ensures.same (part_of (g.T.Tape.view c.args.tape.now) c.requires.tape (at c.requires.code.0 c.args.body) (c.args.start + 1) z ((c.in_ok-ends.ensures.ends c.requires.code.0 c.requires.code.1).sound z here))

pub turn_ends-ends-preserved : goal.turn_ends-ends-preserved
turn_ends-ends-preserved g t c = (
  grows_of GoesOn _ _ _ c.deref-end-items.result.now c.ends.end-index _ _ c.ends-test.true refl c.ends.invariant.0 c.in_ok-after_body.ensures.starts,
  grows_of (Leaves (g.T.Tape.view c.ends_of.new.tape) (c.args.start + 1)) _ _ _ c.deref-end-items.result.now c.ends.end-index _ _ c.ends-test.true refl c.ends.invariant.1 c.in_ok-after_body.ensures.ends,
)

pub turn_ends-returns-clause-turned : goal.turn_ends-returns-clause-turned
turn_ends-returns-clause-turned g t c =
    λ cs h. (let v = g.T.Tape.view c.args.tape.now in
    let n : c.ends.end-index ≡ length c.deref-end-items.result.now = omega arith in
    let es = c.in_ok-ends.ends.items in
    let k : c.ends.end-index ≡ length es = n ∙ ap length c.deref-end-items.ensures.value in
    has_turned v c.requires.tape (at cs c.args.body) c.args.start es c.args.reached.now c.ends.reached (c.in_ok-ends.ensures.ends cs h) (c.if-not-is_turn.ensures.0 refl)
    (subst (λ (m : ℕ). Grows (Has c.args.reached.now.starts) (Has c.ends.reached.starts) (OfOne GoesOn es m)) k (subst (λ (l : List End). Grows (Has c.args.reached.now.starts) (Has c.ends.reached.starts) (OfOne GoesOn l c.ends.end-index)) c.deref-end-items.ensures.value c.ends.invariant.0))
    (subst (λ (m : ℕ). Grows (Contains c.args.reached.now.ends.items) (Contains c.ends.reached.ends.items) (OfOne (Leaves v (c.args.start + 1)) es m)) k (subst (λ (l : List End). Grows (Contains c.args.reached.now.ends.items) (Contains c.ends.reached.ends.items) (OfOne (Leaves v (c.args.start + 1)) l c.ends.end-index)) c.deref-end-items.ensures.value (subst (λ (u : View). Grows (Contains c.args.reached.now.ends.items) (Contains c.ends.reached.ends.items) (OfOne (Leaves u (c.args.start + 1)) c.deref-end-items.result.now c.ends.end-index)) c.ends_of.ensures.same c.ends.invariant.1))))

pub turn_ends-returns-then-not-is_turn-clause-turned : goal.turn_ends-returns-then-not-is_turn-clause-turned
turn_ends-returns-then-not-is_turn-clause-turned g t c = λ cs h. no_turn (g.T.Tape.view c.args.tape.now) c.requires.tape (at cs c.args.body) c.args.start c.args.reached.now (λ s. absurd (let n : false ≡ true = c.if-not-is_turn.ensures.1 s in cc))

pub turn_ends-returns-in_err-ends-clause-same : goal.turn_ends-returns-in_err-ends-clause-same
turn_ends-returns-in_err-ends-clause-same g t c = c.ends_of.ensures.same

pub turn_ends-returns-in_err-ends-clause-memory : goal.turn_ends-returns-in_err-ends-clause-memory
turn_ends-returns-in_err-ends-clause-memory g t c = c.ends_of.ensures.memory

pub turn_ends-returns-in_err-after_body-clause-same : goal.turn_ends-returns-in_err-after_body-clause-same
turn_ends-returns-in_err-after_body-clause-same g t c = c.ends_of.ensures.same

pub turn_ends-returns-in_err-after_body-clause-memory : goal.turn_ends-returns-in_err-after_body-clause-memory
turn_ends-returns-in_err-after_body-clause-memory g t c = c.ends_of.ensures.memory

pub turn_ends-ends-init : goal.turn_ends-ends-init
turn_ends-ends-init g t c = (grows_none _ _ (of_none _ _), grows_none _ _ (of_none _ _))
