use Rattle.std.proofs.Common.{◌≡◌, ◌<◌, ◌≤◌, ◌+◌, length, take, sym, ap, subst, ◌∙◌, arith}
use Rattle.std.specs.Prelude.{IsSome}
use Rattle.gp_memory.proofs.Basics.{take_past as take_all}
use Rattle.gp_graph.specs.inside.Pairs.{pair_in, IsIndex}
use Rattle.gp_graph.specs.declared.pairs.PairIndex.{PairIndex}
use Rattle.gp_graph.proofs.Places.{slot_is}
use Rattle.gp_graph.proofs.Buckets.{index_none, index_taken, index_same, none_of, front_same, slot_front, slot_behind, front_more, front_none}
use Rattle.gp_graph.proofs.Indexing.{take_short}
use Rattle.gp_graph.proofs.pairs.PairIndex.fill.Goals as goal
use Rattle.gp_graph.proofs.pairs.PairIndex.fill.Goals.{then-is_some, else-is_some}

pub loop-e-init : goal.loop-e-init
loop-e-init c = record {
  room = c.requires.room;
  so_far = subst (IsIndex c.args.self.now) (sym (front_none c.args.edges.now)) (λ some. (omega arith, index_none c.args.self.now.buckets.items c.args.self.now.pairs.items c.requires.empty));
}

pub enter-requires-clause-there : goal.enter-requires-clause-there
enter-requires-clause-there c =
    let es = c.args.edges.now in
    let e = c.loop-e.e in
    let o = c.index-edges-e.result in
    let l : e < length es = c.loop-e-test.true in
    subst IsSome (sym (slot_front es (e + 1) e (omega arith) ∙ slot_is es e o l ∙ sym c.index-edges-e.is)) (sym c.is_some.ensures ∙ c.if-is_some.true)

pub enter-requires-clause-others : goal.enter-requires-clause-others
enter-requires-clause-others c some =
    let es = c.args.edges.now in
    let e = c.loop-e.e in
    let i = c.loop-e.invariant.so_far some in
    let room : length es ≤ length c.loop-e.self.pairs.items = c.loop-e.invariant.room in
    let short = take_short es (e + 1) in (
      omega (arith, room, short),
      index_taken c.loop-e.self.buckets.items c.loop-e.self.pairs.items (take e es) (take (e + 1) es) e (λ k ne. ap pair_in (front_more es e k ne)) (slot_behind es e e (omega arith)) i.1,
    )

pub loop-e-preserved : goal.loop-e-preserved
loop-e-preserved c =
    let es = c.args.edges.now in
    let e = c.loop-e.e in
    let old = c.loop-e.invariant.room in
    elim c.if-is_some.branch [
      | then-is_some w ↦ (
          let size : length c.if-is_some.self.pairs.items ≡ length w.enter.new.self.pairs.items = ap (λ (i : PairIndex). length i.pairs.items) w.self-is in
          record {
            room = omega (arith, old, size, w.enter.ensures.pairs);
            so_far = subst (λ (i : PairIndex). IsIndex i (take (e + 1) es)) (sym w.self-is) w.enter.ensures.all;
          })
      | else-is_some w ↦ (
          let size : length c.if-is_some.self.pairs.items ≡ length c.loop-e.self.pairs.items = ap (λ (i : PairIndex). length i.pairs.items) w.self-is in
          let o = c.index-edges-e.result in
          let l : e < length es = c.loop-e-test.true in
          let none = slot_is es e o l ∙ sym c.index-edges-e.is ∙ none_of o (sym c.is_some.ensures ∙ w.if-is_some.false) in
          let short = take_short es (e + 1) in
          record {
            room = omega (arith, old, size);
            so_far = subst (λ (i : PairIndex). IsIndex i (take (e + 1) es)) (sym w.self-is)
                (λ some. (omega (arith, old, short), index_same c.loop-e.self.buckets.items c.loop-e.self.pairs.items (take e es) (take (e + 1) es) (λ k. ap pair_in (front_same es e none k)) (c.loop-e.invariant.so_far some).1));
          })
    ]

pub returns : goal.returns
returns c = subst (IsIndex c.loop-e.self) (take_all c.args.edges.now c.loop-e.e (omega arith)) c.loop-e.invariant.so_far
