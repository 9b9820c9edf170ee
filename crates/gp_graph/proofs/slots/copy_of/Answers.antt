use Rattle.std.proofs.Common.{◌≡◌, sym, ap, ◌∙◌}
use Rattle.std.specs.Prelude.{Some}
use Rattle.gp_memory.proofs.Basics.{take_past as take_all}
use Rattle.gp_graph.proofs.Places.{taken_next}
use Rattle.gp_graph.proofs.slots.copy_of.Goals as goal
use Rattle.gp_graph.proofs.slots.copy_of.Goals.{in-Some+in_ok-copy-in-Some, in-None}

pub loop-slot-preserved : goal.loop-slot-preserved
loop-slot-preserved g c =
    let same : c.match-slot.copied ≡ c.slot-item.result = elim c.match-slot.branch [
      | in-Some+in_ok-copy-in-Some w ↦ w.copied-is ∙ ap Some w.in_ok-copy-in-Some.ensures ∙ sym w.in-Some.is
      | in-None w ↦ w.copied-is ∙ sym w.in-None.is
    ] in
    taken_next c.args.slots.now c.loop-slot.slot-index c.slot-item.result c.match-slot.copied c.loop-slot.copies.items _ c.loop-slot-test.true c.slot-item.is same c.loop-slot.invariant c.in_ok-push.ensures.items

pub returns : goal.returns
returns g c = c.loop-slot.invariant ∙ take_all c.args.slots.now c.loop-slot.slot-index c.loop-slot-test.false
