use Rattle.std.proofs.Common.{◌≡◌, true, false, sym, ap, subst, ◌∙◌}
use Rattle.std.specs.Prelude.{Some, IsSome, slice_set}
use Rattle.std.specs.Option.{option_map}
use Rattle.gp_graph.specs.inside.Roots.{rewritten}
use Rattle.gp_graph.specs.declared.slots.NodeSlot.{NodeSlot}
use Rattle.gp_graph.proofs.Links.{slot_within}
use Rattle.gp_graph.proofs.Places.{slot_is}
use Rattle.gp_graph.proofs.roots.rewrite.Goals as goal

pub bounds-nodes-n : goal.bounds-nodes-n
bounds-nodes-n c = slot_within c.args.nodes.now c.args.n c.requires

pub unreachable-unreachable : goal.unreachable-unreachable
unreachable-unreachable c =
    let no : false ≡ true = subst IsSome (slot_is c.args.nodes.now c.args.n c.index-nodes-n.result (slot_within c.args.nodes.now c.args.n c.requires) ∙ c.in-None.is) c.requires in cc

pub returns-clause-items : goal.returns-clause-items
returns-clause-items c =
    let ns = c.args.nodes.now in
    let here = slot_is ns c.args.n c.index-nodes-n.result (slot_within ns c.args.n c.requires) ∙ c.in-Some.is in
    ap (λ l. slice_set ns c.args.n (Some (rewritten l c.args.mark c.args.root c.in-Some.slot))) c.replace.ensures.after
    ∙ ap (λ o. slice_set ns c.args.n (option_map (rewritten c.args.label c.args.mark c.args.root) o)) (sym here)

pub returns-clause-was : goal.returns-clause-was
returns-clause-was c =
    ap (option_map (λ (s : NodeSlot). s.label)) (slot_is c.args.nodes.now c.args.n c.index-nodes-n.result (slot_within c.args.nodes.now c.args.n c.requires) ∙ c.in-Some.is)
    ∙ ap Some (sym c.replace.ensures.value)
