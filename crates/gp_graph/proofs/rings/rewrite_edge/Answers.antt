use Rattle.std.proofs.Common.{◌≡◌, true, false, sym, ap, subst, ◌∙◌}
use Rattle.std.specs.Prelude.{Some, IsSome, slice_set}
use Rattle.std.specs.Option.{option_map}
use Rattle.gp_graph.specs.inside.Rings.{rewritten_edge}
use Rattle.gp_graph.specs.declared.slots.EdgeSlot.{EdgeSlot}
use Rattle.gp_graph.proofs.Links.{slot_within}
use Rattle.gp_graph.proofs.Places.{slot_is}
use Rattle.gp_graph.proofs.rings.rewrite_edge.Goals as goal

pub bounds-edges-e : goal.bounds-edges-e
bounds-edges-e c = slot_within c.args.edges.now c.args.e c.requires

pub unreachable-unreachable : goal.unreachable-unreachable
unreachable-unreachable c =
    let no : false ≡ true = subst IsSome (slot_is c.args.edges.now c.args.e c.index-edges-e.result (slot_within c.args.edges.now c.args.e c.requires) ∙ c.in-None.is) c.requires in cc

pub returns-clause-items : goal.returns-clause-items
returns-clause-items c =
    let es = c.args.edges.now in
    let here = slot_is es c.args.e c.index-edges-e.result (slot_within es c.args.e c.requires) ∙ c.in-Some.is in
    ap (λ l. slice_set es c.args.e (Some (rewritten_edge l c.args.mark c.in-Some.slot))) c.replace.ensures.after
    ∙ ap (λ o. slice_set es c.args.e (option_map (rewritten_edge c.args.label c.args.mark) o)) (sym here)

pub returns-clause-was : goal.returns-clause-was
returns-clause-was c =
    ap (option_map (λ (s : EdgeSlot). s.label)) (slot_is c.args.edges.now c.args.e c.index-edges-e.result (slot_within c.args.edges.now c.args.e c.requires) ∙ c.in-Some.is)
    ∙ ap Some (sym c.replace.ensures.value)
