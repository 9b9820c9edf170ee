use Rattle.std.proofs.Common.{◌≡◌, ◌<◌, ◌≤◌, ◌-◌, List, length, sym, ap, subst, ◌∙◌, length-set, arith}
use Rattle.std.specs.Prelude.{None, slice_set}
use Rattle.std.specs.Option.{option_map}
use Rattle.std.proofs.lemmas.List.{with_items_is}
use Rattle.gp_values.specs.Graph.{node_at, node_count, without_node}
use Rattle.gp_values.proofs.Graphs.{IsGraph-without_node}
use Rattle.gp_values.proofs.Edits.{count-without_node, node_counted}
use Rattle.gp_graph.specs.inside.Slots.{slot_in}
use Rattle.gp_graph.specs.inside.Roots.{HasRoots, KeepsNodes}
use Rattle.gp_graph.specs.inside.Sound.{IsHeld}
use Rattle.gp_graph.specs.inside.View.{node_of, graph_from}
use Rattle.gp_graph.proofs.SlotMaps.{slot_of, seen_at}
use Rattle.gp_graph.proofs.Views.{cleared_node}
use Rattle.gp_graph.proofs.Calls.{held_nodes, seen_kept, rings_node_gone}
use Rattle.gp_graph.proofs.graph.Graph.remove_node.Goals as goal

pub clear-was-requires-clause-rings : goal.clear-was-requires-clause-rings
clear-was-requires-clause-rings c = subst (HasRoots c.self.inside.roots) (sym c.deref_mut.ensures.value) c.self.invariant.held.roots

pub overflow_sub-self : goal.overflow_sub-self
overflow_sub-self c =
    let one : 1 ≤ node_count (graph_from c.self.inside.nodes.items c.self.inside.edges.items) = node_counted (graph_from c.self.inside.nodes.items c.self.inside.edges.items) c.args.n (rw (← c.self.view_is) at c.requires.there) in
    let is = c.self.invariant.held.count in
    omega (arith, one, is)

pub unreachable-requires : goal.unreachable-requires
unreachable-requires c =
    let h : node_at c.args.self.now.graph c.args.n ≡ None =
    rw (← c.self.view_is) (seen_at node_of c.self.inside.nodes.items c.args.n
    ∙ ap (λ xs. option_map node_of (slot_in xs c.args.n)) (sym c.deref_mut.ensures.value) ∙ sym c.clear-was.ensures.was ∙ ap (option_map node_of) c.in-None.is) in
    let r = rw h at c.requires.there in
    cc

pub invariant_of-self : goal.invariant_of-self
invariant_of-self c = record {
  held =
      let ns = c.self.inside.nodes.items in
      let es = c.self.inside.edges.items in
      let there = rw (← c.self.view_is) at c.requires.there in
      let alone = rw (← c.self.view_is) at c.requires.no_edges in
      let l : c.args.n < length ns = slot_of node_of ns c.args.n there in
      let n = with_items_is c.self.inside.nodes c.clear-was.new.nodes (c.clear-was.auto.nodes ∙ c.deref_mut.ensures.len) in
      subst (λ xs. IsHeld xs es c.clear-was.result.0 (c.self.inside.node_count - 1)) (sym n)
      (held_nodes (slice_set ns c.args.n None) c.clear-was.new.nodes es c.clear-was.result.0 (c.self.inside.node_count - 1) (without_node (graph_from ns es) c.args.n)
      (cleared_node ns es c.args.n l)
      (IsGraph-without_node (graph_from ns es) c.args.n c.self.invariant.held.graph alone)
      (rings_node_gone ns es c.args.n l alone c.self.invariant.held.rings)
      (subst (λ xs. KeepsNodes (slice_set xs c.args.n None) c.clear-was.new.nodes) c.deref_mut.ensures.value c.clear-was.ensures.keeps)
      (c.clear-was.auto.nodes ∙ ap (λ (xs : List _). length xs) c.deref_mut.ensures.value ∙ sym (length-set ns c.args.n _))
      c.clear-was.ensures.rings
      (ap (λ k. k - 1) c.self.invariant.held.count ∙ sym (count-without_node (graph_from ns es) c.args.n there)));
  index = c.self.invariant.index;
}

pub returns-clause-removed : goal.returns-clause-removed
returns-clause-removed c =
    let ns = c.self.inside.nodes.items in
    let es = c.self.inside.edges.items in
    let l : c.args.n < length ns = slot_of node_of ns c.args.n (rw (← c.self.view_is) at c.requires.there) in
    let n = with_items_is c.self.inside.nodes c.clear-was.new.nodes (c.clear-was.auto.nodes ∙ c.deref_mut.ensures.len) in
    rw (← c.self.view_is)
    (ap (λ xs. graph_from xs es) n
    ∙ seen_kept (slice_set ns c.args.n None) c.clear-was.new.nodes es
    (subst (λ xs. KeepsNodes (slice_set xs c.args.n None) c.clear-was.new.nodes) c.deref_mut.ensures.value c.clear-was.ensures.keeps)
    (c.clear-was.auto.nodes ∙ ap (λ (xs : List _). length xs) c.deref_mut.ensures.value ∙ sym (length-set ns c.args.n _))
    ∙ cleared_node ns es c.args.n l)

pub returns-clause-was : goal.returns-clause-was
returns-clause-was c =
    rw (← c.self.view_is) (seen_at node_of c.self.inside.nodes.items c.args.n
    ∙ ap (λ xs. option_map node_of (slot_in xs c.args.n)) (sym c.deref_mut.ensures.value) ∙ sym c.clear-was.ensures.was ∙ ap (option_map node_of) c.in-Some.is)
