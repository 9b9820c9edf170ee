use Rattle.std.proofs.Common.{◌<◌, ◌≤◌, ◌+◌, List, length, sym, ap, subst, ◌∙◌, length-set, arith}
use Rattle.std.specs.Prelude.{Some, slice_set}
use Rattle.std.proofs.lemmas.List.{with_items_is}
use Rattle.gp_values.specs.Graph.{with_node_at, node_count}
use Rattle.gp_values.proofs.Edits.{IsGraph-with_node_at, count-with_node_at}
use Rattle.gp_graph.specs.inside.Roots.{HasRoots, KeepsNodes}
use Rattle.gp_graph.specs.inside.Sound.{IsHeld}
use Rattle.gp_graph.specs.inside.View.{node_of, graph_from}
use Rattle.gp_graph.specs.declared.slots.NodeSlot.{NodeSlot}
use Rattle.gp_graph.proofs.Views.{set_node}
use Rattle.gp_graph.proofs.Degrees.{nodes_few}
use Rattle.gp_graph.proofs.Calls.{node_free, held_nodes, seen_kept, rings_node_put}
use Rattle.gp_graph.proofs.graph.Graph.put_node.Goals as goal

pub fill-roots-requires-clause-vacant : goal.fill-roots-requires-clause-vacant
fill-roots-requires-clause-vacant c =
    rw c.deref_mut.ensures.value (node_free c.self.inside.nodes.items c.self.inside.edges.items c.args.n (rw (← c.self.view_is) at c.requires.vacant))

pub fill-roots-requires-clause-rings : goal.fill-roots-requires-clause-rings
fill-roots-requires-clause-rings c = subst (HasRoots c.self.inside.roots) (sym c.deref_mut.ensures.value) c.self.invariant.held.roots

pub overflow_add-self : goal.overflow_add-self
overflow_add-self c =
    let few : node_count (graph_from c.self.inside.nodes.items c.self.inside.edges.items) ≤ length c.self.inside.nodes.items = nodes_few (graph_from c.self.inside.nodes.items c.self.inside.edges.items) c.self.invariant.held.graph in
    let is = c.self.invariant.held.count in
    omega (arith, few, is, c.self.inside.nodes.ok, c.self.inside.nodes.small)

pub invariant_of-self : goal.invariant_of-self
invariant_of-self c = record {
  held =
      let ns = c.self.inside.nodes.items in
      let es = c.self.inside.edges.items in
      let x = c.new-slot.result in
      let l : c.args.n < length ns = rw (← c.self.view_is) at c.requires.below in
      let vacant = rw (← c.self.view_is) at c.requires.vacant in
      let n = with_items_is c.self.inside.nodes c.fill-roots.new.nodes (c.fill-roots.auto.nodes ∙ c.deref_mut.ensures.len) in
      subst (λ xs. IsHeld xs es c.fill-roots.result (c.self.inside.node_count + 1)) (sym n)
      (held_nodes (slice_set ns c.args.n (Some x)) c.fill-roots.new.nodes es c.fill-roots.result (c.self.inside.node_count + 1) (with_node_at (graph_from ns es) c.args.n (node_of x))
      (set_node ns es c.args.n x l)
      (IsGraph-with_node_at (graph_from ns es) c.args.n (node_of x) c.self.invariant.held.graph l c.new-slot.ensures.in_range)
      (rings_node_put ns es c.args.n x l (node_free ns es c.args.n vacant) c.self.invariant.held.rings (ap (λ (s : NodeSlot). s.beginning) c.new-slot.ensures.value) (ap (λ (s : NodeSlot). s.ending) c.new-slot.ensures.value))
      (subst (λ xs. KeepsNodes (slice_set xs c.args.n (Some x)) c.fill-roots.new.nodes) c.deref_mut.ensures.value c.fill-roots.ensures.keeps)
      (c.fill-roots.auto.nodes ∙ ap (λ (xs : List _). length xs) c.deref_mut.ensures.value ∙ sym (length-set ns c.args.n _))
      c.fill-roots.ensures.rings
      (ap (λ k. k + 1) c.self.invariant.held.count ∙ sym (count-with_node_at (graph_from ns es) c.args.n (node_of x) vacant)));
  index = c.self.invariant.index;
}

pub returns-clause-put : goal.returns-clause-put
returns-clause-put c =
    let ns = c.self.inside.nodes.items in
    let es = c.self.inside.edges.items in
    let x = c.new-slot.result in
    let l : c.args.n < length ns = rw (← c.self.view_is) at c.requires.below in
    let n = with_items_is c.self.inside.nodes c.fill-roots.new.nodes (c.fill-roots.auto.nodes ∙ c.deref_mut.ensures.len) in
    rw (← c.self.view_is)
    (ap (λ xs. graph_from xs es) n
    ∙ seen_kept (slice_set ns c.args.n (Some x)) c.fill-roots.new.nodes es
    (subst (λ xs. KeepsNodes (slice_set xs c.args.n (Some x)) c.fill-roots.new.nodes) c.deref_mut.ensures.value c.fill-roots.ensures.keeps)
    (c.fill-roots.auto.nodes ∙ ap (λ (xs : List _). length xs) c.deref_mut.ensures.value ∙ sym (length-set ns c.args.n _))
    ∙ set_node ns es c.args.n x l ∙ ap (λ s. with_node_at (graph_from ns es) c.args.n (node_of s)) c.new-slot.ensures.value)
