use Rattle.std.proofs.Common.{◌≡◌, ◌≤◌, ◌+◌, List, [], ◌∷◌, ◌++◌, length, sym, ap, subst, ◌∙◌, arith}
use Rattle.std.specs.Prelude.{Some}
use Rattle.std.proofs.lemmas.List.{with_items_is}
use Rattle.gp_values.specs.Graph.{with_node, node_count}
use Rattle.gp_values.proofs.Graphs.{IsGraph-with_node}
use Rattle.gp_values.proofs.Edits.{count-with_node}
use Rattle.gp_graph.specs.inside.Roots.{HasRootsBut, KeepsNodes}
use Rattle.gp_graph.specs.inside.Sound.{IsHeld}
use Rattle.gp_graph.specs.inside.View.{node_of, graph_from}
use Rattle.gp_graph.specs.declared.slots.NodeSlot.{NodeSlot}
use Rattle.gp_graph.proofs.Views.{pushed_node}
use Rattle.gp_graph.proofs.Degrees.{nodes_few}
use Rattle.gp_graph.proofs.Calls.{held_nodes, seen_kept, rings_node_added, roots_added}
use Rattle.gp_graph.proofs.graph.Graph.add_node.Goals as goal

pub admit-roots-requires : goal.admit-roots-requires
admit-roots-requires c =
    let n : c.len-number.result ≡ length c.self.inside.nodes.items = omega (arith, c.len-number.ensures) in
    subst (λ xs. HasRootsBut c.self.inside.roots xs c.len-number.result) (sym (c.deref_mut.ensures.value ∙ c.in_ok-append.ensures.ok))
    (subst (HasRootsBut c.self.inside.roots (c.self.inside.nodes.items ++ Some c.new.result ∷ [])) (sym n) (roots_added c.self.inside.nodes.items c.self.inside.roots c.new.result c.self.invariant.held.roots))

pub overflow_add-self : goal.overflow_add-self
overflow_add-self c =
    let few : node_count (graph_from c.self.inside.nodes.items c.self.inside.edges.items) ≤ length c.self.inside.nodes.items = nodes_few (graph_from c.self.inside.nodes.items c.self.inside.edges.items) c.self.invariant.held.graph in
    let is = c.self.invariant.held.count in
    omega (arith, few, is, c.self.inside.nodes.ok, c.self.inside.nodes.small)

pub invariant_of-self-2 : goal.invariant_of-self-2
invariant_of-self-2 c = record {
  held =
      let ns = c.self.inside.nodes.items in
      let es = c.self.inside.edges.items in
      let x = c.new.result in
      let base = ns ++ Some x ∷ [] in
      let now = c.deref_mut.ensures.value ∙ c.in_ok-append.ensures.ok in
      let n = with_items_is c.append.new.slots c.admit-roots.new.nodes (c.admit-roots.auto.nodes ∙ c.deref_mut.ensures.len) in
      subst (λ xs. IsHeld xs es c.admit-roots.result (c.self.inside.node_count + 1)) (sym n)
      (held_nodes base c.admit-roots.new.nodes es c.admit-roots.result (c.self.inside.node_count + 1) (with_node (graph_from ns es) (node_of x))
      (pushed_node ns es x)
      (IsGraph-with_node (graph_from ns es) (node_of x) c.self.invariant.held.graph c.new.ensures.in_range)
      (rings_node_added ns es x c.self.invariant.held.rings (ap (λ (s : NodeSlot). s.beginning) c.new.ensures.value) (ap (λ (s : NodeSlot). s.ending) c.new.ensures.value))
      (subst (λ xs. KeepsNodes xs c.admit-roots.new.nodes) now c.admit-roots.ensures.keeps)
      (c.admit-roots.auto.nodes ∙ ap (λ (xs : List _). length xs) now)
      c.admit-roots.ensures.rings
      (ap (λ k. k + 1) c.self.invariant.held.count ∙ sym (count-with_node (graph_from ns es) (node_of x) c.self.invariant.held.graph)));
  index = c.self.invariant.index;
}

pub returns-clause-ok : goal.returns-clause-ok
returns-clause-ok c =
    let ns = c.self.inside.nodes.items in
    let es = c.self.inside.edges.items in
    let x = c.new.result in
    let now = c.deref_mut.ensures.value ∙ c.in_ok-append.ensures.ok in
    let n = with_items_is c.append.new.slots c.admit-roots.new.nodes (c.admit-roots.auto.nodes ∙ c.deref_mut.ensures.len) in
    rw (← c.self.view_is)
    (ap (λ xs. graph_from xs es) n
    ∙ seen_kept (ns ++ Some x ∷ []) c.admit-roots.new.nodes es (subst (λ xs. KeepsNodes xs c.admit-roots.new.nodes) now c.admit-roots.ensures.keeps) (c.admit-roots.auto.nodes ∙ ap (λ (xs : List _). length xs) now)
    ∙ pushed_node ns es x ∙ ap (λ s. with_node (graph_from ns es) (node_of s)) c.new.ensures.value)
