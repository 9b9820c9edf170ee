use Rattle.std.proofs.Common.{List, length, sym, ap, subst, ◌∙◌, length-set}
use Rattle.std.proofs.lemmas.List.{with_items_is}
use Rattle.gp_values.specs.Graph.{Node, relabeled}
use Rattle.gp_values.proofs.Graphs.{IsGraph-relabeled}
use Rattle.gp_values.proofs.Edits.{count-relabeled}
use Rattle.gp_graph.specs.inside.Rings.{changed_at}
use Rattle.gp_graph.specs.inside.Roots.{HasRoots, KeepsNodes, rewritten}
use Rattle.gp_graph.specs.inside.Sound.{IsHeld}
use Rattle.gp_graph.specs.inside.View.{graph_from}
use Rattle.gp_graph.proofs.Calls.{node_there, held_nodes, seen_kept, seen_rewritten, rings_rewritten, label_was}
use Rattle.gp_graph.proofs.graph.Graph.relabel.Goals as goal

pub relabel-was-requires-clause-there : goal.relabel-was-requires-clause-there
relabel-was-requires-clause-there c =
    rw c.deref_mut.ensures.value (node_there c.self.inside.nodes.items c.self.inside.edges.items c.args.n (rw (← c.self.view_is) at c.requires))

pub relabel-was-requires-clause-rings : goal.relabel-was-requires-clause-rings
relabel-was-requires-clause-rings c = subst (HasRoots c.self.inside.roots) (sym c.deref_mut.ensures.value) c.self.invariant.held.roots

pub invariant_of-self : goal.invariant_of-self
invariant_of-self c = record {
  held =
      let ns = c.self.inside.nodes.items in
      let es = c.self.inside.edges.items in
      let x : Node = record { label = c.args.label; mark = c.args.mark; root = c.args.root } in
      let f = rewritten c.args.label c.args.mark c.args.root in
      let there = rw (← c.self.view_is) at c.requires in
      let n = with_items_is c.self.inside.nodes c.relabel-was.new.nodes (c.relabel-was.auto.nodes ∙ c.deref_mut.ensures.len) in
      subst (λ xs. IsHeld xs es c.relabel-was.result.0 c.self.inside.node_count) (sym n)
      (held_nodes (changed_at f ns c.args.n) c.relabel-was.new.nodes es c.relabel-was.result.0 c.self.inside.node_count (relabeled (graph_from ns es) c.args.n x)
      (seen_rewritten ns es c.args.n c.args.label c.args.mark c.args.root (node_there ns es c.args.n there))
      (IsGraph-relabeled (graph_from ns es) c.args.n x c.self.invariant.held.graph there c.relabel-was.ensures.in_range)
      (rings_rewritten ns es c.args.n c.args.label c.args.mark c.args.root c.self.invariant.held.rings)
      (subst (λ xs. KeepsNodes (changed_at f xs c.args.n) c.relabel-was.new.nodes) c.deref_mut.ensures.value c.relabel-was.ensures.keeps)
      (c.relabel-was.auto.nodes ∙ ap (λ (xs : List _). length xs) c.deref_mut.ensures.value ∙ sym (length-set ns c.args.n _))
      c.relabel-was.ensures.rings
      (c.self.invariant.held.count ∙ sym (count-relabeled (graph_from ns es) c.args.n x there)));
  index = c.self.invariant.index;
}

pub returns-clause-relabeled : goal.returns-clause-relabeled
returns-clause-relabeled c =
    let ns = c.self.inside.nodes.items in
    let es = c.self.inside.edges.items in
    let f = rewritten c.args.label c.args.mark c.args.root in
    let n = with_items_is c.self.inside.nodes c.relabel-was.new.nodes (c.relabel-was.auto.nodes ∙ c.deref_mut.ensures.len) in
    rw (← c.self.view_is)
    (ap (λ xs. graph_from xs es) n
    ∙ seen_kept (changed_at f ns c.args.n) c.relabel-was.new.nodes es
    (subst (λ xs. KeepsNodes (changed_at f xs c.args.n) c.relabel-was.new.nodes) c.deref_mut.ensures.value c.relabel-was.ensures.keeps)
    (c.relabel-was.auto.nodes ∙ ap (λ (xs : List _). length xs) c.deref_mut.ensures.value ∙ sym (length-set ns c.args.n _))
    ∙ seen_rewritten ns es c.args.n c.args.label c.args.mark c.args.root (node_there ns es c.args.n (rw (← c.self.view_is) at c.requires)))

pub returns-clause-was : goal.returns-clause-was
returns-clause-was c =
    rw (← c.self.view_is) (label_was c.self.inside.nodes.items c.self.inside.edges.items c.args.n c.relabel-was.result.1 (rw c.deref_mut.ensures.value at c.relabel-was.ensures.was))
