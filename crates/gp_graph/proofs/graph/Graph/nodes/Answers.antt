use Rattle.std.proofs.Common.{◌≡◌, ◌≤◌, length, sym, subst, arith}
use Rattle.gp_graph.specs.Walks.{Walks, IsNode}
use Rattle.gp_graph.specs.inside.View.{graph_from}
use Rattle.gp_graph.proofs.Degrees.{node_count-walk}
use Rattle.gp_graph.proofs.Links.{slot_within}
use Rattle.gp_graph.proofs.Walking.{walks_nodes_all}
use Rattle.gp_graph.proofs.graph.Graph.nodes.Goals as goal

pub returns-clause-walks : goal.returns-clause-walks
returns-clause-walks c =
    let ns = c.self.inside.nodes.items in
    let es = c.self.inside.edges.items in
    let fits : length ns ≤ 18446744073709551615 = omega (arith, c.self.inside.nodes.ok, c.self.inside.nodes.small) in
    let n : c.len-count.result ≡ length ns = omega (arith, c.len-count.ensures) in
    rw (← c.self.view_is)
    (subst (λ xs. Walks xs (IsNode (graph_from ns es))) (sym c.over.ensures.numbers) (walks_nodes_all ns es c.deref.result.now c.len-count.result c.deref.ensures.value n (λ k h. slot_within ns k h) fits))

pub returns-clause-counted : goal.returns-clause-counted
returns-clause-counted c =
    let ns = c.self.inside.nodes.items in
    let es = c.self.inside.edges.items in
    let fits : length ns ≤ 18446744073709551615 = omega (arith, c.self.inside.nodes.ok, c.self.inside.nodes.small) in
    let n : c.len-count.result ≡ length ns = omega (arith, c.len-count.ensures) in
    rw (← c.self.view_is)
    (node_count-walk (graph_from ns es) c.over.result
    (subst (λ xs. Walks xs (IsNode (graph_from ns es))) (sym c.over.ensures.numbers) (walks_nodes_all ns es c.deref.result.now c.len-count.result c.deref.ensures.value n (λ k h. slot_within ns k h) fits)))
