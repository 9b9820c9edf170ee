use Rattle.std.proofs.Common.{ℕ, true, sym, ap, ◌∙◌, arith}
use Rattle.gp_values.specs.Graph.{edge_at}
use Rattle.gp_cli.proofs.Counting.{counted_none, counted_all, counted_len, goes_on, always}
use Rattle.gp_cli.proofs.counts.count_edges.Goals.{then-has_edge, else-has_edge}
use Rattle.gp_cli.proofs.counts.count_edges.Goals as goal

pub loop-e-init : goal.loop-e-init
loop-e-init c = (sym (counted_none (λ x. true) c.args.graph.now.graph.edges), omega arith)

pub loop-e-preserved : goal.loop-e-preserved
loop-e-preserved c =
    let edges = c.args.graph.now.graph.edges in
    let e = c.loop-e.e in
    let passes = c.has_edge.ensures ∙ always (edge_at c.args.graph.now.graph e) in
    elim c.if-has_edge.branch [
      | then-has_edge w ↦ goes_on (λ x. true) edges e _ c.loop-e.count c.if-has_edge.count (sym w.if-has_edge.true ∙ passes) c.loop-e.invariant.0 c.loop-e.invariant.1 (omega (arith, w.count-is))
      | else-has_edge w ↦ goes_on (λ x. true) edges e _ c.loop-e.count c.if-has_edge.count (sym w.if-has_edge.false ∙ passes) c.loop-e.invariant.0 c.loop-e.invariant.1 (omega (arith, w.count-is))
    ]

pub returns : goal.returns
returns c =
    let g = c.args.graph.now.graph in
    let past = c.loop-e-test.false in
    let next = ap (λ (p : ℕ × ℕ). p.1) c.next_numbers-numbers.ensures.numbers in
    let all = counted_all (λ x. true) g.edges c.loop-e.e (λ k s. let b = c.next_numbers-numbers.ensures.sound.edges_below k s in omega (arith, b, past, next)) in
    c.loop-e.invariant.0 ∙ all ∙ counted_len g.edges
