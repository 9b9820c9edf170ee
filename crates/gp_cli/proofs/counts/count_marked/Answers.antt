use Rattle.std.proofs.Common.{ℕ, sym, ap, ◌∙◌, arith}
use Rattle.gp_cli.specs.Summary.{same_mark}
use Rattle.gp_cli.proofs.Counting.{counted_none, counted_all, goes_on}
use Rattle.gp_cli.proofs.counts.count_marked.Goals.{then-has_mark, else-has_mark}
use Rattle.gp_cli.proofs.counts.count_marked.Goals as goal

pub loop-n-init : goal.loop-n-init
loop-n-init c = (sym (counted_none (λ x. same_mark x.mark c.args.mark) c.args.graph.now.graph.nodes), omega arith)

pub loop-n-preserved : goal.loop-n-preserved
loop-n-preserved c =
    let nodes = c.args.graph.now.graph.nodes in
    let n = c.loop-n.n in
    elim c.if-has_mark.branch [
      | then-has_mark w ↦ goes_on (λ x. same_mark x.mark c.args.mark) nodes n _ c.loop-n.count c.if-has_mark.count (sym w.if-has_mark.true ∙ c.has_mark.ensures) c.loop-n.invariant.0 c.loop-n.invariant.1 (omega (arith, w.count-is))
      | else-has_mark w ↦ goes_on (λ x. same_mark x.mark c.args.mark) nodes n _ c.loop-n.count c.if-has_mark.count (sym w.if-has_mark.false ∙ c.has_mark.ensures) c.loop-n.invariant.0 c.loop-n.invariant.1 (omega (arith, w.count-is))
    ]

pub returns : goal.returns
returns c =
    let g = c.args.graph.now.graph in
    let past = c.loop-n-test.false in
    let next = ap (λ (p : ℕ × ℕ). p.0) c.next_numbers-numbers.ensures.numbers in
    let all = counted_all (λ x. same_mark x.mark c.args.mark) g.nodes c.loop-n.n (λ k s. let b = c.next_numbers-numbers.ensures.sound.nodes_below k s in omega (arith, b, past, next)) in
    c.loop-n.invariant.0 ∙ all
