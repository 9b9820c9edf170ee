use Rattle.std.proofs.Common.{slice_index, length, sym, ◌∙◌}
use Rattle.std.specs.Prelude.{◌||◌}
use Rattle.gp_match.specs.Stands.{is_kept_by, counts, numbers_of}
use Rattle.gp_match.proofs.Loops.{one_fails, neither_one}
use Rattle.gp_match.proofs.dangling.none_dangles.Goals as goal

pub returns-then-not-counts : goal.returns-then-not-counts
returns-then-not-counts c =
    let g = c.args.graph.now.graph in
    let ns = c.args.nodes.now in
    let es = numbers_of c.args.images.now in
    one_fails (λ i. is_kept_by c.args.right.now i || counts g (slice_index ns i) es) (length ns) c.nodes.i c.nodes-test.true
    (neither_one _ _ (sym c.is_kept.ensures ∙ c.if-not-is_kept.true) (sym c.counts.ensures ∙ c.if-not-counts.true))
