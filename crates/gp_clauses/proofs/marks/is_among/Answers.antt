use Rattle.std.proofs.Common.{◌∙◌, ◌+◌, ◌||◌, drop, sym, ap}
use Rattle.gp_values.specs.Names.{has_name}
use Rattle.gp_clauses.proofs.Walks.{passed, item_at}
use Rattle.gp_clauses.proofs.marks.is_among.Goals as goal

pub loop-other-preserved : goal.loop-other-preserved
loop-other-preserved c =
    let xs = c.args.names.now in
    passed (λ ns. has_name ns c.args.name.now) xs c.loop-other.other-index _ _ (item_at xs _ _ c.loop-other-test.true c.other-item.is)
    (ap (λ b. b || has_name (drop (c.loop-other.other-index + 1) xs) c.args.name.now) (sym c.same.ensures ∙ c.if-same.false)) c.loop-other.invariant
