use Rattle.std.proofs.Common.{◌≡◌, ◌∙◌, true, rules}
use Rattle.gp_clauses.proofs.Walks.{item_at}
use Rattle.gp_clauses.proofs.Doubles.{new_name, seen_on}
use Rattle.gp_clauses.proofs.names.see_all.Goals as goal

pub loop-item-preserved : goal.loop-item-preserved
loop-item-preserved g c =
    let xs = c.args.items.now in
    let new : c.in_ok-add.field-0 ≡ true = search rules in
    let p = new_name c.loop-item.seen c.add.new.self (g.T.Named.name_of c.item-item.result) c.in_ok-add.field-0 (rw (c.as_bytes.ensures, c.name-name.ensures) at c.in_ok-add.ensures.new) new (rw (c.as_bytes.ensures, c.name-name.ensures) at c.in_ok-add.ensures.names) in
    let on = seen_on g.T.Named.name_of xs c.loop-item.item-index c.item-item.result c.loop-item.seen c.add.new.self (item_at xs _ _ c.loop-item-test.true c.item-item.is) p.0 p.1 in
    (on.0 ∙ c.loop-item.invariant.0, on.1 ∙ c.loop-item.invariant.1)
