use Rattle.std.proofs.Common.{sym, ◌∙◌, ap}
use Rattle.std.specs.Option.{option_copied}
use Rattle.gp_values.specs.Names.{first_doubled}
use Rattle.gp_clauses.proofs.Walks.{item_at}
use Rattle.gp_clauses.proofs.Doubles.{group_passes, group_stops, names_of_groups}
use Rattle.gp_clauses.proofs.names.doubled_variable.Goals as goal

pub loop-group-init : goal.loop-group-init
loop-group-init c = rw (c.new-seen.ensures, c.as_slice-group-items.ensures) (ap first_doubled (sym (names_of_groups c.args.rule.now.variables)))

pub returns-in-Some : goal.returns-in-Some
returns-in-Some c =
    let gs = c.as_slice-group-items.result.now in
    let at = item_at gs c.loop-group.group-index c.group-item.result c.loop-group-test.true c.group-item.is in
    sym (sym c.loop-group.invariant ∙ group_stops gs c.loop-group.group-index c.group-item.result c.loop-group.seen _ at (sym c.in_ok-doubled.ensures.first ∙ ap option_copied c.in-Some.is))

pub loop-group-preserved : goal.loop-group-preserved
loop-group-preserved c =
    let gs = c.as_slice-group-items.result.now in
    let at = item_at gs c.loop-group.group-index c.group-item.result c.loop-group-test.true c.group-item.is in
    group_passes gs c.loop-group.group-index c.group-item.result c.loop-group.seen c.see_group.new.seen at (sym c.in_ok-doubled.ensures.first ∙ ap option_copied c.in_default.is) (c.in_ok-doubled.ensures.all (ap option_copied c.in_default.is)) ∙ c.loop-group.invariant
