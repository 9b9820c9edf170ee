use Rattle.std.proofs.Common.{map, sym, subst}
use Rattle.gp_syntax.specs.Tree.{rule_of_tree}
use Rattle.gp_journal.specs.Leads.{IsTrailOf}
use Rattle.gp_journal.proofs.Trails.{advanced_by, applies_here, applies_with, steps_by, led_itself}
use Rattle.gp_journal.proofs.Stacks.{stepped_of}
use Rattle.gp_journal.proofs.trail.Trail.advance_told.Goals as goal

pub apply_told-requires-clause-applies : goal.apply_told-requires-clause-applies
apply_told-requires-clause-applies c = (applies_here c.args.rules.now c.rule.result c.index-rules-rule.result c.self.inside.graph.graph c.args.found.now c.args.assignment.now c.index-rules-rule.is c.rule.ensures (rw (← c.self.view_is) at c.requires)).0

pub apply_told-requires-clause-told : goal.apply_told-requires-clause-told
apply_told-requires-clause-told c = (applies_here c.args.rules.now c.rule.result c.index-rules-rule.result c.self.inside.graph.graph c.args.found.now c.args.assignment.now c.index-rules-rule.is c.rule.ensures (rw (← c.self.view_is) at c.requires)).1

pub returns-clause-ok : goal.returns-clause-ok
returns-clause-ok c =
    rw (c.push_spare.ensures.items, c.in_ok-reserve.ensures.items, ← c.self.view_is)
    (advanced_by c.args.rules.now c.rule.result c.index-rules-rule.result c.self.inside.undos.items c.in_ok-undo.undo c.self.inside.graph.graph c.apply_told.new.graph.graph c.args.found.now c.self.inside.caught
    c.index-rules-rule.is c.rule.ensures (applies_with _ _ _ _ (rw (← c.self.view_is) at c.requires)) c.in_ok-undo.ensures.after c.in_ok-undo.ensures.undo.same)

pub returns-clause-step : goal.returns-clause-step
returns-clause-step c =
    rw (← c.self.view_is)
    (steps_by c.args.rules.now c.rule.result c.index-rules-rule.result c.self.inside.graph.graph c.apply_told.new.graph.graph c.args.found.now c.index-rules-rule.is c.rule.ensures (applies_with _ _ _ _ (rw (← c.self.view_is) at c.requires)) c.in_ok-undo.ensures.step)

pub returns-clause-of_rules : goal.returns-clause-of_rules
returns-clause-of_rules c = λ w.
    let rules = map rule_of_tree c.args.rules.now in
    subst (IsTrailOf rules) (sym (led_itself rules c.args.self.now _ c.args.found.now (returns-clause-ok c)))
    (stepped_of rules c.args.self.now c.args.found.now c.apply_told.new.graph.graph (returns-clause-step c) w)
