use Rattle.std.proofs.Common.{◌∙◌, List, map, sym, subst, arith}
use Rattle.gp_syntax.specs.Rule.{Found}
use Rattle.gp_syntax.specs.Tree.{rule_of_tree}
use Rattle.gp_journal.specs.Trail.{Trail}
use Rattle.gp_journal.specs.Leads.{Led}
use Rattle.gp_journal.proofs.Stacks.{leads_of}
use Rattle.gp_journal.proofs.Replays.{next_goes, one_more, caught_up}
use Rattle.gp_journal.proofs.trail.Trail.catch_up.Goals as goal

pub follow-requires : goal.follow-requires
follow-requires c = next_goes (map rule_of_tree c.args.rules.now) c.args.items.now c.loop-n.n c.index-items-n.result c.loop-n.self (omega arith) c.index-items-n.is c.loop-n.invariant.onward

pub loop-n-preserved : goal.loop-n-preserved
loop-n-preserved c =
    let m = one_more (map rule_of_tree c.args.rules.now) c.args.items.now c.loop-n.n c.index-items-n.result c.args.self.now c.loop-n.self c.follow.new.self (omega arith) c.index-items-n.is c.loop-n.invariant.onward c.loop-n.invariant.so_far c.in-Ok.ensures.ok c.in-Ok.ensures.only in
    record { onward = m.onward; so_far = m.so_far; same = c.follow.ensures.caught ∙ c.loop-n.invariant.same }

pub returns-in-Err-clause-caught : goal.returns-in-Err-clause-caught
returns-in-Err-clause-caught c =
    caught_up (map rule_of_tree c.args.rules.now) c.args.items.now c.loop-n.n c.args.self.now c.loop-n.self c.self.inside.graph.graph _ (omega arith) (c.self.view_is ∙ c.in-Err.ensures.err) c.loop-n.invariant.same c.loop-n.invariant.so_far

pub returns-in-Err-clause-of_rules : goal.returns-in-Err-clause-of_rules
returns-in-Err-clause-of_rules c = λ w.
    subst (λ (t : Trail). (ms : List Found) × Led (map rule_of_tree c.args.rules.now) ms t.graph t.before) (sym (c.self.view_is ∙ c.in-Err.ensures.err))
    (leads_of (map rule_of_tree c.args.rules.now) _ c.args.self.now c.loop-n.self c.loop-n.invariant.so_far w)

pub returns-clause-of_rules : goal.returns-clause-of_rules
returns-clause-of_rules c = λ w.
    subst (λ (t : Trail). (ms : List Found) × Led (map rule_of_tree c.args.rules.now) ms t.graph t.before) (sym c.self-2.view_is)
    (leads_of (map rule_of_tree c.args.rules.now) _ c.args.self.now c.loop-n.self c.loop-n.invariant.so_far w)
