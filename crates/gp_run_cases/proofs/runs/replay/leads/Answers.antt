use Rattle.std.proofs.Common.{rules, IsTrue, List, map, subst, arith}
use Rattle.std.proofs.lemmas.List.{take_all}
use Rattle.gp_syntax.specs.declared.found.Item.{Item}
use Rattle.gp_syntax.specs.Tree.{rule_of_tree}
use Rattle.gp_journal.specs.Leads.{Leads}
use Rattle.gp_journal.specs.Journal.{items_of}
use Rattle.gp_run_cases.proofs.Items.{leads_on}
use Rattle.gp_run_cases.proofs.runs.replay.leads.Goals as goal

pub loop-item-preserved : goal.loop-item-preserved
loop-item-preserved c =
    let yes : IsTrue c.in_ok-go.field-0 = search rules in
    leads_on (map rule_of_tree c.args.rules.now) c.args.items.now c.loop-item.item-index c.item-item.result c.args.trail.now c.loop-item.at c.go.new.at (omega arith) c.item-item.is c.loop-item.invariant (c.in_ok-go.ensures yes)

pub returns : goal.returns
returns c = λ _.
    (c.loop-item.at, subst (λ (is : List Item). Leads (map rule_of_tree c.args.rules.now) (items_of is) c.args.trail.now c.loop-item.at) (take_all c.loop-item.item-index c.args.items.now (omega arith)) c.loop-item.invariant)
