use Rattle.std.proofs.Common.{sym, subst, ◌∙◌, map, arith}
use Rattle.gp_memory.proofs.Basics.{no_both}
use Rattle.gp_syntax.specs.Step.{Applies}
use Rattle.gp_syntax.specs.Tree.{rule_of_tree}
use Rattle.gp_derivation.proofs.Standings.{stands_step}
use Rattle.gp_derivation.proofs.Followed.{same_rule, applies_by, without_rule, without_edge, without_match}
use Rattle.gp_derivation.proofs.replay.Replay.step.Goals as goal

pub returns-then-number-rules : goal.returns-then-number-rules
returns-then-number-rules c = λ host s st. without_rule c.args.rules.now host s c.args.was.now c.args.self.now (omega arith) st

pub returns-in_default : goal.returns-in_default
returns-in_default c = λ host s st. without_edge c.args.rules.now host s c.args.was.now c.args.self.now (sym c.in_ok-found.ensures ∙ c.in_default.is) st

pub returns-then-not-branch : goal.returns-then-not-branch
returns-then-not-branch c = λ host s st. without_match c.args.rules.now host s c.args.was.now c.in-Some.found c.args.self.now c.index-rules-number.result c.rule-number.result c.rule-number.ensures (omega arith) c.index-rules-number.is (sym c.in_ok-found.ensures ∙ c.in-Some.is)
    (λ a. no_both _ c.if-not-branch.true (c.in_ok-applies.ensures.1 (subst (λ g. Applies (rule_of_tree c.index-rules-number.result) g c.in-Some.found) (sym c.graph.ensures) a))) st

pub make-requires-clause-applies : goal.make-requires-clause-applies
make-requires-clause-applies c =
    applies_by c.args.rules.now c.args.self.now.trail.graph c.args.was.now c.in-Some.found c.index-rules-number.result c.rule-number.result c.rule-number.ensures
    (same_rule c.args.self.now.table.now c.args.was.now c.in-Some.found (sym c.in_ok-found.ensures ∙ c.in-Some.is)) (omega arith) c.index-rules-number.is
    (subst (λ g. Applies (rule_of_tree c.index-rules-number.result) g c.in-Some.found) c.graph.ensures (c.in_ok-applies.ensures.0 c.if-not-branch.false))

pub returns : goal.returns
returns c = λ host s st. stands_step (map rule_of_tree c.args.rules.now) host s c.args.was.now c.in-Some.found c.args.self.now c.make.new.self (sym c.in_ok-found.ensures ∙ c.in-Some.is) c.in_ok-make.ensures st
