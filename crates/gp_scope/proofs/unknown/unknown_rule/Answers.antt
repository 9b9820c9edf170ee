use Rattle.std.proofs.Common.{◌∙◌, ◌+◌, ap, sym, drop, cond, Some, None}
use Rattle.std.specs.Option.{option_or}
use Rattle.gp_scope.specs.Fault.{first_told}
use Rattle.gp_scope.specs.inside.Levels.{scope_of}
use Rattle.gp_scope.specs.inside.Commands.{unknown_rule}
use Rattle.gp_scope.proofs.Told.{told_from, told_past}
use Rattle.gp_scope.proofs.unknown.unknown_rule.Goals as goal

pub returns-then-not-is_rule : goal.returns-then-not-is_rule
returns-then-not-is_rule c =
    let f = unknown_rule (scope_of c.args.levels.now) in
    let rest = first_told f (drop (c.each.name-index + 1) c.args.names.now) in
    ap (λ b. option_or (cond b None (Some c.name-item.result)) rest) c.if-not-is_rule.ensures ∙ sym (told_from f c.args.names.now c.each.name-index c.name-item.result c.each-test.true c.name-item.is) ∙ c.each.invariant

pub each-preserved : goal.each-preserved
each-preserved c =
    let f = unknown_rule (scope_of c.args.levels.now) in
    let rest = first_told f (drop (c.each.name-index + 1) c.args.names.now) in
    ap (λ b. option_or (cond b None (Some c.name-item.result)) rest) c.if-not-is_rule.ensures ∙ sym (told_from f c.args.names.now c.each.name-index c.name-item.result c.each-test.true c.name-item.is) ∙ c.each.invariant

pub returns : goal.returns
returns c = sym (told_past (unknown_rule (scope_of c.args.levels.now)) c.args.names.now c.each.name-index c.each-test.false) ∙ c.each.invariant
