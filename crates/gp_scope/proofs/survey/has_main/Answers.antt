use Rattle.std.proofs.Common.{◌∙◌, ◌||◌, ap, sym, drop, ◌+◌}
use Rattle.gp_scope.specs.Outline.{outline}
use Rattle.gp_scope.specs.Fault.{declares_main}
use Rattle.gp_scope.proofs.Outlines.{outline_from, outline_past}
use Rattle.gp_scope.proofs.survey.has_main.Goals as goal

pub returns-then-is_mains : goal.returns-then-is_mains
returns-then-is_mains c =
    let rest = outline (drop (c.each.declaration-index + 1) c.args.declarations.now) in
    let e = outline_from c.args.declarations.now c.each.declaration-index c.declaration-item.result c.each-test.true c.declaration-item.is in
    sym (sym c.each.invariant ∙ ap declares_main e ∙ c.is_mains.ensures rest ∙ ap (λ b. b || declares_main rest) c.if-is_mains.true)

pub each-preserved : goal.each-preserved
each-preserved c =
    let rest = outline (drop (c.each.declaration-index + 1) c.args.declarations.now) in
    let e = outline_from c.args.declarations.now c.each.declaration-index c.declaration-item.result c.each-test.true c.declaration-item.is in
    sym (sym c.each.invariant ∙ ap declares_main e ∙ c.is_mains.ensures rest ∙ ap (λ b. b || declares_main rest) c.if-is_mains.false)

pub returns : goal.returns
returns c = sym (ap declares_main (outline_past c.args.declarations.now c.each.declaration-index c.each-test.false)) ∙ c.each.invariant
