use Rattle.std.proofs.Common.{rules, ◌≡◌, ◌∙◌, ◌+◌, ◌<◌, ◌^◌, ◌++◌, ◌∷◌, [], ap, sym, subst, drop, refl, arith}
use Rattle.gp_scope.specs.declared.survey.Survey.{Survey}
use Rattle.gp_scope.specs.Outline.{outline}
use Rattle.gp_scope.specs.Names.{bodies}
use Rattle.gp_scope.specs.Fault.{doubled_behind}
use Rattle.gp_scope.specs.inside.Levels.{scope_of}
use Rattle.gp_scope.specs.inside.Numbering.{numbered_of, with_bodies}
use Rattle.gp_scope.specs.Surveys.{declarations_in, weight, weights}
use Rattle.gp_scope.specs.inside.Doubles.{name_of}
use Rattle.gp_scope.proofs.Outlines.{outline_from, outline_past, weight-Procedure, weighs_less}
use Rattle.gp_scope.proofs.Declared.{few_here, once_here, still_few, rule_once, procedure_once}
use Rattle.gp_scope.proofs.Within.{fits_within, few_within, pushed_scope, inner_numbered, rule_numbers, procedure_numbers}
use Rattle.gp_scope.proofs.bodies.+bodies.Goals as goal

pub put_bodies-put_own-requires : goal.put_bodies-put_own-requires
put_bodies-put_own-requires t c =
    let i = c.each.declaration-index in
    let ds = c.args.declarations.now in
    let d = c.declaration-item.result in
    let w = weighs_less ds i d c.each-test.true c.declaration-item.is in
    let once = c.each.invariant.once in
    let o = once_here ds i d once.0 c.each-test.true c.declaration-item.is once.1 in
    let few = few_here ds i d c.each.at c.each-test.true c.declaration-item.is c.each.invariant.few in
    (search rules, (once.0, (outline (drop (i + 1) ds), (o, few))))

pub put_bodies-plus-at-requires-clause-rules : goal.put_bodies-plus-at-requires-clause-rules
put_bodies-plus-at-requires-clause-rules t c =
    let i = c.each.declaration-index in
    let ds = c.args.declarations.now in
    let d = c.declaration-item.result in
    let few = few_here ds i d c.each.at c.each-test.true c.declaration-item.is c.each.invariant.few in
    (still_few c.each.at c.count_one.result d (outline (drop (i + 1) ds)) c.count_one.ensures few).rules

pub put_bodies-plus-at-requires-clause-procedures : goal.put_bodies-plus-at-requires-clause-procedures
put_bodies-plus-at-requires-clause-procedures t c =
    let i = c.each.declaration-index in
    let ds = c.args.declarations.now in
    let d = c.declaration-item.result in
    let few = few_here ds i d c.each.at c.each-test.true c.declaration-item.is c.each.invariant.few in
    (still_few c.each.at c.count_one.result d (outline (drop (i + 1) ds)) c.count_one.ensures few).procedures

pub put_bodies-plus-at-requires-clause-mains : goal.put_bodies-plus-at-requires-clause-mains
put_bodies-plus-at-requires-clause-mains t c =
    let i = c.each.declaration-index in
    let ds = c.args.declarations.now in
    let d = c.declaration-item.result in
    let few = few_here ds i d c.each.at c.each-test.true c.declaration-item.is c.each.invariant.few in
    (still_few c.each.at c.count_one.result d (outline (drop (i + 1) ds)) c.count_one.ensures few).mains

pub put_bodies-each-preserved : goal.put_bodies-each-preserved
put_bodies-each-preserved t c =
    let i = c.each.declaration-index in
    let ds = c.args.declarations.now in
    let d = c.declaration-item.result in
    let rest = outline (drop (i + 1) ds) in
    let e = outline_from ds i d c.each-test.true c.declaration-item.is in
    let once = c.each.invariant.once in
    let o = once_here ds i d once.0 c.each-test.true c.declaration-item.is once.1 in
    let few = few_here ds i d c.each.at c.each-test.true c.declaration-item.is c.each.invariant.few in
    let f = still_few c.each.at c.count_one.result d rest c.count_one.ensures few in
    let done = numbered_of c.put_own.new.done in
    record {
      bodies = ap (λ (s : Survey). with_bodies done (bodies (scope_of c.args.levels.now.items) s.rules s.procedures rest)) c.plus-at.ensures
          ∙ ap (λ l. with_bodies done (bodies (scope_of l) (c.each.at.rules + c.count_one.result.rules) (c.each.at.procedures + c.count_one.result.procedures) rest)) (sym c.each.invariant.levels)
          ∙ c.in_ok-put_own.ensures.bodies c.count_one.result c.count_one.ensures rest
          ∙ ap (λ o. with_bodies (numbered_of c.each.done) (bodies (scope_of c.each.levels.items) c.each.at.rules c.each.at.procedures o)) (sym e)
          ∙ ap (λ l. with_bodies (numbered_of c.each.done) (bodies (scope_of l) c.each.at.rules c.each.at.procedures (outline (drop i ds)))) c.each.invariant.levels ∙ c.each.invariant.bodies;
      levels = c.in_ok-put_own.ensures.levels ∙ c.each.invariant.levels;
      once = (once.0 ++ name_of d ∷ [], c.in_ok-put_own.ensures.once once.0 rest o);
      few = subst (λ (s : Survey). s.rules + s.procedures + s.mains + declarations_in rest < 2 ^ 32) (sym c.plus-at.ensures) f.behind;
    }

pub put_own-with_procedure-within-requires-clause-procedures : goal.put_own-with_procedure-within-requires-clause-procedures
put_own-with_procedure-within-requires-clause-procedures t c = (fits_within c.args.declaration.now c.in-Procedure.name c.in-Procedure.declarations c.in-Procedure.body c.args.at c.in-Procedure.is c.requires).procedures

pub put_own-with_procedure-within-requires-clause-mains : goal.put_own-with_procedure-within-requires-clause-mains
put_own-with_procedure-within-requires-clause-mains t c = (fits_within c.args.declaration.now c.in-Procedure.name c.in-Procedure.declarations c.in-Procedure.body c.args.at c.in-Procedure.is c.requires).mains

pub put_own-enter-requires-clause-once : goal.put_own-enter-requires-clause-once
put_own-enter-requires-clause-once t c = ap (λ ds. doubled_behind [] (outline ds)) c.as_slice.ensures ∙ (fits_within c.args.declaration.now c.in-Procedure.name c.in-Procedure.declarations c.in-Procedure.body c.args.at c.in-Procedure.is c.requires).once

pub put_own-enter-requires-clause-few : goal.put_own-enter-requires-clause-few
put_own-enter-requires-clause-few t c =
    let f = fits_within c.args.declaration.now c.in-Procedure.name c.in-Procedure.declarations c.in-Procedure.body c.args.at c.in-Procedure.is c.requires in
    few_within c.args.at c.with_procedure-within.result c.in-Procedure.name c.in-Procedure.declarations c.as_slice.result.now c.with_procedure-within.ensures c.as_slice.ensures f.few

pub put_own-put_bodies-requires : goal.put_own-put_bodies-requires
put_own-put_bodies-requires t c =
    let f = fits_within c.args.declaration.now c.in-Procedure.name c.in-Procedure.declarations c.in-Procedure.body c.args.at c.in-Procedure.is c.requires in
    let are = c.as_slice-in-Procedure-2.ensures in
    let w : weight c.args.declaration.now ≡ 1 + weights c.in-Procedure.declarations = ap weight c.in-Procedure.is ∙ weight-Procedure c.in-Procedure.name c.in-Procedure.declarations c.in-Procedure.body in
    (search rules, (ap (λ ds. doubled_behind [] (outline ds)) are ∙ f.once, few_within c.args.at c.with_procedure-within.result c.in-Procedure.name c.in-Procedure.declarations c.as_slice-in-Procedure-2.result.now c.with_procedure-within.ensures are f.few))

pub put_own-returns-in-Rule-clause-bodies : goal.put_own-returns-in-Rule-clause-bodies
put_own-returns-in-Rule-clause-bodies t c = rule_numbers c.args.declaration.now c.in-Rule.field-0 (scope_of c.args.levels.now.items) c.args.at.rules c.args.at.procedures (numbered_of c.args.done.now) c.in-Rule.is

pub put_own-returns-in-Rule-clause-once : goal.put_own-returns-in-Rule-clause-once
put_own-returns-in-Rule-clause-once t c = rule_once c.args.declaration.now c.in-Rule.field-0 c.in-Rule.is

pub put_own-returns-in_ok-put_bodies-in-Procedure-clause-bodies : goal.put_own-returns-in_ok-put_bodies-in-Procedure-clause-bodies
put_own-returns-in_ok-put_bodies-in-Procedure-clause-bodies t c =
    let p = c.in-Procedure in
    let s = scope_of c.args.levels.now.items in
    let scope = pushed_scope c.args.at c.with_procedure-within.result p.name p.declarations c.as_slice.result.now c.args.levels.now.items c.enter.new.levels.items _
    c.with_procedure-within.ensures c.as_slice.ensures refl c.in_ok-enter-in-Procedure.ensures in
    let held = ap scope_of c.as_slice-in-Procedure.ensures.value ∙ scope in
    let own = numbered_of c.put_body.new.done in
    let inner = inner_numbered c.args.at c.with_procedure-within.result p.name p.declarations c.as_slice-in-Procedure-2.result.now (scope_of c.enter.new.levels.items) _ own (numbered_of c.put_bodies.new.done)
    c.with_procedure-within.ensures c.as_slice-in-Procedure-2.ensures scope c.in_ok-put_bodies-in-Procedure.ensures.bodies in
    procedure_numbers c.args.declaration.now p.name p.declarations p.body s (scope_of c.as_slice-in-Procedure.result.now) c.args.at.rules c.args.at.procedures (numbered_of c.args.done.now) own (numbered_of c.put_bodies.new.done)
    p.is held c.in_ok-put_body-in-Procedure.ensures inner

pub put_own-returns-in_ok-put_bodies-in-Procedure-clause-once : goal.put_own-returns-in_ok-put_bodies-in-Procedure-clause-once
put_own-returns-in_ok-put_bodies-in-Procedure-clause-once t c = procedure_once c.args.declaration.now c.in-Procedure.name c.in-Procedure.declarations c.in-Procedure.body c.in-Procedure.is

pub put_bodies-count_one-requires : goal.put_bodies-count_one-requires
put_bodies-count_one-requires t c =
    let i = c.each.declaration-index in
    let ds = c.args.declarations.now in
    let few = few_here ds i c.declaration-item.result c.each.at c.each-test.true c.declaration-item.is c.each.invariant.few in
    (outline (drop (i + 1) ds), omega (arith, few))

pub put_bodies-returns-clause-bodies : goal.put_bodies-returns-clause-bodies
put_bodies-returns-clause-bodies t c =
    sym (ap (λ o. with_bodies (numbered_of c.each.done) (bodies (scope_of c.args.levels.now.items) c.each.at.rules c.each.at.procedures o)) (outline_past c.args.declarations.now c.each.declaration-index c.each-test.false)) ∙ c.each.invariant.bodies
