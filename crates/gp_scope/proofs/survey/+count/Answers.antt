use Rattle.std.proofs.Common.{rules, ◌≡◌, ◌∙◌, ap, sym, subst, ℕ, ◌+◌, ◌<◌, ◌^◌, List, drop, length, get_or, arith}
use Rattle.gp_values.specs.Names.{Name}
use Rattle.gp_syntax.specs.declared.tree.Decl.{Decl}
use Rattle.gp_scope.specs.declared.survey.Survey.{Survey}
use Rattle.gp_scope.specs.Outline.{NamedCommand, Outline, outline, declared, procedure, named}
use Rattle.gp_scope.specs.Surveys.{weight, weights, declarations_in, survey_of, both_counted, one_more_counted}
use Rattle.gp_scope.proofs.Outlines.{outline_from, outline_past, declared-Rule, declared-Procedure, weight-Procedure, weighs_less}
use Rattle.gp_scope.proofs.Counted.{counts_all, counted_rule, counted_procedure, rest_fits, two_fit, counted_together, nothing_more, nothing_yet}
use Rattle.gp_scope.proofs.survey.+count.Goals as goal

pub count_one-returns-in-Rule : goal.count_one-returns-in-Rule
count_one-returns-in-Rule t c = λ os. rw (c.in-Rule.is, declared-Rule c.in-Rule.field-0 os) (counted_rule c.in-Rule.field-0 os)

pub count_one-returns-in-Procedure : goal.count_one-returns-in-Procedure
count_one-returns-in-Procedure t c = λ os.
    rw (c.in-Procedure.is, declared-Procedure c.in-Procedure.name c.in-Procedure.declarations c.in-Procedure.body os)
    (counted_procedure c.in-Procedure.name (outline c.in-Procedure.declarations) (named c.in-Procedure.body) os
    ∙ ap (λ a. both_counted a (survey_of os)) (sym (c.with_procedure.ensures ∙ ap (λ a. one_more_counted a c.in-Procedure.name) (c.count_declared.ensures ∙ ap (λ l. survey_of (outline l)) c.as_slice.ensures))))

pub count_declared-count_one-requires : goal.count_declared-count_one-requires
count_declared-count_one-requires t c =
    let rest = outline (drop (c.each.declaration-index + 1) c.args.declarations.now) in
    let e = outline_from c.args.declarations.now c.each.declaration-index c.declaration-item.result c.each-test.true c.declaration-item.is in
    let l = rest_fits c.each.all (outline (drop c.each.declaration-index c.args.declarations.now)) (outline c.args.declarations.now) c.each.invariant in
    let b : declarations_in (declared c.declaration-item.result rest) < 2 ^ 32 = subst (λ x. declarations_in x < 2 ^ 32) e (omega (arith, l, c.requires)) in
    let w = weighs_less c.args.declarations.now c.each.declaration-index c.declaration-item.result c.each-test.true c.declaration-item.is in
    (search rules, (rest, b))

-- what is counted so far, what the next one counts, and the rest
next_counted : (all k : Survey) (i : ℕ) (ds : List Decl) (d : Decl) → both_counted all (survey_of (outline (drop i ds))) ≡ survey_of (outline ds) → i < length ds → d ≡ get_or ds i d
    → ((os : Outline) → survey_of (declared d os) ≡ both_counted k (survey_of os)) → both_counted all (both_counted k (survey_of (outline (drop (i + 1) ds)))) ≡ survey_of (outline ds)
next_counted all k i ds d inv lt is counts = sym (ap (both_counted all) (ap survey_of (outline_from ds i d lt is) ∙ counts (outline (drop (i + 1) ds)))) ∙ inv

pub count_declared-plus-all-requires-clause-rules : goal.count_declared-plus-all-requires-clause-rules
count_declared-plus-all-requires-clause-rules t c = (two_fit c.each.all c.count_one.result (outline (drop (c.each.declaration-index + 1) c.args.declarations.now)) (outline c.args.declarations.now) (next_counted c.each.all c.count_one.result c.each.declaration-index c.args.declarations.now c.declaration-item.result c.each.invariant c.each-test.true c.declaration-item.is c.count_one.ensures) c.requires).rules

pub count_declared-plus-all-requires-clause-procedures : goal.count_declared-plus-all-requires-clause-procedures
count_declared-plus-all-requires-clause-procedures t c = (two_fit c.each.all c.count_one.result (outline (drop (c.each.declaration-index + 1) c.args.declarations.now)) (outline c.args.declarations.now) (next_counted c.each.all c.count_one.result c.each.declaration-index c.args.declarations.now c.declaration-item.result c.each.invariant c.each-test.true c.declaration-item.is c.count_one.ensures) c.requires).procedures

pub count_declared-plus-all-requires-clause-mains : goal.count_declared-plus-all-requires-clause-mains
count_declared-plus-all-requires-clause-mains t c = (two_fit c.each.all c.count_one.result (outline (drop (c.each.declaration-index + 1) c.args.declarations.now)) (outline c.args.declarations.now) (next_counted c.each.all c.count_one.result c.each.declaration-index c.args.declarations.now c.declaration-item.result c.each.invariant c.each-test.true c.declaration-item.is c.count_one.ensures) c.requires).mains

pub count_declared-each-init : goal.count_declared-each-init
count_declared-each-init t c = nothing_yet (survey_of (outline c.args.declarations.now))

pub count_declared-each-preserved : goal.count_declared-each-preserved
count_declared-each-preserved t c =
    let rest = survey_of (outline (drop (c.each.declaration-index + 1) c.args.declarations.now)) in
    ap (λ a. both_counted a rest) c.plus-all.ensures ∙ counted_together c.each.all c.count_one.result rest ∙ next_counted c.each.all c.count_one.result c.each.declaration-index c.args.declarations.now c.declaration-item.result c.each.invariant c.each-test.true c.declaration-item.is c.count_one.ensures

pub count_declared-returns : goal.count_declared-returns
count_declared-returns t c =
    sym (nothing_more c.each.all) ∙ ap (λ x. both_counted c.each.all (survey_of x)) (sym (outline_past c.args.declarations.now c.each.declaration-index c.each-test.false)) ∙ c.each.invariant

local_fits : (n : Name) (local : Outline) (body : NamedCommand) (os : Outline) → declarations_in (procedure n local body os) < 2 ^ 32 → declarations_in local + 1 < 2 ^ 32
local_fits n local body os lt = omega (arith, lt)

pub count_one-count_declared-requires : goal.count_one-count_declared-requires
count_one-count_declared-requires t c =
    let are = c.as_slice.ensures in
    let w : weight c.args.declaration.now ≡ 1 + weights c.in-Procedure.declarations = ap weight c.in-Procedure.is ∙ weight-Procedure c.in-Procedure.name c.in-Procedure.declarations c.in-Procedure.body in
    let o = c.requires.0 in
    let e : declared c.args.declaration.now o ≡ procedure c.in-Procedure.name (outline c.in-Procedure.declarations) (named c.in-Procedure.body) o = ap (λ d. declared d o) c.in-Procedure.is ∙ declared-Procedure c.in-Procedure.name c.in-Procedure.declarations c.in-Procedure.body o in
    let l = local_fits c.in-Procedure.name (outline c.in-Procedure.declarations) (named c.in-Procedure.body) o (subst (λ x. declarations_in x < 2 ^ 32) e c.requires.1) in
    (search rules, subst (λ ds. declarations_in (outline ds) < 2 ^ 32) (sym are) (omega (arith, l)))

counted_fits : (s : Survey) (local : Outline) → s ≡ survey_of local → declarations_in local + 1 < 2 ^ 32 → (s.procedures + 1 < 2 ^ 32) × (s.mains + 1 < 2 ^ 32)
counted_fits s local e lt =
    let p = ap (λ (s : Survey). s.procedures) e in
    let m = ap (λ (s : Survey). s.mains) e in
    let all = counts_all local in
    (omega (arith, p, all, lt), omega (arith, m, all, lt))

pub count_one-with_procedure-requires-clause-procedures : goal.count_one-with_procedure-requires-clause-procedures
count_one-with_procedure-requires-clause-procedures t c =
    let o = c.requires.0 in
    let e : declared c.args.declaration.now o ≡ procedure c.in-Procedure.name (outline c.in-Procedure.declarations) (named c.in-Procedure.body) o = ap (λ d. declared d o) c.in-Procedure.is ∙ declared-Procedure c.in-Procedure.name c.in-Procedure.declarations c.in-Procedure.body o in
    let l = local_fits c.in-Procedure.name (outline c.in-Procedure.declarations) (named c.in-Procedure.body) o (subst (λ x. declarations_in x < 2 ^ 32) e c.requires.1) in
    (counted_fits c.count_declared.result (outline c.in-Procedure.declarations) (c.count_declared.ensures ∙ ap (λ l. survey_of (outline l)) c.as_slice.ensures) l).0

pub count_one-with_procedure-requires-clause-mains : goal.count_one-with_procedure-requires-clause-mains
count_one-with_procedure-requires-clause-mains t c =
    let o = c.requires.0 in
    let e : declared c.args.declaration.now o ≡ procedure c.in-Procedure.name (outline c.in-Procedure.declarations) (named c.in-Procedure.body) o = ap (λ d. declared d o) c.in-Procedure.is ∙ declared-Procedure c.in-Procedure.name c.in-Procedure.declarations c.in-Procedure.body o in
    let l = local_fits c.in-Procedure.name (outline c.in-Procedure.declarations) (named c.in-Procedure.body) o (subst (λ x. declarations_in x < 2 ^ 32) e c.requires.1) in
    (counted_fits c.count_declared.result (outline c.in-Procedure.declarations) (c.count_declared.ensures ∙ ap (λ l. survey_of (outline l)) c.as_slice.ensures) l).1
