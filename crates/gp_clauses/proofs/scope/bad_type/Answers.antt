use Rattle.std.proofs.Common.{◌≡◌, ◌∙◌, true, false, refl, sym, ap}
use Rattle.std.specs.List.{list_all}
use Rattle.gp_syntax.specs.Declaration.{labels}
use Rattle.gp_syntax.specs.Fault.{type_named, is_well_typed, is_well_typed_condition}
use Rattle.gp_syntax.specs.Tree.{declaration_of, condition_or_true}
use Rattle.gp_clauses.proofs.Scopes.{bad_types}
use Rattle.gp_clauses.proofs.scope.bad_type.Goals as goal

pub returns-then-not-labels_pass : goal.returns-then-not-labels_pass
returns-then-not-labels_pass c =
    let d = declaration_of c.args.rule.now in
    let l : c.labels_pass.result ≡ list_all (is_well_typed (type_named d)) (labels d.left) = rw c.requires.declared at c.labels_pass.ensures in
    bad_types d false _ _ (sym l ∙ c.if-not-labels_pass.true) refl refl

pub returns-then-not-labels_pass-2 : goal.returns-then-not-labels_pass-2
returns-then-not-labels_pass-2 c =
    let d = declaration_of c.args.rule.now in
    let l : c.labels_pass.result ≡ list_all (is_well_typed (type_named d)) (labels d.left) = rw c.requires.declared at c.labels_pass.ensures in
    let r : c.labels_pass-2.result ≡ list_all (is_well_typed (type_named d)) (labels d.right) = rw c.requires.declared at c.labels_pass-2.ensures in
    bad_types d true false _ (sym l ∙ c.if-not-labels_pass.false) (sym r ∙ c.if-not-labels_pass-2.true) refl

pub returns-in-Some : goal.returns-in-Some
returns-in-Some c =
    let d = declaration_of c.args.rule.now in
    let l : c.labels_pass.result ≡ list_all (is_well_typed (type_named d)) (labels d.left) = rw c.requires.declared at c.labels_pass.ensures in
    let r : c.labels_pass-2.result ≡ list_all (is_well_typed (type_named d)) (labels d.right) = rw c.requires.declared at c.labels_pass-2.ensures in
    bad_types d true true _ (sym l ∙ c.if-not-labels_pass.false) (sym r ∙ c.if-not-labels_pass-2.false)
    (ap (λ o. is_well_typed_condition (type_named d) (condition_or_true (λ m. m) o)) c.in-Some.is ∙ sym (rw c.requires.declared at c.is_well_typed_condition.ensures))

pub returns-in-None : goal.returns-in-None
returns-in-None c =
    let d = declaration_of c.args.rule.now in
    let l : c.labels_pass.result ≡ list_all (is_well_typed (type_named d)) (labels d.left) = rw c.requires.declared at c.labels_pass.ensures in
    let r : c.labels_pass-2.result ≡ list_all (is_well_typed (type_named d)) (labels d.right) = rw c.requires.declared at c.labels_pass-2.ensures in
    bad_types d true true true (sym l ∙ c.if-not-labels_pass.false) (sym r ∙ c.if-not-labels_pass-2.false) (ap (λ o. is_well_typed_condition (type_named d) (condition_or_true (λ m. m) o)) c.in-None.is)
