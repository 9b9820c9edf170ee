use Rattle.std.proofs.Common.{rules, ◌≡◌, ◌∙◌, ◌+◌, ℕ, ap, arith, Option, Some, None, IfSome, SomeIff, ◌<◌, ◌^◌, List}
use Rattle.gp_values.specs.Names.{Name}
use Rattle.gp_syntax.specs.declared.tree.Decl.{Decl}
use Rattle.gp_syntax.specs.declared.tree.Decl.TheVariants as decl
use Rattle.gp_syntax.specs.declared.tree.CommandTree.{CommandTree}
use Rattle.gp_scope.specs.Outline.{Outline, outline, declared}
use Rattle.gp_scope.specs.Surveys.{declarations_in, weight, weights}
use Rattle.gp_scope.proofs.Outlines.{declared-Rule, declared-Procedure, weight-Procedure, weighs_less}
use Rattle.gp_scope.proofs.few.+few.Goals as goal

pub count_within-declaration_count-requires : goal.count_within-declaration_count-requires
count_within-declaration_count-requires t c =
    let are = c.as_slice.ensures in
    let w : weight c.args.declaration.now ≡ 1 + weights c.in-Procedure.declarations = ap weight c.in-Procedure.is ∙ weight-Procedure c.in-Procedure.name c.in-Procedure.declarations c.in-Procedure.body in
    (search rules, tt)

pub count_within-returns-in-Rule : goal.count_within-returns-in-Rule
count_within-returns-in-Rule t c = λ os. ap declarations_in (ap (λ d. declared d os) c.in-Rule.is ∙ declared-Rule c.in-Rule.field-0 os)

-- one more than what is local
procedure_counted : (d : Decl) (n : Name) (ds : List Decl) (body : CommandTree) (local : ℕ) (o : Option ℕ) → d ≡ decl.Procedure n ds body → local ≡ declarations_in (outline ds) → SomeIff o (local + 1 < 2 ^ 32) (local + 1)
    → IfSome o (λ k. (os : Outline) → declarations_in (declared d os) ≡ k + declarations_in os)
procedure_counted d n ds body local (Some k) e l s = λ os.
    let p = ap declarations_in (ap (λ y. declared y os) e ∙ declared-Procedure n ds body os) in
    omega (arith, p, l, s)
procedure_counted d n ds body local None e l s = tt

pub count_within-returns-in_ok-local-in-Procedure : goal.count_within-returns-in_ok-local-in-Procedure
count_within-returns-in_ok-local-in-Procedure t c =
    let l : c.in_ok-local-in-Procedure.local ≡ declarations_in (outline c.in-Procedure.declarations) = c.in_ok-local-in-Procedure.ensures ∙ ap (λ ds. declarations_in (outline ds)) c.as_slice.ensures in
    procedure_counted c.args.declaration.now c.in-Procedure.name c.in-Procedure.declarations c.in-Procedure.body c.in_ok-local-in-Procedure.local c.checked_add.result c.in-Procedure.is l c.checked_add.ensures

pub declaration_count-count_within-requires : goal.declaration_count-count_within-requires
declaration_count-count_within-requires t c =
    let w = weighs_less c.args.declarations.now c.each.declaration-index c.declaration-item.result c.each-test.true c.declaration-item.is in
    (search rules, tt)
