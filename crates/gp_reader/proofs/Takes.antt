-- Rules that are taken, one declaration after another.
use Rattle.std.proofs.Common.{◌≡◌, ◌+◌, ◌≤◌, List, [], ◌∷◌, ◌++◌, reverse, sym, ap, ◌∙◌, arith, append_assoc}
use Rattle.std.proofs.lemmas.List.{reverse-append}
use Rattle.gp_values.specs.Names.{Name}
use Rattle.gp_syntax.specs.declared.tree.RuleDecl.{RuleDecl}
use Rattle.gp_syntax.specs.declared.tree.CommandTree.{CommandTree}
use Rattle.gp_syntax.specs.declared.tree.Decl.{Decl}
use Rattle.gp_syntax.specs.declared.tree.Decl.TheVariants as decl
use Rattle.gp_scope.specs.Outline.{outline, declared, rules_in}
use Rattle.gp_scope.specs.Surveys.{weight, weights}
use Rattle.gp_scope.proofs.Outlines.{declared-Rule, declared-Procedure}
use Rattle.gp_reader.specs.inside.Taken.{TakesRules}

pub rule_taken : (d : Decl) (r : RuleDecl) (old new : List RuleDecl) → d ≡ decl.Rule r → new ≡ old ++ r ∷ [] → TakesRules d old new
rule_taken d r old new is e = λ os rs h.
    ap reverse e ∙ reverse-append old (r ∷ []) ∙ ap (λ l. r ∷ l) h
    ∙ sym (ap (λ x. rules_in (declared x os) ++ rs) is ∙ ap (λ x. rules_in x ++ rs) (declared-Rule r os))

pub procedure_taken : (d : Decl) (n : Name) (ds : List Decl) (body : CommandTree) (old new : List RuleDecl) → d ≡ decl.Procedure n ds body → reverse new ≡ rules_in (outline ds) ++ reverse old → TakesRules d old new
procedure_taken d n ds body old new is e = λ os rs h.
    e ∙ ap (λ l. rules_in (outline ds) ++ l) h ∙ sym (append_assoc (rules_in (outline ds)) (rules_in os) rs)
    ∙ sym (ap (λ x. rules_in (declared x os) ++ rs) is ∙ ap (λ x. rules_in x ++ rs) (declared-Procedure n ds body os))

-- ---- how much the last one weighs

weights_both : (ds bs : List Decl) → weights (ds ++ bs) ≡ weights ds + weights bs
weights_both [] bs = omega arith
weights_both (d ∷ ds) bs = let h = weights_both ds bs in omega (arith, h)

pub last_weighs : (all left rest done : List Decl) (d : Decl) → all ≡ left ++ done → left ≡ rest ++ d ∷ [] → weight d ≤ weights all
last_weighs all left rest done d e f =
    let a = ap weights e in let b = weights_both left done in let c = ap weights f in let g = weights_both rest (d ∷ []) in
    omega (arith, a, b, c, g)

-- one more is done
abbrev pub Done : List Decl → List Decl → List RuleDecl → List RuleDecl → Type 0
Done all left old taken = (done : List Decl) × ((all ≡ left ++ done) × (reverse taken ≡ rules_in (outline done) ++ reverse old))

pub all_done : (all left : List Decl) (old taken : List RuleDecl) → Done all left old taken → left ≡ [] → reverse taken ≡ rules_in (outline all) ++ reverse old
all_done all left old taken i e = i.1.1 ∙ ap (λ l. rules_in (outline l) ++ reverse old) (sym (i.1.0 ∙ ap (λ l. l ++ i.0) e))
