-- What each form of tree is in outline.
use Rattle.std.proofs.Common.{◌≡◌, ℕ, zero, suc, subst, arith, ◌+◌, ◌<◌, ◌≤◌, List, [], ◌∷◌, drop, length, get_or, sym, ap, ◌∙◌}
use Rattle.std.proofs.Math.Seq.{drop-cons}
use Rattle.std.proofs.Math.ListN.{drop_of_length-le}
use Rattle.gp_values.specs.Names.{Name}
use Rattle.gp_syntax.specs.declared.tree.RuleDecl.{RuleDecl}
use Rattle.gp_syntax.specs.declared.tree.CommandTree.{CommandTree}
use Rattle.gp_syntax.specs.declared.tree.Decl.{Decl}
use Rattle.gp_syntax.specs.declared.tree.Decl.TheVariants as decl
use Rattle.gp_syntax.specs.declared.tree.Decl.TheOpen.{Decl-F}
use Rattle.gp_syntax.specs.declared.tree.Decl.TheFolds.{fold-roll-Decl}
use Rattle.gp_scope.specs.Outline.{Outline, nothing, rule, procedure, named, declared, declared_step, outline}
use Rattle.gp_scope.specs.inside.Doubles.{name_of, name_step}
use Rattle.gp_scope.specs.Surveys.{weight, weight_step, weights}

pub declared-Rule : (d : RuleDecl) (os : Outline) → declared (decl.Rule d) os ≡ rule d os
unfolding declared
declared-Rule d os = ap (λ f. f os) (ap declared (sym (decl.rolls-Rule d)) ∙ fold-roll-Decl (Outline → Outline) declared_step (Decl-F.Rule d))

pub declared-Procedure : (n : Name) (ds : List Decl) (body : CommandTree) (os : Outline) → declared (decl.Procedure n ds body) os ≡ procedure n (outline ds) (named body) os
unfolding declared
declared-Procedure n ds body os = ap (λ f. f os) (ap declared (sym (decl.rolls-Procedure n ds body)) ∙ fold-roll-Decl (Outline → Outline) declared_step (Decl-F.Procedure n ds body))

-- the declarations from a place on
pub outline_from : (ds : List Decl) (i : ℕ) (d : Decl) → i < length ds → d ≡ get_or ds i d → outline (drop i ds) ≡ declared d (outline (drop (i + 1) ds))
outline_from ds i d lt e =
    let next : suc i ≡ i + 1 = omega arith in
    ap outline (drop-cons ds i d lt) ∙ ap (λ x. declared x (outline (drop (suc i) ds))) (sym e) ∙ ap (λ n. declared d (outline (drop n ds))) next

-- behind the last one there is nothing
pub outline_past : (ds : List Decl) (i : ℕ) → length ds ≤ i → outline (drop i ds) ≡ nothing
outline_past ds i le = ap outline (drop_of_length-le ds le)

pub weight-Procedure : (n : Name) (ds : List Decl) (body : CommandTree) → weight (decl.Procedure n ds body) ≡ 1 + weights ds
unfolding weight
weight-Procedure n ds body = ap weight (sym (decl.rolls-Procedure n ds body)) ∙ fold-roll-Decl ℕ weight_step (Decl-F.Procedure n ds body)

pub weight_at : (ds : List Decl) (i : ℕ) (d : Decl) → i < length ds → weight (get_or ds i d) ≤ weights ds
weight_at [] i d lt = absurd (omega (arith, lt))
weight_at (x ∷ ds) zero d lt = omega arith
weight_at (x ∷ ds) (suc i) d lt = let h = weight_at ds i d (omega (arith, lt)) in omega (arith, h)

-- a declaration of a list weighs no more than the list
pub weighs_less : (ds : List Decl) (i : ℕ) (d : Decl) → i < length ds → d ≡ get_or ds i d → weight d ≤ weights ds
weighs_less ds i d lt e = subst (λ x. weight x ≤ weights ds) (sym e) (weight_at ds i d lt)

pub name_of-Rule : (d : RuleDecl) → name_of (decl.Rule d) ≡ d.name
unfolding name_of
name_of-Rule d = ap name_of (sym (decl.rolls-Rule d)) ∙ fold-roll-Decl Name name_step (Decl-F.Rule d)

pub name_of-Procedure : (n : Name) (ds : List Decl) (body : CommandTree) → name_of (decl.Procedure n ds body) ≡ n
unfolding name_of
name_of-Procedure n ds body = ap name_of (sym (decl.rolls-Procedure n ds body)) ∙ fold-roll-Decl Name name_step (Decl-F.Procedure n ds body)
