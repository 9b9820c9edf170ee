-- How much is declared, declaration by declaration.
use Rattle.std.proofs.Common.{cond, ◌≡◌, ℕ, ◌+◌, ◌<◌, ◌≤◌, ◌^◌, Bool, true, false, length, refl, ap, ◌∙◌, arith, length-append}
use Rattle.gp_values.specs.Names.{Name}
use Rattle.gp_syntax.specs.declared.tree.RuleDecl.{RuleDecl}
use Rattle.gp_scope.specs.declared.survey.Survey.{Survey}
use Rattle.gp_scope.specs.Outline.{NamedCommand, Outline, nothing, rule, procedure, is_main, own_number, rules_in, procedures_in}
use Rattle.gp_scope.specs.Fault.{mains_in}
use Rattle.gp_scope.specs.Surveys.{declarations_in, survey_of, both_counted, main_number, one_more_counted}

pub same_survey : (a b c d e f : ℕ) → a ≡ d → b ≡ e → c ≡ f → (let s : Survey = record { rules = a; procedures = b; mains = c } in s) ≡ record { rules = d; procedures = e; mains = f }
same_survey a b c d e f p q r = ap (λ x. record { rules = x; procedures = b; mains = c }) p ∙ ap (λ x. record { rules = d; procedures = x; mains = c }) q ∙ ap (λ x. record { rules = d; procedures = e; mains = x }) r

pub one_or_other : (b : Bool) → (cond b 0 1) + (cond b 1 0) ≡ 1
one_or_other true = refl
one_or_other false = refl

-- all that is declared is a rule, a procedure, or Main
pub counts_all : (os : Outline) → length (rules_in os) + (procedures_in os + mains_in os) ≡ declarations_in os
counts_all nothing = refl
counts_all (rule d os) = let h = counts_all os in omega (arith, h)
counts_all (procedure n local body os) =
    let a = counts_all local in
    let b = counts_all os in
    let l = length-append (rules_in local) (rules_in os) in
    let o : own_number n + main_number n ≡ 1 = one_or_other (is_main n) in
    omega (arith, a, b, l, o)

pub counted_rule : (d : RuleDecl) (os : Outline) → survey_of (rule d os) ≡ both_counted (record { rules = 1; procedures = 0; mains = 0 }) (survey_of os)
counted_rule d os = same_survey _ _ _ _ _ _ (omega arith) (omega arith) (omega arith)

pub counted_procedure : (n : Name) (local : Outline) (body : NamedCommand) (os : Outline) → survey_of (procedure n local body os) ≡ both_counted (one_more_counted (survey_of local) n) (survey_of os)
counted_procedure n local body os = same_survey _ _ _ _ _ _ (length-append (rules_in local) (rules_in os)) refl refl

pub rest_fits : (all : Survey) (rest os : Outline) → both_counted all (survey_of rest) ≡ survey_of os → declarations_in rest ≤ declarations_in os
rest_fits all rest os e =
    let a = ap (λ (s : Survey). s.rules) e in
    let b = ap (λ (s : Survey). s.procedures) e in
    let c = ap (λ (s : Survey). s.mains) e in
    omega (arith, a, b, c, counts_all rest, counts_all os)

pub record Fit (a b : Survey) : Type 0 where
  pub rules : a.rules + b.rules < 2 ^ 32
  pub procedures : a.procedures + b.procedures < 2 ^ 32
  pub mains : a.mains + b.mains < 2 ^ 32

pub two_fit : (a b : Survey) (rest os : Outline) → both_counted a (both_counted b (survey_of rest)) ≡ survey_of os → declarations_in os < 2 ^ 32 → Fit a b
two_fit a b rest os e lt =
    let r = ap (λ (s : Survey). s.rules) e in
    let p = ap (λ (s : Survey). s.procedures) e in
    let m = ap (λ (s : Survey). s.mains) e in
    let all = counts_all os in
    record { rules = omega (arith, r, all, lt); procedures = omega (arith, p, all, lt); mains = omega (arith, m, all, lt) }

pub counted_together : (a b c : Survey) → both_counted (both_counted a b) c ≡ both_counted a (both_counted b c)
counted_together a b c = same_survey _ _ _ _ _ _ (omega arith) (omega arith) (omega arith)

pub nothing_more : (a : Survey) → both_counted a (survey_of nothing) ≡ a
nothing_more a = same_survey _ _ _ _ _ _ (omega arith) (omega arith) (omega arith)

pub nothing_yet : (a : Survey) → both_counted (record { rules = 0; procedures = 0; mains = 0 }) a ≡ a
nothing_yet a = same_survey _ _ _ _ _ _ (omega arith) (omega arith) (omega arith)
