-- Programs are read without a doubt, and each has one tree.
use Rattle.std.proofs.Common.{◌≡◌, ℕ, zero, suc, inl, inr, false, List, [], ◌∷◌, ◌++◌, Some, refl}
use Rattle.gp_memory.proofs.Basics.{which}
use Rattle.gp_tokens.specs.declared.token.Token.{Token}
use Rattle.gp_tokens.specs.Kinds.{same_kind}
use Rattle.gp_tokens.specs.declared.want.Want.{Want}
use Rattle.gp_tokens.specs.declared.want.Want.TheVariants as wants
use Rattle.gp_tokens.specs.Wants.{excludes, meets}
use Rattle.gp_tokens.specs.Grammar.{Grammar, One, Made, Repeated, shape_of}
use Rattle.gp_tokens.specs.Fits.{Fits, Avoids, AllAvoid, NoneOf, BeginsBy, enders, nullable}
use Rattle.gp_tokens.specs.GrammarLaws.{Sound}
use Rattle.gp_tokens.specs.SignWants.{close_bracket}
use Rattle.gp_tokens.specs.Reading.{reader_of}
use Rattle.gp_tokens.proofs.Complete.{all_again}
use Rattle.gp_tokens.proofs.Sound.{all_sound}
use Rattle.gp_syntax.specs.declared.tree.Ast.{Ast}
use Rattle.gp_syntax.specs.declared.tree.Decl.{Decl}
use Rattle.gp_expressions.specs.declared.ranged.Ranged.{Ranged}
use Rattle.gp_expressions.specs.Signs.{where_word}
use Rattle.gp_expressions.specs.Expressions.{name, list}
use Rattle.gp_expressions.specs.Conditions.{condition}
use Rattle.gp_program.specs.Rules.{rule, rule_with}
use Rattle.gp_program.specs.Programs.{rule_decl, rules, locals, procedure, procedure_group, declarations_in, declarations, program}
use Rattle.gp_expressions.proofs.ListLaws.{list_part}
use Rattle.gp_expressions.proofs.ConditionLaws.{condition_enders, condition_fits, condition_full, condition_follow, avoid_both}
use Rattle.gp_program.proofs.RuleLaws.{rule_fits, rule_full, rule_follow}
use Rattle.gp_program.proofs.CommandLaws.{command_enders, commands_fit, commands_full, commands_follow, commands_avoid}

-- what must not come behind declarations
abbrev all_enders : List Want
all_enders = where_word ∷ condition_enders ++ command_enders

-- what must not come behind rules
abbrev rule_enders : List Want
rule_enders = where_word ∷ condition_enders

one_rule_fits : (m : ℕ) → Fits (rule m)
one_rule_fits m = rule_fits (list m) (list_part m) (condition m m) (condition_fits m m)

one_rule_follow : (m : ℕ) {A : Type 0} (g : Grammar A) → AllAvoid rule_enders g → AllAvoid (enders (rule m)) g
one_rule_follow m g a = rule_follow (list m) (list_part m) (condition m m) (condition_full m m) g a.0 (condition_follow m m g a.1)

rule_begins : (m : ℕ) → BeginsBy wants.RuleName (rule m)
unfolding rule_with name
rule_begins m = refl

rule_avoids : (m : ℕ) → AllAvoid all_enders (rule m)
unfolding rule_with name excludes meets same_kind
rule_avoids m = search

first_avoided : {A : Type 0} (ws vs : List Want) (g : Grammar A) → AllAvoid (ws ++ vs) g → AllAvoid ws g
first_avoided [] vs g a = tt
first_avoided (w ∷ ws) vs g a = (a.0, first_avoided ws vs g a.1)

second_avoided : {A : Type 0} (ws vs : List Want) (g : Grammar A) → AllAvoid (ws ++ vs) g → AllAvoid vs g
second_avoided [] vs g a = a
second_avoided (w ∷ ws) vs g a = second_avoided ws vs g a.1

rule_is_full : (m : ℕ) → nullable (rule m) ≡ false
rule_is_full m = rule_full (list m) (list_part m) (condition m m)

rules_fit : (m : ℕ) → Fits (rules m)
unfolding rules
rules_fit m =
    let f = one_rule_fits m in let n = rule_is_full m in let b = rule_begins m in let a = one_rule_follow m (Made rule_decl (rule m)) (first_avoided rule_enders command_enders (rule m) (rule_avoids m)) in (f, (n, (b, a)))

rules_follow : (m : ℕ) {A : Type 0} (g : Grammar A) → Avoids wants.RuleName g → AllAvoid rule_enders g → AllAvoid (enders (rules m)) g
unfolding rules
rules_follow m g a b = (a, one_rule_follow m g b)

rules_avoid : (m : ℕ) → AllAvoid all_enders (rules m)
unfolding rules
rules_avoid m = go all_enders (rule_avoids m)
  where
    go : (ws : List Want) → AllAvoid ws (rule m) → AllAvoid ws (Repeated wants.RuleName (Made rule_decl (rule m)))
    go [] a = tt
    go (w ∷ ws) a = ((rule_is_full m, a.0), go ws a.1)

-- ---- declarations, inside which such declarations may stand

-- all that must not come behind declarations avoids a closing bracket
bracket_follows : AllAvoid (wants.ProcedureName ∷ wants.RuleName ∷ all_enders) (One close_bracket)
unfolding excludes meets same_kind
bracket_follows = search

module _ (m : ℕ) (d : Grammar (Ranged (List Decl))) (f : Fits d) (c : AllAvoid (enders d) (One close_bracket)) where
  procedure_fits : Fits (procedure m d)
  unfolding name locals procedure excludes meets same_kind
  procedure_fits = let g = commands_fit m in let a = commands_avoid m in elim (which (nullable d)) [ inl t ↦ rw t (search (f, c, g, a)) | inr t ↦ rw t (search (f, c, g, a)) ]

  procedure_full : nullable (procedure m d) ≡ false
  unfolding name procedure
  procedure_full = refl

  procedure_follow : {A : Type 0} (g : Grammar A) → AllAvoid command_enders g → AllAvoid (enders (procedure m d)) g
  unfolding name locals procedure
  procedure_follow g a = rw (commands_full m) (commands_follow m g a)

  procedure_begins : BeginsBy wants.ProcedureName (procedure m d)
  unfolding name procedure
  procedure_begins = refl

  group_avoids : AllAvoid (wants.RuleName ∷ all_enders) (procedure_group m d)
  unfolding name procedure procedure_group excludes meets same_kind
  group_avoids = search

  group_fits : Fits (procedure_group m d)
  unfolding procedure_group
  group_fits = (procedure_fits, (rules_fit m, procedure_follow (rules m) (second_avoided rule_enders command_enders (rules m) (rules_avoid m))))

  group_full : nullable (procedure_group m d) ≡ false
  unfolding name procedure procedure_group
  group_full = refl

  group_begins : BeginsBy wants.ProcedureName (procedure_group m d)
  unfolding name procedure procedure_group
  group_begins = refl

  group_follow : {A : Type 0} (g : Grammar A) → AllAvoid (wants.RuleName ∷ all_enders) g → AllAvoid (enders (procedure_group m d)) g
  unfolding procedure_group rules
  group_follow g a =
      avoid_both (enders (rules m)) (enders (procedure m d)) g (rules_follow m g a.0 (first_avoided rule_enders command_enders g a.1)) (procedure_follow g (second_avoided rule_enders command_enders g a.1))

  groups_avoid : (ws : List Want) → AllAvoid ws (procedure_group m d) → AllAvoid ws (Repeated wants.ProcedureName (procedure_group m d))
  groups_avoid [] a = tt
  groups_avoid (w ∷ ws) a = ((group_full, a.0), groups_avoid ws a.1)

  declarations_in_fit : Fits (declarations_in m d)
  unfolding declarations_in
  declarations_in_fit =
      let g = procedure_group m d in (
        rules_fit m,
        (
          (group_fits, (group_full, (group_begins, group_follow g group_avoids))),
          rules_follow m (Repeated wants.ProcedureName g) (group_full, group_avoids.0) (groups_avoid rule_enders (first_avoided rule_enders command_enders g group_avoids.1)),
        ),
      )

  declarations_in_follow : {A : Type 0} (g : Grammar A) → AllAvoid (wants.ProcedureName ∷ wants.RuleName ∷ all_enders) g → AllAvoid (enders (declarations_in m d)) g
  unfolding declarations_in
  declarations_in_follow g a =
      avoid_both (wants.ProcedureName ∷ enders (procedure_group m d)) (enders (rules m)) g (a.0, group_follow g a.1) (rules_follow m g a.1.0 (first_avoided rule_enders command_enders g a.1.1))

mutual
  unfolding declarations

  declarations_fit : (m n : ℕ) → Fits (declarations m n)
  declarations_fit m zero = tt
  declarations_fit m (suc n) = declarations_in_fit m (declarations m n) (declarations_fit m n) (declarations_close m n)

  declarations_close : (m n : ℕ) → AllAvoid (enders (declarations m n)) (One close_bracket)
  declarations_close m zero = tt
  declarations_close m (suc n) = declarations_in_follow m (declarations m n) (declarations_fit m n) (declarations_close m n) (One close_bracket) bracket_follows

-- ---- programs

pub program_sound : (m : ℕ) → Sound (reader_of (program m)) (shape_of (program m))
program_sound m = all_sound (program m)

program_fits : (m : ℕ) → Fits (program m)
unfolding program
program_fits m = declarations_in_fit m (declarations m m) (declarations_fit m m) (declarations_close m m)

none_at_end : (ws : List Want) → NoneOf ws []
none_at_end [] = tt
none_at_end (w ∷ ws) = (record { none = refl }, none_at_end ws)

pub program_again : (m : ℕ) (tokens : List Token) (x : Ranged Ast) → shape_of (program m) tokens [] x → reader_of (program m) tokens ≡ Some (x, [])
program_again m tokens x h = all_again (program m) (program_fits m) tokens [] x h (none_at_end (enders (program m)))
