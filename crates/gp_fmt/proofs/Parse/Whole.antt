-- The tokens of the canonical text of a tree have that tree.
use Rattle.std.proofs.Common.{ℕ, zero, suc, ◌≤◌, List, [], ◌∷◌, length, All, None, refl, arith}
use Rattle.std.specs.List.{AllByRecursion}
use Rattle.std.proofs.lemmas.List.Elements.{recursion_from_All, All-from_recursion}
use Rattle.gp_memory.proofs.Basics.{neither as none_of}
use Rattle.gp_tokens.specs.declared.token.Token.{Token}
use Rattle.gp_values.specs.Names.{Name}
use Rattle.gp_tokens.specs.declared.want.Want.TheVariants as wants
use Rattle.gp_tokens.specs.Grammar.{Grammar, shape_of}
use Rattle.gp_tokens.specs.SignWants.{open_bracket, close_bracket, equal}
use Rattle.gp_syntax.specs.declared.tree.Ast.{Ast}
use Rattle.gp_syntax.specs.declared.tree.CommandTree.{CommandTree}
use Rattle.gp_syntax.specs.declared.tree.Decl.{Decl}
use Rattle.gp_expressions.specs.declared.ranged.Ranged.{Ranged}
use Rattle.gp_expressions.specs.Ranges.{whole, gathered}
use Rattle.gp_expressions.specs.Expressions.{inner}
use Rattle.gp_program.specs.Programs.{rule_decl, procedure_of, procedure_first, rules_first, rules, locals, procedure, procedure_group, declarations_in, declarations, ast_of, program}
use Rattle.gp_program.specs.Program.{IsTree}
use Rattle.gp_program.proofs.Widening.{programs_have_room}
use Rattle.gp_fmt.specs.Pieces.{AreTokens}
use Rattle.gp_fmt.specs.Canonical.{pieces_of}
use Rattle.gp_fmt.specs.inside.Spelled.{IsWellSpelled, IsSpelledToken}
use Rattle.gp_fmt.proofs.Parse.Printed.{Anything, printed_whole}
use Rattle.gp_fmt.proofs.Parse.Gives.{Gives, then_gives, behind_gives, made_gives, either_gives, absent_gives, many_gives}
use Rattle.gp_fmt.proofs.Parse.Names.{IsNamed, name_gives}
use Rattle.gp_fmt.proofs.Parse.Names as names
use Rattle.gp_fmt.proofs.Parse.Ranges.{InRange, gathered_all, joined_all}
use Rattle.gp_fmt.proofs.Parse.Labels.{between_gives}
use Rattle.gp_fmt.proofs.Parse.CommandParts.{IsGoodCommand}
use Rattle.gp_fmt.proofs.Parse.Commands.{commands_give}
use Rattle.gp_fmt.proofs.Parse.Rules.{IsGoodRule}
use Rattle.gp_fmt.proofs.Parse.ReadRules.{rule_gives}
use Rattle.gp_fmt.proofs.Parse.Declarations.{IsGoodDecl, good_rule_decl, good_procedure_decl, good_list, list_well}

abbrev AreGood : List Decl → Type 0
AreGood ds = AllByRecursion IsGoodDecl ds

rules_give : (m : ℕ) → Gives (shape_of (rules m)) (InRange AreGood)
unfolding rules
rules_give m =
    made_gives gathered _ (AllByRecursion (InRange IsGoodDecl)) (InRange AreGood) (gathered_all IsGoodDecl)
    (many_gives _ (InRange IsGoodDecl) (made_gives rule_decl _ (InRange IsGoodRule) (InRange IsGoodDecl) (λ r h none. good_rule_decl r.tree (h none)) (rule_gives m)))

module _ (m : ℕ) (inside : Grammar (Ranged (List Decl))) (g : Gives (shape_of inside) (InRange AreGood)) where
  locals_give : Gives (shape_of (locals inside)) (InRange AreGood)
  unfolding locals
  locals_give =
      either_gives _ _ (InRange AreGood) (made_gives inner _ (λ (x : Token × (Ranged (List Decl) × Token)). InRange AreGood x.1.0 × Anything x.1.1) (InRange AreGood) (λ x h. h.0) (between_gives open_bracket close_bracket _ (InRange AreGood) g))
      (absent_gives (whole []) (InRange AreGood) (λ _. tt))

  procedure_gives : Gives (shape_of (procedure m inside)) (InRange IsGoodDecl)
  unfolding procedure
  procedure_gives =
      made_gives procedure_of _ (λ (x : Name × (Token × (Ranged (List Decl) × CommandTree))). IsNamed wants.ProcedureName x.0 × (InRange AreGood x.1.1.0 × IsGoodCommand x.1.1.1)) (InRange IsGoodDecl)
      (λ x h none. good_procedure_decl x.0 x.1.1.0.tree x.1.1.1 h.0 (h.1.0 none) h.1.1)
      (then_gives _ _ (IsNamed wants.ProcedureName) (λ (x : Token × (Ranged (List Decl) × CommandTree)). InRange AreGood x.1.0 × IsGoodCommand x.1.1) (name_gives wants.ProcedureName names.procedure)
      (behind_gives equal _ (λ (x : Ranged (List Decl) × CommandTree). InRange AreGood x.0 × IsGoodCommand x.1) (then_gives _ _ (InRange AreGood) IsGoodCommand locals_give (commands_give m))))

  first_good : (x : Ranged Decl × Ranged (List Decl)) → InRange IsGoodDecl x.0 × InRange AreGood x.1 → InRange AreGood (procedure_first x)
  first_good x h none = let n = none_of x.0.past x.1.past none in (h.0 n.0, h.1 n.1)

  group_gives : Gives (shape_of (procedure_group m inside)) (InRange AreGood)
  unfolding procedure_group
  group_gives =
      made_gives procedure_first _ (λ (x : Ranged Decl × Ranged (List Decl)). InRange IsGoodDecl x.0 × InRange AreGood x.1) (InRange AreGood) first_good (then_gives _ _ (InRange IsGoodDecl) (InRange AreGood) procedure_gives (rules_give m))

  all_good : (x : Ranged (List Decl) × List (Ranged (List Decl))) → InRange AreGood x.0 × AllByRecursion (InRange AreGood) x.1 → InRange AreGood (rules_first x)
  all_good x h none = joined_all IsGoodDecl (x.0 ∷ x.1) h none

  declarations_in_give : Gives (shape_of (declarations_in m inside)) (InRange AreGood)
  unfolding declarations_in
  declarations_in_give =
      made_gives rules_first _ (λ (x : Ranged (List Decl) × List (Ranged (List Decl))). InRange AreGood x.0 × AllByRecursion (InRange AreGood) x.1) (InRange AreGood) all_good
      (then_gives _ _ (InRange AreGood) (AllByRecursion (InRange AreGood)) (rules_give m) (many_gives _ (InRange AreGood) group_gives))

declarations_give : (m n : ℕ) → Gives (shape_of (declarations m n)) (InRange AreGood)
unfolding declarations
declarations_give m zero = λ ts rest x s h. absurd h
declarations_give m (suc n) = declarations_in_give m (declarations m n) (declarations_give m n)

program_gives : (m : ℕ) → Gives (shape_of (program m)) (InRange (λ (ast : Ast). AreGood ast.declarations))
unfolding program
program_gives m = made_gives ast_of _ (InRange AreGood) (InRange (λ (ast : Ast). AreGood ast.declarations)) (λ r h. h) (declarations_in_give m (declarations m m) (declarations_give m m))

all_good_in : (tokens : List Token) (ast : Ast) → All IsSpelledToken tokens → IsTree tokens ast → AreGood ast.declarations
all_good_in tokens ast s h = (program_gives (length tokens) tokens [] (record { tree = ast; past = None }) (recursion_from_All IsSpelledToken tokens s) h).0 refl

-- each token of the canonical text of a tree is well spelled
pub all_well_spelled : (tokens : List Token) (ast : Ast) → All IsSpelledToken tokens → IsTree tokens ast → All IsWellSpelled (pieces_of ast)
all_well_spelled tokens ast s h = All-from_recursion IsWellSpelled (pieces_of ast) (list_well ast.declarations (all_good_in tokens ast s h))

program_read : (n : ℕ) (ast : Ast) (again : List Token) → shape_of (declarations_in n (declarations n n)) again [] (whole ast.declarations) → shape_of (program n) again [] (whole ast)
unfolding program
program_read n ast again h = record { of = whole ast.declarations; shape = h; made = refl }

-- the tokens of the canonical text of a tree have that tree
pub read_again : (tokens again : List Token) (ast : Ast) → All IsSpelledToken tokens → IsTree tokens ast → AreTokens (pieces_of ast) again → IsTree again ast
read_again tokens again ast s h are =
    let good = good_list ast.declarations (all_good_in tokens ast s h) in
    let enough : good.room ≤ good.room = omega arith in
    programs_have_room good.room again (whole ast) (program_read good.room ast again (good.holds good.room good.room enough enough again [] (printed_whole (pieces_of ast) again are)))
