-- The grammar of declarations and of programs.
use Rattle.std.specs.Prelude.{ℕ, zero, suc, List, [], ◌∷◌}
use Rattle.gp_tokens.specs.declared.token.Token.{Token}
use Rattle.gp_tokens.specs.declared.want.Want.TheVariants as wants
use Rattle.gp_tokens.specs.Grammar.{Grammar, One, Made, At, Absent, Repeated, Never, ◌followed_by◌}
use Rattle.gp_tokens.specs.SignWants.{open_bracket, close_bracket, equal}
use Rattle.gp_values.specs.Names.{Name}
use Rattle.gp_syntax.specs.declared.tree.Ast.{Ast}
use Rattle.gp_syntax.specs.declared.tree.CommandTree.{CommandTree}
use Rattle.gp_syntax.specs.declared.tree.RuleDecl.{RuleDecl}
use Rattle.gp_syntax.specs.declared.tree.Decl.{Decl}
use Rattle.gp_syntax.specs.declared.tree.Decl.TheVariants as declared
use Rattle.gp_expressions.specs.declared.ranged.Ranged.{Ranged}
use Rattle.gp_expressions.specs.Ranges.{whole, with, both, gathered, all_joined}
use Rattle.gp_expressions.specs.Expressions.{name, inner}
use Rattle.gp_program.specs.Rules.{rule}
use Rattle.gp_program.specs.Commands.{commands_of}

abbrev pub rule_decl : Ranged RuleDecl → Ranged Decl
rule_decl r = with declared.Rule r

abbrev pub procedure_of : Name × (Token × (Ranged (List Decl) × CommandTree)) → Ranged Decl
procedure_of (n, (_, (locals, body))) = with (λ ds. declared.Procedure n ds body) locals

abbrev pub procedure_first : Ranged Decl × Ranged (List Decl) → Ranged (List Decl)
procedure_first (p, rules) = both (λ d ds. d ∷ ds) p rules

abbrev pub rules_first : Ranged (List Decl) × List (Ranged (List Decl)) → Ranged (List Decl)
rules_first (rules, groups) = all_joined (rules ∷ groups)

-- {RuleDecl}, with so much room
unfoldable pub rules : ℕ → Grammar (Ranged (List Decl))
rules room = Made gathered (Repeated wants.RuleName (Made rule_decl (rule room)))

-- ["[" {Decl} "]"]
unfoldable pub locals : Grammar (Ranged (List Decl)) → Grammar (Ranged (List Decl))
locals inside = At open_bracket (Made inner (One open_bracket followed_by inside followed_by One close_bracket)) (Absent (whole []))

-- ProcName "=" ["[" {Decl} "]"] ComSeq
unfoldable pub procedure : ℕ → Grammar (Ranged (List Decl)) → Grammar (Ranged Decl)
procedure room inside = Made procedure_of (name wants.ProcedureName followed_by One equal followed_by locals inside followed_by commands_of room)

-- a procedure, and the rules between it and the next
unfoldable pub procedure_group : ℕ → Grammar (Ranged (List Decl)) → Grammar (Ranged (List Decl))
procedure_group room inside = Made procedure_first (procedure room inside followed_by rules room)

-- {Decl}, Decl = ProcName "=" ["[" {Decl} "]"] ComSeq | RuleDecl: rules, and then each procedure with the rules behind it
unfoldable pub declarations_in : ℕ → Grammar (Ranged (List Decl)) → Grammar (Ranged (List Decl))
declarations_in room inside = Made rules_first (rules room followed_by Repeated wants.ProcedureName (procedure_group room inside))

-- the second number is the room: one less at each bracket
unfoldable pub declarations : ℕ → ℕ → Grammar (Ranged (List Decl))
declarations room zero = Never
declarations room (suc n) = declarations_in room (declarations room n)

abbrev pub ast_of : Ranged (List Decl) → Ranged Ast
ast_of r = with (λ ds. record { declarations = ds }) r

-- Program = {Decl}, with so much room
unfoldable pub program : ℕ → Grammar (Ranged Ast)
program room = Made ast_of (declarations_in room (declarations room room))
