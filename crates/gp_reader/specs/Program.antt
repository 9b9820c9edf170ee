-- The program of a text, and the first fault of a text that has none. The order is: tokens, nesting, syntax, numerals,
-- names and calls, and then the rules in the order of the text.
use Rattle.std.specs.Prelude.{◌≡◌, ◌≢◌, ℕ, List, [], ◌∷◌, map, Option, Some, None, option_map, Result, Ok, Err}
use Rattle.std.specs.Option.{option_or}
use Rattle.gp_memory.specs.Free.{Free}
use Rattle.gp_values.specs.Names.{Name}
use Rattle.gp_tokens.specs.declared.fault.LexFault.{LexFault}
use Rattle.gp_tokens.specs.declared.fault.LexFault.TheVariants as lex_faults
use Rattle.gp_tokens.specs.declared.token.Token.{Token}
use Rattle.gp_tokens.specs.Lexed.{tokens_of}
use Rattle.gp_tokens.specs.Lines.{token_line}
use Rattle.gp_program.specs.Depth.{IsTooDeep, IsShallow}
use Rattle.gp_syntax.specs.declared.tree.Ast.{Ast}
use Rattle.gp_syntax.specs.declared.command.ProgramParts.{ProgramParts}
use Rattle.gp_syntax.specs.declared.rule.RuleParts.{RuleParts}
use Rattle.gp_syntax.specs.Declaration.{Declaration, rule_of}
use Rattle.gp_syntax.specs.Tree.{declaration_of, program_of_tree, rule_of_tree}
use Rattle.gp_syntax.specs.Fault.{Fault, fault_of}
use Rattle.gp_syntax.specs.Run.{Program}
use Rattle.gp_program.specs.Program.{IsTree, IsNoProgram, IsPastRange}
use Rattle.gp_scope.specs.declared.fault.ScopeFault.{ScopeFault}
use Rattle.gp_scope.specs.Outline.{outline, rules_in}
use Rattle.gp_scope.specs.Resolved.{program_with}
use Rattle.gp_scope.specs.Fault.{IsFault, told}
use Rattle.gp_scope.specs.Fault as scoping
use Rattle.gp_reader.specs.Resolution.{IsFaultless}
use Rattle.gp_check.specs.declared.fault.RuleFault.{RuleFault}
use Rattle.gp_check.specs.declared.fault.RuleFault.TheVariants as rule_faults
use Rattle.gp_check.specs.Answer.{Refuses}
use Rattle.gp_reader.specs.declared.fault.ProgramFault.{ProgramFault}
use Rattle.gp_reader.specs.declared.fault.ProgramFault.TheVariants as faults

-- ---- stages of a text

-- the text has these tokens, and none is nested too deep
pub record HasTokens (bytes : List ℕ) (tokens : List Token) : Type 0 where
  pub lexed : tokens_of bytes ≡ Ok tokens
  pub shallow : IsShallow tokens

-- they are a program whose numerals are in range, and this is its tree
pub record HasTree (bytes : List ℕ) (tree : Ast) : Type 0 where
  pub tokens : List Token
  pub has_tokens : HasTokens bytes tokens
  pub is_tree : IsTree tokens tree

-- and no name and no call is at fault
pub record IsScopedText (bytes : List ℕ) (tree : Ast) : Type 0 where
  pub has_tree : HasTree bytes tree
  pub faultless : IsFaultless (outline tree.declarations)

-- the rules that are declared, in text order
abbrev pub declared_rules : Ast → List Declaration
declared_rules tree = map declaration_of (rules_in (outline tree.declarations))

-- the first rule with a fault, by its name, and that fault
abbrev pub first_faulty : List Declaration → Option (Name × Fault)
first_faulty [] = None
first_faulty (d ∷ ds) = option_or (option_map (λ f. (d.name, f)) (fault_of d)) (first_faulty ds)

-- ---- the program of a text, and its first fault

-- The text has no fault, and this is its program: the bodies with numbers in place of names, and each rule that is declared.
pub record IsProgramText (bytes : List ℕ) (p : Program) : Type 0 where
  pub tree : Ast
  pub scoped : IsScopedText bytes tree
  pub checked : first_faulty (declared_rules tree) ≡ None
  pub is : p ≡ program_with (outline tree.declarations) (map rule_of (declared_rules tree))

-- The first fault of a text that has no tree. It is left open which token a fault of syntax tells the line of.
pub data IsTreelessText (bytes : List ℕ) : ProgramFault → Type 0 where
  lex : {e : LexFault} → tokens_of bytes ≡ Err e → e ≢ lex_faults.NoMemory → IsTreelessText bytes (faults.Lex e)
  too_deep : (tokens : List Token) (k : ℕ) → tokens_of bytes ≡ Ok tokens → IsTooDeep tokens k → IsTreelessText bytes (faults.TooDeep (token_line bytes tokens k))
  syntax : (tokens : List Token) (k : ℕ) → HasTokens bytes tokens → IsNoProgram tokens k → IsTreelessText bytes (faults.Syntax (token_line bytes tokens k))
  number_range : (tokens : List Token) (k : ℕ) → HasTokens bytes tokens → IsPastRange tokens k → IsTreelessText bytes (faults.NumberRange (token_line bytes tokens k))

-- The first fault of the text.
pub data IsFaultyText (bytes : List ℕ) : ProgramFault → Type 0 where
  treeless : {e : ProgramFault} → IsTreelessText bytes e → IsFaultyText bytes e
  scope : {e : ScopeFault} {f : scoping.Fault} (tree : Ast) → HasTree bytes tree → IsFault (outline tree.declarations) f → told e ≡ Some f → IsFaultyText bytes (faults.Scope e)
  rule : {name : Name} {e : RuleFault} {f : Fault} (tree : Ast) → IsScopedText bytes tree → first_faulty (declared_rules tree) ≡ Some (name, f) → Refuses e (Some f) → e ≢ rule_faults.NoMemory →
      IsFaultyText bytes (faults.Rule name e)

-- a fault is that of a text without a tree; want of memory may come at any text
abbrev pub IsTreeRefusal : List ℕ → ProgramFault → Type 0
IsTreeRefusal bytes faults.NoMemory = Free
IsTreeRefusal bytes (faults.Lex e) = IsTreelessText bytes (faults.Lex e)
IsTreeRefusal bytes (faults.TooDeep line) = IsTreelessText bytes (faults.TooDeep line)
IsTreeRefusal bytes (faults.Syntax line) = IsTreelessText bytes (faults.Syntax line)
IsTreeRefusal bytes (faults.NumberRange line) = IsTreelessText bytes (faults.NumberRange line)
IsTreeRefusal bytes (faults.Scope e) = ⊥
IsTreeRefusal bytes (faults.Rule name e) = ⊥

-- the answer is the tree of the text, or the first fault of a text that has none
abbrev pub ReadsTree : List ℕ → Result Ast ProgramFault → Type 0
ReadsTree bytes (Ok tree) = HasTree bytes tree
ReadsTree bytes (Err f) = IsTreeRefusal bytes f

-- a fault is the first of the text; want of memory may come at any text
abbrev pub IsRefusal : List ℕ → ProgramFault → Type 0
IsRefusal bytes faults.NoMemory = Free
IsRefusal bytes (faults.Lex e) = IsFaultyText bytes (faults.Lex e)
IsRefusal bytes (faults.TooDeep line) = IsFaultyText bytes (faults.TooDeep line)
IsRefusal bytes (faults.Syntax line) = IsFaultyText bytes (faults.Syntax line)
IsRefusal bytes (faults.NumberRange line) = IsFaultyText bytes (faults.NumberRange line)
IsRefusal bytes (faults.Scope e) = IsFaultyText bytes (faults.Scope e)
IsRefusal bytes (faults.Rule name e) = IsFaultyText bytes (faults.Rule name e)

-- the names of rules in memory are those of the declarations
abbrev pub rule_names : List RuleParts → List Name
rule_names rules = map (λ (r : RuleParts). r.name) rules

abbrev pub HasNames : List Declaration → List RuleParts → Type 0
HasNames ds rules = rule_names rules ≡ map (λ (d : Declaration). d.name) ds

-- the answer is the program of the text, with the names of its rules, or the first fault of the text
abbrev pub ReadsProgram : List ℕ → Result ProgramParts ProgramFault → Type 0
ReadsProgram bytes (Ok p) = (t : IsProgramText bytes (program_of_tree p)) × HasNames (declared_rules t.tree) p.rules
ReadsProgram bytes (Err f) = IsRefusal bytes f

-- these are the rules of the program of the text
pub record HasRules (bytes : List ℕ) (rules : List RuleParts) : Type 0 where
  pub program : Program
  pub is_text : IsProgramText bytes program
  pub are : program.rules ≡ map rule_of_tree rules

abbrev pub ReadsRules : List ℕ → Result (List RuleParts) ProgramFault → Type 0
ReadsRules bytes (Ok rules) = HasRules bytes rules
ReadsRules bytes (Err f) = IsRefusal bytes f
