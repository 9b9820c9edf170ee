-- What the stages of reading a program text answer.
use Rattle.std.specs.Prelude.{◌≡◌, ◌≢◌, ℕ, List, [], ◌∷◌, ◌++◌, map, Some, None, Result, Ok, Err}
use Rattle.gp_memory.specs.Free.{Free}
use Rattle.gp_values.specs.Names.{Name}
use Rattle.gp_tokens.specs.declared.fault.LexFault.{LexFault}
use Rattle.gp_tokens.specs.declared.fault.LexFault.TheVariants as lex_faults
use Rattle.gp_tokens.specs.declared.token.Token.{Token}
use Rattle.gp_tokens.specs.Lexed.{tokens_of}
use Rattle.gp_tokens.specs.Lines.{token_line}
use Rattle.gp_syntax.specs.declared.tree.Ast.{Ast}
use Rattle.gp_syntax.specs.declared.rule.RuleParts.{RuleParts}
use Rattle.gp_syntax.specs.Declaration.{Declaration, rule_of}
use Rattle.gp_syntax.specs.Tree.{rule_of_tree}
use Rattle.gp_syntax.specs.Fault.{Fault, fault_of}
use Rattle.gp_program.specs.declared.parse.ParseFault.{ParseFault}
use Rattle.gp_program.specs.declared.parse.ParseFault.TheVariants as parse_faults
use Rattle.gp_scope.specs.declared.fault.ScopeFault.{ScopeFault}
use Rattle.gp_scope.specs.declared.fault.ScopeFault.TheVariants as scope_faults
use Rattle.gp_scope.specs.Outline.{outline}
use Rattle.gp_reader.specs.declared.scoped.ScopedParts.{ScopedParts}
use Rattle.gp_reader.specs.Resolution.{IsResolved}
use Rattle.gp_check.specs.declared.fault.RuleFault.{RuleFault}
use Rattle.gp_check.specs.declared.fault.RuleFault.TheVariants as rule_faults
use Rattle.gp_check.specs.Answer.{Refuses}
use Rattle.gp_reader.specs.declared.fault.ProgramFault.{ProgramFault}
use Rattle.gp_reader.specs.declared.fault.ProgramFault.TheVariants as faults
use Rattle.gp_reader.specs.Program.{IsScopedText, IsRefusal, ReadsTree, HasNames, rule_names, first_faulty}

-- ---- faults of the stages as those of a program

abbrev pub lex_fault : LexFault → ProgramFault
lex_fault lex_faults.NoMemory = faults.NoMemory
lex_fault (lex_faults.BadByte at) = faults.Lex (lex_faults.BadByte at)
lex_fault (lex_faults.OpenString at) = faults.Lex (lex_faults.OpenString at)
lex_fault (lex_faults.OpenComment at) = faults.Lex (lex_faults.OpenComment at)
lex_fault (lex_faults.NumberTooLong at) = faults.Lex (lex_faults.NumberTooLong at)

abbrev pub scope_fault : ScopeFault → ProgramFault
scope_fault scope_faults.NoMain = faults.Scope scope_faults.NoMain
scope_fault scope_faults.TwoMains = faults.Scope scope_faults.TwoMains
scope_fault (scope_faults.TwoRules n) = faults.Scope (scope_faults.TwoRules n)
scope_fault (scope_faults.Unknown n) = faults.Scope (scope_faults.Unknown n)
scope_fault (scope_faults.Recursive n) = faults.Scope (scope_faults.Recursive n)
scope_fault (scope_faults.DeepCalls n) = faults.Scope (scope_faults.DeepCalls n)
scope_fault scope_faults.StrayBreak = faults.Scope scope_faults.StrayBreak
scope_fault scope_faults.NoMemory = faults.NoMemory

-- of a rule of this name
abbrev pub rule_fault : Name → RuleFault → ProgramFault
rule_fault name rule_faults.TooLarge = faults.Rule name rule_faults.TooLarge
rule_fault name (rule_faults.TwiceDeclared n) = faults.Rule name (rule_faults.TwiceDeclared n)
rule_fault name (rule_faults.UnknownNode n) = faults.Rule name (rule_faults.UnknownNode n)
rule_fault name (rule_faults.BadInterface n) = faults.Rule name (rule_faults.BadInterface n)
rule_fault name (rule_faults.Unbound n) = faults.Rule name (rule_faults.Unbound n)
rule_fault name rule_faults.BadType = faults.Rule name rule_faults.BadType
rule_fault name rule_faults.NotSimple = faults.Rule name rule_faults.NotSimple
rule_fault name rule_faults.BadMark = faults.Rule name rule_faults.BadMark
rule_fault name (rule_faults.BadBidi n) = faults.Rule name (rule_faults.BadBidi n)
rule_fault name rule_faults.NoMemory = faults.NoMemory

-- the fault of a text by that of its tokens: with the line of the token
abbrev pub with_line : List ℕ → List Token → ParseFault → ProgramFault
with_line bytes tokens (parse_faults.TooDeep k) = faults.TooDeep (token_line bytes tokens k)
with_line bytes tokens (parse_faults.Syntax k) = faults.Syntax (token_line bytes tokens k)
with_line bytes tokens (parse_faults.NumberRange k) = faults.NumberRange (token_line bytes tokens k)
with_line bytes tokens parse_faults.NoMemory = faults.NoMemory

-- ---- what the stages answer

-- the tree of a text, or why it has none, where these are its tokens
abbrev pub IsParsed : List ℕ → List Token → Result Ast ProgramFault → Type 0
IsParsed bytes tokens r = tokens_of bytes ≡ Ok tokens → ReadsTree bytes r

-- a text without a fault of names or calls, with its bodies and its declarations of rules
pub record HasScoped (bytes : List ℕ) (s : ScopedParts) : Type 0 where
  pub tree : Ast
  pub scoped : IsScopedText bytes tree
  pub resolved : IsResolved (outline tree.declarations) s

abbrev pub ReadsScoped : List ℕ → Result ScopedParts ProgramFault → Type 0
ReadsScoped bytes (Ok s) = HasScoped bytes s
ReadsScoped bytes (Err e) = IsRefusal bytes e

-- the fault of the first declaration that has one
pub record IsFirstFault (ds : List Declaration) (name : Name) (e : RuleFault) : Type 0 where
  pub fault : Fault
  pub first : first_faulty ds ≡ Some (name, fault)
  pub told : Refuses e (Some fault)
  pub known : e ≢ rule_faults.NoMemory

abbrev pub RefusesRules : List Declaration → ProgramFault → Type 0
RefusesRules ds (faults.Rule name e) = IsFirstFault ds name e
RefusesRules ds faults.NoMemory = Free
RefusesRules ds (faults.Lex e) = ⊥
RefusesRules ds (faults.TooDeep line) = ⊥
RefusesRules ds (faults.Syntax line) = ⊥
RefusesRules ds (faults.NumberRange line) = ⊥
RefusesRules ds (faults.Scope e) = ⊥

-- no declaration has a fault, and these are their rules
pub record AreChecked (ds : List Declaration) (rules : List RuleParts) : Type 0 where
  pub faultless : first_faulty ds ≡ None
  pub are : map rule_of_tree rules ≡ map rule_of ds
  pub names : HasNames ds rules

abbrev pub ChecksRules : List Declaration → Result (List RuleParts) ProgramFault → Type 0
ChecksRules ds (Ok rules) = AreChecked ds rules
ChecksRules ds (Err e) = RefusesRules ds e

-- one declaration more
pub record IsOneMore (d : Declaration) (old new : List RuleParts) : Type 0 where
  pub faultless : fault_of d ≡ None
  pub are : map rule_of_tree new ≡ map rule_of_tree old ++ rule_of d ∷ []
  pub names : rule_names new ≡ rule_names old ++ d.name ∷ []

abbrev pub ChecksOne : {X : Type 0} → Declaration → List RuleParts → List RuleParts → Result X ProgramFault → Type 0
ChecksOne d old new (Ok x) = IsOneMore d old new
ChecksOne d old new (Err e) = RefusesRules (d ∷ []) e
