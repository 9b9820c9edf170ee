-- A text has a tree or a fault, and one without a fault is a program's.
use Rattle.std.proofs.Common.{◌≡◌, ◌≢◌, ◌⊎◌, inl, inr, ℕ, List, map, Option, Some, None, Ok, Err, refl}
use Rattle.std.specs.Prelude.{Result}
use Rattle.gp_values.specs.Names.{Name}
use Rattle.gp_tokens.specs.declared.fault.LexFault.{LexFault}
use Rattle.gp_tokens.specs.declared.fault.LexFault.TheVariants as lex_faults
use Rattle.gp_tokens.specs.declared.token.Token.{Token}
use Rattle.gp_tokens.specs.Cut.{IsFaultFrom, IsStuck, bad_byte, bad_byte_in_string, open_string, open_comment, number_too_long, here, later}
use Rattle.gp_tokens.specs.Lexed.{Outcome, tokens_of}
use Rattle.gp_tokens.specs.Laws.{RefusalsAreTheFault}
use Rattle.gp_syntax.specs.declared.tree.Ast.{Ast}
use Rattle.gp_syntax.specs.Declaration.{rule_of}
use Rattle.gp_syntax.specs.Fault.{Fault}
use Rattle.gp_syntax.specs.Fault as meant
use Rattle.gp_syntax.specs.Run.{Program}
use Rattle.gp_program.specs.declared.parse.ParseFault.{ParseFault}
use Rattle.gp_program.specs.declared.parse.ParseFault.TheVariants as parse_faults
use Rattle.gp_program.specs.Program.{ParsesProgram}
use Rattle.gp_program.specs.Laws.{TokensHaveAnAnswer}
use Rattle.gp_scope.specs.Outline.{outline}
use Rattle.gp_scope.specs.Resolved.{program_with}
use Rattle.gp_reader.specs.Resolution.{IsFaultless}
use Rattle.gp_check.specs.declared.fault.RuleFault.TheVariants as rule_faults
use Rattle.gp_check.specs.Answer.{Refuses}
use Rattle.gp_reader.specs.declared.fault.ProgramFault.{ProgramFault}
use Rattle.gp_reader.specs.declared.fault.ProgramFault.TheVariants as faults
use Rattle.gp_reader.specs.Program.{HasTree, IsScopedText, IsProgramText, IsTreelessText, IsFaultyText, lex, too_deep, syntax, number_range, treeless, scope, rule, declared_rules, first_faulty}
use Rattle.gp_reader.specs.Laws.{TextsHaveATreeOrAFault, TextsHaveAnAnswer}
use Rattle.gp_reader.proofs.Unique.{scope_answer, is_told, rule_answer}

-- ---- the lexer is never in want of memory

stuck_for_no_memory : (at : ℕ) (text : List ℕ) (e : LexFault) → IsStuck at text e → e ≢ lex_faults.NoMemory
stuck_for_no_memory at _ _ (bad_byte a b c d) h = cc
stuck_for_no_memory at _ _ (bad_byte_in_string i b t p q r) h = cc
stuck_for_no_memory at _ _ (open_string p) h = cc
stuck_for_no_memory at _ _ (open_comment p) h = cc
stuck_for_no_memory at _ _ (number_too_long t b p q r) h = cc

fault_is_no_memory : (source : List ℕ) (at : ℕ) (e : LexFault) → IsFaultFrom source at e → e ≢ lex_faults.NoMemory
fault_is_no_memory source at e (here le g s) h = stuck_for_no_memory _ _ e s h
fault_is_no_memory source at e (later le g t rest) h = fault_is_no_memory source _ e rest h

-- ---- the clause that a rule breaks is told

is_refused : (f : Fault) → Refuses (rule_answer f) (Some f)
is_refused meant.TooLarge = refl
is_refused (meant.TwiceDeclared n) = refl
is_refused (meant.UnknownNode n) = refl
is_refused (meant.BadInterface n) = refl
is_refused (meant.Unbound n) = refl
is_refused meant.BadType = refl
is_refused meant.NotSimple = refl
is_refused meant.BadMark = refl
is_refused (meant.BadBidi n) = refl

is_known : (f : Fault) → rule_answer f ≢ rule_faults.NoMemory
is_known meant.TooLarge h = cc
is_known (meant.TwiceDeclared n) h = cc
is_known (meant.UnknownNode n) h = cc
is_known (meant.BadInterface n) h = cc
is_known (meant.Unbound n) h = cc
is_known meant.BadType h = cc
is_known meant.NotSimple h = cc
is_known meant.BadMark h = cc
is_known (meant.BadBidi n) h = cc

-- ---- trees

module _ (bytes : List ℕ) where
  parsed : (tokens : List Token) → tokens_of bytes ≡ Ok tokens → (r : Result Ast ParseFault) → r ≢ Err parse_faults.NoMemory → ParsesProgram tokens r → ((t : Ast) × HasTree bytes t) ⊎ ((e : ProgramFault) × IsTreelessText bytes e)
  parsed tokens lexed (Ok tree) known h = inl (tree, record { tokens = tokens; has_tokens = record { lexed = lexed; shallow = h.0 }; is_tree = h.1 })
  parsed tokens lexed (Err (parse_faults.TooDeep k)) known h = inr (_, too_deep tokens k lexed h)
  parsed tokens lexed (Err (parse_faults.Syntax k)) known h = inr (_, syntax tokens k (record { lexed = lexed; shallow = h.0 }) h.1)
  parsed tokens lexed (Err (parse_faults.NumberRange k)) known h = inr (_, number_range tokens k (record { lexed = lexed; shallow = h.0 }) h.1)
  parsed tokens lexed (Err parse_faults.NoMemory) known h = absurd (known refl)

  lexed_as : RefusalsAreTheFault → TokensHaveAnAnswer → (o : Outcome) → tokens_of bytes ≡ o → ((t : Ast) × HasTree bytes t) ⊎ ((e : ProgramFault) × IsTreelessText bytes e)
  lexed_as refusals answers (Ok tokens) h = let a = answers tokens in parsed tokens h a.0 a.1 a.2
  lexed_as refusals answers (Err e) h = inr (faults.Lex e, lex h (fault_is_no_memory bytes 0 e (refusals.is_fault bytes e h)))

pub a_tree_or_a_fault : RefusalsAreTheFault → TokensHaveAnAnswer → TextsHaveATreeOrAFault
a_tree_or_a_fault refusals answers bytes = lexed_as bytes refusals answers (tokens_of bytes) refl

-- ---- programs

module _ (bytes : List ℕ) (none : (e : ProgramFault) → IsFaultyText bytes e → ⊥) where
  checked : (tree : Ast) (scoped : IsScopedText bytes tree) (o : Option (Name × Fault)) → first_faulty (declared_rules tree) ≡ o → (p : Program) × IsProgramText bytes p
  checked tree scoped None h = (program_with (outline tree.declarations) (map rule_of (declared_rules tree)), record { tree = tree; scoped = scoped; checked = h; is = refl })
  checked tree scoped (Some (name, f)) h = absurd (none (faults.Rule name (rule_answer f)) (rule tree scoped h (is_refused f) (is_known f)))

  faultless : (tree : Ast) → HasTree bytes tree → IsFaultless (outline tree.declarations)
  faultless tree has f fault = none (faults.Scope (scope_answer f)) (scope tree has fault (is_told f))

  of_tree : ((t : Ast) × HasTree bytes t) ⊎ ((e : ProgramFault) × IsTreelessText bytes e) → (p : Program) × IsProgramText bytes p
  of_tree (inl (tree, has)) = checked tree (record { has_tree = has; faultless = faultless tree has }) (first_faulty (declared_rules tree)) refl
  of_tree (inr (e, f)) = absurd (none e (treeless f))

pub an_answer : RefusalsAreTheFault → TokensHaveAnAnswer → TextsHaveAnAnswer
an_answer refusals answers bytes none = of_tree bytes none (a_tree_or_a_fault refusals answers bytes)
