-- What the reader answers is the program of the text, or its first fault.
use Rattle.std.proofs.Common.{◌≡◌, ℕ, List, map, Some, Ok, Err, refl, sym, ap, ◌∙◌, subst}
use Rattle.std.specs.Prelude.{Result}
use Rattle.gp_tokens.specs.declared.fault.LexFault.{LexFault}
use Rattle.gp_tokens.specs.declared.fault.LexFault.TheVariants as lex_faults
use Rattle.gp_tokens.specs.declared.token.Token.{Token}
use Rattle.gp_tokens.specs.Lexed.{tokens_of, Fails}
use Rattle.gp_syntax.specs.declared.tree.Ast.{Ast}
use Rattle.gp_syntax.specs.declared.rule.RuleParts.{RuleParts}
use Rattle.gp_syntax.specs.declared.command.ProgramParts.{ProgramParts}
use Rattle.gp_syntax.specs.declared.tree.RuleDecl.{RuleDecl}
use Rattle.gp_syntax.specs.Tree.{declaration_of, rule_of_tree, program_of_tree}
use Rattle.gp_syntax.specs.Run.{Program}
use Rattle.gp_program.specs.declared.parse.ParseFault.{ParseFault}
use Rattle.gp_program.specs.declared.parse.ParseFault.TheVariants as parse_faults
use Rattle.gp_program.specs.Program.{ParsesProgram}
use Rattle.gp_scope.specs.declared.fault.ScopeFault.{ScopeFault}
use Rattle.gp_scope.specs.declared.fault.ScopeFault.TheVariants as scope_faults
use Rattle.gp_scope.specs.Outline.{Outline, outline}
use Rattle.gp_scope.specs.Resolved.{program_with}
use Rattle.gp_scope.specs.Fault.{IsFault, told}
use Rattle.gp_scope.specs.Fault as scoping
use Rattle.gp_reader.specs.declared.scoped.ScopedParts.{ScopedParts}
use Rattle.gp_reader.specs.Resolution.{IsResolved}
use Rattle.gp_reader.specs.declared.fault.ProgramFault.{ProgramFault}
use Rattle.gp_reader.specs.declared.fault.ProgramFault.TheVariants as faults
use Rattle.gp_reader.specs.Program.{HasTree, IsScopedText, IsProgramText, IsTreeRefusal, IsRefusal, ReadsProgram, ReadsRules, declared_rules}
use Rattle.gp_reader.specs.Program as spec
use Rattle.gp_reader.specs.inside.Stages.{lex_fault, scope_fault, with_line, RefusesRules, AreChecked, ChecksRules, HasScoped}

-- ---- tokens

pub lex_refused : (bytes : List ℕ) (e : LexFault) → Fails e (tokens_of bytes) → IsTreeRefusal bytes (lex_fault e)
lex_refused bytes lex_faults.NoMemory h = tt
lex_refused bytes (lex_faults.BadByte at) h = spec.lex h (λ e. cc)
lex_refused bytes (lex_faults.OpenString at) h = spec.lex h (λ e. cc)
lex_refused bytes (lex_faults.OpenComment at) h = spec.lex h (λ e. cc)
lex_refused bytes (lex_faults.NumberTooLong at) h = spec.lex h (λ e. cc)

-- ---- trees

module _ (bytes : List ℕ) (tokens : List Token) (lexed : tokens_of bytes ≡ Ok tokens) where
  pub tree_read : (tree : Ast) → ParsesProgram tokens (Ok tree) → HasTree bytes tree
  tree_read tree h = record { tokens = tokens; has_tokens = record { lexed = lexed; shallow = h.0 }; is_tree = h.1 }

  pub tree_refused : (f : ParseFault) → ParsesProgram tokens (Err f) → IsTreeRefusal bytes (with_line bytes tokens f)
  tree_refused (parse_faults.TooDeep k) h = spec.too_deep tokens k lexed h
  tree_refused (parse_faults.Syntax k) h = spec.syntax tokens k (record { lexed = lexed; shallow = h.0 }) h.1
  tree_refused (parse_faults.NumberRange k) h = spec.number_range tokens k (record { lexed = lexed; shallow = h.0 }) h.1
  tree_refused parse_faults.NoMemory h = tt

-- the fault of a text without a tree is the first of the text
pub tree_fault : (bytes : List ℕ) (e : ProgramFault) → IsTreeRefusal bytes e → IsRefusal bytes e
tree_fault bytes faults.NoMemory h = tt
tree_fault bytes (faults.Lex e) h = spec.treeless h
tree_fault bytes (faults.TooDeep line) h = spec.treeless h
tree_fault bytes (faults.Syntax line) h = spec.treeless h
tree_fault bytes (faults.NumberRange line) h = spec.treeless h
tree_fault bytes (faults.Scope e) h = absurd h
tree_fault bytes (faults.Rule name e) h = absurd h

-- ---- names and calls

module _ (bytes : List ℕ) (tree : Ast) (has : HasTree bytes tree) where
  pub scope_refused : (e : ScopeFault) → ((f : scoping.Fault) → told e ≡ Some f → IsFault (outline tree.declarations) f) → IsRefusal bytes (scope_fault e)
  scope_refused scope_faults.NoMain h = spec.scope tree has (h _ refl) refl
  scope_refused scope_faults.TwoMains h = spec.scope tree has (h _ refl) refl
  scope_refused (scope_faults.TwoRules n) h = spec.scope tree has (h _ refl) refl
  scope_refused (scope_faults.Unknown n) h = spec.scope tree has (h _ refl) refl
  scope_refused (scope_faults.Recursive n) h = spec.scope tree has (h _ refl) refl
  scope_refused (scope_faults.DeepCalls n) h = spec.scope tree has (h _ refl) refl
  scope_refused scope_faults.StrayBreak h = spec.scope tree has (h _ refl) refl
  scope_refused scope_faults.NoMemory h = tt

-- ---- rules

declared : (tree : Ast) (s : ScopedParts) (rules : List RuleDecl) → IsResolved (outline tree.declarations) s → rules ≡ s.rules → map declaration_of rules ≡ declared_rules tree
declared tree s rules resolved e = ap (map declaration_of) (e ∙ resolved.rules)

module _ (bytes : List ℕ) (tree : Ast) (scoped : IsScopedText bytes tree) where
  pub rules_refused : (e : ProgramFault) → RefusesRules (declared_rules tree) e → IsRefusal bytes e
  rules_refused (faults.Rule name e) h = spec.rule tree scoped h.first h.told h.known
  rules_refused faults.NoMemory h = tt
  rules_refused (faults.Lex e) h = absurd h
  rules_refused (faults.TooDeep line) h = absurd h
  rules_refused (faults.Syntax line) h = absurd h
  rules_refused (faults.NumberRange line) h = absurd h
  rules_refused (faults.Scope e) h = absurd h

  pub program_read : (rules : List RuleParts) (p : Program) → AreChecked (declared_rules tree) rules → p ≡ program_with (outline tree.declarations) (map rule_of_tree rules) → IsProgramText bytes p
  program_read rules p checked h = record {
    tree = tree;
    scoped = scoped;
    checked = checked.faultless;
    is = h ∙ ap (program_with (outline tree.declarations)) checked.are;
  }

module _ (bytes : List ℕ) (s : ScopedParts) (has : HasScoped bytes s) (ds : List RuleDecl) (same : ds ≡ s.rules) where
  are_declared : map declaration_of ds ≡ declared_rules has.tree
  are_declared = declared has.tree s ds has.resolved same

  pub scoped_refused : (e : ProgramFault) → RefusesRules (map declaration_of ds) e → IsRefusal bytes e
  scoped_refused e h = rules_refused bytes has.tree has.scoped e (subst (λ xs. RefusesRules xs e) are_declared h)

  pub scoped_read : (rules : List RuleParts) (p : ProgramParts) → AreChecked (map declaration_of ds) rules → p.rules ≡ rules →
      ((os : Outline) → IsResolved os s → program_of_tree p ≡ program_with os (map rule_of_tree rules)) → ReadsProgram bytes (Ok p)
  scoped_read rules p h same_rules made =
      let checked = subst (λ xs. AreChecked xs rules) are_declared h in
      let os = outline has.tree.declarations in
      (record { tree = has.tree; scoped = has.scoped; checked = checked.faultless; is = made os has.resolved ∙ ap (program_with os) checked.are }, rw same_rules checked.names)

  pub rules_read : (r : Result (List RuleParts) ProgramFault) → ChecksRules (map declaration_of ds) r → ReadsRules bytes r
  rules_read (Ok rules) h = record {
    program = program_with (outline has.tree.declarations) (map rule_of_tree rules);
    is_text = program_read bytes has.tree has.scoped rules _ (subst (λ xs. AreChecked xs rules) are_declared h) refl;
    are = refl;
  }
  rules_read (Err e) h = scoped_refused e h
