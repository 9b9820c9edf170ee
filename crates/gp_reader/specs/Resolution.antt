-- What resolving a program text answers.
use Rattle.std.specs.Prelude.{◌≡◌, List, map, flat_map, length}
use Rattle.gp_syntax.specs.Rule as meant_rule
use Rattle.gp_syntax.specs.Run as meant
use Rattle.gp_syntax.specs.Tree.{command_of}
use Rattle.gp_syntax.specs.Scoped.{IsScoped}
use Rattle.gp_scope.specs.Outline.{Outline, rules_in}
use Rattle.gp_scope.specs.Names.{all_bodies}
use Rattle.gp_scope.specs.Resolved.{ResolvedBody, resolved_bodies, others, main_of, sets_of}
use Rattle.gp_scope.specs.Fault.{Fault, IsFault}
use Rattle.gp_reader.specs.declared.scoped.ScopedParts.{ScopedParts}

-- the text has no fault
abbrev pub IsFaultless : Outline → Type 0
IsFaultless os = (f : Fault) → IsFault os f → ⊥

-- the bodies are those of the program for which the text stands, and the declarations of rules are those of the text
pub record IsResolved (os : Outline) (s : ScopedParts) : Type 0 where
  pub main : command_of s.main ≡ main_of (resolved_bodies os)
  pub procedures : map command_of s.procedures ≡ map (λ (r : ResolvedBody). r.command) (others (resolved_bodies os))
  pub sets : s.sets ≡ flat_map sets_of (all_bodies os)
  pub rules : s.rules ≡ rules_in os

-- the program of the bodies, where these are its rules
abbrev pub program_of : ScopedParts → List meant_rule.Rule → meant.Program
program_of s rules = record { main = command_of s.main; procedures = map command_of s.procedures; sets = s.sets; rules = rules }

-- as many rules as there are declarations make it a program
abbrev pub IsAlwaysScoped : ScopedParts → Type 0
IsAlwaysScoped s = (rules : List meant_rule.Rule) → length rules ≡ length s.rules → IsScoped (program_of s rules)
