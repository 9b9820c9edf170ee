-- Commands of a text, part by part.
use Rattle.std.specs.Prelude.{ℕ, ◌+◌, List, [], ◌∷◌, ◌++◌, map, length, Option, is_some}
use Rattle.gp_values.specs.Names.{Name}
use Rattle.gp_syntax.specs.declared.tree.CommandTree.{CommandTree}
use Rattle.gp_syntax.specs.declared.tree.CommandTree.TheOpen.{CommandTree-F}
use Rattle.gp_syntax.specs.declared.tree.CommandTree.TheFolds.{fold-CommandTree}
use Rattle.gp_syntax.specs.Run as meant
use Rattle.gp_scope.specs.Surveys.{total}
use Rattle.gp_scope.specs.Outline.{NamedCommand, named}
use Rattle.gp_scope.specs.Names.{Scope, meaning_in, rule_of}
use Rattle.gp_scope.specs.Resolved.{called_sets, resolved, rule_number}
use Rattle.gp_scope.specs.Fault.{unless, first_told, unknown_in}

-- the name, unless it means a rule
abbrev pub unknown_rule : Scope → Name → Option Name
unknown_rule s n = unless (is_some (rule_of (meaning_in s n))) n

abbrev pub unknown_in_rest : Scope → List CommandTree → Option Name
unknown_in_rest s qs = first_told (λ q. unknown_in s (named q)) qs

-- the sets that a command calls, by the numbers of their rules
abbrev pub sets_in : Scope → NamedCommand → List (List ℕ)
sets_in s c = map (map (rule_number s)) (called_sets c)

abbrev pub called_in_rest : List CommandTree → ℕ
called_in_rest [] = 0
called_in_rest (q ∷ qs) = length (called_sets (named q)) + called_in_rest qs

abbrev pub sets_in_rest : Scope → List CommandTree → List (List ℕ)
sets_in_rest s [] = []
sets_in_rest s (q ∷ qs) = sets_in s (named q) ++ sets_in_rest s qs

-- the parts of a chain, each behind the calls of those before
abbrev pub resolved_rest : Scope → ℕ → List CommandTree → List meant.Command
resolved_rest s c [] = []
resolved_rest s c (q ∷ qs) = resolved s c (named q) ∷ resolved_rest s (c + length (called_sets (named q))) qs

-- how large a command is: what recursion over it takes less of at each call
abbrev pub size_step : CommandTree-F ℕ → ℕ
size_step (CommandTree-F.Seq p qs) = 1 + p + total qs
size_step (CommandTree-F.If k p q) = 1 + k + p + q
size_step (CommandTree-F.Try k p q) = 1 + k + p + q
size_step (CommandTree-F.Loop p) = 1 + p
size_step (CommandTree-F.Or p qs) = 1 + p + total qs
size_step other = 1

unfoldable pub size : CommandTree → ℕ
size = fold-CommandTree ℕ size_step

abbrev pub sizes : List CommandTree → ℕ
sizes qs = total (map size qs)
