-- The program that a text stands for: with numbers in place of the names of rules and procedures.
use Rattle.std.specs.Prelude.{ℕ, ◌+◌, not, List, [], ◌∷◌, ◌++◌, map, filter, flat_map, length, unwrap_or}
use Rattle.gp_values.specs.Names.{Name}
use Rattle.gp_syntax.specs.Rule as meant_rule
use Rattle.gp_syntax.specs.Run as meant
use Rattle.gp_scope.specs.Outline.{NamedCommand, Call, Named, Seq, If, Try, Loop, Or, Skip, Fail, Break, Outline, is_main}
use Rattle.gp_scope.specs.Names.{Scope, meaning_in, rule_of, procedure_of, Body, all_bodies}

-- the sets that a command calls, in text order
abbrev pub called_sets : NamedCommand → List (List Name)
called_sets (Call names) = names ∷ []
called_sets (Named n) = []
called_sets (Seq p q) = called_sets p ++ called_sets q
called_sets (If k p q) = called_sets k ++ called_sets p ++ called_sets q
called_sets (Try k p q) = called_sets k ++ called_sets p ++ called_sets q
called_sets (Loop p) = called_sets p
called_sets (Or p q) = called_sets p ++ called_sets q
called_sets Skip = []
called_sets Fail = []
called_sets Break = []

abbrev pub rule_number : Scope → Name → ℕ
rule_number s n = unwrap_or (rule_of (meaning_in s n)) 0

abbrev pub procedure_number : Scope → Name → ℕ
procedure_number s n = unwrap_or (procedure_of (meaning_in s n)) 0

-- A command with numbers, behind so many calls of sets: each call has a number of its own.
abbrev pub resolved : Scope → ℕ → NamedCommand → meant.Command
resolved s c (Call names) = meant.Call c
resolved s c (Named n) = meant.Procedure (procedure_number s n)
resolved s c (Seq p q) = meant.Seq (resolved s c p) (resolved s (c + length (called_sets p)) q)
resolved s c (If k p q) =
    meant.If (resolved s c k) (resolved s (c + length (called_sets k)) p) (resolved s (c + length (called_sets k) + length (called_sets p)) q)
resolved s c (Try k p q) =
    meant.Try (resolved s c k) (resolved s (c + length (called_sets k)) p) (resolved s (c + length (called_sets k) + length (called_sets p)) q)
resolved s c (Loop p) = meant.Loop (resolved s c p)
resolved s c (Or p q) = meant.Or (resolved s c p) (resolved s (c + length (called_sets p)) q)
resolved s c Skip = meant.Skip
resolved s c Fail = meant.Fail
resolved s c Break = meant.Break

-- the rule sets of the calls in a body, by the numbers of their rules
abbrev pub sets_of : Body → List (List ℕ)
sets_of b = map (map (rule_number b.scope)) (called_sets b.command)

pub record ResolvedBody : Type 0 where
  pub name : Name
  pub command : meant.Command

-- bodies, one after another, behind so many calls
abbrev pub resolved_from : ℕ → List Body → List ResolvedBody
resolved_from c [] = []
resolved_from c (b ∷ bs) = record { name = b.name; command = resolved b.scope c b.command } ∷ resolved_from (c + length (called_sets b.command)) bs

-- the body of the first that is named Main
abbrev pub main_of : List ResolvedBody → meant.Command
main_of bs = first_command (filter (λ (b : ResolvedBody). is_main b.name) bs)
  where
    first_command : List ResolvedBody → meant.Command
    first_command [] = meant.Skip
    first_command (b ∷ bs) = b.command

abbrev pub resolved_bodies : Outline → List ResolvedBody
resolved_bodies os = resolved_from 0 (all_bodies os)

-- the procedures beside Main
abbrev pub others : List ResolvedBody → List ResolvedBody
others bs = filter (λ (b : ResolvedBody). not (is_main b.name)) bs

-- the program of these declarations, where these are its rules
abbrev pub program_with : Outline → List meant_rule.Rule → meant.Program
program_with os rules = record {
  main = main_of (resolved_bodies os);
  procedures = map (λ (b : ResolvedBody). b.command) (others (resolved_bodies os));
  sets = flat_map sets_of (all_bodies os);
  rules = rules;
}
