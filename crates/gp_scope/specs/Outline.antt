-- A program text as scope sees it: its declarations, how they hold one another, and what its commands call (Plump 2012,
-- section 4: programs and their declarations; Bak 2015: local declarations).
use Rattle.std.specs.Prelude.{ℕ, ◌+◌, Bool, if◌then◌else◌, List, [], ◌∷◌, ◌++◌, map, fold, codes}
use Rattle.gp_values.specs.Names.{Name, same_name}
use Rattle.gp_syntax.specs.declared.tree.RuleDecl.{RuleDecl}
use Rattle.gp_syntax.specs.declared.tree.CommandTree.{CommandTree}
use Rattle.gp_syntax.specs.declared.tree.CommandTree.TheOpen.{CommandTree-F}
use Rattle.gp_syntax.specs.declared.tree.CommandTree.TheFolds.{fold-CommandTree}
use Rattle.gp_syntax.specs.declared.tree.Decl.{Decl}
use Rattle.gp_syntax.specs.declared.tree.Decl.TheOpen.{Decl-F}
use Rattle.gp_syntax.specs.declared.tree.Decl.TheFolds.{fold-Decl}

-- A command that names rules and procedures. A chain groups from the left.
pub data NamedCommand : Type 0 where
  Call : List Name → NamedCommand
  Named : Name → NamedCommand
  Seq : NamedCommand → NamedCommand → NamedCommand
  If : NamedCommand → NamedCommand → NamedCommand → NamedCommand
  Try : NamedCommand → NamedCommand → NamedCommand → NamedCommand
  Loop : NamedCommand → NamedCommand
  Or : NamedCommand → NamedCommand → NamedCommand
  Skip : NamedCommand
  Fail : NamedCommand
  Break : NamedCommand

-- Declarations among one another: nothing more; a rule, before others; a procedure with its local declarations and its
-- body, before others.
pub data Outline : Type 0 where
  nothing : Outline
  rule : RuleDecl → Outline → Outline
  procedure : Name → Outline → NamedCommand → Outline → Outline

-- ---- of the tree of a text

abbrev pub named_step : CommandTree-F NamedCommand → NamedCommand
named_step (CommandTree-F.Call names) = Call names
named_step (CommandTree-F.Procedure n) = Named n
named_step (CommandTree-F.Seq p qs) = fold Seq p qs
named_step (CommandTree-F.If k p q) = If k p q
named_step (CommandTree-F.Try k p q) = Try k p q
named_step (CommandTree-F.Loop p) = Loop p
named_step (CommandTree-F.Or p qs) = fold Or p qs
named_step CommandTree-F.Skip = Skip
named_step CommandTree-F.Fail = Fail
named_step CommandTree-F.Break = Break

unfoldable pub named : CommandTree → NamedCommand
named = fold-CommandTree NamedCommand named_step

-- each before those that come after it
abbrev pub chained : List (Outline → Outline) → Outline
chained [] = nothing
chained (f ∷ fs) = f (chained fs)

abbrev pub declared_step : Decl-F (Outline → Outline) → Outline → Outline
declared_step (Decl-F.Rule d) os = rule d os
declared_step (Decl-F.Procedure n ds body) os = procedure n (chained ds) (named body) os

-- a declaration, before others
unfoldable pub declared : Decl → Outline → Outline
declared = fold-Decl (Outline → Outline) declared_step

abbrev pub outline : List Decl → Outline
outline ds = chained (map declared ds)

-- ---- what there is

abbrev pub is_main : Name → Bool
is_main n = same_name n (codes "Main")

-- the rules, in text order
abbrev pub rules_in : Outline → List RuleDecl
rules_in nothing = []
rules_in (rule d os) = d ∷ rules_in os
rules_in (procedure n local body os) = rules_in local ++ rules_in os

-- Main is no procedure that can be called, so it has no number
abbrev pub own_number : Name → ℕ
own_number n = if is_main n then 0 else 1

-- how many procedures there are beside Main
abbrev pub procedures_in : Outline → ℕ
procedures_in nothing = 0
procedures_in (rule d os) = procedures_in os
procedures_in (procedure n local body os) = own_number n + procedures_in local + procedures_in os
