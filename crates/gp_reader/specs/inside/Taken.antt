-- Rules that are taken from declarations, the last one first.
use Rattle.std.specs.Prelude.{◌≡◌, List, ◌++◌, reverse}
use Rattle.gp_syntax.specs.declared.tree.RuleDecl.{RuleDecl}
use Rattle.gp_syntax.specs.declared.tree.Decl.{Decl}
use Rattle.gp_scope.specs.Outline.{Outline, declared, rules_in}

-- those of the declaration are there, if those behind it were
abbrev pub TakesRules : Decl → List RuleDecl → List RuleDecl → Type 0
TakesRules d old new = (os : Outline) (rs : List RuleDecl) → reverse old ≡ rules_in os ++ rs → reverse new ≡ rules_in (declared d os) ++ rs
