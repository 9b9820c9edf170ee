-- What chains are made of.
use Rattle.std.specs.Prelude.{List, [], ◌∷◌}
use Rattle.gp_syntax.specs.declared.expression.Signed.{Signed}
use Rattle.gp_expressions.specs.declared.ranged.Ranged.{Ranged}
use Rattle.gp_expressions.specs.declared.chain.Links.{Links}
use Rattle.gp_expressions.specs.declared.chain.Links.TheVariants.{Nothing, One, More}
use Rattle.gp_expressions.specs.Ranges.{with, gathered}
use Rattle.gp_expressions.specs.Expressions.{Tree}

abbrev pub links_of : {A : Type 0} → List A → Links A A
links_of [] = Nothing
links_of (x ∷ []) = One x
links_of (x ∷ y ∷ ys) = More x (y ∷ ys)

abbrev pub linked : {A : Type 0} → List (Ranged A) → Ranged (Links A A)
linked rs = with links_of (gathered rs)

-- operands, of which the first is without its sign
abbrev pub operands_of : {S : Type 0} → List (Signed S Tree) → Links Tree (Signed S Tree)
operands_of [] = Nothing
operands_of (x ∷ []) = One x.operand
operands_of (x ∷ y ∷ ys) = More x.operand (y ∷ ys)

-- the tree of what a chain is made of
abbrev pub tree_of : {A B : Type 0} → A → (A → List B → A) → Links A B → A
tree_of none make Nothing = none
tree_of none make (One x) = x
tree_of none make (More x xs) = make x xs
