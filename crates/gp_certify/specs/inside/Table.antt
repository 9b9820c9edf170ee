-- A table so far, and what is put into it.
use Rattle.std.specs.Prelude.{◌≡◌, ◌<◌, ◌≤◌, ℕ, List, [], ◌∷◌, ◌++◌, length, fold, Some, slice_get}
use Rattle.gp_syntax.specs.Run.{Command, Seq, Or, Program}
use Rattle.gp_certify.specs.declared.node.Node.{Node}
use Rattle.gp_certify.specs.declared.node.Node.TheVariants as node
use Rattle.gp_certify.specs.declared.table.Table.{Table}
use Rattle.gp_certify.specs.declared.table.Chain.{Chain}
use Rattle.gp_certify.specs.declared.table.Chain.TheVariants as chain
use Rattle.gp_certify.specs.Code.{at, IsCode}

-- ---- chains

-- the node of two parts of a chain
abbrev pub joined_node : Chain → ℕ → ℕ → Node
joined_node chain.Sequence a b = node.Seq a b
joined_node chain.Choice a b = node.Or a b

-- the command of two parts of a chain
abbrev pub joined : Chain → Command → Command → Command
joined chain.Sequence p q = Seq p q
joined chain.Choice p q = Or p q

-- each further part behind what stands before it
abbrev pub grouped : Chain → Command → List Command → Command
grouped c p ps = fold (joined c) p ps

-- ---- tables

-- the node is put at the end, and has this number
pub record HasPut (old new : Table) (x : Node) (n : ℕ) : Type 0 where
  pub number : n ≡ length old.nodes.items
  pub nodes : new.nodes.items ≡ old.nodes.items ++ x ∷ []
  pub roots : new.roots ≡ old.roots

-- these numbers, all below a bound, are those of these commands
abbrev pub AreAt : ℕ → List Command → List ℕ → List Command → Type 0
AreAt bound cs [] [] = Unit {0}
AreAt bound cs [] (p ∷ ps) = ⊥
AreAt bound cs (n ∷ ns) [] = ⊥
AreAt bound cs (n ∷ ns) (p ∷ ps) = (n < bound) × (at cs n ≡ p) × AreAt bound cs ns ps

-- the nodes stand for these commands, and the roots are the nodes of bodies
pub record IsTable (program : Program) (table : Table) (cs : List Command) : Type 0 where
  pub count : length cs ≡ length table.nodes.items
  pub code : IsCode program table.nodes.items cs
  pub bodies : (k n : ℕ) → slice_get table.roots.items k ≡ Some (Some n) → (n < length table.nodes.items) × (at cs n ≡ at program.procedures k)

-- The later table, in which these numbers are those of these commands. The nodes of the earlier one stand for what they
-- did.
pub record Later (program : Program) (old new : Table) (ns : List ℕ) (ps cs : List Command) : Type 0 where
  pub commands : List Command
  pub table : IsTable program new commands
  pub grows : length old.nodes.items ≤ length new.nodes.items
  pub stays : (m : ℕ) → m < length old.nodes.items → at commands m ≡ at cs m
  pub lowered : AreAt (length new.nodes.items) commands ns ps

-- what is in the table stays there, and these commands are in it with these numbers
abbrev pub Lowers : Program → Table → Table → List ℕ → List Command → Type 0
Lowers program old new ns ps = (cs : List Command) → IsTable program old cs → Later program old new ns ps cs
