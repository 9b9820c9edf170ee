-- Commands as a table of nodes, each named by its number.
use Rattle.std.specs.Prelude.{◌≡◌, ◌<◌, ℕ, List, length, Some, slice_get, slice_index_or}
use Rattle.gp_syntax.specs.Run.{Command, Call, Seq, If, Try, Loop, Or, Skip, Fail, Break, Procedure, Program}
use Rattle.gp_certify.specs.declared.node.Node.{Node}
use Rattle.gp_certify.specs.declared.node.Node.TheVariants as node

-- the command of this number
abbrev pub at : List Command → ℕ → Command
at cs n = slice_index_or cs n Skip

-- What a node says of the command of its number, by the commands of its parts. A part has a lower number; a call is of
-- one of the program's rule sets; and the part of a procedure's node is the procedure's body.
abbrev pub Means : Program → List Command → ℕ → Node → Type 0
Means program cs n (node.Call c) = (at cs n ≡ Call c) × (c < length program.sets)
Means program cs n (node.Seq a b) = (at cs n ≡ Seq (at cs a) (at cs b)) × (a < n) × (b < n)
Means program cs n (node.If a b c) = (at cs n ≡ If (at cs a) (at cs b) (at cs c)) × (a < n) × (b < n) × (c < n)
Means program cs n (node.Try a b c) = (at cs n ≡ Try (at cs a) (at cs b) (at cs c)) × (a < n) × (b < n) × (c < n)
Means program cs n (node.Loop a) = (at cs n ≡ Loop (at cs a)) × (a < n)
Means program cs n (node.Or a b) = (at cs n ≡ Or (at cs a) (at cs b)) × (a < n) × (b < n)
Means program cs n node.Skip = at cs n ≡ Skip
Means program cs n node.Fail = at cs n ≡ Fail
Means program cs n node.Break = at cs n ≡ Break
Means program cs n (node.Proc k a) = (at cs n ≡ Procedure k) × (slice_get program.procedures k ≡ Some (at cs a)) × (a < n)

-- the nodes stand for these commands, each for the one of its number
abbrev pub IsCode : Program → List Node → List Command → Type 0
IsCode program nodes cs = (n : ℕ) (x : Node) → slice_get nodes n ≡ Some x → Means program cs n x

-- the nodes stand for commands of which that of the root is Main's
pub record IsCodeOf (program : Program) (nodes : List Node) (root : ℕ) : Type 0 where
  pub within : root < length nodes
  pub commands : List Command
  pub code : IsCode program nodes commands
  pub main : at commands root ≡ program.main
