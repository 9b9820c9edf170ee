-- What the recursion over a command and the bodies that it calls needs of the program, and how much it still has to do.
use Rattle.std.specs.Prelude.{ℕ, ◌+◌, ◌*◌, ◌<◌, ◌≤◌, List, [], ◌∷◌, length, map, Contains}
use Rattle.gp_syntax.specs.Run as meant
use Rattle.gp_syntax.specs.Run.{Program}
use Rattle.gp_syntax.specs.Scoped.{calls_in, procedures_in, IsChain}
use Rattle.gp_syntax.specs.declared.command.Command.{Command}
use Rattle.gp_syntax.specs.declared.command.Command.TheOpen.{Command-F}
use Rattle.gp_syntax.specs.declared.command.Command.TheFolds.{fold-Command}

-- its numbers are in range, and chains of calls that begin in it are no longer than this
pub record Fits (program : Program) (depth : ℕ) (p : meant.Command) : Type 0 where
  pub calls : (c : ℕ) → Contains (calls_in p) c → c < length program.sets
  pub procedures : (k : ℕ) → Contains (procedures_in p) k → k < length program.procedures
  pub chains : (k : ℕ) (ks : List ℕ) → Contains (procedures_in p) k → IsChain program (k ∷ ks) → length (k ∷ ks) ≤ depth

-- all together
abbrev pub total : List ℕ → ℕ
total [] = 0
total (n ∷ ns) = n + total ns

-- by the sizes of the parts
abbrev pub size_step : Command-F ℕ → ℕ
size_step (Command-F.Call c) = 1
size_step (Command-F.Seq p qs) = 2 + p + total qs
size_step (Command-F.If k p q) = 2 + k + p + q
size_step (Command-F.Try k p q) = 2 + k + p + q
size_step (Command-F.Loop p) = 2 + p
size_step (Command-F.Or p qs) = 2 + p + total qs
size_step Command-F.Skip = 1
size_step Command-F.Fail = 1
size_step Command-F.Break = 1
size_step (Command-F.Proc k) = 2

-- the size of a command: 1, or 2 more than its parts have; a call does not count the body
unfoldable pub size : Command → ℕ
size = fold-Command ℕ size_step

-- the sizes of some commands together
abbrev pub sizes : List Command → ℕ
sizes ps = total (map size ps)

-- No less than what bodies take of which so many may nest. Each counts as all of them together, and 1.
abbrev pub room : List Command → ℕ → ℕ
room procedures depth = depth * (1 + sizes procedures)
