-- What loops keep.
use Rattle.std.specs.Prelude.{◌≡◌, ◌≤◌, ◌+◌, ℕ, List, length, Contains}
use Rattle.gp_syntax.specs.Run.{Command}
use Rattle.gp_certify.specs.declared.node.Node.{Node}
use Rattle.gp_certify.specs.declared.end.End.{End}
use Rattle.gp_certify.specs.declared.starts.Reached.{Reached}
use Rattle.gp_certify.specs.inside.View.{View}
use Rattle.gp_certify.specs.Code.{at, IsCode}
use Rattle.gp_certify.specs.inside.Grows.{Grows, OfOne}
use Rattle.gp_certify.specs.inside.Memory.{Kept}
use Rattle.gp_certify.specs.inside.Ways.{way_of, ByWay}
use Rattle.gp_certify.specs.inside.Found.{IsTrueOf, IsFound}

-- what came after the first so many ends of a first part was put in
pub record FirstsSoFar (v u : View) (code : List Node) (m : Kept) (shape : Node) (i : ℕ) (firsts : List End) (n : ℕ) (old new : List End) : Type 0 where
  pub same : u ≡ v
  pub memory : IsTrueOf v code m
  pub found : (cs : List Command) → IsCode v.program code cs → Grows (Contains old) (Contains new) (OfOne (λ f e. ByWay v cs (way_of shape f.outcome) i f e) firsts n)

-- turns of a loop were looked at
pub record TurnsSoFar (v u : View) (code : List Node) (m : Kept) (n i floor : ℕ) (r : Reached) : Type 0 where
  pub same : u ≡ v
  pub memory : IsTrueOf v code m
  pub bound : floor ≤ length v.trace + 1
  pub found : (cs : List Command) → IsCode v.program code cs → IsFound v (at cs n) i floor r
