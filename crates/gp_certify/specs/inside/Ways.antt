-- What comes after the first part of a sequence, an `if` or a `try`.
use Rattle.std.specs.Prelude.{◌≡◌, ℕ, ◌+◌, List, Some, slice_get}
use Rattle.gp_syntax.specs.Run.{Command}
use Rattle.gp_certify.specs.declared.node.Node.{Node}
use Rattle.gp_certify.specs.declared.node.Node.TheVariants as node
use Rattle.gp_certify.specs.Code.{at}
use Rattle.gp_certify.specs.declared.ways.Way.{Way}
use Rattle.gp_certify.specs.declared.ways.Way.TheVariants as way
use Rattle.gp_certify.specs.declared.end.Outcome.{Outcome}
use Rattle.gp_certify.specs.declared.end.Outcome.TheVariants as outcome
use Rattle.gp_certify.specs.declared.end.End.{End}
use Rattle.gp_certify.specs.Places.{Spans, IsTakenBack}
use Rattle.gp_certify.specs.inside.View.{View}

-- the command that begins at place i may end so
abbrev pub EndsSo : View → Command → ℕ → End → Type 0
EndsSo v p i e = Spans v.program v.trace v.graphs p i e.place e.outcome

-- the node has a first part, and this is it
abbrev pub IsFirst : Node → ℕ → Type 0
IsFirst (node.Call c) m = ⊥
IsFirst (node.Seq a b) m = m ≡ a
IsFirst (node.If a b c) m = m ≡ a
IsFirst (node.Try a b c) m = m ≡ a
IsFirst (node.Loop a) m = ⊥
IsFirst (node.Or a b) m = ⊥
IsFirst node.Skip m = ⊥
IsFirst node.Fail m = ⊥
IsFirst node.Break m = ⊥
IsFirst (node.Proc k a) m = ⊥

-- the node of this number has a first part, and this is it
pub record HasFirst (code : List Node) (n m : ℕ) : Type 0 where
  pub shape : Node
  pub is_node : slice_get code n ≡ Some shape
  pub first : IsFirst shape m

-- what comes after a first part that ends so
abbrev pub way_of : Node → Outcome → Way
way_of (node.Call c) x = way.Stops
way_of (node.Seq a b) outcome.Gives = way.On b
way_of (node.Seq a b) outcome.Fails = way.Ends
way_of (node.Seq a b) outcome.Breaks = way.Ends
way_of (node.If a b c) outcome.Gives = way.OnBehind b
way_of (node.If a b c) outcome.Fails = way.OnBehind c
way_of (node.If a b c) outcome.Breaks = way.Stops
way_of (node.Try a b c) outcome.Gives = way.On b
way_of (node.Try a b c) outcome.Fails = way.OnBehind c
way_of (node.Try a b c) outcome.Breaks = way.Stops
way_of (node.Loop a) x = way.Stops
way_of (node.Or a b) x = way.Stops
way_of node.Skip x = way.Stops
way_of node.Fail x = way.Stops
way_of node.Break x = way.Stops
way_of (node.Proc k a) x = way.Stops

-- a number above that of the part
abbrev pub above : Way → ℕ
above way.Stops = 0
above way.Ends = 0
above (way.On a) = a + 1
above (way.OnBehind a) = a + 1

-- the end e of the whole comes by this way after the end f of its first part, which began at i
abbrev pub ByWay : View → List Command → Way → ℕ → End → End → Type 0
ByWay v cs way.Stops i f e = ⊥
ByWay v cs way.Ends i f e = e ≡ f
ByWay v cs (way.On a) i f e = EndsSo v (at cs a) f.place e
ByWay v cs (way.OnBehind a) i f e = IsTakenBack v.trace i f.place × EndsSo v (at cs a) (f.place + 1) e
