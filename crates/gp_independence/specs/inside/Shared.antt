-- What two matches share.
use Rattle.std.specs.Prelude.{ℕ, ◌<◌, Bool, List, length, slice_index, Contains}
use Rattle.std.specs.List.{list_any}
use Rattle.gp_values.specs.Graph.{Graph}
use Rattle.gp_syntax.specs.Rule.{Rule, Found}
use Rattle.gp_match.specs.Tests.{has_number}
use Rattle.gp_independence.specs.declared.shared.Shared.{Shared}
use Rattle.gp_independence.specs.declared.shared.Shared.TheVariants.{Nothing, NodesAlone, Edges}
use Rattle.gp_independence.specs.Independent.{Preserves}

-- some number stands in both lists, or none does; and the first as a test
abbrev pub SomeShared : List ℕ → List ℕ → Type 0
SomeShared ms ns = (k : ℕ) × Contains ms k × Contains ns k

abbrev pub NoneShared : List ℕ → List ℕ → Type 0
NoneShared ms ns = (k : ℕ) → Contains ms k → Contains ns k → ⊥

abbrev pub any_shared : List ℕ → List ℕ → Bool
any_shared ms ns = list_any (has_number ns) ms

-- what is said of the images of two matches
abbrev pub Tells : Shared → Found → Found → Type 0
Tells Nothing m n = NoneShared m.edges n.edges × NoneShared m.nodes n.nodes
Tells NodesAlone m n = NoneShared m.edges n.edges × SomeShared m.nodes n.nodes
Tells Edges m n = SomeShared m.edges n.edges

-- the left nodes whose images are among these numbers are preserved
abbrev pub PreservesAmong : Rule → Graph → Found → List ℕ → Type 0
PreservesAmong r g m others = (i : ℕ) → i < length m.nodes → Contains others (slice_index m.nodes i) → Preserves r g m i
