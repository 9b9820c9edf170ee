-- What an answer says of a value, and over what expressions are valued.
use Rattle.std.specs.Prelude.{◌≡◌, ℕ, List, IsSome, All}
use Rattle.gp_memory.specs.Free.{Free}
use Rattle.gp_values.specs.Graph.{Graph, node_at}
use Rattle.gp_syntax.specs.Assigned.{PartialAssignment, assigned_of}
use Rattle.gp_syntax.specs.Value.{Setting, ◌>>=◌}
use Rattle.gp_syntax.specs.Value as meant
use Rattle.gp_eval.specs.declared.valued.Valued.{Valued}
use Rattle.gp_eval.specs.declared.valued.Valued.TheVariants.{Value, NoValue, NoMemory}

-- the value, or that there is none and why; want of memory says nothing
abbrev pub Tells : {X : Type 0} → Valued X → meant.Valued X → Type 0
Tells (Value x) meaning = meaning ≡ meant.Value x
Tells (NoValue kind) meaning = meaning ≡ meant.NoValue kind
Tells NoMemory meaning = Free

-- that there is a value, whichever it is
abbrev pub presence : {X : Type 0} → meant.Valued X → meant.Valued (Unit {0})
presence v = v >>= λ x. meant.Value tt

-- the values of the variables, the images of the left nodes and the graph
abbrev pub setting : PartialAssignment → List ℕ → Graph → Setting
setting a nodes g = record { types = a.types; assigned = assigned_of a; images = nodes; graph = g }

-- the images are nodes of the graph
abbrev pub AreNodes : Graph → List ℕ → Type 0
AreNodes g nodes = All (λ n. IsSome (node_at g n)) nodes
