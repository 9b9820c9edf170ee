-- What it is to bring a trace up to date, and where that breaks.
use Rattle.std.specs.Prelude.{◌≡◌, ℕ, ◌+◌, ◌≤◌, List, [], ◌∷◌, length, take, Some, IsSome}
use Rattle.gp_memory.specs.Free.{Free}
use Rattle.gp_values.specs.Graph.{Graph, Edge, edge_at}
use Rattle.gp_syntax.specs.Rule.{Rule}
use Rattle.gp_syntax.specs.Run.{Item, Stepped, Turned, Back}
use Rattle.gp_syntax.specs.Replay.{Replays}
use Rattle.gp_derivation.specs.StepAnew.{ReplaysAnew}
use Rattle.gp_derivation.specs.declared.fault.UpgradeFault.{UpgradeFault}
use Rattle.gp_derivation.specs.declared.fault.UpgradeFault.TheVariants as faults

-- the second graph is the first one but for the numbers of its edges, and the next of these
pub record AreAlike (g h : Graph) : Type 0 where
  pub nodes : h.nodes ≡ g.nodes
  pub next_node : h.next_node ≡ g.next_node
  pub renumbered : ℕ → ℕ
  pub to : (e : ℕ) (d : Edge) → edge_at g e ≡ Some d → edge_at h (renumbered e) ≡ Some d
  pub from : (k : ℕ) (d : Edge) → edge_at h k ≡ Some d → (e : ℕ) × (edge_at g e ≡ Some d) × (renumbered e ≡ k)
  pub apart : (a b : ℕ) → IsSome (edge_at g a) → IsSome (edge_at g b) → renumbered a ≡ renumbered b → a ≡ b

-- the same item but for the numbers of edges
abbrev pub Renumbers : Item → Item → Type 0
Renumbers (Stepped m) j = (es : List ℕ) × (length es ≡ length m.edges) × (j ≡ Stepped (record m { edges = es }))
Renumbers Turned j = j ≡ Turned
Renumbers (Back k) j = j ≡ Back k

abbrev pub RenumbersAll : List Item → List Item → Type 0
RenumbersAll [] [] = Unit {0}
RenumbersAll [] (j ∷ js) = ⊥
RenumbersAll (i ∷ is) [] = ⊥
RenumbersAll (i ∷ is) (j ∷ js) = Renumbers i j × RenumbersAll is js

-- the first items by the step that makes all edges anew, and the second ones by today's, lead to graphs that are alike
pub record LeadAlike (rules : List Rule) (host : Graph) (s t : List Item) : Type 0 where
  pub was : Graph
  pub now : Graph
  pub replays_anew : ReplaysAnew rules host s was
  pub replays : Replays rules host t now
  pub alike : AreAlike was now

-- the second items are the first ones, brought up to date
pub record IsUpgrade (rules : List Rule) (host : Graph) (s t : List Item) : Type 0 where
  pub items : RenumbersAll s t
  pub beginnings : (n : ℕ) → LeadAlike rules host (take n s) (take n t)

-- each beginning of so many items replays by the step that makes all edges anew, and with one item more none does
pub record BreaksAtItem (rules : List Rule) (host : Graph) (s : List Item) (n : ℕ) : Type 0 where
  pub before : (k : ℕ) → k ≤ n → (g : Graph) × ReplaysAnew rules host (take k s) g
  pub none : (g : Graph) → ReplaysAnew rules host (take (n + 1) s) g → ⊥

-- why items are answered with this fault
abbrev pub HasFault : List Rule → Graph → List Item → UpgradeFault → Type 0
HasFault rules host s (faults.Item n) = BreaksAtItem rules host s n
HasFault rules host s faults.NoMemory = Free
