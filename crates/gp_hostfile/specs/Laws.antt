-- What holds of host texts and of the texts of graphs.
use Rattle.std.specs.Prelude.{◌≡◌, ◌⊎◌, ℕ, List}
use Rattle.gp_values.specs.Graph.{Graph, IsGraph}
use Rattle.gp_hostfile.specs.declared.fault.HostFault.{HostFault}
use Rattle.gp_hostfile.specs.declared.fault.HostFault.TheVariants as faults
use Rattle.gp_hostfile.specs.Host.{IsHostText, IsHostFault}
use Rattle.gp_hostfile.specs.GraphText.{IsGraphText}
use Rattle.gp_hostfile.specs.Renumbered.{HasShortNumbers, IsRenumbered}

-- A text has at most one graph.
abbrev pub HostTextsHaveOneGraph : Type 0
HostTextsHaveOneGraph = (bytes : List ℕ) (g h : Graph) → IsHostText bytes g → IsHostText bytes h → g ≡ h

-- a text has a graph, or a fault
pub data HasAnswer (bytes : List ℕ) : Type 0 where
  has_graph : (g : Graph) → IsHostText bytes g → HasAnswer bytes
  has_fault : (e : HostFault) → IsHostFault bytes e → HasAnswer bytes

-- Each text has one or the other.
abbrev pub HostTextsHaveAnAnswer : Type 0
HostTextsHaveAnAnswer = (bytes : List ℕ) → HasAnswer bytes

-- A text with a graph has no fault.
abbrev pub HostTextsHaveNoFault : Type 0
HostTextsHaveNoFault = (bytes : List ℕ) (g : Graph) (e : HostFault) → IsHostText bytes g → IsHostFault bytes e → ⊥

-- both are that the tokens are no host
pub record AreSyntax (e f : HostFault) : Type 0 where
  pub one : ℕ
  pub other : ℕ
  pub one_is : e ≡ faults.Syntax one
  pub other_is : f ≡ faults.Syntax other

-- A text has at most one fault, but for the number of Syntax.
abbrev pub HostTextsHaveOneFault : Type 0
HostTextsHaveOneFault = (bytes : List ℕ) (e f : HostFault) → IsHostFault bytes e → IsHostFault bytes f → (e ≡ f) ⊎ AreSyntax e f

-- A graph has a text, and no other.
pub record GraphsHaveOneText : Type 0 where
  pub some : (g : Graph) → (text : List ℕ) × IsGraphText g text
  pub no_other : (g : Graph) (s t : List ℕ) → IsGraphText g s → IsGraphText g t → s ≡ t

-- The text of a graph is a host text. Its graph is the first with the nodes and edges numbered anew, from 0 on: the nodes
-- in their order, the edges in the order of the text.
abbrev pub GraphTextsAreReadBack : Type 0
GraphTextsAreReadBack = (g : Graph) (text : List ℕ) → IsGraph g → HasShortNumbers g → (t : IsGraphText g text) → (h : Graph) × IsHostText text h × IsRenumbered g t.edges h
