-- The edits of a step, one kind after another: what they are, where they may be made, and where they lead.
use Rattle.std.specs.Prelude.{ℕ, List, [], ◌∷◌, fold, Option, Some, None, IsSome, slice_index}
use Rattle.gp_values.specs.declared.atom.Atom.{Atom}
use Rattle.gp_values.specs.declared.marks.EdgeMark.{EdgeMark}
use Rattle.gp_values.specs.Graph.{Graph, Node, Edge, HasNoEdges, node_at, edge_at, with_node, with_edge, without_node, without_edge, relabeled, relabeled_edge}
use Rattle.gp_syntax.specs.Value.{Assignment}
use Rattle.gp_syntax.specs.Rule.{Rule, RightEdge, Found, kept_edge, kept_nodes, kept_edges}
use Rattle.gp_step.specs.Halves.{stays, gone}
use Rattle.gp_step.specs.Edits.{made_node, made_edge, images_of, origin_of}
use Rattle.gp_step.specs.declared.made.KeptEdge.{KeptEdge}
use Rattle.gp_step.specs.declared.made.KeptEdge.TheVariants.{Stays, Carries}

-- what is made of what is kept, with the numbers of the images, and what is made anew
abbrev pub kept_first : {X : Type 0} → List ℕ → Option ℕ → X → List (ℕ × X) → List (ℕ × X)
kept_first found (Some i) x ps = (slice_index found i, x) ∷ ps
kept_first found None x ps = ps

abbrev pub kept_of : {Q X : Type 0} → List ℕ → (Q → Option ℕ) → (Q → X) → List Q → List (ℕ × X)
kept_of found keeps make [] = []
kept_of found keeps make (q ∷ qs) = kept_first found (keeps q) (make q) (kept_of found keeps make qs)

abbrev pub new_first : {X : Type 0} → Option ℕ → X → List X → List X
new_first (Some i) x xs = xs
new_first None x xs = x ∷ xs

abbrev pub new_of : {Q X : Type 0} → (Q → Option ℕ) → (Q → X) → List Q → List X
new_of keeps make [] = []
new_of keeps make (q ∷ qs) = new_first (keeps q) (make q) (new_of keeps make qs)

-- what an edge carries beside its ends
abbrev pub carried_by : Edge → List Atom × EdgeMark
carried_by d = (d.label, d.mark)

-- ---- the edits, one kind after another

abbrev pub drop_edges : List ℕ → Graph → Graph
drop_edges es g = fold without_edge g es

abbrev pub relabel_edges : List (ℕ × (List Atom × EdgeMark)) → Graph → Graph
relabel_edges ps g = fold (λ h (p : ℕ × (List Atom × EdgeMark)). relabeled_edge h p.0 p.1.0 p.1.1) g ps

-- the same of edges as they are held: one that stays costs nothing
abbrev pub kept_one : Graph → KeptEdge → Graph
kept_one g (Stays e) = g
kept_one g (Carries e l m) = relabeled_edge g e l m

abbrev pub keep_edges : List KeptEdge → Graph → Graph
keep_edges ks g = fold kept_one g ks

abbrev pub drop_nodes : List ℕ → Graph → Graph
drop_nodes ns g = fold without_node g ns

abbrev pub relabel_nodes : List (ℕ × Node) → Graph → Graph
relabel_nodes ps g = fold (λ h (p : ℕ × Node). relabeled h p.0 p.1) g ps

abbrev pub with_nodes : List Node → Graph → Graph
with_nodes xs g = fold with_node g xs

abbrev pub with_edges : List Edge → Graph → Graph
with_edges ds g = fold with_edge g ds

-- in the order in which they are made
pub record StepChanges : Type 0 where
  pub cut_edges : List ℕ
  pub kept_edges : List (ℕ × (List Atom × EdgeMark))
  pub cut_nodes : List ℕ
  pub kept_nodes : List (ℕ × Node)
  pub new_nodes : List Node
  pub new_edges : List Edge

abbrev pub made_by : StepChanges → Graph → Graph
made_by p g = with_edges p.new_edges (with_nodes p.new_nodes (relabel_nodes p.kept_nodes (drop_nodes p.cut_nodes (relabel_edges p.kept_edges (drop_edges p.cut_edges g)))))

-- the edits of a step
abbrev pub changes_of : Rule → Graph → Found → Assignment → StepChanges
changes_of r g m a = record {
  cut_edges = gone (stays (kept_edges r)) m.edges;
  kept_edges = kept_of m.edges (kept_edge r) (λ (q : RightEdge). carried_by (made_edge r g m a (images_of r g m) q)) r.right_edges;
  cut_nodes = gone (stays (kept_nodes r)) m.nodes;
  kept_nodes = kept_of m.nodes origin_of (made_node r g m a) r.right_nodes;
  new_nodes = new_of origin_of (made_node r g m a) r.right_nodes;
  new_edges = new_of (kept_edge r) (made_edge r g m a (images_of r g m)) r.right_edges;
}

-- ---- where they may be made

-- each edit may be made after those before it
abbrev pub MayDropEdges : List ℕ → Graph → Type 0
MayDropEdges [] g = Unit {0}
MayDropEdges (e ∷ es) g = IsSome (edge_at g e) × MayDropEdges es (without_edge g e)

abbrev pub MayRelabelEdges : List (ℕ × (List Atom × EdgeMark)) → Graph → Type 0
MayRelabelEdges [] g = Unit {0}
MayRelabelEdges (p ∷ ps) g = IsSome (edge_at g p.0) × MayRelabelEdges ps (relabeled_edge g p.0 p.1.0 p.1.1)

abbrev pub kept_number : KeptEdge → ℕ
kept_number (Stays e) = e
kept_number (Carries e l m) = e

abbrev pub MayKeepEdges : List KeptEdge → Graph → Type 0
MayKeepEdges [] g = Unit {0}
MayKeepEdges (k ∷ ks) g = IsSome (edge_at g (kept_number k)) × MayKeepEdges ks (kept_one g k)

abbrev pub MayDropNodes : List ℕ → Graph → Type 0
MayDropNodes [] g = Unit {0}
MayDropNodes (n ∷ ns) g = IsSome (node_at g n) × HasNoEdges g n × MayDropNodes ns (without_node g n)

abbrev pub MayRelabelNodes : List (ℕ × Node) → Graph → Type 0
MayRelabelNodes [] g = Unit {0}
MayRelabelNodes (p ∷ ps) g = IsSome (node_at g p.0) × MayRelabelNodes ps (relabeled g p.0 p.1)

abbrev pub MayPutEdges : List Edge → Graph → Type 0
MayPutEdges [] g = Unit {0}
MayPutEdges (d ∷ ds) g = IsSome (node_at g d.source) × IsSome (node_at g d.target) × MayPutEdges ds (with_edge g d)

-- the edits of a step may be made
pub record MayMake (p : StepChanges) (g : Graph) : Type 0 where
  pub cut_edges : MayDropEdges p.cut_edges g
  pub kept_edges : MayRelabelEdges p.kept_edges (drop_edges p.cut_edges g)
  pub cut_nodes : MayDropNodes p.cut_nodes (relabel_edges p.kept_edges (drop_edges p.cut_edges g))
  pub kept_nodes : MayRelabelNodes p.kept_nodes (drop_nodes p.cut_nodes (relabel_edges p.kept_edges (drop_edges p.cut_edges g)))
  pub new_edges : MayPutEdges p.new_edges (with_nodes p.new_nodes (relabel_nodes p.kept_nodes (drop_nodes p.cut_nodes (relabel_edges p.kept_edges (drop_edges p.cut_edges g)))))
