-- The graph of a host text, and the first fault of a text that has none.
use Rattle.std.specs.Prelude.{◌≡◌, ◌≢◌, ℕ, ◌≤◌, List, [], ◌∷◌, ◌++◌, length, map, flat_map, Option, Some, None, option_map, slice_get, Result, Ok, Err}
use Rattle.std.specs.Option.{option_or}
use Rattle.gp_tokens.specs.declared.fault.LexFault.{LexFault}
use Rattle.gp_tokens.specs.declared.fault.LexFault.TheVariants as lex_faults
use Rattle.gp_tokens.specs.declared.token.Token.{Token}
use Rattle.gp_tokens.specs.Lexed.{tokens_of}
use Rattle.gp_tokens.specs.Lines.{token_line}
use Rattle.gp_tokens.specs.Numerals.{signed}
use Rattle.gp_tokens.specs.Ahead.{◌>>=◌}
use Rattle.gp_values.specs.declared.atom.Atom.{Atom}
use Rattle.gp_values.specs.declared.atom.Atom.TheVariants.{Int, Str}
use Rattle.gp_values.specs.declared.marks.NodeMark.{NodeMark}
use Rattle.gp_values.specs.declared.marks.NodeMark.TheVariants as node_marks
use Rattle.gp_values.specs.declared.marks.EdgeMark.{EdgeMark}
use Rattle.gp_values.specs.declared.marks.EdgeMark.TheVariants as edge_marks
use Rattle.gp_values.specs.Marks.{node_mark_named, edge_mark_named}
use Rattle.gp_values.specs.Names.{Name, place_of, first_doubled, first_unknown}
use Rattle.gp_values.specs.Graph.{Node, Edge, Graph as HostGraph, IsGraph, node_at, edge_at}
use Rattle.gp_graph.specs.declared.graph.Graph.{Graph}
use Rattle.gp_hostfile.specs.declared.tree.AtomTree.{AtomTree}
use Rattle.gp_hostfile.specs.declared.tree.AtomTree.TheVariants as atoms
use Rattle.gp_hostfile.specs.declared.tree.NodeTree.{NodeTree}
use Rattle.gp_hostfile.specs.declared.tree.EdgeTree.{EdgeTree}
use Rattle.gp_hostfile.specs.declared.fault.HostFault.{HostFault}
use Rattle.gp_hostfile.specs.declared.fault.HostFault.TheVariants as faults
use Rattle.gp_hostfile.specs.Grammar.{HostTree, IsHostShape}
use Rattle.gp_memory.specs.Free.{Free}

-- ---- values

-- the value of an atom; 2 ^ 127 without a minus has none
abbrev pub atom_of : AtomTree → Option Atom
atom_of (atoms.Number negative start value) = option_map Int (signed negative value)
atom_of (atoms.String s) = Some (Str s)

-- the list of a label, where each of its atoms has a value
abbrev pub atoms_of : List AtomTree → Option (List Atom)
atoms_of [] = Some []
atoms_of (a ∷ rest) = atom_of a >>= λ x. option_map (λ xs. x ∷ xs) (atoms_of rest)

-- the mark of a node by the word at its place, or by none
abbrev pub node_mark : Option Name → Option NodeMark
node_mark None = Some node_marks.None
node_mark (Some word) = node_mark_named word

-- the mark of an edge
abbrev pub edge_mark : Option Name → Option EdgeMark
edge_mark None = Some edge_marks.None
edge_mark (Some word) = edge_mark_named word

-- ---- names, in the order of the text

abbrev pub node_names : HostTree → List Name
node_names t = map (λ (n : NodeTree). n.name) t.0

abbrev pub edge_names : HostTree → List Name
edge_names t = map (λ (e : EdgeTree). e.name) t.1

abbrev pub end_names : HostTree → List Name
end_names t = flat_map (λ (e : EdgeTree). e.source ∷ e.target ∷ []) t.1

-- ---- faults

-- the first that something is found of
abbrev pub first_found : {A B : Type 0} → (A → Option B) → List A → Option B
first_found f [] = None
first_found f (x ∷ xs) = option_or (f x) (first_found f xs)

abbrev pub unless : {A B : Type 0} → B → Option A → Option B
unless y None = Some y
unless y (Some x) = None

-- the offset of a number that has no value
abbrev pub out_of_range : AtomTree → Option ℕ
out_of_range (atoms.Number negative start value) = unless start (signed negative value)
out_of_range (atoms.String s) = None

-- the first, in the labels of nodes and then of edges
abbrev pub first_out_of_range : HostTree → Option ℕ
first_out_of_range t = first_found out_of_range (flat_map (λ (n : NodeTree). n.label) t.0 ++ flat_map (λ (e : EdgeTree). e.label) t.1)

-- the name of a node, of an edge with a word that is no mark of its place
abbrev pub wrong_node : NodeTree → Option Name
wrong_node n = unless n.name (node_mark n.mark)

abbrev pub wrong_edge : EdgeTree → Option Name
wrong_edge e = unless e.name (edge_mark e.mark)

-- the first, among the nodes and then among the edges
abbrev pub first_wrong_mark : HostTree → Option Name
first_wrong_mark t = option_or (first_found wrong_node t.0) (first_found wrong_edge t.1)

-- The first fault of a tree: an integer out of range, then a node's name that stood before, an edge's name that stood
-- before, an end that is no node, a word that is no mark.
abbrev pub first_fault : HostTree → Option HostFault
first_fault t =
    option_or (option_map faults.NumberRange (first_out_of_range t))
    (option_or (option_map faults.TwoNodes (first_doubled (node_names t)))
    (option_or (option_map faults.TwoEdges (first_doubled (edge_names t)))
    (option_or (option_map faults.NoSuchEnd (first_unknown (node_names t) (end_names t)))
    (option_map faults.WrongMark (first_wrong_mark t)))))

-- the line of one of the tokens, or that on which the text ends
abbrev pub IsLineOfSome : List ℕ → List Token → ℕ → Type 0
IsLineOfSome bytes tokens line = (k : ℕ) × (k ≤ length tokens) × (line ≡ token_line bytes tokens k)

-- The first fault of a text. It is left open which token a fault of syntax tells the line of.
pub data IsHostFault (bytes : List ℕ) : HostFault → Type 0 where
  lex : {e : LexFault} → tokens_of bytes ≡ Err e → e ≢ lex_faults.NoMemory → IsHostFault bytes (faults.Lex e)
  syntax : {line : ℕ} (tokens : List Token) → tokens_of bytes ≡ Ok tokens → ((t : HostTree) → IsHostShape tokens [] t → ⊥) → IsLineOfSome bytes tokens line → IsHostFault bytes (faults.Syntax line)
  tree : {e : HostFault} (tokens : List Token) (t : HostTree) → tokens_of bytes ≡ Ok tokens → IsHostShape tokens [] t → first_fault t ≡ Some e → IsHostFault bytes e

-- ---- graphs

-- what stands in a graph at the number of such a node
pub record IsBuiltNode (n : NodeTree) (there : Option Node) : Type 0 where
  pub label : List Atom
  pub mark : NodeMark
  pub label_is : atoms_of n.label ≡ Some label
  pub mark_is : node_mark n.mark ≡ Some mark
  pub is : there ≡ Some (record { label = label; mark = mark; root = n.root })

-- what stands in a graph at the number of such an edge; its ends are the places of their names among those of nodes
pub record IsBuiltEdge (nodes : List Name) (e : EdgeTree) (there : Option Edge) : Type 0 where
  pub source : ℕ
  pub target : ℕ
  pub label : List Atom
  pub mark : EdgeMark
  pub begins : place_of nodes e.source ≡ Some source
  pub ends : place_of nodes e.target ≡ Some target
  pub label_is : atoms_of e.label ≡ Some label
  pub mark_is : edge_mark e.mark ≡ Some mark
  pub is : there ≡ Some (record { source = source; target = target; label = label; mark = mark })

-- nodes and edges are numbered from 0 in the order of the text
pub record IsBuilt (t : HostTree) (g : HostGraph) : Type 0 where
  pub next_node : g.next_node ≡ length t.0
  pub next_edge : g.next_edge ≡ length t.1
  pub nodes : (i : ℕ) (n : NodeTree) → slice_get t.0 i ≡ Some n → IsBuiltNode n (node_at g i)
  pub edges : (i : ℕ) (e : EdgeTree) → slice_get t.1 i ≡ Some e → IsBuiltEdge (node_names t) e (edge_at g i)

-- The text is a host with this graph: its tokens, with nothing behind them, are a tree without a fault, and the graph is
-- built from it. In a graph nothing stands at the next numbers or above.
pub record IsHostText (bytes : List ℕ) (g : HostGraph) : Type 0 where
  pub tokens : List Token
  pub tree : HostTree
  pub lexed : tokens_of bytes ≡ Ok tokens
  pub shape : IsHostShape tokens [] tree
  pub faultless : first_fault tree ≡ None
  pub built : IsBuilt tree g
  pub graph : IsGraph g

-- ---- the answer

-- a fault is the first of the text; want of memory may come at any text
abbrev pub IsRefusal : List ℕ → HostFault → Type 0
IsRefusal bytes faults.NoMemory = Free
IsRefusal bytes (faults.Lex e) = IsHostFault bytes (faults.Lex e)
IsRefusal bytes (faults.Syntax line) = IsHostFault bytes (faults.Syntax line)
IsRefusal bytes (faults.NumberRange at) = IsHostFault bytes (faults.NumberRange at)
IsRefusal bytes (faults.TwoNodes n) = IsHostFault bytes (faults.TwoNodes n)
IsRefusal bytes (faults.TwoEdges n) = IsHostFault bytes (faults.TwoEdges n)
IsRefusal bytes (faults.NoSuchEnd n) = IsHostFault bytes (faults.NoSuchEnd n)
IsRefusal bytes (faults.WrongMark n) = IsHostFault bytes (faults.WrongMark n)

-- the answer is the graph of the text, or its first fault
abbrev pub ReadsHost : List ℕ → Result Graph HostFault → Type 0
ReadsHost bytes (Ok g) = IsHostText bytes g.graph
ReadsHost bytes (Err e) = IsRefusal bytes e
