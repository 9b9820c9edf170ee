-- Each text has a graph or a fault: the graph is one.
use Rattle.std.proofs.Common.{◌≡◌, ℕ, List, [], ◌∷◌, Option, Some, None, Ok, Err, refl, sym, subst, arith}
use Rattle.std.specs.Prelude.{Result}
use Rattle.std.proofs.lemmas.List.{length-map}
use Rattle.gp_memory.proofs.Basics.{some_is}
use Rattle.gp_tokens.specs.declared.fault.LexFault.{LexFault}
use Rattle.gp_tokens.specs.declared.token.Token.{Token}
use Rattle.gp_tokens.specs.Lexed.{tokens_of}
use Rattle.gp_tokens.specs.Lines.{token_line}
use Rattle.gp_tokens.specs.Grammar.{Made, At, ◌followed_by◌, shape_of}
use Rattle.gp_tokens.specs.Shape.{one, other, second_of}
use Rattle.gp_tokens.specs.SignWants.{less}
use Rattle.gp_tokens.specs.Ahead.{◌>>=◌}
use Rattle.gp_tokens.specs.Reading.{reader_of}
use Rattle.gp_tokens.proofs.Shapes.{bind_some}
use Rattle.gp_values.specs.Graph.{Graph, IsGraph, empty_graph, with_node, with_edge}
use Rattle.gp_values.specs.Names.{Name, place_of}
use Rattle.gp_values.proofs.Graphs.{IsGraph-empty, IsGraph-with_node, IsGraph-with_edge}
use Rattle.gp_hostfile.specs.declared.tree.NodeTree.{NodeTree}
use Rattle.gp_hostfile.specs.declared.tree.EdgeTree.{EdgeTree}
use Rattle.gp_hostfile.specs.declared.fault.HostFault.{HostFault}
use Rattle.gp_hostfile.specs.declared.fault.HostFault.TheVariants as faults
use Rattle.gp_hostfile.specs.Grammar.{HostTree, position, nodes, edges, body, barred, host, IsHostShape}
use Rattle.gp_hostfile.specs.Host.{IsHostText, IsHostFault, atoms_of, node_mark, edge_mark, first_fault, node_names}
use Rattle.gp_hostfile.specs.Host as spec
use Rattle.gp_hostfile.specs.Laws.{HasAnswer, has_graph, has_fault}
use Rattle.gp_hostfile.specs.inside.Stages.{AreNodes, all_read, one_node_more, nodes_made, one_edge_more, edges_made, graph_made}
use Rattle.gp_hostfile.proofs.Always.{NodeTexts, EdgeTexts, nodes_texts, edges_texts, values_are_atoms, some_fault}
use Rattle.gp_hostfile.proofs.Built.{built_node, built_edge, are_nodes, is_node}
use Rattle.gp_hostfile.proofs.Hosts.{shaped, unread, graph_sound, graph_complete}

pub record TreeTexts (t : HostTree) : Type 0 where
  pub nodes : NodeTexts t.0
  pub edges : EdgeTexts t.1

body_texts : (ts rest : List Token) (t : HostTree) → shape_of body ts rest t → TreeTexts t
unfolding body nodes edges
body_texts ts rest t h = subst TreeTexts (sym h.made) (record { nodes = nodes_texts _ _ _ h.shape.first; edges = edges_texts _ _ _ h.shape.second.second.first })

barred_texts : (ts rest : List Token) (t : HostTree) → shape_of barred ts rest t → TreeTexts t
unfolding barred
barred_texts ts rest t (one q) = subst TreeTexts (sym q.made) (body_texts _ _ _ q.shape.second)
barred_texts ts rest t (other q) = body_texts _ _ _ q

behind_bracket : (ts rest : List Token) (t : HostTree) → shape_of (At less (Made second_of (position followed_by barred)) body) ts rest t → TreeTexts t
behind_bracket ts rest t (one p) = subst TreeTexts (sym p.made) (barred_texts _ _ _ p.shape.second)
behind_bracket ts rest t (other p) = body_texts _ _ _ p

host_texts : (ts rest : List Token) (t : HostTree) → IsHostShape ts rest t → TreeTexts t
unfolding host
host_texts ts rest t h = subst TreeTexts (sym h.made) (behind_bracket _ _ _ h.shape.second)

-- ---- what is built is a graph

nodes_keep : (ns : List NodeTree) (old new : Graph) → NodeTexts ns → IsGraph old → nodes_made ns old ≡ Some new → IsGraph new
unfolding nodes_made
nodes_keep [] old new t w h = subst IsGraph (some_is old new h) w
nodes_keep (n ∷ ns) old new t w h =
    let a = bind_some (one_node_more n old) (nodes_made ns) new h in
    let m = bind_some (node_mark n.mark) (λ m. atoms_of n.label >>= λ v. Some (with_node old (built_node n m v))) a.0 a.1 in
    let v = bind_some (atoms_of n.label) (λ v. Some (with_node old (built_node n m.0 v))) a.0 m.2 in
    let e : with_node old (built_node n m.0 v.0) ≡ a.0 = some_is (with_node old (built_node n m.0 v.0)) a.0 v.2 in
    nodes_keep ns a.0 new t.1 (subst IsGraph e (IsGraph-with_node old (built_node n m.0 v.0) w (values_are_atoms n.label v.0 t.0 v.1))) a.2

edges_keep : (nodes : List Name) (es : List EdgeTree) (old new : Graph) → EdgeTexts es → IsGraph old → AreNodes nodes old → edges_made nodes es old ≡ Some new → IsGraph new
unfolding edges_made
edges_keep nodes [] old new x w k h = subst IsGraph (some_is old new h) w
edges_keep nodes (e ∷ es) old new x w k h =
    let a = bind_some (one_edge_more nodes e old) (edges_made nodes es) new h in
    let s = bind_some (place_of nodes e.source) (λ s. place_of nodes e.target >>= λ t. edge_mark e.mark >>= λ m. atoms_of e.label >>= λ v. Some (with_edge old (built_edge s t m v))) a.0 a.1 in
    let t = bind_some (place_of nodes e.target) (λ t. edge_mark e.mark >>= λ m. atoms_of e.label >>= λ v. Some (with_edge old (built_edge s.0 t m v))) a.0 s.2 in
    let m = bind_some (edge_mark e.mark) (λ m. atoms_of e.label >>= λ v. Some (with_edge old (built_edge s.0 t.0 m v))) a.0 t.2 in
    let v = bind_some (atoms_of e.label) (λ v. Some (with_edge old (built_edge s.0 t.0 m.0 v))) a.0 m.2 in
    let same : with_edge old (built_edge s.0 t.0 m.0 v.0) ≡ a.0 = some_is (with_edge old (built_edge s.0 t.0 m.0 v.0)) a.0 v.2 in
    let graph = IsGraph-with_edge old (built_edge s.0 t.0 m.0 v.0) w (is_node nodes old e.source s.0 k s.1) (is_node nodes old e.target t.0 k t.1) (values_are_atoms e.label v.0 x.0 v.1) in
    edges_keep nodes es a.0 new x.1 (subst IsGraph same graph) (subst (AreNodes nodes) same k) a.2

graph_built : (t : HostTree) (g : Graph) → TreeTexts t → graph_made (node_names t) t ≡ Some g → IsGraph g
unfolding graph_made
graph_built t g x h =
    let n = bind_some (nodes_made t.0 empty_graph) (edges_made (node_names t) t.1) g h in
    edges_keep (node_names t) t.1 n.0 g x.edges (nodes_keep t.0 empty_graph n.0 x.nodes IsGraph-empty n.1) (are_nodes t.0 (node_names t) n.0 (length-map t.0 _) n.1) n.2

-- ---- the law

module _ (bytes : List ℕ) (ts : List Token) (lexed : tokens_of bytes ≡ Ok ts) (t : HostTree) (read : all_read (reader_of host ts) ≡ Some t) where
  built : first_fault t ≡ None → (o : Option Graph) → graph_made (node_names t) t ≡ o → HasAnswer bytes
  built f None h = absurd (graph_complete t f h)
  built f (Some g) h =
      let shape = shaped ts t read in
      has_graph g (record { tokens = ts; tree = t; lexed = lexed; shape = shape; faultless = f; built = graph_sound t g h; graph = graph_built t g (host_texts ts [] t shape) h })

  checked : (o : Option HostFault) → first_fault t ≡ o → HasAnswer bytes
  checked (Some e) f = has_fault e (spec.tree ts t lexed (shaped ts t read) f)
  checked None f = built f (graph_made (node_names t) t) refl

tree_answer : (bytes : List ℕ) (ts : List Token) → tokens_of bytes ≡ Ok ts → (o : Option HostTree) → all_read (reader_of host ts) ≡ o → HasAnswer bytes
tree_answer bytes ts h None f = has_fault (faults.Syntax (token_line bytes ts 0)) (spec.syntax ts h (unread ts f) (0, omega arith, refl))
tree_answer bytes ts h (Some t) f = checked bytes ts h t f (first_fault t) refl

text_answer : (bytes : List ℕ) (r : Result (List Token) LexFault) → tokens_of bytes ≡ r → HasAnswer bytes
text_answer bytes (Err e) h = has_fault (faults.Lex e) (spec.lex h (some_fault bytes e h))
text_answer bytes (Ok ts) h = tree_answer bytes ts h (all_read (reader_of host ts)) refl

pub answered : (bytes : List ℕ) → HasAnswer bytes
answered bytes = text_answer bytes (tokens_of bytes) refl
