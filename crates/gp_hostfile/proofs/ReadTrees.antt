-- The trees of graphs' texts have no fault.
use Rattle.std.proofs.Common.{◌≡◌, ℕ, zero, suc, ◌+◌, ◌^◌, ◌≤◌, true, List, [], ◌∷◌, ◌++◌, length, map, Option, Some, None, ℤ, decimal, refl, ap, subst, ◌∙◌, arith}
use Rattle.std.specs.Prelude.{slice_get, option_map, flat_map}
use Rattle.std.specs.Option.{option_or}
use Rattle.gp_memory.proofs.Basics.{some_is}
use Rattle.gp_tokens.specs.Numerals.{signed}
use Rattle.gp_values.specs.declared.atom.Atom.{Atom}
use Rattle.gp_values.specs.declared.atom.Atom.TheVariants.{Int}
use Rattle.gp_values.specs.Names.{Name, has_name, first_doubled, first_unknown}
use Rattle.gp_values.specs.Graph.{Node, Edge}
use Rattle.gp_hostfile.specs.declared.tree.AtomTree.{AtomTree}
use Rattle.gp_hostfile.specs.declared.tree.AtomTree.TheVariants as atoms
use Rattle.gp_hostfile.specs.declared.tree.NodeTree.{NodeTree}
use Rattle.gp_hostfile.specs.declared.tree.EdgeTree.{EdgeTree}
use Rattle.gp_hostfile.specs.Grammar.{HostTree}
use Rattle.gp_hostfile.specs.Host.{atom_of, atoms_of, node_names, edge_names, end_names, first_found, unless, out_of_range, first_out_of_range, wrong_node, wrong_edge, first_fault}
use Rattle.gp_hostfile.proofs.GraphStands.{Each}
use Rattle.gp_hostfile.proofs.NumberNames.{RisesFrom, names, no_name_twice}
use Rattle.gp_hostfile.proofs.NumberedMaps.{numbers_of, numbered_on}
use Rattle.gp_hostfile.proofs.Shows.{Match}
use Rattle.gp_hostfile.proofs.ReadLines.{IsNodeTree, IsEdgeTree, IsTreeOf}

-- ---- matches

pub match_length : {X A : Type 0} (P : X → A → Type 0) (xs : List X) (trees : List A) → Match P xs trees → length trees ≡ length xs
match_length P [] [] m = refl
match_length P [] (a ∷ trees) m = absurd m
match_length P (x ∷ xs) [] m = absurd m
match_length P (x ∷ xs) (a ∷ trees) m = ap suc (match_length P xs trees m.1)

pub match_at : {X A : Type 0} (P : X → A → Type 0) (xs : List X) (trees : List A) (i : ℕ) (a : A) → Match P xs trees → slice_get trees i ≡ Some a → (x : X) × (slice_get xs i ≡ Some x) × P x a
match_at P [] [] i a m h = absurd cc
match_at P [] (b ∷ trees) i a m h = absurd m
match_at P (x ∷ xs) [] i a m h = absurd m
match_at P (x ∷ xs) (b ∷ trees) zero a m h = (x, refl, subst (P x) (some_is b a h) m.0)
match_at P (x ∷ xs) (b ∷ trees) (suc i) a m h = match_at P xs trees i a m.1 h

-- what is found of none
none_found : {X A B : Type 0} (P : X → A → Type 0) (f : A → Option B) → ((x : X) (a : A) → P x a → f a ≡ None) → (xs : List X) (trees : List A) → Match P xs trees → first_found f trees ≡ None
none_found P f h [] [] m = refl
none_found P f h [] (a ∷ trees) m = absurd m
none_found P f h (x ∷ xs) [] m = absurd m
none_found P f h (x ∷ xs) (a ∷ trees) m = rw (h x a m.0, none_found P f h xs trees m.1) refl

found_joined : {A B : Type 0} (f : A → Option B) (xs ys : List A) → first_found f xs ≡ None → first_found f ys ≡ None → first_found f (xs ++ ys) ≡ None
found_joined f [] ys a b = b
found_joined {A} {B} f (x ∷ xs) ys a b = go (f x) refl a (λ h. found_joined f xs ys h b)
  where
    go : (o : Option B) → f x ≡ o → option_or o (first_found f xs) ≡ None → (first_found f xs ≡ None → first_found f (xs ++ ys) ≡ None) → first_found f ((x ∷ xs) ++ ys) ≡ None
    go None e h below = rw e (below h)
    go (Some y) e h below = absurd cc

-- ---- integers

in_range : (a : AtomTree) (x : Atom) → atom_of a ≡ Some x → out_of_range a ≡ None
in_range (atoms.Number negative start value) x h = go (signed negative value) h
  where
    go : (o : Option ℤ) → option_map Int o ≡ Some x → unless start o ≡ None
    go None h = absurd cc
    go (Some z) h = refl
in_range (atoms.String s) x h = refl

all_in_range : (trees : List AtomTree) (v : List Atom) → atoms_of trees ≡ Some v → first_found out_of_range trees ≡ None
all_in_range [] v h = refl
all_in_range (a ∷ trees) v h = go (atom_of a) refl h (λ w h. all_in_range trees w h)
  where
    rest : (o : Option (List Atom)) → atoms_of trees ≡ o → (x : Atom) → option_map (λ xs. x ∷ xs) o ≡ Some v → ((w : List Atom) → atoms_of trees ≡ Some w → first_found out_of_range trees ≡ None) → first_found out_of_range trees ≡ None
    rest None e x h below = absurd cc
    rest (Some w) e x h below = below w e

    go : (o : Option Atom) → atom_of a ≡ o → atoms_of (a ∷ trees) ≡ Some v → ((w : List Atom) → atoms_of trees ≡ Some w → first_found out_of_range trees ≡ None) → first_found out_of_range (a ∷ trees) ≡ None
    go None e h below = let wrong : None ≡ Some v = rw e at h in absurd cc
    go (Some x) e h below = rw (in_range a x e, rest (atoms_of trees) refl x (rw e at h) below) refl

flat_in_range : {X A : Type 0} (P : X → A → Type 0) (f : A → List AtomTree) → ((x : X) (a : A) → P x a → first_found out_of_range (f a) ≡ None) → (xs : List X) (trees : List A) → Match P xs trees → first_found out_of_range (flat_map f trees) ≡ None
flat_in_range P f h [] [] m = refl
flat_in_range P f h [] (a ∷ trees) m = absurd m
flat_in_range P f h (x ∷ xs) [] m = absurd m
flat_in_range P f h (x ∷ xs) (a ∷ trees) m = found_joined out_of_range (f a) (flat_map f trees) (h x a m.0) (flat_in_range P f h xs trees m.1)

-- ---- names

pub node_names_are : (ns : List (ℕ × Node)) (trees : List NodeTree) → Match IsNodeTree ns trees → map (λ (n : NodeTree). n.name) trees ≡ names 110 (numbers_of ns)
node_names_are [] [] m = refl
node_names_are [] (a ∷ trees) m = absurd m
node_names_are (x ∷ xs) [] m = absurd m
node_names_are (x ∷ xs) (a ∷ trees) m = let e = m.0.name in let below = node_names_are xs trees m.1 in λ i. e i ∷ below i

edge_names_are : (ds : List (ℕ × Edge)) (trees : List EdgeTree) → Match IsEdgeTree ds trees → map (λ (e : EdgeTree). e.name) trees ≡ names 101 (numbers_of ds)
edge_names_are [] [] m = refl
edge_names_are [] (a ∷ trees) m = absurd m
edge_names_are (x ∷ xs) [] m = absurd m
edge_names_are (x ∷ xs) (a ∷ trees) m = let e = m.0.name in let below = edge_names_are xs trees m.1 in λ i. e i ∷ below i

numbered_rise : {X : Type 0} (i : ℕ) (xs : List X) → i + length xs ≤ 10 ^ 64 → RisesFrom i (numbers_of (numbered_on i xs))
numbered_rise i [] few = tt
numbered_rise i (x ∷ xs) few = (omega arith, omega arith, numbered_rise (i + 1) xs (omega arith))

-- the ends of an edge are among the names
pub record HasEnds (known : List Name) (d : Edge) : Type 0 where
  pub source : has_name known (110 ∷ decimal d.source) ≡ true
  pub target : has_name known (110 ∷ decimal d.target) ≡ true

ends_known : (known : List Name) (i : ℕ) (ds : List Edge) (trees : List EdgeTree) → Each (HasEnds known) ds → Match IsEdgeTree (numbered_on i ds) trees → first_unknown known (flat_map (λ (e : EdgeTree). e.source ∷ e.target ∷ []) trees) ≡ None
ends_known known i [] [] h m = refl
ends_known known i [] (a ∷ trees) h m = absurd m
ends_known known i (d ∷ ds) [] h m = absurd m
ends_known known i (d ∷ ds) (e ∷ trees) h m = rw (m.0.source, m.0.target, h.0.source, h.0.target) (ends_known known (i + 1) ds trees h.1 m.1)

-- ---- no fault

pub none_faulty : (ns : List (ℕ × Node)) (ds : List Edge) (t : HostTree) → IsTreeOf ns ds t → RisesFrom 0 (numbers_of ns) → length ds ≤ 10 ^ 64 → Each (HasEnds (names 110 (numbers_of ns))) ds → first_fault t ≡ None
none_faulty ns ds t is rises few known =
    let node_label = flat_in_range IsNodeTree (λ (n : NodeTree). n.label) (λ x n h. all_in_range n.label x.1.label h.label) ns t.0 is.nodes in
    let edge_label = flat_in_range IsEdgeTree (λ (e : EdgeTree). e.label) (λ x e h. all_in_range e.label x.1.label h.label) (numbered_on 0 ds) t.1 is.edges in
    let range : first_out_of_range t ≡ None = found_joined out_of_range (flat_map (λ (n : NodeTree). n.label) t.0) (flat_map (λ (e : EdgeTree). e.label) t.1) node_label edge_label in
    let two_nodes : first_doubled (node_names t) ≡ None = ap first_doubled (node_names_are ns t.0 is.nodes) ∙ no_name_twice 110 0 (numbers_of ns) rises in
    let two_edges : first_doubled (edge_names t) ≡ None = ap first_doubled (edge_names_are (numbered_on 0 ds) t.1 is.edges) ∙ no_name_twice 101 0 (numbers_of (numbered_on 0 ds)) (numbered_rise 0 ds (omega arith)) in
    let ends : first_unknown (node_names t) (end_names t) ≡ None = ap (λ ks. first_unknown ks (end_names t)) (node_names_are ns t.0 is.nodes) ∙ ends_known (names 110 (numbers_of ns)) 0 ds t.1 known is.edges in
    let wrong_nodes : first_found wrong_node t.0 ≡ None = none_found IsNodeTree wrong_node (λ x n h. ap (unless n.name) h.mark) ns t.0 is.nodes in
    let wrong_edges : first_found wrong_edge t.1 ≡ None = none_found IsEdgeTree wrong_edge (λ x e h. ap (unless e.name) h.mark) (numbered_on 0 ds) t.1 is.edges in
    rw (range, two_nodes, two_edges, ends, wrong_nodes, wrong_edges) refl
