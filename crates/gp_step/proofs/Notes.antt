-- What is noted of an edit takes it back.
use Rattle.std.proofs.Common.{◌≡◌, ℕ, suc, ◌+◌, ◌-◌, ◌<◌, ◌≤◌, List, [], ◌∷◌, ◌++◌, reverse, replicate, drop, get_or, length, length-append, drop-cons, add-one, sym, subst, ap, refl, ◌∙◌, arith}
use Rattle.std.specs.Prelude.{Some, IsSome, IfSome, Option}
use Rattle.std.specs.Ordering.{nat_cmp}
use Rattle.std.specs.FinMap.{FinMap, insert}
use Rattle.gp_memory.proofs.Basics.{is_some_of as is_some, last_first, less_one, some_there as some_is}
use Rattle.gp_values.specs.declared.atom.Atom.{Atom}
use Rattle.gp_values.specs.declared.marks.EdgeMark.{EdgeMark}
use Rattle.gp_values.specs.Graph.{Graph, Node, Edge, IsGraph, HasNoEdges, node_at, edge_at, without_node, without_edge, with_node, with_edge, relabeled, relabeled_edge, without_node_number, without_edge_number}
use Rattle.gp_values.proofs.Graphs.{get-remove_here, get-insert_here}
use Rattle.gp_values.proofs.Edits.{node_put_back, edge_put_back, relabeled_back, insert-inserted, node_dropped, edge_dropped}
use Rattle.gp_step.specs.declared.inverse.Inverse.{Inverse}
use Rattle.gp_step.specs.declared.inverse.Inverse.TheVariants.{DropNode, DropEdge, PutNode, PutEdge, Relabel, RelabelEdge, BeginAt}
use Rattle.gp_step.specs.declared.made.Carried.{Carried}
use Rattle.gp_step.specs.declared.made.MadeEdge.{MadeEdge}
use Rattle.gp_step.specs.inside.Changes.{drop_edges, drop_nodes, with_nodes, with_edges, MayDropEdges, MayDropNodes, MayPutEdges}
use Rattle.gp_step.specs.inside.Made.{node_of, edge_of, nodes_of, edges_of}
use Rattle.gp_step.specs.Undo.{inverse_of, MayUndo, undone_by, Fits, Undoes}
use Rattle.gp_step.specs.inside.Notes.{KeepsUndo, KeepsUndoBehind}
use Rattle.gp_step.proofs.Turns.{edge_relabeled}

pub noted : (u : Inverse) (us : List Inverse) (g h : Graph) → MayUndo u h → inverse_of u h ≡ g → KeepsUndo us g (u ∷ us) h
noted u us g h may e = λ before w. record { fits = (may, subst (Fits us) (sym e) w.fits); same = ap (undone_by us) e ∙ w.same }

pub edge_cut : (us : List Inverse) (g : Graph) (e : ℕ) (d : Edge) → IsGraph g → edge_at g e ≡ Some d → KeepsUndo us g (PutEdge e d.source d.target d.label d.mark ∷ us) (without_edge g e)
edge_cut us g e d w was =
    noted (PutEdge e d.source d.target d.label d.mark) us g (without_edge g e)
    (w.edges_below e (is_some _ d was), get-remove_here g.edges e, w.sources e d was, w.targets e d was)
    (edge_put_back g e d was)

pub node_cut : (us : List Inverse) (g : Graph) (n : ℕ) (x : Node) → IsGraph g → node_at g n ≡ Some x → KeepsUndo us g (PutNode n x.label x.mark x.root ∷ us) (without_node g n)
node_cut us g n x w was =
    noted (PutNode n x.label x.mark x.root) us g (without_node g n) (w.nodes_below n (is_some _ x was), get-remove_here g.nodes n) (node_put_back g n x was)

more_than_none : (n : ℕ) → 0 < n + 1
more_than_none n = omega arith

no_edges_yet : (g : Graph) → IsGraph g → HasNoEdges g g.next_node
no_edges_yet g w = λ e d h. (
  λ s. let b : d.source < g.next_node = w.nodes_below d.source (w.sources e d h) in absurd (omega arith),
  λ t. let b : d.target < g.next_node = w.nodes_below d.target (w.targets e d h) in absurd (omega arith),
)

pub node_added : (us : List Inverse) (g : Graph) (x : Node) → IsGraph g → KeepsUndo us g (DropNode ∷ us) (with_node g x)
node_added us g x w =
    let there : IsSome (node_at (with_node g x) g.next_node) = is_some _ x (get-insert_here g.nodes g.next_node x) in
    noted DropNode us g (with_node g x)
    (more_than_none g.next_node, subst (λ n. IsSome (node_at (with_node g x) n)) (sym (less_one g.next_node)) there, subst (HasNoEdges (with_node g x)) (sym (less_one g.next_node)) (no_edges_yet g w))
    (ap (λ n. without_node_number (without_node (with_node g x) n)) (less_one g.next_node) ∙ node_dropped g x w)

pub edge_added : (us : List Inverse) (g : Graph) (d : Edge) → IsGraph g → KeepsUndo us g (DropEdge ∷ us) (with_edge g d)
edge_added us g d w =
    let there : IsSome (edge_at (with_edge g d) g.next_edge) = is_some _ d (get-insert_here g.edges g.next_edge d) in
    noted DropEdge us g (with_edge g d)
    (more_than_none g.next_edge, subst (λ n. IsSome (edge_at (with_edge g d) n)) (sym (less_one g.next_edge)) there)
    (ap (λ n. without_edge_number (without_edge (with_edge g d) n)) (less_one g.next_edge) ∙ edge_dropped g d w)

pub node_relabeled : (us : List Inverse) (g : Graph) (n : ℕ) (x y : Node) → node_at g n ≡ Some x → KeepsUndo us g (Relabel n x.label x.mark x.root ∷ us) (relabeled g n y)
node_relabeled us g n x y was =
    noted (Relabel n x.label x.mark x.root) us g (relabeled g n y) (is_some _ y (get-insert_here g.nodes n y)) (relabeled_back g n x y was)

label_was : (o : Option Node) (x : Node) (l : List Atom) → o ≡ Some x → IfSome o (λ y. l ≡ y.label) → l ≡ x.label
label_was o x l e h = rw e at h

pub relabel_noted : (us : List Inverse) (g : Graph) (n : ℕ) (x y : Node) (l : List Atom) → node_at g n ≡ Some x → IfSome (node_at g n) (λ z. l ≡ z.label) → KeepsUndo us g (Relabel n l x.mark x.root ∷ us) (relabeled g n y)
relabel_noted us g n x y l was h = rw (label_was (node_at g n) x l was h) (node_relabeled us g n x y was)

-- an edge that carries again what it did
edge_back : (g : Graph) (e : ℕ) (d : Edge) (l : List Atom) (m : EdgeMark) → edge_at g e ≡ Some d → relabeled_edge (relabeled_edge g e l m) e d.label d.mark ≡ g
edge_back g e d l m was =
    let x : Edge = record d { label = l; mark = m } in
    ap (λ (h : Graph). relabeled_edge h e d.label d.mark) (edge_relabeled g e d x was refl refl)
    ∙ edge_relabeled (record g { edges = insert g.edges e x }) e x d (get-insert_here g.edges e x) refl refl
    ∙ ap (λ (s : FinMap nat_cmp Edge). record g { edges = s }) (insert-inserted g.edges e d x was)

-- what carries something else is still there
edge_there : (g : Graph) (e : ℕ) (d : Edge) (l : List Atom) (m : EdgeMark) → edge_at g e ≡ Some d → edge_at (relabeled_edge g e l m) e ≡ Some (record d { label = l; mark = m })
edge_there g e d l m was =
    let x : Edge = record d { label = l; mark = m } in
    ap (λ (h : Graph). edge_at h e) (edge_relabeled g e d x was refl refl) ∙ get-insert_here g.edges e x

pub edge_remains : (g : Graph) (e : ℕ) (l : List Atom) (m : EdgeMark) → IsSome (edge_at g e) → IsSome (edge_at (relabeled_edge g e l m) e)
edge_remains g e l m s = let d = some_is (edge_at g e) s in is_some _ _ (edge_there g e d.0 l m d.1)

edge_changed : (us : List Inverse) (g : Graph) (e : ℕ) (d : Edge) (l : List Atom) (m : EdgeMark) → edge_at g e ≡ Some d → KeepsUndo us g (RelabelEdge e d.label d.mark ∷ us) (relabeled_edge g e l m)
edge_changed us g e d l m was =
    noted (RelabelEdge e d.label d.mark) us g (relabeled_edge g e l m) (is_some _ _ (edge_there g e d l m was)) (edge_back g e d l m was)

edge_label_was : (o : Option Edge) (d : Edge) (l : List Atom) → o ≡ Some d → IfSome o (λ y. l ≡ y.label) → l ≡ d.label
edge_label_was o d l e h = rw e at h

pub edge_noted : (us : List Inverse) (g : Graph) (e : ℕ) (d : Edge) (l old : List Atom) (m : EdgeMark) → edge_at g e ≡ Some d → IfSome (edge_at g e) (λ z. old ≡ z.label) → KeepsUndo us g (RelabelEdge e old d.mark ∷ us) (relabeled_edge g e l m)
edge_noted us g e d l old m was h = rw (edge_label_was (edge_at g e) d old was h) (edge_changed us g e d l m was)

pub edge_passed : (us : List Inverse) (g : Graph) (e : ℕ) → IsSome (edge_at g e) → KeepsUndo us g (BeginAt e ∷ us) g
edge_passed us g e s = noted (BeginAt e) us g g s refl

-- ---- edits, one after another

pub popped : {X : Type 0} (xs ys : List X) (x : X) → xs ≡ ys ++ x ∷ [] → reverse xs ≡ x ∷ reverse ys
popped xs ys x e = ap reverse e ∙ last_first ys x

pub keeps_on : (us vs ws : List Inverse) (g h k : Graph) → KeepsUndo us g vs h → KeepsUndo vs h ws k → KeepsUndo us g ws k
keeps_on us vs ws g h k first then = λ before w. then before (first before w)

pub edge_dropped_next : (xs : List ℕ) (n d : ℕ) (g h end : Graph) → n < length xs → h ≡ without_edge g (get_or xs n d)
    → MayDropEdges (drop n xs) g → drop_edges (drop n xs) g ≡ end
    → record { may : MayDropEdges (drop (n + 1) xs) h; graph : drop_edges (drop (n + 1) xs) h ≡ end }
edge_dropped_next xs n d g h end b made may same =
    let m = subst (λ l. MayDropEdges l g) (drop-cons xs n d b) may in
    let s = subst (λ l. drop_edges l g ≡ end) (drop-cons xs n d b) same in
    record { may = rw (add-one, made) m.1; graph = rw (add-one, made) s }

pub node_next : (xs : List ℕ) (n d : ℕ) (g : Graph) → n < length xs → MayDropNodes (drop n xs) g → IsSome (node_at g (get_or xs n d)) × HasNoEdges g (get_or xs n d)
node_next xs n d g h may = let m = subst (λ l. MayDropNodes l g) (drop-cons xs n d h) may in (m.0, m.1)

pub node_dropped_next : (xs : List ℕ) (n d : ℕ) (g h end : Graph) → n < length xs → h ≡ without_node g (get_or xs n d)
    → MayDropNodes (drop n xs) g → drop_nodes (drop n xs) g ≡ end
    → record { may : MayDropNodes (drop (n + 1) xs) h; graph : drop_nodes (drop (n + 1) xs) h ≡ end }
node_dropped_next xs n d g h end b made may same =
    let m = subst (λ l. MayDropNodes l g) (drop-cons xs n d b) may in
    let s = subst (λ l. drop_nodes l g ≡ end) (drop-cons xs n d b) same in
    record { may = rw (add-one, made) m.2; graph = rw (add-one, made) s }

pub added_next : (xs ys : List Carried) (k : Carried) (g h end : Graph) → xs ≡ ys ++ k ∷ [] → h ≡ with_node g (node_of k) → with_nodes (nodes_of (reverse xs)) g ≡ end → with_nodes (nodes_of (reverse ys)) h ≡ end
added_next xs ys k g h end e made same = rw made (subst (λ l. with_nodes (nodes_of l) g ≡ end) (popped xs ys k e) same)

pub put_next : (xs ys : List MadeEdge) (k : MadeEdge) (g h end : Graph) → xs ≡ ys ++ k ∷ [] → h ≡ with_edge g (edge_of k)
    → MayPutEdges (edges_of (reverse xs)) g → with_edges (edges_of (reverse xs)) g ≡ end
    → record { may : MayPutEdges (edges_of (reverse ys)) h; graph : with_edges (edges_of (reverse ys)) h ≡ end }
put_next xs ys k g h end e made may same =
    let m = subst (λ l. MayPutEdges (edges_of l) g) (popped xs ys k e) may in
    let s = subst (λ l. with_edges (edges_of l) g ≡ end) (popped xs ys k e) same in
    record { may = rw made m.2; graph = rw made s }

-- what was made so far and one more is taken back first
made_so_far : (n left more : ℕ) → left ≡ more + 1 → more < n → n - more ≡ suc (n - left)
made_so_far n left more e b = omega arith

pub behind_next : (u : Inverse) (n left more : ℕ) (g h k : Graph) → left ≡ more + 1 → left ≤ n → KeepsUndoBehind (n - left) u g h → ((us : List Inverse) → KeepsUndo us h (u ∷ us) k) → KeepsUndoBehind (n - more) u g k
behind_next u n left more g h k e b before one =
    let c : n - more ≡ suc (n - left) = made_so_far n left more e (omega arith) in
    λ us. subst (λ m. KeepsUndo us g (replicate m u ++ us) k) (sym c) (keeps_on us (replicate (n - left) u ++ us) (u ∷ (replicate (n - left) u ++ us)) g h k (before us) (one (replicate (n - left) u ++ us)))

all_made : (n left : ℕ) → left ≡ 0 → n - left ≡ n
all_made n left e = omega arith

pub behind_all : (u : Inverse) (n left : ℕ) (g h : Graph) → left ≡ 0 → KeepsUndoBehind (n - left) u g h → KeepsUndoBehind n u g h
behind_all u n left g h e k = subst (λ m. KeepsUndoBehind m u g h) (all_made n left e) k

pub one_longer : {X : Type 0} (xs ys : List X) (x : X) → xs ≡ ys ++ x ∷ [] → length xs ≡ length ys + 1
one_longer xs ys x e = ap length e ∙ length-append ys (x ∷ [])

-- ---- a whole step

pub undone_together : (us vs : List Inverse) (n e k l : ℕ) (g a b : Graph) → us ≡ [] → KeepsUndo (reverse us) g (reverse vs) a → KeepsUndoBehind n DropNode a b → (h : Graph) → KeepsUndoBehind e DropEdge b h
    → k ≡ n → l ≡ e → Undoes (replicate l DropEdge ++ (replicate k DropNode ++ reverse vs)) h g
undone_together us vs n e k l g a b none first nodes h edges ek el =
    let start : Undoes (reverse us) g g = rw none (record { fits = tt; same = refl }) in
    rw (ek, el) (edges (replicate n DropNode ++ reverse vs) g (nodes (reverse vs) g (first g start)))
