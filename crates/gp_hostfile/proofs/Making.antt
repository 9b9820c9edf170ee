-- The loops that make a graph, one item after the other.
use Rattle.std.proofs.Common.{subst, take, zero, arith, ◌≡◌, [], ◌++◌, append_assoc, append-nil, ℕ, suc, ◌+◌, ◌<◌, ◌≤◌, List, ◌∷◌, length, get_or, drop, Option, Some, refl, sym, ap, ◌∙◌, None, add-one, drop-cons}
use Rattle.std.specs.Prelude.{option_map}
use Rattle.std.specs.List.{AllZip}
use Rattle.std.proofs.Math.Seq.{take-suc}
use Rattle.std.proofs.Math.ListN.{drop_of_length-le}
use Rattle.gp_tokens.specs.Ahead.{◌>>=◌}
use Rattle.gp_values.specs.declared.atom.Atom.{Atom}
use Rattle.gp_values.specs.declared.marks.EdgeMark.{EdgeMark}
use Rattle.gp_values.specs.Names.{Name, place_of}
use Rattle.gp_values.specs.Graph.{Graph, with_edge}
use Rattle.gp_hostfile.specs.declared.tree.AtomTree.{AtomTree}
use Rattle.gp_hostfile.specs.declared.tree.NodeTree.{NodeTree}
use Rattle.gp_hostfile.specs.declared.tree.EdgeTree.{EdgeTree}
use Rattle.gp_hostfile.specs.declared.fault.HostFault.{HostFault}
use Rattle.gp_hostfile.specs.declared.fault.HostFault.TheVariants as faults
use Rattle.gp_hostfile.specs.Host.{atom_of, atoms_of, edge_mark, unless}
use Rattle.gp_hostfile.specs.inside.Stages.{Refuses, Fails, one_node_more, nodes_made, one_edge_more, edges_made}

pub drop_item : {A : Type 0} (xs : List A) (i : ℕ) (x : A) → i < length xs → x ≡ get_or xs i x → drop i xs ≡ x ∷ drop (i + 1) xs
drop_item xs i x lt is = drop-cons xs i x lt ∙ ap (λ y. y ∷ drop (suc i) xs) (sym is) ∙ rw add-one refl

pub failed : {A B : Type 0} (e : HostFault) (made : Option A) (f : A → Option B) (whole : Option B) → Fails e made → (made >>= f) ≡ whole → Fails e whole
failed faults.NoMemory made f whole h same = tt
failed (faults.Lex x) made f whole h same = sym same ∙ ap (λ o. o >>= f) h
failed (faults.Syntax k) made f whole h same = sym same ∙ ap (λ o. o >>= f) h
failed (faults.NumberRange at) made f whole h same = sym same ∙ ap (λ o. o >>= f) h
failed (faults.TwoNodes n) made f whole h same = sym same ∙ ap (λ o. o >>= f) h
failed (faults.TwoEdges n) made f whole h same = sym same ∙ ap (λ o. o >>= f) h
failed (faults.NoSuchEnd n) made f whole h same = sym same ∙ ap (λ o. o >>= f) h
failed (faults.WrongMark n) made f whole h same = sym same ∙ ap (λ o. o >>= f) h

module _ (ns : List NodeTree) (i : ℕ) (n : NodeTree) (lt : i < length ns) (is : n ≡ get_or ns i n) (old : Graph) (whole : Option Graph)
    (same : nodes_made (drop i ns) old ≡ whole) where
  node_link : (one_node_more n old >>= nodes_made (drop (i + 1) ns)) ≡ whole
  unfolding nodes_made
  node_link = ap (λ xs. nodes_made xs old) (sym (drop_item ns i n lt is)) ∙ same

  pub nodes_go_on : (new : Graph) → one_node_more n old ≡ Some new → nodes_made (drop (i + 1) ns) new ≡ whole
  nodes_go_on new h = ap (λ o. o >>= nodes_made (drop (i + 1) ns)) (sym h) ∙ node_link

  pub nodes_stop : (e : HostFault) → Fails e (one_node_more n old) → Fails e whole
  nodes_stop e h = failed e (one_node_more n old) (nodes_made (drop (i + 1) ns)) whole h node_link

pub nodes_end : (ns : List NodeTree) (i : ℕ) (old : Graph) (whole : Option Graph) → length ns ≤ i → nodes_made (drop i ns) old ≡ whole → whole ≡ Some old
unfolding nodes_made
nodes_end ns i old whole le same = sym same ∙ ap (λ xs. nodes_made xs old) (drop_of_length-le ns le)

module _ (nodes : List Name) (es : List EdgeTree) (i : ℕ) (e : EdgeTree) (lt : i < length es) (is : e ≡ get_or es i e) (old : Graph) (whole : Option Graph)
    (same : edges_made nodes (drop i es) old ≡ whole) where
  edge_link : (one_edge_more nodes e old >>= edges_made nodes (drop (i + 1) es)) ≡ whole
  unfolding edges_made
  edge_link = ap (λ xs. edges_made nodes xs old) (sym (drop_item es i e lt is)) ∙ same

  pub edges_go_on : (new : Graph) → one_edge_more nodes e old ≡ Some new → edges_made nodes (drop (i + 1) es) new ≡ whole
  edges_go_on new h = ap (λ o. o >>= edges_made nodes (drop (i + 1) es)) (sym h) ∙ edge_link

  pub edges_stop : (r : HostFault) → Fails r (one_edge_more nodes e old) → Fails r whole
  edges_stop r h = failed r (one_edge_more nodes e old) (edges_made nodes (drop (i + 1) es)) whole h edge_link

pub edges_end : (nodes : List Name) (es : List EdgeTree) (i : ℕ) (old : Graph) (whole : Option Graph) → length es ≤ i → edges_made nodes (drop i es) old ≡ whole → whole ≡ Some old
unfolding edges_made
edges_end nodes es i old whole le same = sym same ∙ ap (λ xs. edges_made nodes xs old) (drop_of_length-le es le)

-- ---- parts of a node or an edge

stays : (B : Type 0) (e : HostFault) → Fails {Y = B} e None
stays B faults.NoMemory = tt
stays B (faults.Lex x) = refl
stays B (faults.Syntax k) = refl
stays B (faults.NumberRange at) = refl
stays B (faults.TwoNodes n) = refl
stays B (faults.TwoEdges n) = refl
stays B (faults.NoSuchEnd n) = refl
stays B (faults.WrongMark n) = refl

unrefused : {B : Type 0} (e : HostFault) (made : Option B) → Refuses e None → Fails e made
unrefused faults.NoMemory made h = tt
unrefused (faults.Lex x) made h = absurd cc
unrefused (faults.Syntax k) made h = absurd cc
unrefused (faults.NumberRange at) made h = absurd cc
unrefused (faults.TwoNodes n) made h = absurd cc
unrefused (faults.TwoEdges n) made h = absurd cc
unrefused (faults.NoSuchEnd n) made h = absurd cc
unrefused (faults.WrongMark n) made h = absurd cc

not_found : {A B : Type 0} (e fault : HostFault) (found : Option A) (f : A → Option B) → Refuses e (unless fault found) → Fails e (found >>= f)
not_found e fault None f h = stays _ e
not_found e fault (Some x) f h = unrefused e (f x) h

module _ (nodes : List Name) (e : EdgeTree) (g : Graph) where
  module _ (s : ℕ) (from : place_of nodes e.source ≡ Some s) where
    module _ (t : ℕ) (to : place_of nodes e.target ≡ Some t) where
      pub mark_missing : (r fault : HostFault) → Refuses r (unless fault (edge_mark e.mark)) → Fails r (one_edge_more nodes e g)
      mark_missing r fault h = rw (from, to) (not_found r fault (edge_mark e.mark) _ h)

      module _ (m : EdgeMark) (marked : edge_mark e.mark ≡ Some m) where
        pub label_missing : (r : HostFault) → Fails r (atoms_of e.label) → Fails r (one_edge_more nodes e g)
        label_missing r h = rw (from, to, marked) (failed r (atoms_of e.label) _ _ h refl)

        pub edge_made : (v : List Atom) → atoms_of e.label ≡ Some v → one_edge_more nodes e g ≡ Some (with_edge g (record { source = s; target = t; label = v; mark = m }))
        edge_made v labelled = rw (from, to, marked, labelled) refl

-- ---- the atoms of a label

over_bind : {A B C : Type 0} (f : B → C) (o : Option A) (g : A → Option B) → option_map f (o >>= g) ≡ (o >>= λ x. option_map f (g x))
over_bind f None g = refl
over_bind f (Some x) g = refl

behind_one : (old : List Atom) (v : Atom) (r : Option (List Atom)) → option_map (λ xs. (old ++ v ∷ []) ++ xs) r ≡ option_map (λ xs. old ++ xs) (option_map (λ xs. v ∷ xs) r)
behind_one old v None = refl
behind_one old v (Some xs) = ap Some (append_assoc old (v ∷ []) xs)

module _ (label : List AtomTree) (i : ℕ) (a : AtomTree) (lt : i < length label) (is : a ≡ get_or label i a) (old : List Atom) (whole : Option (List Atom))
    (same : option_map (λ xs. old ++ xs) (atoms_of (drop i label)) ≡ whole) where
  abbrev rest : Option (List Atom)
  rest = atoms_of (drop (i + 1) label)

  atom_link : (atom_of a >>= λ x. option_map (λ xs. old ++ xs) (option_map (λ xs. x ∷ xs) rest)) ≡ whole
  atom_link =
      sym (over_bind (λ xs. old ++ xs) (atom_of a) (λ x. option_map (λ xs. x ∷ xs) rest))
      ∙ ap (λ l. option_map (λ xs. old ++ xs) (atoms_of l)) (sym (drop_item label i a lt is)) ∙ same

  pub atoms_go_on : (v : Atom) (new : List Atom) → atom_of a ≡ Some v → new ≡ old ++ v ∷ [] → option_map (λ xs. new ++ xs) rest ≡ whole
  atoms_go_on v new h more =
      ap (λ l. option_map (λ xs. l ++ xs) rest) more ∙ behind_one old v rest ∙ sym (ap (λ o. o >>= λ x. option_map (λ xs. old ++ xs) (option_map (λ xs. x ∷ xs) rest)) h) ∙ atom_link

  pub atoms_stop : (e : HostFault) → Fails e (atom_of a) → Fails e whole
  atoms_stop e h = failed e (atom_of a) _ whole h atom_link

pub atoms_end : (label : List AtomTree) (i : ℕ) (old : List Atom) (whole : Option (List Atom)) → length label ≤ i → option_map (λ xs. old ++ xs) (atoms_of (drop i label)) ≡ whole → whole ≡ Some old
atoms_end label i old whole le same = sym same ∙ ap (λ l. option_map (λ xs. old ++ xs) (atoms_of l)) (drop_of_length-le label le) ∙ ap Some (append-nil old)

-- ---- the ends of edges, beside the edges

pub zip_push : {A B : Type 0} (R : A → B → Type 0) (xs : List A) (ys : List B) (x : A) (y : B) → AllZip R xs ys → R x y → AllZip R (xs ++ x ∷ []) (ys ++ y ∷ [])
zip_push R [] [] x y h r = (r, tt)
zip_push R [] (b ∷ ys) x y h r = absurd h
zip_push R (a ∷ xs) [] x y h r = absurd h
zip_push R (a ∷ xs) (b ∷ ys) x y h r = (h.0, zip_push R xs ys x y h.1 r)

pub zip_at : {A B : Type 0} (R : A → B → Type 0) (xs : List A) (ys : List B) (i : ℕ) (x : A) (d : B) → AllZip R xs ys → i < length xs → x ≡ get_or xs i x → R x (get_or ys i d)
zip_at R [] ys i x d h l e = absurd (omega arith)
zip_at R (a ∷ xs) [] i x d h l e = absurd h
zip_at R (a ∷ xs) (b ∷ ys) zero x d h l e = subst (λ z. R z b) (sym e) h.0
zip_at R (a ∷ xs) (b ∷ ys) (suc i) x d h l e = zip_at R xs ys i x d h.1 (omega arith) e

pub zip_long : {A B : Type 0} (R : A → B → Type 0) (xs : List A) (ys : List B) → AllZip R xs ys → length xs ≡ length ys
zip_long R [] [] h = refl
zip_long R [] (b ∷ ys) h = absurd h
zip_long R (a ∷ xs) [] h = absurd h
zip_long R (a ∷ xs) (b ∷ ys) h = ap suc (zip_long R xs ys h.1)

-- one more of the edges that were passed
pub zip_on : {A B : Type 0} (R : A → B → Type 0) (xs : List A) (ys now : List B) (i : ℕ) (x : A) (y : B) → i < length xs → x ≡ get_or xs i x → AllZip R (take i xs) ys → R x y → now ≡ ys ++ y ∷ [] → AllZip R (take (i + 1) xs) now
zip_on R xs ys now i x y l e h r more =
    let longer : take (i + 1) xs ≡ take i xs ++ x ∷ [] = rw add-one (take-suc xs i x l ∙ ap (λ z. take i xs ++ z ∷ []) (sym e)) in
    rw (longer, more) (zip_push R (take i xs) ys x y h r)
