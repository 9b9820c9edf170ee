-- What the labels at the images tell is the one assignment by which they fit.
use Rattle.std.proofs.Common.{◌≡◌, inl, inr, ℕ, zero, suc, ◌<◌, Bool, true, false, List, [], ◌∷◌, ◌++◌, map, length, replicate, Option, Some, None, Result, Ok, Err, IsSomeAnd, unwrap_or, option_and_then, slice_get, slice_index, slice_index_or, All, refl, sym, ap, subst, ◌∙◌, arith, ext_get_or, get_or}
use Rattle.std.specs.Option.{option_map}
use Rattle.std.proofs.lemmas.Bool.{cases_lt}
use Rattle.std.proofs.lemmas.List.{get_or_past, length-map, length-replicate}
use Rattle.std.proofs.lemmas.Option.{none-some, same_Some, slice_get-map, slice_get_within, slice_get-get_or, get_or_from_slice_get}
use Rattle.gp_values.specs.declared.atom.Atom.{Atom}
use Rattle.gp_values.specs.Graph.{Graph, Node, Edge, node_at, edge_at}
use Rattle.gp_syntax.specs.declared.kinds.VariableType.{VariableType}
use Rattle.gp_syntax.specs.declared.kinds.VariableType.TheVariants as types
use Rattle.gp_syntax.specs.Assigned.{PartialAssignment, IsWhole, assigned_of}
use Rattle.gp_syntax.specs.Images.{EdgeImage}
use Rattle.gp_syntax.specs.Expression.{Expression, Variable, Dot, Join}
use Rattle.gp_syntax.specs.Value.{Assignment, Setting, Value, value_of, is_of}
use Rattle.gp_syntax.specs.Rule.{Rule, LeftNode, LeftEdge, Found}
use Rattle.gp_syntax.specs.Match.{FitsNode, FitsEdge, MatchBy, setting_of}
use Rattle.gp_syntax.specs.Typing.{type_in}
use Rattle.gp_syntax.specs.Tree.{label_of, left_node_of, left_edge_of, rule_of_tree}
use Rattle.gp_syntax.specs.declared.rule.RuleParts.{RuleParts}
use Rattle.gp_syntax.specs.declared.rule.LeftNode as tree_node
use Rattle.gp_syntax.specs.declared.rule.LeftEdge as tree_edge
use Rattle.gp_memory.specs.declared.refusal.NoMemory.{NoMemory}
use Rattle.gp_syntax.specs.WellFormed.{left_labels, IsWithin, IsWellFormed}
use Rattle.gp_unify.specs.Known.{InTypes, Known, nothing_known, Extends}
use Rattle.gp_unify.specs.Extension.{AreKnown, known_of}
use Rattle.gp_unify.specs.Matched.{LabelsFit, OneFits, MayFit, IsThatOfMatch}
use Rattle.gp_unify.specs.Unify.{unify_all}
use Rattle.gp_unify.specs.Candidate.{node_labels, edge_labels, found_labels}
use Rattle.gp_unify.specs.inside.Reading.{TellsAll, TellsThem}
use Rattle.gp_unify.proofs.Unifies.{Fit, some_is, are_simple, stands_in_one, all_sound, all_complete, all_cover, all_typed, Unified, unify_both}

-- ---- labels one by one

module _ {P X : Type 0} (asked : P → Expression ℕ) (carried : X → List Atom) (at : ℕ → Option X) (s : Setting) where
  abbrev pub Fits : P → ℕ → Type 0
  Fits p n = IsSomeAnd (at n) (λ x. value_of (asked p) s ≡ Value (carried x))

  to_one : (p : P) (o : Option X) (es : List (Expression ℕ)) (vs : List (Option (List Atom))) → IsSomeAnd o (λ x. value_of (asked p) s ≡ Value (carried x)) → Fit s es vs → Fit s (asked p ∷ es) (option_map carried o ∷ vs)
  to_one p (Some x) es vs h k = (h, k)
  to_one p None es vs h k = absurd h

  from_one : (p : P) (o : Option X) (es : List (Expression ℕ)) (vs : List (Option (List Atom))) → Fit s (asked p ∷ es) (option_map carried o ∷ vs) → IsSomeAnd o (λ x. value_of (asked p) s ≡ Value (carried x)) × Fit s es vs
  from_one p (Some x) es vs h = (h.0, h.1)
  from_one p None es vs h = absurd h

  pub to_fit : (ps : List P) (ns : List ℕ) → length ns ≡ length ps → ((i : ℕ) (p : P) → slice_get ps i ≡ Some p → Fits p (slice_index ns i)) → Fit s (map asked ps) (map (λ n. option_map carried (at n)) ns)
  to_fit [] [] l h = tt
  to_fit (p ∷ ps) (n ∷ ns) l h = to_one p (at n) _ _ (h 0 p refl) (to_fit ps ns (omega arith) (λ i q e. h (suc i) q e))
  to_fit [] (n ∷ ns) l h = absurd (omega arith)
  to_fit (p ∷ ps) [] l h = absurd (omega arith)

  pub from_fit : (ps : List P) (ns : List ℕ) → length ns ≡ length ps → Fit s (map asked ps) (map (λ n. option_map carried (at n)) ns) → (i : ℕ) (p : P) → slice_get ps i ≡ Some p → Fits p (slice_index ns i)
  from_fit [] [] l h i p e = absurd (none-some p e)
  from_fit (p ∷ ps) (n ∷ ns) l h zero q e =
      let k = from_one p (at n) (map asked ps) (map (λ n. option_map carried (at n)) ns) h in
      subst (λ z. Fits z n) (same_Some p q e) k.0
  from_fit (p ∷ ps) (n ∷ ns) l h (suc i) q e =
      let k = from_one p (at n) (map asked ps) (map (λ n. option_map carried (at n)) ns) h in
      from_fit ps ns (omega arith) k.1 i q e
  from_fit [] (n ∷ ns) l h i p e = absurd (omega arith)
  from_fit (p ∷ ps) [] l h i q e = absurd (omega arith)

fit_both : (s : Setting) (es fs : List (Expression ℕ)) (vs ws : List (Option (List Atom))) → Fit s es vs → Fit s fs ws → Fit s (es ++ fs) (vs ++ ws)
fit_both s [] fs [] ws h k = k
fit_both s (e ∷ es) fs (Some v ∷ vs) ws h k = (h.0, fit_both s es fs vs ws h.1 k)
fit_both s es fs vs ws h k = absurd h

fit_parts : (s : Setting) (es fs : List (Expression ℕ)) (vs ws : List (Option (List Atom))) → length es ≡ length vs → Fit s (es ++ fs) (vs ++ ws) → Fit s es vs × Fit s fs ws
fit_parts s [] fs [] ws l h = (tt, h)
fit_parts s (e ∷ es) fs (Some v ∷ vs) ws l h = let k = fit_parts s es fs vs ws (omega arith) h.1 in ((h.0, k.0), k.1)
fit_parts s (e ∷ es) fs (None ∷ vs) ws l h = absurd h
fit_parts s [] fs (v ∷ vs) ws l h = absurd (omega arith)
fit_parts s (e ∷ es) fs [] ws l h = absurd (omega arith)

-- ---- what is known

known_at : (p : PartialAssignment) (x : ℕ) (o : Option (List Atom)) → slice_get p.values x ≡ Some o → known_of p x ≡ o
known_at p x o e = rw e refl

-- a value that is known is the one in the assignment
value_there : (o : Option (Option (List Atom))) (w : List Atom) → option_and_then (λ (z : Option (List Atom)). z) o ≡ Some w → o ≡ Some (Some w)
value_there None w e = absurd (none-some w e)
value_there (Some None) w e = absurd (none-some w e)
value_there (Some (Some v)) w e = ap (λ z. Some z) e

pub extends_itself : (p : PartialAssignment) → Extends (known_of p) (assigned_of p)
extends_itself p x w e =
    let o : slice_get p.values x ≡ Some (Some w) = value_there (slice_get p.values x) w e in
    let m : slice_get (assigned_of p) x ≡ Some w = slice_get-map (λ (o : Option (List Atom)). unwrap_or o []) p.values x ∙ ap (λ z. option_map (λ (o : Option (List Atom)). unwrap_or o []) z) o in
    get_or_from_slice_get (assigned_of p) x w [] m

pub nothing_first : (ts : List VariableType) (n : ℕ) → known_of (record { types = ts; values = replicate n None }) ≡ nothing_known
nothing_first ts n = λ i x. by n x i
  where
    by : (n x : ℕ) → known_of (record { types = ts; values = replicate n None }) x ≡ None
    by zero x = refl
    by (suc n) zero = refl
    by (suc n) (suc x) = by n x

-- ---- the rule

module _ (r : Rule) (g : Graph) (m : Found) (c : IsWellFormed r) (ln : length m.nodes ≡ length r.left_nodes) (le : length m.edges ≡ length r.left_edges) where
  fit_all : (a : Assignment) → LabelsFit r g m a → Fit (setting_of r g m a) (left_labels r) (found_labels g m)
  fit_all a h =
      fit_both (setting_of r g m a) (map (λ (p : LeftNode). p.label) r.left_nodes) (map (λ (p : LeftEdge). p.label) r.left_edges) (node_labels g m.nodes) (edge_labels g m.edges)
      (to_fit (λ (p : LeftNode). p.label) (λ (x : Node). x.label) (node_at g) (setting_of r g m a) r.left_nodes m.nodes ln h.nodes)
      (to_fit (λ (p : LeftEdge). p.label) (λ (x : Edge). x.label) (edge_at g) (setting_of r g m a) r.left_edges m.edges le h.edges)

  -- past the declared variables the type is list
  all_in_types : (a : Assignment) → LabelsFit r g m a → InTypes (setting_of r g m a)
  all_in_types a h x =
      elim (cases_lt x (length r.types)) [
        | inl l ↦ h.in_types x l
        | inr l ↦ (let e : type_in r.types x ≡ types.List = get_or_past r.types x types.List l in rw e refl)
      ]

  told : (a : Assignment) → LabelsFit r g m a → Unified (unify_all (type_in r.types) (left_labels r) (found_labels g m) nothing_known) a
  told a h = all_complete (setting_of r g m a) (left_labels r) (found_labels g m) nothing_known (are_simple (type_in r.types) (left_labels r) c.left_labels_simple) (all_in_types a h) (fit_all a h) (λ x v e. absurd (none-some v e))

  pub none_fits : unify_all (type_in r.types) (left_labels r) (found_labels g m) nothing_known ≡ None → (a : Assignment) → LabelsFit r g m a → ⊥
  none_fits e a h = let u = told a h in none-some u.0 (sym e ∙ u.1)

  module _ (p : PartialAssignment) (t : p.types ≡ r.types) (n : length p.values ≡ length r.types) (e : unify_all (type_in r.types) (left_labels r) (found_labels g m) nothing_known ≡ Some (known_of p)) where
    known : (x : ℕ) → x < length r.types → (w : List Atom) × (known_of p x ≡ Some w)
    known x l = some_is (known_of p x) (all_cover (type_in r.types) (left_labels r) (found_labels g m) nothing_known (known_of p) x e (stands_in_one x (left_labels r) (c.variables_stand x l)))

    whole : IsWhole p
    whole x o h =
        let b : x < length p.values = slice_get_within p.values x o h in
        let w = known x (subst (λ z. x < z) n b) in
        (w.0, sym (known_at p x o h) ∙ w.1)

    value_at : (x : ℕ) → x < length r.types → (w : List Atom) × (known_of p x ≡ Some w) × (slice_index_or (assigned_of p) x [] ≡ w)
    value_at x l = let w = known x l in (w.0, w.1, extends_itself p x w.0 w.1)

    fits_now : Fit (setting_of r g m (assigned_of p)) (left_labels r) (found_labels g m)
    fits_now = all_sound (setting_of r g m (assigned_of p)) (left_labels r) (found_labels g m) nothing_known (known_of p) e (extends_itself p)

    parts_now : Fit (setting_of r g m (assigned_of p)) (map (λ (p : LeftNode). p.label) r.left_nodes) (node_labels g m.nodes) × Fit (setting_of r g m (assigned_of p)) (map (λ (p : LeftEdge). p.label) r.left_edges) (edge_labels g m.edges)
    parts_now =
        fit_parts (setting_of r g m (assigned_of p)) (map (λ (p : LeftNode). p.label) r.left_nodes) (map (λ (p : LeftEdge). p.label) r.left_edges) (node_labels g m.nodes) (edge_labels g m.edges)
        (length-map r.left_nodes (λ (p : LeftNode). p.label) ∙ sym ln ∙ sym (length-map m.nodes (λ n. option_map (λ (x : Node). x.label) (node_at g n)))) fits_now

    pub one_fits : OneFits r g m p
    one_fits = record {
      types = t;
      whole = whole;
      fit = record {
        node_count = ln;
        edge_count = le;
        variable_count = length-map p.values (λ (o : Option (List Atom)). unwrap_or o []) ∙ n;
        in_types = λ x l.
            let w = value_at x l in
            subst (λ v. is_of (type_in r.types x) v ≡ true) (sym w.2) (all_typed (type_in r.types) (left_labels r) (found_labels g m) nothing_known (known_of p) e (λ x w e. absurd (none-some w e)) x w.0 w.1);
        nodes = from_fit (λ (p : LeftNode). p.label) (λ (x : Node). x.label) (node_at g) (setting_of r g m (assigned_of p)) r.left_nodes m.nodes ln parts_now.0;
        edges = from_fit (λ (p : LeftEdge). p.label) (λ (x : Edge). x.label) (edge_at g) (setting_of r g m (assigned_of p)) r.left_edges m.edges le parts_now.1;
      };
      alone = λ a h.
          let u = told a h in
          let q : u.0 ≡ known_of p = same_known u.0 (known_of p) (sym u.1 ∙ e) in
          let x : Extends (known_of p) a = subst (λ (z : Known). Extends z a) q u.2 in
          ext_get_or [] a (assigned_of p) (h.variable_count ∙ sym (length-map p.values (λ (o : Option (List Atom)). unwrap_or o []) ∙ n))
          (λ k l. let w = value_at k (subst (λ z. k < z) h.variable_count l) in x k w.0 w.1 ∙ sym w.2);
    }
      where
        same_known : (q k : Known) → Some q ≡ Some k → q ≡ k
        same_known q k h = cc

-- ---- matches

node_label_fits : (s : Setting) (p : LeftNode) (o : Option Node) → IsSomeAnd o (FitsNode s p) → IsSomeAnd o (λ x. value_of p.label s ≡ Value x.label)
node_label_fits s p None h = absurd h
node_label_fits s p (Some x) h = h.label

edge_label_fits : (s : Setting) (p : LeftEdge) (b : _) (o : Option Edge) → IsSomeAnd o (FitsEdge s p b) → IsSomeAnd o (λ d. value_of p.label s ≡ Value d.label)
edge_label_fits s p b None h = absurd h
edge_label_fits s p b (Some d) h = h.label

pub match_fits : (r : Rule) (g : Graph) (m : Found) (a : Assignment) → MatchBy r g m a → LabelsFit r g m a
match_fits r g m a w = record {
  node_count = w.node_count;
  edge_count = w.edge_count;
  variable_count = w.variable_count;
  in_types = w.in_types;
  nodes = λ i p e. node_label_fits (setting_of r g m a) p _ (w.nodes i p e);
  edges = λ i p e. edge_label_fits (setting_of r g m a) p _ _ (w.edges i p e);
}

pub of_match : (o : Option PartialAssignment) (r : Rule) (g : Graph) (m : Found) → MayFit o r g m → IsThatOfMatch o r g m
of_match None r g m h a w = absurd (h a (match_fits r g m a w))
of_match (Some p) r g m h a w = record { types = h.types; whole = h.whole; values = sym (h.alone a (match_fits r g m a w)) }

-- ---- a loop over labels

pub told_yes : (k : Bool) (o : Option Known) (a b : PartialAssignment) → k ≡ true → TellsAll (Ok k) o a b → TellsThem o a b
told_yes true o a b e h = h
told_yes false o a b e h = absurd cc

pub told_no : (k : Bool) (o : Option Known) (a b : PartialAssignment) → k ≡ false → TellsAll (Ok k) o a b → o ≡ None
told_no true o a b e h = absurd cc
told_no false o a b e h = h

-- what is asked and what is found at a place
pub asked_at : {P : Type 0} (asked : P → Expression ℕ) (ps : List P) (i : ℕ) (d : P) → i < length ps → slice_get (map asked ps) i ≡ Some (asked (get_or ps i d))
asked_at asked ps i d l = slice_get-map asked ps i ∙ ap (option_map asked) (slice_get-get_or ps i d l)

pub found_at : {X : Type 0} (f : X → Option (List Atom)) (xs : List X) (i : ℕ) (d : X) (o : Option (List Atom)) → i < length xs → o ≡ f (get_or xs i d) → slice_get (map f xs) i ≡ Some o
found_at f xs i d o l h = slice_get-map f xs i ∙ ap (option_map f) (slice_get-get_or xs i d l) ∙ ap (λ z. Some z) (sym h)

pub edge_found_at : (g : Graph) (xs : List EdgeImage) (i : ℕ) (d : EdgeImage) (o : Option (List Atom)) → i < length xs → o ≡ option_map (λ (x : Edge). x.label) (edge_at g (get_or xs i d).number) → slice_get (edge_labels g (map (λ (j : EdgeImage). j.number) xs)) i ≡ Some o
edge_found_at g xs i d o l h =
    slice_get-map (λ e. option_map (λ (x : Edge). x.label) (edge_at g e)) (map (λ (j : EdgeImage). j.number) xs) i
    ∙ ap (option_map (λ e. option_map (λ (x : Edge). x.label) (edge_at g e))) (slice_get-map (λ (j : EdgeImage). j.number) xs i ∙ ap (option_map (λ (j : EdgeImage). j.number)) (slice_get-get_or xs i d l))
    ∙ ap (λ z. Some z) (sym h)

-- ---- the labels of a rule's left side

pub all_front : {X : Type 0} (P : X → Type 0) (xs ys : List X) → All P (xs ++ ys) → All P xs × All P ys
all_front P [] ys h = (λ k d l. absurd (omega arith), h)
all_front P (x ∷ xs) ys h =
    let k = all_front P xs ys (λ j d l. h (suc j) d (omega arith)) in
    (by k.0, k.1)
  where
    by : All P xs → All P (x ∷ xs)
    by k zero d l = h 0 d (omega arith)
    by k (suc i) d l = k i d (omega arith)

pub all_asked : {P Q : Type 0} (F : Expression ℕ → Type 0) (f : P → Q) (asked : Q → Expression ℕ) (ps : List P) → All F (map asked (map f ps)) → All (λ p. F (asked (f p))) ps
all_asked F f asked [] h = λ k d l. absurd (omega arith)
all_asked F f asked (p ∷ ps) h = by (all_asked F f asked ps (λ k d l. h (suc k) d (omega arith)))
  where
    by : All (λ p. F (asked (f p))) ps → All (λ p. F (asked (f p))) (p ∷ ps)
    by k zero d l = h 0 (asked (f d)) (omega arith)
    by k (suc i) d l = k i d (omega arith)

pub labels_all : (F : Expression ℕ → Type 0) (r : RuleParts) → All F (left_labels (rule_of_tree r)) → All (λ (p : tree_node.LeftNode). F (label_of p.label)) r.left_nodes × All (λ (p : tree_edge.LeftEdge). F (label_of p.label)) r.left_edges
labels_all F r h =
    let k = all_front F (map (λ (p : LeftNode). p.label) (map left_node_of r.left_nodes)) (map (λ (p : LeftEdge). p.label) (map left_edge_of r.left_edges)) h in
    (all_asked F left_node_of (λ (p : LeftNode). p.label) r.left_nodes k.0, all_asked F left_edge_of (λ (p : LeftEdge). p.label) r.left_edges k.1)

pub within_known : (v n : ℕ) (e : Expression ℕ) → IsWithin v n e → AreKnown v e
within_known v n (Variable y) h x s = subst (λ z. z < v) (sym s) h
within_known v n (Dot d e) h x s = elim s [ inl i ↦ within_known v n d h.0 x i | inr i ↦ within_known v n e h.1 x i ]
within_known v n (Join d e) h x s = elim s [ inl i ↦ within_known v n d h.0 x i | inr i ↦ within_known v n e h.1 x i ]
within_known v n other h x s = absurd s

pub labels_known : (r : RuleParts) → IsWellFormed (rule_of_tree r) → All (λ (p : tree_node.LeftNode). AreKnown (length r.types) (label_of p.label)) r.left_nodes × All (λ (p : tree_edge.LeftEdge). AreKnown (length r.types) (label_of p.label)) r.left_edges
labels_known r c =
    let n = length (map left_node_of r.left_nodes) in
    let k = labels_all (IsWithin (length r.types) n) r c.left_labels_within in
    (λ i d l. within_known (length r.types) n (label_of (get_or r.left_nodes i d).label) (k.0 i d l), λ i d l. within_known (length r.types) n (label_of (get_or r.left_edges i d).label) (k.1 i d l))

pub mapped : {P Q : Type 0} (f : P → Q) (asked : Q → Expression ℕ) (ps : List P) → map asked (map f ps) ≡ map (λ p. asked (f p)) ps
mapped f asked [] = refl
mapped f asked (p ∷ ps) = ap (λ z. asked (f p) ∷ z) (mapped f asked ps)

-- nodes, and then edges
pub unify_sides : (ts : ℕ → VariableType) (r : RuleParts) (g : Graph) (m : Found) (p : Known) → length r.left_nodes ≡ length m.nodes → unify_all ts (left_labels (rule_of_tree r)) (found_labels g m) p ≡ option_and_then (λ q. unify_all ts (map (λ (e : tree_edge.LeftEdge). label_of e.label) r.left_edges) (edge_labels g m.edges) q) (unify_all ts (map (λ (n : tree_node.LeftNode). label_of n.label) r.left_nodes) (node_labels g m.nodes) p)
unify_sides ts r g m p l =
    let es = map (λ (e : tree_edge.LeftEdge). label_of e.label) r.left_edges in
    let ns = map (λ (n : tree_node.LeftNode). label_of n.label) r.left_nodes in
    let k : length ns ≡ length (node_labels g m.nodes) = length-map r.left_nodes (λ (n : tree_node.LeftNode). label_of n.label) ∙ l ∙ sym (length-map m.nodes (λ n. option_map (λ (x : Node). x.label) (node_at g n))) in
    ap (λ z. unify_all ts (z ++ map (λ (p : LeftEdge). p.label) (map left_edge_of r.left_edges)) (found_labels g m) p) (mapped left_node_of (λ (p : LeftNode). p.label) r.left_nodes)
    ∙ ap (λ z. unify_all ts (ns ++ z) (found_labels g m) p) (mapped left_edge_of (λ (p : LeftEdge). p.label) r.left_edges)
    ∙ unify_both ts ns es (node_labels g m.nodes) (edge_labels g m.edges) p k

-- the answer of the edges is that of both, behind nodes that fit
pub tells_edges : (k : Result Bool NoMemory) (o n m : Option Known) (a b c : PartialAssignment) (f : Known → Option Known) → m ≡ option_and_then f n → n ≡ Some (known_of b) → TellsThem n a b → o ≡ f (known_of b) → TellsAll k o b c → TellsAll k m a c
tells_edges (Ok true) o n m a b c f e s t h k = record { told = (e ∙ ap (λ z. option_and_then f z) s ∙ sym h) ∙ k.told; types = k.types ∙ t.types; count = k.count ∙ t.count }
tells_edges (Ok false) o n m a b c f e s t h k = (e ∙ ap (λ z. option_and_then f z) s ∙ sym h) ∙ k
tells_edges (Err d) o n m a b c f e s t h k = tt

-- ---- from an assignment without values

module _ (r : RuleParts) (g : Graph) (m : Found) (wf : IsWellFormed (rule_of_tree r)) (ns : length r.left_nodes ≡ length m.nodes) (es : length r.left_edges ≡ length m.edges) (a : PartialAssignment) (first : a ≡ record { types = r.types; values = replicate (length r.types) None }) where
  abbrev told_now : Option Known
  told_now = unify_all (type_in r.types) (left_labels (rule_of_tree r)) (found_labels g m) (known_of a)

  begins : known_of a ≡ nothing_known
  begins = ap (λ (z : PartialAssignment). known_of z) first ∙ nothing_first r.types (length r.types)

  nodes_too : length m.nodes ≡ length (map left_node_of r.left_nodes)
  nodes_too = sym ns ∙ sym (length-map r.left_nodes left_node_of)

  edges_too : length m.edges ≡ length (map left_edge_of r.left_edges)
  edges_too = sym es ∙ sym (length-map r.left_edges left_edge_of)

  pub one_from_nothing : (p : PartialAssignment) (k : Bool) → k ≡ true → TellsAll (Ok k) told_now a p → OneFits (rule_of_tree r) g m p
  one_from_nothing p k e h =
      let t = told_yes k told_now a p e h in
      let types : p.types ≡ r.types = t.types ∙ ap (λ (z : PartialAssignment). z.types) first in
      let count : length p.values ≡ length r.types = t.count ∙ ap (λ (z : PartialAssignment). length z.values) first ∙ length-replicate (length r.types) None in
      one_fits (rule_of_tree r) g m wf nodes_too edges_too p types count (subst (λ (z : Known). unify_all (type_in r.types) (left_labels (rule_of_tree r)) (found_labels g m) z ≡ Some (known_of p)) begins t.told)

  pub none_from_nothing : (p : PartialAssignment) (k : Bool) → k ≡ false → TellsAll (Ok k) told_now a p → (b : Assignment) → LabelsFit (rule_of_tree r) g m b → ⊥
  none_from_nothing p k e h =
      none_fits (rule_of_tree r) g m wf nodes_too edges_too (subst (λ (z : Known). unify_all (type_in r.types) (left_labels (rule_of_tree r)) (found_labels g m) z ≡ None) begins (told_no k told_now a p e h))
