-- Matches and steps in graphs of one node and two.
use Rattle.std.proofs.Common.{◌≡◌, ℕ, zero, suc, ◌+◌, ◌<◌, Bool, true, false, List, [], ◌∷◌, length, take, count_by, is_none, slice_get, slice_index, slice_index_or, get_or, Option, Some, None, IsSomeAnd, Contains, refl, sym, ap, subst, ◌∙◌, arith}
use Rattle.std.proofs.lemmas.Grind.{common_steps}
use Rattle.std.proofs.lemmas.Option.{same_Some, none-some}
use Rattle.std.specs.Ordering.{nat_cmp}
use Rattle.std.specs.Cmp.{unsigned_tied}
use Rattle.std.specs.Option.{option_map, option_map_or}
use Rattle.std.specs.FinMap as map
use Rattle.gp_memory.proofs.Basics.{none_in as nothing_contains}
use Rattle.gp_values.specs.declared.atom.Atom.{Atom}
use Rattle.gp_values.specs.declared.marks.NodeMark.{NodeMark}
use Rattle.gp_values.specs.declared.marks.NodeMark.TheVariants as node_marks
use Rattle.gp_values.specs.Apart.{AreApart}
use Rattle.gp_values.specs.Graph.{Graph, Node, Edge, node_at, edge_at}
use Rattle.gp_syntax.specs.declared.kinds.VariableType.{VariableType}
use Rattle.gp_syntax.specs.declared.kinds.VariableType.TheVariants as types
use Rattle.gp_syntax.specs.Expression.{Expression, Variable, MarkPattern}
use Rattle.gp_syntax.specs.Value.{Setting, Value, Assignment, is_of, value_of}
use Rattle.gp_syntax.specs.Rule.{Rule, LeftNode, LeftEdge, RightNode, Found}
use Rattle.gp_syntax.specs.Match.{MatchBy, FitsEdge, FitsNode, Agrees, setting_of}
use Rattle.gp_syntax.specs.Step.{MakesNode, Places, Step, Blocked, kind_or, made_mark, made_root}
use Rattle.gp_syntax.specs.Rows.{one_node, no_nodes, one_left, left, right, at_first}

-- ---- lists of no element and of one

-- nothing stands in the empty list
pub at_none : {X : Type 0} (P : ℕ → X → Type 0) (i : ℕ) (y : X) → slice_get [] i ≡ Some y → P i y
at_none P i y e = absurd (none-some y e)

-- what holds of the only element holds at each place
pub at_only : {X : Type 0} (P : ℕ → X → Type 0) (x : X) → P 0 x → (i : ℕ) (y : X) → slice_get (x ∷ []) i ≡ Some y → P i y
at_only P x h zero y e = subst (P 0) (same_Some x y e) h
at_only P x h (suc i) y e = absurd (none-some y e)

-- a list of one has that one alone
pub only_contains : (n k : ℕ) → Contains (n ∷ []) k → n ≡ k
only_contains n k c = go c.0 c.1 c.2
  where
    go : (i : ℕ) → i < 1 → get_or (n ∷ []) i k ≡ k → n ≡ k
    go zero l e = e
    go (suc i) l e = absurd (omega arith)

-- ---- where the right side lies

-- nothing lies anywhere
pub none_placed : (found : List ℕ) (next : ℕ) → Places [] found next []
none_placed found next = record { count = refl; apart = λ i j l h e. let u : j < 0 = h in omega arith; old = λ j i e. absurd (none-some (Some i) e); new = λ j e. absurd (none-some None e) }

-- one item lies where it was, or at the next number
pub one_apart : (n : ℕ) → AreApart (n ∷ [])
one_apart n i j l h e = let u : i < j = l in let v : j < 1 = h in omega arith

pub one_stays : (next : ℕ) → Places (Some 0 ∷ []) (0 ∷ []) next (0 ∷ [])
one_stays next = record {
  count = refl;
  apart = one_apart 0;
  old = λ j i e. at_only (λ j o. o ≡ Some i → slice_index (0 ∷ []) j ≡ slice_index (0 ∷ []) i) (Some 0) (λ s. ap (λ n. slice_index (0 ∷ []) n) (same_Some 0 i s)) j (Some i) e refl;
  new = λ j e. absurd (at_only (λ j o. o ≡ None → ⊥) (Some 0) (λ s. none-some 0 (sym s)) j None e refl);
}

pub one_comes : (found : List ℕ) (next : ℕ) → Places (None ∷ []) found next (next ∷ [])
one_comes found next = record {
  count = refl;
  apart = one_apart next;
  old = λ j i e. absurd (at_only (λ j o. o ≡ Some i → ⊥) None (λ s. none-some i s) j (Some i) e refl);
  new = λ j e. at_only (λ j (o : Option ℕ). slice_index (next ∷ []) j ≡ next + count_by (is_none {T = ℕ}) (take j (None ∷ []))) None (let z : next ≡ next + 0 = omega arith in z) j None e;
}

-- ---- graphs

-- what stands at 0 of a map of one entry
pub at_one : {X : Type 0} (x : X) → map.get (map.from_sorted {R = nat_cmp} ((0, x) ∷ [])) 0 ≡ Some x
at_one x = map.get-from_sorted nat_cmp ((0, x) ∷ []) 0 tt

-- and nowhere else does anything
pub past_one : {X : Type 0} (x : X) (n : ℕ) → (0 ≡ n → ⊥) → map.get (map.from_sorted {R = nat_cmp} ((0, x) ∷ [])) n ≡ None
past_one x n d = map.get-from_sorted nat_cmp ((0, x) ∷ []) n tt ∙ grind (arith, common_steps, unsigned_tied n 0)

-- where something stands is 0
pub one_has : {X : Type 0} (x y : X) (n : ℕ) → map.get (map.from_sorted {R = nat_cmp} ((0, x) ∷ [])) n ≡ Some y → n ≡ 0
one_has x y n e = grind (arith, common_steps, unsigned_tied n 0, map.get-from_sorted nat_cmp ((0, x) ∷ []) n tt)

-- ---- no match

-- a set of one rule is blocked where the rule has no match
pub blocked_alone : (rules : List Rule) (k : ℕ) (r : Rule) (g : Graph) → slice_get rules k ≡ Some r → ((m : Found) (a : Assignment) → MatchBy r g m a → ⊥) → Blocked rules (k ∷ []) g
blocked_alone rules k r g e never = record {
  none_applies = λ i q m c s x. never m x.0 (subst (λ (z : Rule). MatchBy z g m x.0) (same i q c s) x.1.is_match);
  none_faulty = λ i q m kind c s x. never m x.0 (subst (λ (z : Rule). MatchBy z g m x.0) (same i q c s) x.1.is_match);
}
  where
    same : (i : ℕ) (q : Rule) → Contains (k ∷ []) i → slice_get rules i ≡ Some q → q ≡ r
    same i q c s = same_Some q r (sym s ∙ sym (ap (λ j. slice_get rules j) (only_contains k i c)) ∙ e)

-- a set of no rule is blocked
pub blocked_nothing : (rules : List Rule) (g : Graph) → Blocked rules [] g
blocked_nothing rules g = record {
  none_applies = λ i r m c s x. nothing_contains i c;
  none_faulty = λ i r m kind c s x. nothing_contains i c;
}

-- what stands at the image of a left node
pub image_fits : {r : Rule} {g : Graph} {m : Found} {a : Assignment} (i : ℕ) (p : LeftNode) → MatchBy r g m a → slice_get r.left_nodes i ≡ Some p →
    (x : Node) × (node_at g (slice_index m.nodes i) ≡ Some x) × FitsNode (setting_of r g m a) p x
image_fits {r} {g} {m} {a} i p h e = go (node_at g (slice_index m.nodes i)) refl (h.nodes i p e)
  where
    go : (o : Option Node) → node_at g (slice_index m.nodes i) ≡ o → IsSomeAnd o (FitsNode (setting_of r g m a) p) → (x : Node) × (node_at g (slice_index m.nodes i) ≡ Some x) × FitsNode (setting_of r g m a) p x
    go None s f = absurd f
    go (Some x) s f = (x, s, f)

-- ---- a rule of one left node

-- the value of its only variable is of its type
pub one_typed : (t : VariableType) (v : List Atom) → is_of t v ≡ true → (i : ℕ) → i < 1 → is_of (get_or (t ∷ []) i types.List) (get_or (v ∷ []) i []) ≡ true
one_typed t v typed zero l = typed
one_typed t v typed (suc i) l = absurd (omega arith)

-- what its label is valued over, on node 0
abbrev pub there : List VariableType → Assignment → Node → Setting
there ts a x = record { types = ts; assigned = a; images = 0 ∷ []; graph = one_node x }

abbrev InTypes : List VariableType → Assignment → Type 0
InTypes ts a = (i : ℕ) → i < length ts → is_of (get_or ts i types.List) (get_or a i []) ≡ true

-- it matches node 0
pub match_one : (ts : List VariableType) (a : Assignment) (e : Expression ℕ) (mark : MarkPattern NodeMark) (root : Bool) (qs : List RightNode) (x : Node) (k : ℕ) →
    length a ≡ length ts → InTypes ts a → value_of e (there ts a x) ≡ Value x.label → Agrees mark x.mark → root ≡ x.root →
    MatchBy (one_left ts (left e mark root) qs) (one_node x) (at_first k) a
match_one ts a e mark root qs x k count typed valued agrees rooted = record {
  node_count = refl;
  edge_count = refl;
  direction_count = refl;
  nodes_apart = λ i j l h e. let u : i < j = l in let v : j < 1 = h in omega arith;
  edges_apart = λ i j l h e. let u : j < 0 = h in omega arith;
  variable_count = count;
  in_types = typed;
  nodes = at_only (λ i p. IsSomeAnd (node_at (one_node x) (slice_index (0 ∷ []) i)) (FitsNode (there ts a x) p)) (left e mark root)
      (subst (λ (o : Option Node). IsSomeAnd o (FitsNode (there ts a x) (left e mark root))) (sym (at_one x)) (record { label = valued; mark = agrees; root = rooted }));
  edges = at_none _;
  dangling = λ i e d l kept at. absurd (none-some d (sym (map.get-empty nat_cmp e) ∙ at));
}

-- and with no right node: node 0 goes
pub step_deleted : (t : VariableType) (mark : MarkPattern NodeMark) (root : Bool) (x : Node) (k : ℕ) →
    is_of t x.label ≡ true → Agrees mark x.mark → root ≡ x.root →
    Step (one_left (t ∷ []) (left (Variable 0) mark root) []) (one_node x) (at_first k) no_nodes
step_deleted t mark root x k typed agrees rooted = (
  x.label ∷ [],
  record { is_match = match_one (t ∷ []) (x.label ∷ []) (Variable 0) mark root [] x k refl (one_typed t x.label typed) refl agrees rooted; condition = refl; values = refl },
  record {
    images = [];
    edge_images = [];
    places = none_placed (0 ∷ []) 1;
    edge_places = none_placed [] 0;
    next_node = refl;
    next_edge = refl;
    right_nodes = at_none _;
    right_edges = at_none _;
    deleted_nodes = λ n out c. map.get-empty nat_cmp n;
    other_nodes = λ n out none. map.get-empty nat_cmp n ∙ sym (past_one x n (λ e. none (0, let l : 0 < 1 = omega arith in l, e)));
    deleted_edges = λ e out c. map.get-empty nat_cmp e;
    other_edges = λ e out none. refl;
  },
)

-- and with one right node of the same name: node 0 is made otherwise
pub step_made : (ts : List VariableType) (a : Assignment) (p : Expression ℕ) (mark : MarkPattern NodeMark) (root : Bool) (e : Expression ℕ) (new_mark : MarkPattern NodeMark) (new_root : Bool) (x y : Node) (k : ℕ) →
    length a ≡ length ts → InTypes ts a → value_of p (there ts a x) ≡ Value x.label → Agrees mark x.mark → root ≡ x.root →
    value_of e (there ts a x) ≡ Value y.label → y.mark ≡ made_mark new_mark (Some x.mark) node_marks.None → y.root ≡ made_root root new_root x.root →
    Step (one_left ts (left p mark root) (right e new_mark new_root ∷ [])) (one_node x) (at_first k) (one_node y)
step_made ts a p mark root e new_mark new_root x y k count typed found agrees rooted valued marked roots = (
  a,
  record { is_match = match_one ts a p mark root (q ∷ []) x k count typed found agrees rooted; condition = refl; values = ap (λ v. kind_or v None) valued },
  record {
    images = 0 ∷ [];
    edge_images = [];
    places = one_stays 1;
    edge_places = none_placed [] 0;
    next_node = refl;
    next_edge = refl;
    right_nodes = at_only (λ j z. (w : Node) × (node_at (one_node y) (slice_index (0 ∷ []) j) ≡ Some w) × MakesNode r (one_node x) (at_first k) a z w) q (y, at_one y, made);
    right_edges = at_none _;
    deleted_nodes = λ n out c. absurd (out c);
    other_nodes = λ n out none. past_one y n (apart n none) ∙ sym (past_one x n (apart n none));
    deleted_edges = λ n out c. absurd (nothing_contains n c);
    other_edges = λ n out none. refl;
  },
)
  where
    q : RightNode
    q = right e new_mark new_root

    r : Rule
    r = one_left ts (left p mark root) (q ∷ [])

    made : MakesNode r (one_node x) (at_first k) a q y
    made = record {
      label = valued;
      mark = marked ∙ ap (λ o. made_mark new_mark (option_map (λ (z : Node). z.mark) o) node_marks.None) (sym (at_one x));
      root = roots ∙ ap (λ o. made_root root new_root (option_map_or (λ (z : Node). z.root) o false)) (sym (at_one x));
    }

    apart : (n : ℕ) → (Contains (0 ∷ []) n → ⊥) → 0 ≡ n → ⊥
    apart n none e = none (0, let l : 0 < 1 = omega arith in l, e)

-- of one variable, which is the left label
pub step_kept : (t : VariableType) (mark : MarkPattern NodeMark) (root : Bool) (e : Expression ℕ) (new_mark : MarkPattern NodeMark) (new_root : Bool) (x y : Node) (k : ℕ) →
    is_of t x.label ≡ true → Agrees mark x.mark → root ≡ x.root →
    value_of e (there (t ∷ []) (x.label ∷ []) x) ≡ Value y.label → y.mark ≡ made_mark new_mark (Some x.mark) node_marks.None → y.root ≡ made_root root new_root x.root →
    Step (one_left (t ∷ []) (left (Variable 0) mark root) (right e new_mark new_root ∷ [])) (one_node x) (at_first k) (one_node y)
step_kept t mark root e new_mark new_root x y k typed = step_made (t ∷ []) (x.label ∷ []) (Variable 0) mark root e new_mark new_root x y k refl (one_typed t x.label typed) refl

-- what a left node asks holds of the only node
pub only_image : {r : Rule} {m : Found} {a : Assignment} (x : Node) (i : ℕ) (p : LeftNode) → MatchBy r (one_node x) m a → slice_get r.left_nodes i ≡ Some p → FitsNode (setting_of r (one_node x) m a) p x
only_image {r} {m} {a} x i p h e =
    let f = image_fits i p h e in
    let n : slice_index m.nodes i ≡ 0 = one_has x f.0 (slice_index m.nodes i) f.1 in
    let same : x ≡ f.0 = same_Some x f.0 (sym (at_one x) ∙ sym (ap (λ k. node_at (one_node x) k) n) ∙ f.1) in
    subst (λ (z : Node). FitsNode (setting_of r (one_node x) m a) p z) (sym same) f.2

-- what stands at the image of a left edge
pub edge_image : {r : Rule} {g : Graph} {m : Found} {a : Assignment} (i : ℕ) (p : LeftEdge) → MatchBy r g m a → slice_get r.left_edges i ≡ Some p →
    (d : Edge) × (edge_at g (slice_index m.edges i) ≡ Some d)
edge_image {r} {g} {m} {a} i p h e = go (edge_at g (slice_index m.edges i)) refl (h.edges i p e)
  where
    go : (o : Option Edge) → edge_at g (slice_index m.edges i) ≡ o → IsSomeAnd o (FitsEdge (setting_of r g m a) p (slice_index_or m.reversed i false)) → (d : Edge) × (edge_at g (slice_index m.edges i) ≡ Some d)
    go None s f = absurd f
    go (Some d) s f = (d, s)
