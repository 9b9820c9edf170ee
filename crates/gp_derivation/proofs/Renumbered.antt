-- Values, matches and applying matches by the old numbers of edges and by today's are the same.
use Rattle.std.proofs.Common.{◌≡◌, ℕ, ◌<◌, pos, Bool, true, false, if◌then◌else◌, List, [], ◌∷◌, ◌++◌, length, slice_index, slice_index_or, Option, Some, IsSome, IsSomeAnd, Contains, refl, sym, ap, subst, ◌∙◌, arith}
use Rattle.std.specs.Prelude.{not, neg_ℤ, ◌+ℤ◌, ◌-ℤ◌, ◌*ℤ◌}
use Rattle.std.specs.Option.{option_map}
use Rattle.std.proofs.lemmas.Option.{slice_get_within}
use Rattle.gp_memory.proofs.Basics.{is_some_of, some_and, some_at as element, some_more, some_same, standing as place, stands_in as stands}
use Rattle.gp_values.specs.declared.atom.Atom.{Atom}
use Rattle.gp_values.specs.declared.atom.Atom.TheVariants.{Str}
use Rattle.gp_values.specs.declared.marks.EdgeMark.{EdgeMark}
use Rattle.gp_values.specs.Graph.{Graph, Node, Edge, node_at, edge_at, in_degree, out_degree}
use Rattle.gp_syntax.specs.declared.kinds.VariableType.TheVariants as types
use Rattle.gp_syntax.specs.Expression.{Expression, Number, Text, Variable, In_degree, Out_degree, Length_of, Negated, Plus, Minus, Times, Over, Dot, Empty, Join, MarkPattern, Condition, Holds, HasType, HasEdge, HasEdgeWith, Compared, Not, And, Or}
use Rattle.gp_syntax.specs.Value.{Assignment, Setting, Valued, Value, NoValue, ◌>>=◌, value_of, image_at, is_of, length_by, integer, characters, number, ranged, quotient}
use Rattle.gp_syntax.specs.Truth.{truth_of, compared, has_edge, has_edge_with}
use Rattle.gp_syntax.specs.Rule.{Rule, LeftNode, LeftEdge, Found}
use Rattle.gp_syntax.specs.Match.{MatchBy, FitsNode, FitsEdge, setting_of}
use Rattle.gp_syntax.specs.Step.{AppliesBy, first_fault, kind_or, right_labels}
use Rattle.gp_derivation.specs.inside.Table.{IsTable, today, all_today, found_today, as_it_was}
use Rattle.gp_derivation.proofs.Tables.{mapped, edge_now, edge_then, all_today_length, all_today_at, all_there, alike}
use Rattle.gp_derivation.proofs.Alike.{in_degree_alike, out_degree_alike, has_edge_alike, has_edge_with_alike}

-- ---- degrees and edges between nodes

pub in_degree_was : (t : List (Option ℕ)) (h : Graph) → IsTable t h → (v : ℕ) → in_degree (as_it_was t h) v ≡ in_degree h v
in_degree_was t h w v = in_degree_alike (as_it_was t h) h (alike t h w) v

pub out_degree_was : (t : List (Option ℕ)) (h : Graph) → IsTable t h → (v : ℕ) → out_degree (as_it_was t h) v ≡ out_degree h v
out_degree_was t h w v = out_degree_alike (as_it_was t h) h (alike t h w) v

pub has_edge_was : (t : List (Option ℕ)) (h : Graph) → IsTable t h → (a b : ℕ) → has_edge (as_it_was t h) a b ≡ has_edge h a b
has_edge_was t h w a b = has_edge_alike (as_it_was t h) h (alike t h w) a b

pub has_edge_with_was : (t : List (Option ℕ)) (h : Graph) → IsTable t h → (a b : ℕ) (v : List Atom) (mark : MarkPattern EdgeMark) → has_edge_with (as_it_was t h) a b v mark ≡ has_edge_with h a b v mark
has_edge_with_was t h w a b v mark = has_edge_with_alike (as_it_was t h) h (alike t h w) a b v mark

-- ---- values and conditions

-- two settings in which a rule's nodes have the same degrees and the same edges between them
record Agree (s u : Setting) : Type 0 where
  types : s.types ≡ u.types
  assigned : s.assigned ≡ u.assigned
  images : s.images ≡ u.images
  into : (v : ℕ) → in_degree s.graph v ≡ in_degree u.graph v
  out : (v : ℕ) → out_degree s.graph v ≡ out_degree u.graph v
  edge : (a b : ℕ) → has_edge s.graph a b ≡ has_edge u.graph a b
  edge_with : (a b : ℕ) (v : List Atom) (mark : MarkPattern EdgeMark) → has_edge_with s.graph a b v mark ≡ has_edge_with u.graph a b v mark

-- what comes next is the same of the same value
one : {A B : Type 0} (f g : A → Valued B) (v w : Valued A) → v ≡ w → ((x : A) → f x ≡ g x) → (v >>= f) ≡ (w >>= g)
one {A = A} f g v w e h = ap (λ z. z >>= f) e ∙ each w
  where
    each : (z : Valued A) → (z >>= f) ≡ (z >>= g)
    each (Value x) = h x
    each (NoValue k) = refl

two : {A B C : Type 0} (f : A → B → Valued C) (v w : Valued A) (x y : Valued B) → v ≡ w → x ≡ y → (v >>= λ a. x >>= λ b. f a b) ≡ (w >>= λ a. y >>= λ b. f a b)
two f v w x y e k = ap (λ z. z >>= λ a. x >>= λ b. f a b) e ∙ ap (λ z. w >>= λ a. z >>= λ b. f a b) k

module _ {s u : Setting} (c : Agree s u) where
  operands : (f : List Atom → List Atom → Valued (List Atom)) (d e : Expression ℕ) → value_of d s ≡ value_of d u → value_of e s ≡ value_of e u
      → (value_of d s >>= λ x. value_of e s >>= λ y. f x y) ≡ (value_of d u >>= λ x. value_of e u >>= λ y. f x y)
  operands f d e i j = two f (value_of d s) (value_of d u) (value_of e s) (value_of e u) i j

  same_value : (e : Expression ℕ) → value_of e s ≡ value_of e u
  same_value (Number z) = refl
  same_value (Text t) = refl
  same_value (Variable x) = ap (λ a. Value (slice_index_or a x [])) c.assigned
  same_value (In_degree v) = ap (λ is. Value (number (pos (in_degree s.graph (slice_index is v))))) c.images ∙ ap (λ k. Value (number (pos k))) (c.into (slice_index u.images v))
  same_value (Out_degree v) = ap (λ is. Value (number (pos (out_degree s.graph (slice_index is v))))) c.images ∙ ap (λ k. Value (number (pos k))) (c.out (slice_index u.images v))
  same_value (Length_of x) = λ i. Value (number (pos (length_by (slice_index_or (c.types i) x types.List) (slice_index_or (c.assigned i) x []))))
  same_value (Negated e) = one (λ x. ranged (neg_ℤ (integer x))) (λ x. ranged (neg_ℤ (integer x))) (value_of e s) (value_of e u) (same_value e) (λ x. refl)
  same_value (Plus d e) = operands (λ x y. ranged (integer x +ℤ integer y)) d e (same_value d) (same_value e)
  same_value (Minus d e) = operands (λ x y. ranged (integer x -ℤ integer y)) d e (same_value d) (same_value e)
  same_value (Times d e) = operands (λ x y. ranged (integer x *ℤ integer y)) d e (same_value d) (same_value e)
  same_value (Over d e) = operands (λ x y. quotient (integer x) (integer y)) d e (same_value d) (same_value e)
  same_value (Dot d e) = operands (λ x y. Value (Str (characters x ++ characters y) ∷ [])) d e (same_value d) (same_value e)
  same_value Empty = refl
  same_value (Join d e) = operands (λ x y. Value (x ++ y)) d e (same_value d) (same_value e)

  has_edges : (a b : ℕ) → has_edge s.graph (image_at s a) (image_at s b) ≡ has_edge u.graph (image_at u a) (image_at u b)
  has_edges a b = ap (λ is. has_edge s.graph (slice_index is a) (slice_index is b)) c.images ∙ c.edge (image_at u a) (image_at u b)

  has_edges_with : (a b : ℕ) (v : List Atom) (mark : MarkPattern EdgeMark) → has_edge_with s.graph (image_at s a) (image_at s b) v mark ≡ has_edge_with u.graph (image_at u a) (image_at u b) v mark
  has_edges_with a b v mark =
      ap (λ is. has_edge_with s.graph (slice_index is a) (slice_index is b) v mark) c.images ∙ c.edge_with (image_at u a) (image_at u b) v mark

  same_truth : (d : Condition ℕ (MarkPattern EdgeMark)) → truth_of d s ≡ truth_of d u
  same_truth Holds = refl
  same_truth (HasType type e) = one (λ v. Value (is_of type v)) (λ v. Value (is_of type v)) (value_of e s) (value_of e u) (same_value e) (λ v. refl)
  same_truth (HasEdge a b) = ap (λ x. Value x) (has_edges a b)
  same_truth (HasEdgeWith a b e mark) =
      one (λ v. Value (has_edge_with s.graph (image_at s a) (image_at s b) v mark)) (λ v. Value (has_edge_with u.graph (image_at u a) (image_at u b) v mark))
      (value_of e s) (value_of e u) (same_value e) (λ v. ap (λ x. Value x) (has_edges_with a b v mark))
  same_truth (Compared op d e) = two (λ v w. Value (compared op v w)) (value_of d s) (value_of d u) (value_of e s) (value_of e u) (same_value d) (same_value e)
  same_truth (Not d) = one (λ x. Value (not x)) (λ x. Value (not x)) (truth_of d s) (truth_of d u) (same_truth d) (λ x. refl)
  same_truth (And d e) =
      one (λ x. if x then truth_of e s else Value false) (λ x. if x then truth_of e u else Value false) (truth_of d s) (truth_of d u) (same_truth d)
      (λ x. ap (λ z. if x then z else Value false) (same_truth e))
  same_truth (Or d e) =
      one (λ x. if x then Value true else truth_of e s) (λ x. if x then Value true else truth_of e u) (truth_of d s) (truth_of d u) (same_truth d)
      (λ x. ap (λ z. if x then Value true else z) (same_truth e))

  same_fault : (es : List (Expression ℕ)) → first_fault es s ≡ first_fault es u
  same_fault [] = refl
  same_fault (e ∷ es) = ap (λ v. kind_or v (first_fault es s)) (same_value e) ∙ ap (kind_or (value_of e u)) (same_fault es)

settings_agree : (r : Rule) (t : List (Option ℕ)) (h : Graph) (m n : Found) (a : Assignment) → IsTable t h → n.nodes ≡ m.nodes → Agree (setting_of r (as_it_was t h) m a) (setting_of r h n a)
settings_agree r t h m n a w i = record {
  types = refl;
  assigned = refl;
  images = sym i;
  into = in_degree_was t h w;
  out = out_degree_was t h w;
  edge = has_edge_was t h w;
  edge_with = has_edge_with_was t h w;
}

pub value_was : (r : Rule) (t : List (Option ℕ)) (h : Graph) (m n : Found) (a : Assignment) → IsTable t h → n.nodes ≡ m.nodes → (e : Expression ℕ)
    → value_of e (setting_of r (as_it_was t h) m a) ≡ value_of e (setting_of r h n a)
value_was r t h m n a w i e = same_value (settings_agree r t h m n a w i) e

pub truth_was : (r : Rule) (t : List (Option ℕ)) (h : Graph) (m n : Found) (a : Assignment) → IsTable t h → n.nodes ≡ m.nodes → (d : Condition ℕ (MarkPattern EdgeMark))
    → truth_of d (setting_of r (as_it_was t h) m a) ≡ truth_of d (setting_of r h n a)
truth_was r t h m n a w i d = same_truth (settings_agree r t h m n a w i) d

pub fault_was : (r : Rule) (t : List (Option ℕ)) (h : Graph) (m n : Found) (a : Assignment) → IsTable t h → n.nodes ≡ m.nodes → (es : List (Expression ℕ))
    → first_fault es (setting_of r (as_it_was t h) m a) ≡ first_fault es (setting_of r h n a)
fault_was r t h m n a w i es = same_fault (settings_agree r t h m n a w i) es

-- ---- matches

-- a match by today's numbers is the one by the old numbers, but for its edges
pub found_parts : (t : List (Option ℕ)) (m n : Found) → found_today t m ≡ Some n → (ks : List ℕ) × (all_today t m.edges ≡ Some ks) × (record m { edges = ks } ≡ n)
found_parts t m n e = mapped (λ (ks : List ℕ). record m { edges = ks }) (all_today t m.edges) n e

pub found_is : (t : List (Option ℕ)) (m : Found) (ks : List ℕ) → all_today t m.edges ≡ Some ks → found_today t m ≡ Some (record m { edges = ks })
found_is t m ks e = ap (option_map (λ (ks : List ℕ). record m { edges = ks })) e

module _ (r : Rule) (t : List (Option ℕ)) (h : Graph) (m : Found) (a : Assignment) (ks : List ℕ) (w : IsTable t h) (is : all_today t m.edges ≡ Some ks) where
  abbrev g : Graph
  g = as_it_was t h

  abbrev n : Found
  n = record m { edges = ks }

  same_length : length ks ≡ length m.edges
  same_length = all_today_length t m.edges ks is

  number_at : (i : ℕ) → i < length m.edges → today t (slice_index m.edges i) ≡ Some (slice_index ks i)
  number_at i l = all_today_at t m.edges ks i is l

  edge_same : (i : ℕ) → i < length m.edges → edge_at g (slice_index m.edges i) ≡ edge_at h (slice_index ks i)
  edge_same i l = edge_then t h (slice_index m.edges i) (slice_index ks i) (number_at i l)

  value_same : (e : Expression ℕ) → value_of e (setting_of r g m a) ≡ value_of e (setting_of r h n a)
  value_same e = value_was r t h m n a w refl e

  -- an image has today's number exactly where it has the old one
  number_on : (e k : ℕ) → today t e ≡ Some k → Contains m.edges e → Contains ks k
  number_on e k i c =
      let l : c.0 < length m.edges = c.1 in
      let s = same_length in
      stands ks c.0 k (omega arith) (some_same (sym (number_at c.0 l) ∙ ap (today t) (place m.edges e c) ∙ i))

  number_back : (e k : ℕ) → today t e ≡ Some k → Contains ks k → Contains m.edges e
  number_back e k i c =
      let l : c.0 < length ks = c.1 in
      let s = same_length in
      stands m.edges c.0 e (omega arith) (w.apart (slice_index m.edges c.0) e k (number_at c.0 (omega arith) ∙ ap (λ z. Some z) (place ks k c)) i)

  node_on : (p : LeftNode) (x : Node) → FitsNode (setting_of r g m a) p x → FitsNode (setting_of r h n a) p x
  node_on p x f = record { label = sym (value_same p.label) ∙ f.label; mark = f.mark; root = f.root }

  node_back : (p : LeftNode) (x : Node) → FitsNode (setting_of r h n a) p x → FitsNode (setting_of r g m a) p x
  node_back p x f = record { label = value_same p.label ∙ f.label; mark = f.mark; root = f.root }

  edge_on : (p : LeftEdge) (b : Bool) (d : Edge) → FitsEdge (setting_of r g m a) p b d → FitsEdge (setting_of r h n a) p b d
  edge_on p b d f = record { source = f.source; target = f.target; label = sym (value_same p.label) ∙ f.label; mark = f.mark; direction = f.direction }

  edge_back : (p : LeftEdge) (b : Bool) (d : Edge) → FitsEdge (setting_of r h n a) p b d → FitsEdge (setting_of r g m a) p b d
  edge_back p b d f = record { source = f.source; target = f.target; label = value_same p.label ∙ f.label; mark = f.mark; direction = f.direction }

  on : MatchBy r g m a → MatchBy r h n a
  on c = record {
    node_count = c.node_count;
    edge_count = same_length ∙ c.edge_count;
    direction_count = c.direction_count;
    nodes_apart = c.nodes_apart;
    edges_apart = λ i j less l e.
        let s = same_length in
        c.edges_apart i j less (omega arith)
        (w.apart (slice_index m.edges i) (slice_index m.edges j) (slice_index ks i) (number_at i (omega arith)) (number_at j (omega arith) ∙ ap (λ z. Some z) (sym e)));
    variable_count = c.variable_count;
    in_types = c.in_types;
    nodes = λ i p s. some_more (node_at h (slice_index m.nodes i)) (FitsNode (setting_of r g m a) p) (FitsNode (setting_of r h n a) p) (node_on p) (c.nodes i p s);
    edges = λ i p s.
        let l : i < length r.left_edges = slice_get_within r.left_edges i p s in
        let k : length m.edges ≡ length r.left_edges = c.edge_count in
        let b = slice_index_or m.reversed i false in
        subst (λ o. IsSomeAnd o (FitsEdge (setting_of r h n a) p b)) (edge_same i (omega arith))
        (some_more (edge_at g (slice_index m.edges i)) (FitsEdge (setting_of r g m a) p b) (FitsEdge (setting_of r h n a) p b) (edge_on p b) (c.edges i p s));
    dangling = λ i k d l kept there ends.
        let e = w.all k (is_some_of (edge_at h k) d there) in
        number_on e.0 k e.1 (c.dangling i e.0 d l kept (edge_then t h e.0 k e.1 ∙ there) ends);
  }

  back : MatchBy r h n a → MatchBy r g m a
  back c = record {
    node_count = c.node_count;
    edge_count = sym same_length ∙ c.edge_count;
    direction_count = c.direction_count;
    nodes_apart = c.nodes_apart;
    edges_apart = λ i j less l e.
        let s = same_length in
        c.edges_apart i j less (omega arith)
        (some_same (sym (number_at i (omega arith)) ∙ ap (today t) e ∙ number_at j (omega arith)));
    variable_count = c.variable_count;
    in_types = c.in_types;
    nodes = λ i p s. some_more (node_at h (slice_index m.nodes i)) (FitsNode (setting_of r h n a) p) (FitsNode (setting_of r g m a) p) (node_back p) (c.nodes i p s);
    edges = λ i p s.
        let l : i < length r.left_edges = slice_get_within r.left_edges i p s in
        let k : length ks ≡ length r.left_edges = c.edge_count in
        let z = same_length in
        let b = slice_index_or m.reversed i false in
        subst (λ o. IsSomeAnd o (FitsEdge (setting_of r g m a) p b)) (sym (edge_same i (omega arith)))
        (some_more (edge_at h (slice_index ks i)) (FitsEdge (setting_of r h n a) p b) (FitsEdge (setting_of r g m a) p b) (edge_back p b) (c.edges i p s));
    dangling = λ i e d l kept there ends.
        let k = edge_now t h e d there in
        number_back e k.0 k.1 (c.dangling i k.0 d l kept k.2 ends);
  }

  applying_on : AppliesBy r g m a → AppliesBy r h n a
  applying_on c = record {
    is_match = on c.is_match;
    condition = sym (truth_was r t h m n a w refl r.condition) ∙ c.condition;
    values = sym (fault_was r t h m n a w refl (right_labels r)) ∙ c.values;
  }

  applying_back : AppliesBy r h n a → AppliesBy r g m a
  applying_back c = record {
    is_match = back c.is_match;
    condition = truth_was r t h m n a w refl r.condition ∙ c.condition;
    values = fault_was r t h m n a w refl (right_labels r) ∙ c.values;
  }

pub match_on : (r : Rule) (t : List (Option ℕ)) (h : Graph) (m n : Found) (a : Assignment) → IsTable t h → found_today t m ≡ Some n → MatchBy r (as_it_was t h) m a → MatchBy r h n a
match_on r t h m n a w e c = let p = found_parts t m n e in subst (λ k. MatchBy r h k a) p.2 (on r t h m a p.0 w p.1 c)

pub match_back : (r : Rule) (t : List (Option ℕ)) (h : Graph) (m n : Found) (a : Assignment) → IsTable t h → found_today t m ≡ Some n → MatchBy r h n a → MatchBy r (as_it_was t h) m a
match_back r t h m n a w e c = let p = found_parts t m n e in back r t h m a p.0 w p.1 (subst (λ k. MatchBy r h k a) (sym p.2) c)

-- the edges of a match are there today
image_there : (r : Rule) (t : List (Option ℕ)) (h : Graph) (m : Found) (a : Assignment) → MatchBy r (as_it_was t h) m a → (e : ℕ) → Contains m.edges e → IsSome (today t e)
image_there r t h m a c e i =
    let l : i.0 < length m.edges = i.1 in
    let k : length m.edges ≡ length r.left_edges = c.edge_count in
    let p = element r.left_edges i.0 (omega arith) in
    let d = some_and (edge_at (as_it_was t h) (slice_index m.edges i.0)) (FitsEdge (setting_of r (as_it_was t h) m a) p.0 (slice_index_or m.reversed i.0 false)) (c.edges i.0 p.0 p.1) in
    let n = edge_now t h (slice_index m.edges i.0) d.0 d.1 in
    subst (λ x. IsSome (today t x)) (place m.edges e i) (is_some_of (today t (slice_index m.edges i.0)) n.0 n.1)

pub match_there : (r : Rule) (t : List (Option ℕ)) (h : Graph) (m : Found) (a : Assignment) → IsTable t h → MatchBy r (as_it_was t h) m a → (n : Found) × (found_today t m ≡ Some n)
match_there r t h m a w c =
    let ks = all_there t m.edges (image_there r t h m a c) in
    (record m { edges = ks.0 }, found_is t m ks.0 ks.1)

pub applies_on : (r : Rule) (t : List (Option ℕ)) (h : Graph) (m n : Found) (a : Assignment) → IsTable t h → found_today t m ≡ Some n → AppliesBy r (as_it_was t h) m a → AppliesBy r h n a
applies_on r t h m n a w e c = let p = found_parts t m n e in subst (λ k. AppliesBy r h k a) p.2 (applying_on r t h m a p.0 w p.1 c)

pub applies_back : (r : Rule) (t : List (Option ℕ)) (h : Graph) (m n : Found) (a : Assignment) → IsTable t h → found_today t m ≡ Some n → AppliesBy r h n a → AppliesBy r (as_it_was t h) m a
applies_back r t h m n a w e c = let p = found_parts t m n e in applying_back r t h m a p.0 w p.1 (subst (λ k. AppliesBy r h k a) (sym p.2) c)
