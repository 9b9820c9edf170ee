-- The tests are exact.
use Rattle.std.proofs.Common.{◌≡◌, ℕ, zero, suc, Bool, true, false, if◌then◌else◌, List, [], ◌∷◌, All, length, get_or, Option, Some, None, IsSomeAnd, Contains, Decides, slice_get, slice_index, refl, sym, ap, subst, ◌∙◌, true≢false}
use Rattle.std.specs.Prelude.{◌||◌}
use Rattle.std.specs.Option.{option_map}
use Rattle.std.proofs.Math.Bool.{and-true}
use Rattle.std.proofs.lemmas.Bool.{or_from}
use Rattle.std.proofs.lemmas.Bool.Decides.{not_from_Decides, Decides-like, Decides-and, Decides-by_or}
use Rattle.std.proofs.lemmas.List.{get_or_default}
use Rattle.std.proofs.lemmas.Option.{none-some, slice_get-map, slice_get_within, get_or_from_slice_get}
use Rattle.gp_memory.proofs.Basics.{from_map, some_at as element, some_same, standing, stands_in}
use Rattle.gp_values.specs.declared.atom.Atom.{Atom}
use Rattle.gp_values.specs.Atoms.{same_list}
use Rattle.gp_values.specs.EqualityLaws.{same_list-Decides}
use Rattle.gp_values.specs.Graph.{Graph, Node, node_at}
use Rattle.gp_syntax.specs.declared.rule.RuleParts.{RuleParts}
use Rattle.gp_syntax.specs.declared.rule.RightNode as tree
use Rattle.gp_syntax.specs.Assigned.{PartialAssignment}
use Rattle.gp_syntax.specs.Value.{Setting, Valued, Value, NoValue, value_of, image_at}
use Rattle.gp_syntax.specs.Rule.{Rule, LeftNode, Found, is_origin}
use Rattle.gp_syntax.specs.Match.{Agrees, FitsNode, setting_of}
use Rattle.gp_syntax.specs.Step.{Applies}
use Rattle.gp_syntax.specs.Tree.{rule_of_tree, right_node_of, expression_of, pattern_of}
use Rattle.gp_syntax.specs.WellFormed.{IsWithin, IsWellFormed}
use Rattle.gp_syntax.proofs.Kept.{Decides-origin}
use Rattle.gp_unify.specs.Matched.{IsAssignment}
use Rattle.gp_eval.specs.Answer.{setting}
use Rattle.gp_match.specs.Tests.{some_and, has_number, is_value, node_mark_rank, agrees, implies, alike, fits_node}
use Rattle.gp_match.proofs.Judges.{Decides-below, Decides-has, same_node_mark, Decides-agrees, Decides-implies, Decides-alike}
use Rattle.gp_step.specs.Laws.{IsNumbered}
use Rattle.gp_step.proofs.Labels.{same_element, node_label, node_count}
use Rattle.gp_step.proofs.Makes.{is_ready}
use Rattle.gp_independence.specs.Independent.{looks_around, Preserves, Independent}
use Rattle.gp_independence.specs.inside.Shared.{SomeShared, NoneShared, any_shared, PreservesAmong}
use Rattle.gp_independence.specs.inside.Tests.{as_left, says_again, right_of, is_preserved, all_preserved}
use Rattle.gp_independence.proofs.Written.{preserves_if, fits_if}

-- ---- numbers in two lists

Decides-shared : (ms ns : List ℕ) → Decides (any_shared ms ns) (SomeShared ms ns)
Decides-shared ms ns =
    Decides-like (any_shared ms ns)
    (λ h. (slice_index ms h.0, stands_in ms h.0 (slice_index ms h.0) h.1 refl, h.2 0))
    (λ h. (h.1.0, h.1.1, λ d. subst (Contains ns) (sym (get_or_default ms h.1.0 d h.0 h.1.1 ∙ h.1.2)) h.2))
    (Decides-by_or (has_number ns) (Contains ns) (λ ks. any_shared ks ns) (Decides-has ns) refl (λ _ _. refl) ms)

-- by the lists that were compared
pub some_shared : {ms ns is js : List ℕ} {b : Bool} → is ≡ ms → js ≡ ns → b ≡ any_shared is js → b ≡ true → SomeShared ms ns
some_shared {ms = ms} {ns = ns} {is = is} {js = js} p q e h = subst (λ z. SomeShared z ns) p (subst (SomeShared is) q ((Decides-shared is js).0 (sym e ∙ h)))

pub none_shared : {ms ns is js : List ℕ} {b : Bool} → is ≡ ms → js ≡ ns → b ≡ any_shared is js → b ≡ false → NoneShared ms ns
none_shared {ms = ms} {ns = ns} {is = is} {js = js} p q e h k a b =
    not_from_Decides (any_shared is js) (Decides-shared is js) (sym e ∙ h) (k, subst (λ z. Contains z k) (sym p) a, subst (λ z. Contains z k) (sym q) b)

-- ---- a right node says what its image carries

Decides-value : (w : Valued (List Atom)) (v : List Atom) → Decides (is_value w v) (w ≡ Value v)
Decides-value (Value w) v = Decides-like (is_value (Value w) v) (λ e. ap (λ u. Value u) e) (λ e. cc) (same_list-Decides w v)
Decides-value (NoValue k) v = (λ e. absurd (true≢false (sym e)), λ e. absurd cc)

Decides-node : (s : Setting) (p : LeftNode) (x : Node) → Decides (fits_node s p x) (FitsNode s p x)
Decides-node s p x =
    Decides-like (fits_node s p x)
    (λ (h : (value_of p.label s ≡ Value x.label) × (Agrees p.mark x.mark × (p.root ≡ x.root))). record { label = h.0; mark = h.1.0; root = h.1.1 })
    (λ h. (h.label, (h.mark, h.root)))
    (Decides-and _ _ (Decides-value (value_of p.label s) x.label)
    (Decides-and _ _ (Decides-agrees node_mark_rank same_node_mark p.mark x.mark) (Decides-alike p.root x.root)))

Decides-says : (s : Setting) (p : LeftNode) (o : Option Node) → Decides (some_and o (fits_node s p)) (IsSomeAnd o (FitsNode s p))
Decides-says s p None = (λ e. absurd (true≢false (sym e)), λ h. absurd h)
Decides-says s p (Some x) = Decides-node s p x

-- what was asked of root, mark and label, one after another
pub says_by : (s : Setting) (i : ℕ) (q : tree.RightNode) (x : Node) (v : List Atom) {b m : Bool} → node_at s.graph (image_at s i) ≡ Some x → value_of (expression_of q.label) s ≡ Value v
    → q.root ≡ x.root → m ≡ agrees node_mark_rank (pattern_of q.mark) x.mark → m ≡ true → b ≡ same_list v x.label → b ≡ says_again s i q
says_by s i q x v {b = b} there value root mark kept same =
    let label : is_value (value_of (expression_of q.label) s) x.label ≡ b = ap (λ z. is_value z x.label) value ∙ sym same in
    let agree : agrees node_mark_rank (pattern_of q.mark) x.mark ≡ true = sym mark ∙ kept in
    let roots : alike q.root x.root ≡ true = (Decides-alike q.root x.root).1 root in
    rw there (rw (label, agree, roots) (sym (and-true b)))

-- ---- the right node of a left one

right_at : (qs : List tree.RightNode) (i : ℕ) (q : tree.RightNode) → right_of qs i ≡ Some q → (j : ℕ) × (slice_get qs j ≡ Some q) × (q.origin ≡ Some i)
right_at [] i q h = absurd (none-some q h)
right_at (p ∷ qs) i q h = by (is_origin i p.origin) refl h (right_at qs i q)
  where
    by : (b : Bool) → is_origin i p.origin ≡ b → (if b then Some p else right_of qs i) ≡ Some q → (right_of qs i ≡ Some q → (j : ℕ) × (slice_get qs j ≡ Some q) × (q.origin ≡ Some i)) → (j : ℕ) × (slice_get (p ∷ qs) j ≡ Some q) × (q.origin ≡ Some i)
    by true e h rest = (0, h, ap (λ (z : tree.RightNode). z.origin) (sym (some_same h)) ∙ (Decides-origin p.origin i).0 e)
    by false e h rest = let r = rest h in (suc r.0, r.1, r.2)

none_at : (qs : List tree.RightNode) (i j : ℕ) (q : tree.RightNode) → right_of qs i ≡ None → slice_get qs j ≡ Some q → q.origin ≡ Some i → ⊥
none_at [] i j q h e from = none-some q e
none_at (p ∷ qs) i j q h e from = by (is_origin i p.origin) refl h j e (λ k. none_at qs i k q)
  where
    by : (b : Bool) → is_origin i p.origin ≡ b → (if b then Some p else right_of qs i) ≡ None → (j : ℕ) → slice_get (p ∷ qs) j ≡ Some q
        → ((k : ℕ) → right_of qs i ≡ None → slice_get qs k ≡ Some q → q.origin ≡ Some i → ⊥) → ⊥
    by true t h j e rest = none-some p (sym h)
    by false t h zero e rest = true≢false (sym ((Decides-origin p.origin i).1 (ap (λ (z : tree.RightNode). z.origin) (some_same e) ∙ from)) ∙ t)
    by false t h (suc j) e rest = rest j h e from

-- what holds of all right nodes holds of it
pub right_holds : (P : tree.RightNode → Type 0) (qs : List tree.RightNode) (i : ℕ) (q : tree.RightNode) → All P qs → Some q ≡ right_of qs i → P q
right_holds P qs i q all h =
    let c = right_at qs i q (sym h) in
    subst P (get_or_from_slice_get qs c.0 q q c.1) (all c.0 q (slice_get_within qs c.0 q c.1))

-- ---- a node is preserved

module _ (p : RuleParts) (g : Graph) (m : Found) (o : IsWellFormed (rule_of_tree p)) (whole : IsNumbered g) (k : Applies (rule_of_tree p) g m) where
  abbrev r : Rule
  r = rule_of_tree p

  abbrev s : Setting
  s = setting_of r g m k.0

  Decides-preserved : (i : ℕ) → Decides (is_preserved s p.right_nodes i) (Preserves r g m i)
  Decides-preserved i = by (right_of p.right_nodes i) refl
    where
      by : (found : Option tree.RightNode) → right_of p.right_nodes i ≡ found → Decides (some_and found (says_again s i)) (Preserves r g m i)
      by None e = (
        λ h. absurd (true≢false (sym h)),
        λ h.
            let c = from_map right_node_of p.right_nodes h.kept.0 h.kept.1 h.kept.2 in
            absurd (none_at p.right_nodes i h.kept.0 c.0 e c.1 (ap (λ z. z.origin) c.2 ∙ h.kept.3)),
      )
      by (Some q) e =
          let c = right_at p.right_nodes i q e in
          let right = slice_get-map right_node_of p.right_nodes c.0 ∙ ap (option_map right_node_of) c.1 in
          let left = element r.left_nodes i (o.origins c.0 i (right_node_of q) right c.2) in
          Decides-like (says_again s i q)
          (preserves_if r g m i c.0 left.0 (right_node_of q) left.1 right c.2 o k.0 k.1.is_match)
          (fits_if r g m i c.0 left.0 (right_node_of q) left.1 right c.2 o whole k)
          (Decides-says s (as_left (right_node_of q)) (node_at g (slice_index m.nodes i)))

  Decides-among : (others : List ℕ) → Decides (all_preserved s p.right_nodes others) (PreservesAmong r g m others)
  Decides-among others =
      Decides-below (λ i. implies (has_number others (slice_index m.nodes i)) (is_preserved s p.right_nodes i)) (λ i. Contains others (slice_index m.nodes i) → Preserves r g m i)
      (λ i.
      let shared = Decides-has others (slice_index m.nodes i) in
      let preserved = Decides-preserved i in
      Decides-like (implies (has_number others (slice_index m.nodes i)) (is_preserved s p.right_nodes i))
      (λ h c. preserved.0 (h (shared.1 c)))
      (λ h e. preserved.1 (h (shared.0 e)))
      (Decides-implies (has_number others (slice_index m.nodes i)) (is_preserved s p.right_nodes i)))
      (length m.nodes)

  -- by the assignment that was found
  pub decides_among : (b : PartialAssignment) → IsAssignment r k.0 b → (others : List ℕ) → Decides (all_preserved (setting b m.nodes g) p.right_nodes others) (PreservesAmong r g m others)
  decides_among b a others =
      let types = a.types in
      let values = a.values in
      let same : s ≡ setting b m.nodes g = λ z. record { types = (sym types) z; assigned = (sym values) z; images = m.nodes; graph = g } in
      subst (λ z. Decides (all_preserved z p.right_nodes others) (PreservesAmong r g m others)) same (Decides-among others)

  -- the places that right labels name are there
  pub right_within : (b : PartialAssignment) → IsAssignment r k.0 b → All (λ (q : tree.RightNode). IsWithin (length b.types) (length m.nodes) (expression_of q.label)) p.right_nodes
  right_within b a j d l =
      let ready = is_ready p g m b o k a in
      let w = (node_label _ ready j (get_or p.right_nodes j d) (same_element p.right_nodes j d l)).within in
      let n = node_count _ ready in
      subst (λ z. IsWithin (length z) (length m.nodes) (expression_of (get_or p.right_nodes j d).label)) (sym a.types)
      (subst (λ z. IsWithin (length p.types) z (expression_of (get_or p.right_nodes j d).label)) (sym n) w)

-- ---- two matches

module _ {r s : Rule} {g : Graph} {m n : Found} (first : Applies r g m) (second : Applies s g n) where
  pub shares_nothing : NoneShared m.edges n.edges → NoneShared m.nodes n.nodes → Independent r s g m n
  shares_nothing edges nodes = record {
    first = first;
    second = second;
    edges = edges;
    nodes = λ i j k l same. absurd (nodes (slice_index m.nodes i) (stands_in m.nodes i (slice_index m.nodes i) k refl) (stands_in n.nodes j (slice_index m.nodes i) l (sym same)));
    apart = λ looks. nodes;
  }

  pub both_preserve : NoneShared m.edges n.edges → looks_around r ≡ false → looks_around s ≡ false → PreservesAmong r g m n.nodes → PreservesAmong s g n m.nodes → Independent r s g m n
  both_preserve edges x y p q = record {
    first = first;
    second = second;
    edges = edges;
    nodes = λ i j k l same. (p i k (stands_in n.nodes j (slice_index m.nodes i) l (sym same)), q j l (stands_in m.nodes i (slice_index n.nodes j) k same));
    apart = λ looks. absurd (true≢false (sym looks ∙ or_from (looks_around r) (looks_around s) x y));
  }

module _ {r s : Rule} {g : Graph} {m n : Found} (i : Independent r s g m n) where
  pub first_preserves : PreservesAmong r g m n.nodes
  first_preserves j l c = (i.nodes j c.0 l c.1 (sym (standing n.nodes (slice_index m.nodes j) c))).0

  pub second_preserves : PreservesAmong s g n m.nodes
  second_preserves j l c = (i.nodes c.0 j c.1 l (standing m.nodes (slice_index n.nodes j) c)).1

  pub looks_at_shared : SomeShared m.nodes n.nodes → (looks_around r || looks_around s) ≡ true → ⊥
  looks_at_shared k looks = i.apart looks k.0 k.1 k.2

  pub shares_edge : SomeShared m.edges n.edges → ⊥
  shares_edge k = i.edges k.0 k.1 k.2

-- ---- answers

pub is_no : {P : Type 0} → (P → ⊥) → Decides false P
is_no h = (λ e. absurd (true≢false (sym e)), λ x. absurd (h x))

pub is_yes : {P : Type 0} → P → Decides true P
is_yes h = (λ e. h, λ x. refl)

-- what was asked of the parts of a rule
pub asked : {p q : RuleParts} {b t : Bool} → q ≡ p → b ≡ looks_around (rule_of_tree q) → b ≡ t → looks_around (rule_of_tree p) ≡ t
asked same e is = ap (λ z. looks_around (rule_of_tree z)) (sym same) ∙ sym e ∙ is
