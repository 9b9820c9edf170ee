-- The rule of a declaration without a fault is well formed.
use Rattle.std.proofs.Common.{◌≡◌, ℕ, zero, suc, ◌<◌, Bool, true, false, if◌then◌else◌, ◌||◌, ◌&&◌, not, List, [], ◌∷◌, ◌++◌, map, length, slice_get, Option, Some, None, option_map, refl, sym, ap, subst, ◌∙◌, arith}
use Rattle.std.specs.Prelude.{All, Any, IsSomeAnd, codes, nat_lt}
use Rattle.std.specs.Option.{option_or, option_map_or}
use Rattle.std.specs.List.{list_all}
use Rattle.std.proofs.lemmas.Bool.{ltb-false}
use Rattle.std.proofs.lemmas.List.{length-map}
use Rattle.std.proofs.lemmas.List.Elements.{All-map}
use Rattle.std.proofs.lemmas.Option.{none-some, same_Some, slice_get-map, slice_get_within, get_or_from_slice_get}
use Rattle.gp_memory.proofs.Basics.{both, from_map, neither, not_false as on}
use Rattle.gp_values.specs.Names.{Name, same_name, has_name, place_of, first_doubled, first_unknown}
use Rattle.gp_syntax.specs.Expression.{Expression, Marked, AnyMark}
use Rattle.gp_syntax.specs.Rule.{Rule, LeftNode, LeftEdge, RightNode, RightEdge}
use Rattle.gp_syntax.specs.Step.{right_labels}
use Rattle.gp_syntax.specs.Typing.{type_in, IsWellTyped, IsWellTypedCondition}
use Rattle.gp_syntax.specs.Simple.{IsSimple, StandsIn}
use Rattle.gp_syntax.specs.WellFormed.{IsWellFormed, IsWithin, IsConditionWithin, left_labels}
use Rattle.gp_syntax.specs.Declaration.{Declaration, DeclaredNode, DeclaredEdge, DeclaredVariable, Side, IsWellNamed, IsSmall, node_names, edge_names, end_names, labels, variables_in, nodes_in, nodes_in_condition, left_variables, place_in, label_in, origin_in, node_mark_of, edge_mark_of, edge_named, rule_of}
use Rattle.gp_syntax.specs.Fault.{Fault, first_told, unless, when, fault_of, is_large, variable_names, twice_declared, unknown_at_node, unknown_at_edge, unknown_degree, unknown_in_side, unknown_node, bad_interface, variables_in_side, variables_in_condition, unbound, type_named, is_well_typed, is_well_typed_condition, is_simple, is_any, keeps_node_mark, keeps_edge_mark, keeps_direction, joins_the_same, bad_bidi, node_named}
use Rattle.gp_syntax.specs.Checked.{IsChecked}
use Rattle.gp_syntax.proofs.Declarations.{same_name_itself, place_has, stands_once, fits_declaration}
use Rattle.gp_syntax.proofs.Told.{passes, passed, told_append, told_flat, told_map, told_none, told_weaker, told_stronger, told_both, all_pass, unknown_told, unknown_flat, among_themselves}
use Rattle.gp_syntax.proofs.CheckedNames as names
use Rattle.gp_syntax.proofs.CheckedLabels as labels_of

-- ---- the clauses

unwhen : (b : Bool) (f : Fault) → when b f ≡ None → b ≡ false
unwhen true f h = absurd cc
unwhen false f h = refl

unmapped : {A : Type 0} (g : A → Fault) (o : Option A) → option_map g o ≡ None → o ≡ None
unmapped g None h = refl
unmapped g (Some x) h = absurd cc

off : (a b : Bool) → (a || b) ≡ false → (a ≡ false) × (b ≡ false)
off true b h = absurd cc
off false b h = (refl, h)

record Clauses (d : Declaration) : Type 0 where
  left_small : is_large d.left ≡ false
  right_small : is_large d.right ≡ false
  once : twice_declared d ≡ None
  nodes : unknown_node d ≡ None
  interface : bad_interface d ≡ None
  bound : unbound d ≡ None
  typed : list_all (is_well_typed (type_named d)) (labels d.left ++ labels d.right) ≡ true
  condition_typed : is_well_typed_condition (type_named d) d.condition ≡ true
  simple : list_all (is_simple (type_named d)) (labels d.left) ≡ true
  node_marks : list_all (keeps_node_mark d) d.right.nodes ≡ true
  edge_marks : list_all (keeps_edge_mark d) d.right.edges ≡ true
  directions : bad_bidi d ≡ None

clauses : (d : Declaration) → fault_of d ≡ None → Clauses d
unfolding fault_of
clauses d h =
    let a = neither _ _ h in
    let b = neither _ _ a.1 in
    let c = neither _ _ b.1 in
    let e = neither _ _ c.1 in
    let f = neither _ _ e.1 in
    let g = neither _ _ f.1 in
    let i = neither _ _ g.1 in
    let j = neither _ _ i.1 in
    let sizes = off (is_large d.left) (is_large d.right) (unwhen _ _ a.0) in
    let types = both _ _ (on _ (unwhen _ _ g.0)) in
    let marks = both _ _ (on _ (unwhen _ _ j.0)) in
    record {
      left_small = sizes.0;
      right_small = sizes.1;
      once = unmapped _ _ b.0;
      nodes = unmapped _ _ c.0;
      interface = unmapped _ _ e.0;
      bound = unmapped _ _ f.0;
      typed = types.0;
      condition_typed = types.1;
      simple = on _ (unwhen _ _ i.0);
      node_marks = (both _ _ marks.0).1;
      edge_marks = marks.1;
      directions = unmapped _ _ j.1;
    }

-- ---- sizes and names

small : (s : Side) → is_large s ≡ false → IsSmall s
small s h =
    let p = off (nat_lt 32 (length s.nodes)) (nat_lt 64 (length s.edges)) h in
    record { nodes = ltb-false 32 (length s.nodes) p.0; edges = ltb-false 64 (length s.edges) p.1 }

record SideKnown (d : Declaration) (s : Side) : Type 0 where
  ends : first_unknown (node_names s) (end_names s) ≡ None
  degrees : first_told (λ e. first_unknown (node_names d.left) (nodes_in e)) (labels s) ≡ None

side_known : (d : Declaration) (s : Side) → unknown_in_side d s ≡ None → SideKnown d s
side_known d s h =
    let p = neither (first_told (unknown_at_node d) s.nodes) (first_told (unknown_at_edge d s) s.edges) h in
    let q = told_both (λ (e : DeclaredEdge). first_unknown (node_names s) (e.source ∷ e.target ∷ [])) (λ (e : DeclaredEdge). unknown_degree d e.label) s.edges p.1 in
    let f : Expression Name → Option Name = λ e. first_unknown (node_names d.left) (nodes_in e) in
    record {
      ends = unknown_flat (node_names s) (λ (e : DeclaredEdge). e.source ∷ e.target ∷ []) s.edges ∙ q.0;
      degrees = told_append f (map (λ (n : DeclaredNode). n.label) s.nodes) (map (λ (e : DeclaredEdge). e.label) s.edges)
          ∙ ap (λ o. option_or o (first_told f (map (λ (e : DeclaredEdge). e.label) s.edges))) (told_map f (λ (n : DeclaredNode). n.label) s.nodes ∙ p.0)
          ∙ told_map f (λ (e : DeclaredEdge). e.label) s.edges ∙ q.1;
    }

module _ (d : Declaration) (holds : Clauses d) where
  left_known : SideKnown d d.left
  left_known = side_known d d.left (neither _ _ holds.nodes).0

  right_known : SideKnown d d.right
  right_known = side_known d d.right (neither _ _ (neither _ _ holds.nodes).1).0

  tests_known : first_unknown (node_names d.left) (nodes_in_condition d.condition) ≡ None
  tests_known = (neither _ _ (neither _ _ holds.nodes).1).1

  record Once : Type 0 where
    variables : first_doubled (variable_names d) ≡ None
    left_nodes : first_doubled (node_names d.left) ≡ None
    left_edges : first_doubled (edge_names d.left) ≡ None
    right_nodes : first_doubled (node_names d.right) ≡ None
    right_edges : first_doubled (edge_names d.right) ≡ None
    interface : first_doubled d.interface ≡ None

  once : Once
  once =
      let a = neither _ _ holds.once in
      let b = neither _ _ a.1 in
      let c = neither _ _ b.1 in
      let e = neither _ _ c.1 in
      let f = neither _ _ e.1 in
      let g = neither _ _ f.1 in
      record { variables = a.0; left_nodes = b.0; left_edges = c.0; right_nodes = e.0; right_edges = f.0; interface = g.0 }

  well_named : IsWellNamed d
  well_named =
      let f : Expression Name → Option Name = λ e. first_unknown (node_names d.left) (nodes_in e) in
      let o = once in
      record {
        left_small = small d.left holds.left_small;
        right_small = small d.right holds.right_small;
        once = record { variables = o.variables; left_nodes = o.left_nodes; left_edges = o.left_edges; right_nodes = o.right_nodes; right_edges = o.right_edges; interface = o.interface };
        nodes = record {
          left_ends = left_known.ends;
          right_ends = right_known.ends;
          degrees = unknown_flat (node_names d.left) nodes_in (labels d.left ++ labels d.right) ∙ told_append f (labels d.left) (labels d.right) ∙ rw left_known.degrees right_known.degrees;
          tests = tests_known;
        };
        interface = record {
          left = unknown_told (node_names d.left) d.interface ∙ told_weaker (in_both) (λ n. unless (has_name (node_names d.left) n) n)
              (λ n h. passed _ n (both (has_name (node_names d.left) n) (has_name (node_names d.right) n) (passes _ n h)).0) d.interface holds.interface;
          right = unknown_told (node_names d.right) d.interface ∙ told_weaker (in_both) (λ n. unless (has_name (node_names d.right) n) n)
              (λ n h. passed _ n (both (has_name (node_names d.left) n) (has_name (node_names d.right) n) (passes _ n h)).1) d.interface holds.interface;
        };
      }
    where
      in_both : Name → Option Name
      in_both n = unless (has_name (node_names d.left) n && has_name (node_names d.right) n) n

  -- ---- labels

  abbrev used : List Name
  used = variables_in_side d.left

  abbrev variables : List Name
  variables = map (λ (v : DeclaredVariable). v.name) (left_variables d)

  abbrev nodes : List Name
  nodes = node_names d.left

  is_unknown : Name → Option Name
  is_unknown = labels_of.is_unknown variables nodes

  has_place : (x : Name) → has_name (variable_names d) x ≡ true → has_name used x ≡ true → unless (has_name variables x) x ≡ None
  has_place x h u = passed _ x (names.kept_has used d.variables x h u)

  left_variables_known : first_told (labels_of.is_unknown variables nodes) used ≡ None
  left_variables_known =
      told_stronger (λ x. unless (has_name (variable_names d) x) x) (λ x. unless (has_name used x) x) (labels_of.is_unknown variables nodes)
      (λ x h u. has_place x (passes _ x h) (passes _ x u)) used (neither _ _ holds.bound).0 (among_themselves used)

  others_known : first_told (labels_of.is_unknown variables nodes) (variables_in_side d.right ++ variables_in_condition d.condition) ≡ None
  others_known =
      told_weaker (λ x. unless (has_name (variable_names d) x && has_name used x) x) (labels_of.is_unknown variables nodes)
      (λ x h. let p = both (has_name (variable_names d) x) (has_name used x) (passes _ x h) in has_place x p.0 p.1) (variables_in_side d.right ++ variables_in_condition d.condition) (neither _ _ holds.bound).1

  others_apart : (first_told (labels_of.is_unknown variables nodes) (variables_in_side d.right) ≡ None) × (first_told (labels_of.is_unknown variables nodes) (variables_in_condition d.condition) ≡ None)
  others_apart = neither _ _ (sym (told_append (labels_of.is_unknown variables nodes) (variables_in_side d.right) (variables_in_condition d.condition)) ∙ others_known)

  labels_known : (s : Side) → first_told (labels_of.is_unknown variables nodes) (variables_in_side s) ≡ None → SideKnown d s → All (labels_of.KnownIn variables nodes) (labels s)
  labels_known s h k = λ i e l. record {
    variables_known = told_none (λ x. first_told (labels_of.is_unknown variables nodes) (variables_in x)) (labels s) (sym (told_flat (labels_of.is_unknown variables nodes) variables_in (labels s)) ∙ h) i e l;
    nodes_known = told_none (λ x. first_unknown nodes (nodes_in x)) (labels s) k.degrees i e l;
  }

  left_labels_known : All (labels_of.KnownIn variables nodes) (labels d.left)
  left_labels_known = labels_known d.left left_variables_known left_known

  right_labels_known : All (labels_of.KnownIn variables nodes) (labels d.right)
  right_labels_known = labels_known d.right others_apart.0 right_known

  condition_known : labels_of.KnownInCondition variables nodes d.condition
  condition_known = record { variables_known = others_apart.1; nodes_known = tests_known }

  -- the labels of a side, in places
  mapped_twice : {A B C : Type 0} (f : B → C) (g : A → B) (h : A → C) → ((x : A) → f (g x) ≡ h x) → (xs : List A) → map f (map g xs) ≡ map h xs
  mapped_twice f g h same [] = refl
  mapped_twice f g h same (x ∷ xs) = λ i. same x i ∷ mapped_twice f g h same xs i

  mapped_append : {A B : Type 0} (f : A → B) (xs ys : List A) → map f (xs ++ ys) ≡ map f xs ++ map f ys
  mapped_append f [] ys = refl
  mapped_append f (x ∷ xs) ys = ap (λ l. f x ∷ l) (mapped_append f xs ys)

  same_append : {A : Type 0} (a b c e : List A) → a ≡ b → c ≡ e → a ++ c ≡ b ++ e
  same_append a b c e p q = rw (p, q) refl

  side_labels : (s : Side) → map (label_in d) (labels s) ≡ map (λ (n : DeclaredNode). label_in d n.label) s.nodes ++ map (λ (e : DeclaredEdge). label_in d e.label) s.edges
  side_labels s =
      mapped_append (label_in d) (map (λ (n : DeclaredNode). n.label) s.nodes) (map (λ (e : DeclaredEdge). e.label) s.edges)
      ∙ same_append _ _ _ _ (mapped_twice (label_in d) (λ (n : DeclaredNode). n.label) (λ (n : DeclaredNode). label_in d n.label) (λ n. refl) s.nodes)
      (mapped_twice (label_in d) (λ (e : DeclaredEdge). e.label) (λ (e : DeclaredEdge). label_in d e.label) (λ e. refl) s.edges)

  left_labels_are : left_labels (rule_of d) ≡ map (label_in d) (labels d.left)
  left_labels_are =
      same_append _ _ _ _ (mapped_twice (λ (p : LeftNode). p.label) _ (λ (n : DeclaredNode). label_in d n.label) (λ n. refl) d.left.nodes)
      (mapped_twice (λ (p : LeftEdge). p.label) _ (λ (e : DeclaredEdge). label_in d e.label) (λ e. refl) d.left.edges)
      ∙ sym (side_labels d.left)

  right_labels_are : right_labels (rule_of d) ≡ map (label_in d) (labels d.right)
  right_labels_are =
      same_append _ _ _ _ (mapped_twice (λ (p : RightNode). p.label) _ (λ (n : DeclaredNode). label_in d n.label) (λ n. refl) d.right.nodes)
      (mapped_twice (λ (p : RightEdge). p.label) _ (λ (e : DeclaredEdge). label_in d e.label) (λ e. refl) d.right.edges)
      ∙ sym (side_labels d.right)

  type_count : length (rule_of d).types ≡ length variables
  type_count = length-map (left_variables d) (λ (v : DeclaredVariable). v.type) ∙ sym (length-map (left_variables d) (λ (v : DeclaredVariable). v.name))

  node_count : length (rule_of d).left_nodes ≡ length nodes
  node_count = length-map d.left.nodes _ ∙ sym (length-map d.left.nodes (λ (n : DeclaredNode). n.name))

  within : (e : Expression Name) → labels_of.KnownIn variables nodes e → IsWithin (length (rule_of d).types) (length (rule_of d).left_nodes) (label_in d e)
  within e k = subst (λ n. IsWithin n (length (rule_of d).left_nodes) (label_in d e)) (sym type_count) (subst (λ n. IsWithin (length variables) n (label_in d e)) (sym node_count) (labels_of.within variables nodes e k))

  agree : (x : Name) → has_name variables x ≡ true → type_in (rule_of d).types (place_in variables x) ≡ type_named d x
  agree x h = names.kept_type used d.variables x h

  typed_apart : (list_all (is_well_typed (type_named d)) (labels d.left) ≡ true) × (list_all (is_well_typed (type_named d)) (labels d.right) ≡ true)
  typed_apart = both _ _ (sym (all_append (is_well_typed (type_named d)) (labels d.left) (labels d.right)) ∙ holds.typed)
    where
      and_assoc : (a b c : Bool) → (a && (b && c)) ≡ ((a && b) && c)
      and_assoc true b c = refl
      and_assoc false b c = refl

      all_append : {A : Type 0} (p : A → Bool) (xs ys : List A) → list_all p (xs ++ ys) ≡ (list_all p xs && list_all p ys)
      all_append p [] ys = refl
      all_append p (x ∷ xs) ys = ap (λ b. p x && b) (all_append p xs ys) ∙ and_assoc (p x) (list_all p xs) (list_all p ys)

  in_labels : (P : Expression ℕ → Type 0) (es : List (Expression Name)) → All (λ e. P (label_in d e)) es → (ls : List (Expression ℕ)) → ls ≡ map (label_in d) es → All P ls
  in_labels P es h ls same = subst (All P) (sym same) (All-map P (label_in d) es h)

  left_labels_within : All (IsWithin (length (rule_of d).types) (length (rule_of d).left_nodes)) (left_labels (rule_of d))
  left_labels_within = in_labels (IsWithin (length (rule_of d).types) (length (rule_of d).left_nodes)) (labels d.left) (λ k e l. within _ (left_labels_known k e l)) (left_labels (rule_of d)) left_labels_are

  right_labels_within : All (IsWithin (length (rule_of d).types) (length (rule_of d).left_nodes)) (right_labels (rule_of d))
  right_labels_within = in_labels (IsWithin (length (rule_of d).types) (length (rule_of d).left_nodes)) (labels d.right) (λ k e l. within _ (right_labels_known k e l)) (right_labels (rule_of d)) right_labels_are

  left_labels_simple : All (IsSimple (type_in (rule_of d).types)) (left_labels (rule_of d))
  left_labels_simple =
      in_labels (IsSimple (type_in (rule_of d).types)) (labels d.left)
      (λ k e l. labels_of.simple variables nodes (type_named d) (type_in (rule_of d).types) agree _ (left_labels_known k e l)
      (all_pass (is_well_typed (type_named d)) (labels d.left) typed_apart.0 k e l) (all_pass (is_simple (type_named d)) (labels d.left) holds.simple k e l))
      (left_labels (rule_of d)) left_labels_are

  right_labels_typed : All (IsWellTyped (type_in (rule_of d).types)) (right_labels (rule_of d))
  right_labels_typed =
      in_labels (IsWellTyped (type_in (rule_of d).types)) (labels d.right)
      (λ k e l. labels_of.typed variables nodes (type_named d) (type_in (rule_of d).types) agree _ (right_labels_known k e l)
      (all_pass (is_well_typed (type_named d)) (labels d.right) typed_apart.1 k e l))
      (right_labels (rule_of d)) right_labels_are

  -- ---- variables stand in left labels

  variable_at : (x : ℕ) → x < length variables → (n : Name) × (slice_get variables x ≡ Some n)
  variable_at x l = at variables x l
    where
      at : (ns : List Name) (x : ℕ) → x < length ns → (n : Name) × (slice_get ns x ≡ Some n)
      at [] x l = absurd (omega arith)
      at (n ∷ ns) zero l = (n, refl)
      at (n ∷ ns) (suc x) l = at ns x (omega arith)

  has_at : (ns : List Name) (x : ℕ) (n : Name) → slice_get ns x ≡ Some n → has_name ns n ≡ true
  has_at [] x n e = absurd (none-some n e)
  has_at (m ∷ ns) zero n e = rw (subst (λ k. same_name n k ≡ true) (sym (same_Some m n e)) (same_name_itself n)) refl
  has_at (m ∷ ns) (suc x) n e = last (same_name n m) (has_at ns x n e)
    where
      last : (a : Bool) → has_name ns n ≡ true → (a || has_name ns n) ≡ true
      last true h = refl
      last false h = h

  variables_stand : (x : ℕ) → x < length (rule_of d).types → Any (StandsIn x) (left_labels (rule_of d))
  variables_stand x l =
      let v = variable_at x (subst (λ n. x < n) type_count l) in
      let has = has_at variables x v.0 v.1 in
      let some = names.among_some variables_in (labels d.left) v.0 (names.kept_used used d.variables v.0 has) in
      let within : some.0 < length (labels d.left) = slice_get_within (labels d.left) some.0 some.1 some.2 in
      let simple : is_simple (type_named d) some.1 ≡ true = subst (λ e. is_simple (type_named d) e ≡ true) (get_or_from_slice_get (labels d.left) some.0 some.1 some.1 some.2) (all_pass (is_simple (type_named d)) (labels d.left) holds.simple some.0 some.1 within) in
      let stands = labels_of.stands variables nodes (type_named d) (type_in (rule_of d).types) agree some.1 v.0 (both _ _ (both _ _ simple).0).0 some.3 in
      let place : place_in variables v.0 ≡ x = names.kept_place used d.variables x v.0 once.variables v.1 has in
      subst (Any (StandsIn x)) (sym left_labels_are) (
        some.0,
        label_in d some.1,
        subst (λ n. some.0 < n) (sym (length-map (labels d.left) (label_in d))) within,
        get_or_from_slice_get (map (label_in d) (labels d.left)) some.0 (label_in d some.1) (label_in d some.1) (slice_get-map (label_in d) (labels d.left) some.0 ∙ ap (option_map (label_in d)) some.2),
        subst (λ y. StandsIn y (label_in d some.1)) place stands,
      )

  condition_within : IsConditionWithin (length (rule_of d).types) (length (rule_of d).left_nodes) (rule_of d).condition
  condition_within =
      subst (λ n. IsConditionWithin n (length (rule_of d).left_nodes) (rule_of d).condition) (sym type_count)
      (subst (λ n. IsConditionWithin (length variables) n (rule_of d).condition) (sym node_count) (labels_of.condition_within variables nodes edge_mark_of d.condition condition_known))

  condition_typed : IsWellTypedCondition (type_in (rule_of d).types) (rule_of d).condition
  condition_typed = labels_of.condition_typed variables nodes (type_named d) (type_in (rule_of d).types) agree edge_mark_of d.condition condition_known holds.condition_typed

  -- ---- edges and their origins

  -- the declared edge of a right edge with an origin, which has the name of the left edge there
  record EdgeOrigin (j i : ℕ) (q : RightEdge) : Type 0 where
    name : Name
    right : slice_get (edge_names d.right) j ≡ Some name
    below : i < length (edge_names d.left)
    left : slice_get (edge_names d.left) i ≡ Some name

  edge_origin : (j i : ℕ) (q : RightEdge) → slice_get (rule_of d).right_edges j ≡ Some q → q.origin ≡ Some i → EdgeOrigin j i q
  edge_origin j i q h o =
      let x = from_map _ d.right.edges j q h in
      let e : place_of (edge_names d.left) x.0.name ≡ Some i = ap (λ (y : RightEdge). y.origin) x.2 ∙ o in
      let p = place_has (edge_names d.left) x.0.name i e in
      record {
        name = x.0.name;
        right = slice_get-map (λ (n : DeclaredEdge). n.name) d.right.edges j ∙ ap (λ z. option_map (λ (n : DeclaredEdge). n.name) z) x.1;
        below = p.0;
        left = p.1;
      }

  edge_origins : (j i : ℕ) (q : RightEdge) → slice_get (rule_of d).right_edges j ≡ Some q → q.origin ≡ Some i → i < length (rule_of d).left_edges
  edge_origins j i q h o =
      let below = (edge_origin j i q h o).below in
      let l : length (edge_names d.left) ≡ length d.left.edges = length-map d.left.edges (λ (n : DeclaredEdge). n.name) in
      let m : length (rule_of d).left_edges ≡ length d.left.edges = length-map d.left.edges _ in
      omega arith

  edge_origins_apart : (j k i : ℕ) (p q : RightEdge) → slice_get (rule_of d).right_edges j ≡ Some p → slice_get (rule_of d).right_edges k ≡ Some q → p.origin ≡ Some i → q.origin ≡ Some i → j ≡ k
  edge_origins_apart j k i p q h f a b =
      let r = edge_origin j i p h a in
      let s = edge_origin k i q f b in
      let e : s.name ≡ r.name = same_Some s.name r.name (sym s.left ∙ r.left) in
      stands_once [] (edge_names d.right) j k r.name once.right_edges r.right (s.right ∙ ap (λ n. Some n) e)

  -- ---- marks and directions

  any_told : {M : Type 0} (b : Bool) (mark : M) → (if b then AnyMark else Marked mark) ≡ AnyMark → b ≡ true
  any_told true mark h = refl
  any_told false mark h = absurd cc

  any_node_told : (mark : Option Name) → node_mark_of mark ≡ AnyMark → is_any mark ≡ true
  any_node_told None h = absurd cc
  any_node_told (Some w) h = any_told (same_name w (codes "any")) _ h

  any_edge_told : (mark : Option Name) → edge_mark_of mark ≡ AnyMark → is_any mark ≡ true
  any_edge_told None h = absurd cc
  any_edge_told (Some w) h = any_told (same_name w (codes "any")) _ h

  any_node_is : (mark : Option Name) → is_any mark ≡ true → node_mark_of mark ≡ AnyMark
  any_node_is None h = absurd cc
  any_node_is (Some w) h = rw h refl

  any_edge_is : (mark : Option Name) → is_any mark ≡ true → edge_mark_of mark ≡ AnyMark
  any_edge_is None h = absurd cc
  any_edge_is (Some w) h = rw h refl

  -- where the one holds, the other does
  implied : (a b : Bool) → (not a || b) ≡ true → a ≡ true → b ≡ true
  implied true b h e = h
  implied false b h e = absurd cc

  some_at : {A : Type 0} (o : Option A) (x : A) (P : A → Type 0) → o ≡ Some x → P x → IsSomeAnd o P
  some_at o x P e h = subst (λ y. IsSomeAnd y P) (sym e) h

  passes_at : {A : Type 0} (p : A → Bool) (xs : List A) (k : ℕ) (x : A) → list_all p xs ≡ true → slice_get xs k ≡ Some x → p x ≡ true
  passes_at p xs k x h e = subst (λ y. p y ≡ true) (get_or_from_slice_get xs k x x e) (all_pass p xs h k x (slice_get_within xs k x e))

  origin_is : (n : Name) (i : ℕ) → has_name d.interface n ≡ true → place_of (node_names d.left) n ≡ Some i → origin_in d n ≡ Some i
  origin_is n i h p = ap (λ b. if b then place_of (node_names d.left) n else None) h ∙ p

  any_nodes : (j : ℕ) (q : RightNode) → slice_get (rule_of d).right_nodes j ≡ Some q → q.mark ≡ AnyMark → IsSomeAnd q.origin (λ i. IsSomeAnd (slice_get (rule_of d).left_nodes i) (λ (p : LeftNode). p.mark ≡ AnyMark))
  any_nodes j q h any =
      let x = from_map _ d.right.nodes j q h in
      let marked = any_node_told x.0.mark (ap (λ (y : RightNode). y.mark) x.2 ∙ any) in
      let kept : Bool = option_map_or (λ (p : DeclaredNode). is_any p.mark) (node_named d.left.nodes x.0.name) false in
      let keeps = both (has_name d.interface x.0.name) kept (implied (is_any x.0.mark) (has_name d.interface x.0.name && kept) (passes_at (keeps_node_mark d) d.right.nodes j x.0 holds.node_marks x.1) marked) in
      let found = names.node_found (λ (p : DeclaredNode). is_any p.mark) d.left.nodes x.0.name keeps.1 in
      let origin : q.origin ≡ Some found.0 = sym (ap (λ (y : RightNode). y.origin) x.2) ∙ origin_is x.0.name found.0 keeps.0 found.2 in
      some_at q.origin found.0 _ origin
      (some_at (slice_get (rule_of d).left_nodes found.0) _ (λ (p : LeftNode). p.mark ≡ AnyMark) (slice_get-map _ d.left.nodes found.0 ∙ ap (option_map _) found.3) (any_node_is found.1.mark found.4))

  any_edges : (k : ℕ) (q : RightEdge) → slice_get (rule_of d).right_edges k ≡ Some q → q.mark ≡ AnyMark → IsSomeAnd q.origin (λ i. IsSomeAnd (slice_get (rule_of d).left_edges i) (λ (p : LeftEdge). p.mark ≡ AnyMark))
  any_edges k q h any =
      let x = from_map _ d.right.edges k q h in
      let marked = any_edge_told x.0.mark (ap (λ (y : RightEdge). y.mark) x.2 ∙ any) in
      let keeps = implied (is_any x.0.mark) _ (passes_at (keeps_edge_mark d) d.right.edges k x.0 holds.edge_marks x.1) marked in
      let found = names.edge_found (λ (p : DeclaredEdge). is_any p.mark) d.left.edges x.0.name keeps in
      let origin : q.origin ≡ Some found.0 = sym (ap (λ (y : RightEdge). y.origin) x.2) ∙ found.2 in
      some_at q.origin found.0 _ origin
      (some_at (slice_get (rule_of d).left_edges found.0) _ (λ (p : LeftEdge). p.mark ≡ AnyMark) (slice_get-map _ d.left.edges found.0 ∙ ap (option_map _) found.3) (any_edge_is found.1.mark found.4))

  bidirectional_edges : (k : ℕ) (q : RightEdge) → slice_get (rule_of d).right_edges k ≡ Some q → q.bidirectional ≡ true → IsSomeAnd q.origin (λ i. IsSomeAnd (slice_get (rule_of d).left_edges i) (λ (p : LeftEdge). p.bidirectional ≡ true))
  bidirectional_edges k q h directed =
      let x = from_map _ d.right.edges k q h in
      let told : unless (keeps_direction d x.0) x.0.name ≡ None =
      subst (λ (e : DeclaredEdge). unless (keeps_direction d e) e.name ≡ None) (get_or_from_slice_get d.right.edges k x.0 x.0 x.1)
      (told_none (λ (e : DeclaredEdge). unless (keeps_direction d e) e.name) d.right.edges holds.directions k x.0 (slice_get_within d.right.edges k x.0 x.1)) in
      let joined : Bool = option_map_or (λ (p : DeclaredEdge). p.bidirectional && joins_the_same p x.0) (edge_named d.left.edges x.0.name) false in
      let keeps = implied x.0.bidirectional joined (passes (keeps_direction d x.0) x.0.name told) (ap (λ (y : RightEdge). y.bidirectional) x.2 ∙ directed) in
      let found = names.edge_found (λ (p : DeclaredEdge). p.bidirectional && joins_the_same p x.0) d.left.edges x.0.name keeps in
      let origin : q.origin ≡ Some found.0 = sym (ap (λ (y : RightEdge). y.origin) x.2) ∙ found.2 in
      some_at q.origin found.0 _ origin
      (some_at (slice_get (rule_of d).left_edges found.0) _ (λ (p : LeftEdge). p.bidirectional ≡ true) (slice_get-map _ d.left.edges found.0 ∙ ap (option_map _) found.3) (both found.1.bidirectional (joins_the_same found.1 x.0) found.4).0)

  -- ---- all of it

  well_formed : IsWellFormed (rule_of d)
  well_formed =
      let fits = fits_declaration d well_named in
      let left = small d.left holds.left_small in
      let right = small d.right holds.right_small in
      record {
        left_nodes_few = rw fits.left_nodes left.nodes;
        left_edges_few = rw fits.left_edges left.edges;
        right_nodes_few = rw fits.right_nodes right.nodes;
        right_edges_few = rw fits.right_edges right.edges;
        left_ends = fits.left_ends;
        right_ends = fits.right_ends;
        origins = fits.origins;
        origins_apart = fits.origins_apart;
        edge_origins = edge_origins;
        edge_origins_apart = edge_origins_apart;
        left_labels_within = left_labels_within;
        right_labels_within = right_labels_within;
        condition_within = condition_within;
        left_labels_simple = left_labels_simple;
        variables_stand = variables_stand;
        right_labels_typed = right_labels_typed;
        condition_typed = condition_typed;
        any_nodes = any_nodes;
        any_edges = any_edges;
        bidirectional_edges = bidirectional_edges;
      }

pub checked_are_well_formed : (r : Rule) → IsChecked r → IsWellFormed r
checked_are_well_formed r h = subst IsWellFormed (sym h.is_rule) (well_formed h.declaration (clauses h.declaration h.no_fault))
