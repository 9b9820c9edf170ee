-- The rule of a well named declaration: its edges end at its nodes, and the interface pairs nodes of the two sides.
use Rattle.std.proofs.Common.{◌≡◌, ℕ, zero, suc, ◌+◌, ◌<◌, Bool, true, false, cond, if◌then◌else◌, ◌||◌, List, [], ◌∷◌, ◌++◌, map, length, flat_map, slice_get, Some, None, unwrap_or, option_map, refl, sym, ap, subst, ◌∙◌, arith}
use Rattle.std.specs.List.{position_from}
use Rattle.std.specs.Cmp.Lexicographic.{same_text, other_text}
use Rattle.std.proofs.lemmas.List.{length-map}
use Rattle.std.proofs.lemmas.Option.{same_Some, none-some, slice_get-map}
use Rattle.gp_memory.proofs.Basics.{from_map}
use Rattle.gp_values.specs.Names.{Name, same_name, has_name, place_of, first_doubled_behind, first_unknown}
use Rattle.gp_syntax.specs.Rule.{LeftEdge, RightNode, RightEdge}
use Rattle.gp_syntax.specs.Declaration.{Declaration, DeclaredNode, DeclaredEdge, IsWellNamed, node_names, place_in, origin_in, rule_of}
use Rattle.gp_syntax.specs.Laws.{FitsDeclaration}

-- ---- names

-- equal names pass the test, and only these
pub same_name_told : (a b : Name) → same_name a b ≡ true → a ≡ b
same_name_told a b e = same_text a b (sym e)

-- a name passes its own test
pub same_name_itself : (a : Name) → same_name a a ≡ true
same_name_itself a = go (same_name a a) refl
  where
    go : (x : Bool) → same_name a a ≡ x → same_name a a ≡ true
    go true e = e
    go false e = absurd (other_text a a (sym e) refl)

-- a name that a list has has a place below its length
pub first_place : (names : List Name) (n : Name) (s : ℕ) → has_name names n ≡ true → (i : ℕ) × (position_from (same_name n) s names ≡ Some i) × (i < s + length names)
first_place [] n s h = absurd cc
first_place (m ∷ names) n s h = go (same_name n m) refl h (λ k. first_place names n (s + 1) k)
  where
    go : (b : Bool) → same_name n m ≡ b → (b || has_name names n) ≡ true → (has_name names n ≡ true → (i : ℕ) × (position_from (same_name n) (s + 1) names ≡ Some i) × (i < (s + 1) + length names)) →
        (i : ℕ) × (position_from (same_name n) s (m ∷ names) ≡ Some i) × (i < s + suc (length names))
    go true e h rest = (s, ap (λ b. cond b (Some s) (position_from (same_name n) (s + 1) names)) e, omega arith)
    go false e h rest =
        let r = rest h in
        let l : r.0 < (s + 1) + length names = r.2 in
        (r.0, ap (λ b. cond b (Some s) (position_from (same_name n) (s + 1) names)) e ∙ r.1, omega arith)

-- the same from the front of the list
pub place_below : (names : List Name) (n : Name) → has_name names n ≡ true → place_in names n < length names
place_below names n h =
    let r = first_place names n 0 h in
    let l : r.0 < 0 + length names = r.2 in
    let e : place_in names n ≡ r.0 = ap (λ o. unwrap_or o 0) r.1 in
    omega arith

-- at the place of a name stands that name
standing_from : (names : List Name) (n : Name) (s i : ℕ) → position_from (same_name n) s names ≡ Some i → (k : ℕ) × (i ≡ s + k) × (k < length names) × (slice_get names k ≡ Some n)
standing_from [] n s i h = absurd cc
standing_from (m ∷ names) n s i h = go (same_name n m) refl h (λ k. standing_from names n (s + 1) i k)
  where
    go : (b : Bool) → same_name n m ≡ b → cond b (Some s) (position_from (same_name n) (s + 1) names) ≡ Some i →
        (position_from (same_name n) (s + 1) names ≡ Some i → (k : ℕ) × (i ≡ (s + 1) + k) × (k < length names) × (slice_get names k ≡ Some n)) →
        (k : ℕ) × (i ≡ s + k) × (k < suc (length names)) × (slice_get (m ∷ names) k ≡ Some n)
    go true e h rest =
        let f : s ≡ i = cc in
        let d : n ≡ m = same_name_told n m e in
        (0, omega arith, omega arith, ap (λ x. Some x) (sym d))
    go false e h rest =
        let r = rest h in
        let f : i ≡ (s + 1) + r.0 = r.1 in
        let l : r.0 < length names = r.2 in
        (suc r.0, omega arith, omega arith, r.3)

-- the same from the front of the list
pub place_has : (names : List Name) (n : Name) (i : ℕ) → place_of names n ≡ Some i → (i < length names) × (slice_get names i ≡ Some n)
place_has names n i h =
    let r = standing_from names n 0 i h in
    let e : r.0 ≡ i = (let f : i ≡ 0 + r.0 = r.1 in omega arith) in
    (subst (λ k. k < length names) e r.2, subst (λ k. slice_get names k ≡ Some n) e r.3)

-- ---- names that stand once

-- a name of two lists is one of either
pub has_append : (xs ys : List Name) (n : Name) → has_name (xs ++ ys) n ≡ (has_name xs n || has_name ys n)
has_append [] ys n = refl
has_append (x ∷ xs) ys n = elim (same_name n x) as (λ b. (b || has_name (xs ++ ys) n) ≡ ((b || has_name xs n) || has_name ys n)) [ true ↦ refl | false ↦ has_append xs ys n ]

-- what the test of doubled names says of the first name and of the others
pub once_head : (seen : List Name) (n : Name) (names : List Name) → first_doubled_behind seen (n ∷ names) ≡ None → (has_name seen n ≡ false) × (first_doubled_behind (seen ++ n ∷ []) names ≡ None)
once_head seen n names h = go (has_name seen n) refl h
  where
    go : (b : Bool) → has_name seen n ≡ b → (if b then Some n else first_doubled_behind (seen ++ n ∷ []) names) ≡ None → (has_name seen n ≡ false) × (first_doubled_behind (seen ++ n ∷ []) names ≡ None)
    go true e h = absurd (none-some n (sym h))
    go false e h = (e, h)

-- no name stands again that was seen
unseen : (seen names : List Name) (j : ℕ) (n : Name) → first_doubled_behind seen names ≡ None → slice_get names j ≡ Some n → has_name seen n ≡ false
unseen seen [] j n h e = absurd (none-some n e)
unseen seen (m ∷ names) zero n h e = subst (λ x. has_name seen x ≡ false) (same_Some m n e) (once_head seen m names h).0
unseen seen (m ∷ names) (suc j) n h e =
    let u : has_name (seen ++ m ∷ []) n ≡ false = unseen (seen ++ m ∷ []) names j n (once_head seen m names h).1 e in
    go (has_name seen n) (has_name (m ∷ []) n) (sym (has_append seen (m ∷ []) n) ∙ u)
  where
    go : (a b : Bool) → (a || b) ≡ false → a ≡ false
    go true b h = absurd cc
    go false b h = refl

-- the first name does not stand again behind itself
seen_again : (seen : List Name) (m : Name) (names : List Name) (k : ℕ) (n : Name) → first_doubled_behind seen (m ∷ names) ≡ None → m ≡ n → slice_get names k ≡ Some n → ⊥
seen_again seen m names k n h d f =
    let u : has_name (seen ++ m ∷ []) n ≡ false = unseen (seen ++ m ∷ []) names k n (once_head seen m names h).1 f in
    let v : has_name (seen ++ m ∷ []) n ≡ true = has_append seen (m ∷ []) n ∙ last (has_name seen n) in
    cc
  where
    last : (a : Bool) → (a || has_name (m ∷ []) n) ≡ true
    last true = refl
    last false = ap (λ b. b || false) (subst (λ x. same_name n x ≡ true) (sym d) (same_name_itself n))

-- where no name is doubled, two places of one name are one place
pub stands_once : (seen names : List Name) (j k : ℕ) (n : Name) → first_doubled_behind seen names ≡ None → slice_get names j ≡ Some n → slice_get names k ≡ Some n → j ≡ k
stands_once seen [] j k n h e f = absurd (none-some n e)
stands_once seen (m ∷ names) zero zero n h e f = refl
stands_once seen (m ∷ names) zero (suc k) n h e f = absurd (seen_again seen m names k n h (same_Some m n e) f)
stands_once seen (m ∷ names) (suc j) zero n h e f = absurd (seen_again seen m names j n h (same_Some m n f) e)
stands_once seen (m ∷ names) (suc j) (suc k) n h e f = ap suc (stands_once (seen ++ m ∷ []) names j k n (once_head seen m names h).1 e f)

-- ---- ends of edges

-- the ends of the first edge are known, and so are the rest
known_both : (known : List Name) (a b : Name) (rest : List Name) → first_unknown known (a ∷ b ∷ rest) ≡ None → (has_name known a ≡ true) × (has_name known b ≡ true) × (first_unknown known rest ≡ None)
known_both known a b rest h = go (has_name known a) (has_name known b) refl refl h
  where
    go : (x y : Bool) → has_name known a ≡ x → has_name known b ≡ y → (if x then (if y then first_unknown known rest else Some b) else Some a) ≡ None →
        (has_name known a ≡ true) × (has_name known b ≡ true) × (first_unknown known rest ≡ None)
    go false y e f h = absurd (none-some a (sym h))
    go true false e f h = absurd (none-some b (sym h))
    go true true e f h = (e, f, h)

-- the ends of each edge are known
ends_known : (known : List Name) (es : List DeclaredEdge) → first_unknown known (flat_map (λ (e : DeclaredEdge). e.source ∷ e.target ∷ []) es) ≡ None → (i : ℕ) (e : DeclaredEdge) → slice_get es i ≡ Some e →
    (has_name known e.source ≡ true) × (has_name known e.target ≡ true)
ends_known known [] h i e s = absurd (none-some e s)
ends_known known (d ∷ es) h zero e s =
    let k = known_both known d.source d.target _ h in
    subst (λ (x : DeclaredEdge). (has_name known x.source ≡ true) × (has_name known x.target ≡ true)) (same_Some d e s) (k.0, k.1)
ends_known known (d ∷ es) h (suc i) e s = ends_known known es (known_both known d.source d.target _ h).2 i e s

-- ---- the rule

-- an origin is the place of the name on the left side
pub in_interface : (d : Declaration) (n : Name) (i : ℕ) → origin_in d n ≡ Some i → place_of (node_names d.left) n ≡ Some i
in_interface d n i h = go (has_name d.interface n) h
  where
    go : (b : Bool) → (if b then place_of (node_names d.left) n else None) ≡ Some i → place_of (node_names d.left) n ≡ Some i
    go true h = h
    go false h = absurd (none-some i h)

-- the ends of left edges are left nodes
left_ends : (d : Declaration) → IsWellNamed d → (i : ℕ) (e : LeftEdge) → slice_get (rule_of d).left_edges i ≡ Some e → (e.source < length (rule_of d).left_nodes) × (e.target < length (rule_of d).left_nodes)
left_ends d w i e h =
    let x = from_map _ d.left.edges i e h in
    let k = ends_known (node_names d.left) d.left.edges w.nodes.left_ends i x.0 x.1 in
    let a : place_in (node_names d.left) x.0.source < length (node_names d.left) = place_below (node_names d.left) x.0.source k.0 in
    let b : place_in (node_names d.left) x.0.target < length (node_names d.left) = place_below (node_names d.left) x.0.target k.1 in
    let l : length (node_names d.left) ≡ length d.left.nodes = length-map d.left.nodes (λ (n : DeclaredNode). n.name) in
    let m : length (rule_of d).left_nodes ≡ length d.left.nodes = length-map d.left.nodes _ in
    let s : place_in (node_names d.left) x.0.source ≡ e.source = ap (λ (y : LeftEdge). y.source) x.2 in
    let t : place_in (node_names d.left) x.0.target ≡ e.target = ap (λ (y : LeftEdge). y.target) x.2 in
    (omega arith, omega arith)

-- the ends of right edges are right nodes
right_ends : (d : Declaration) → IsWellNamed d → (i : ℕ) (e : RightEdge) → slice_get (rule_of d).right_edges i ≡ Some e → (e.source < length (rule_of d).right_nodes) × (e.target < length (rule_of d).right_nodes)
right_ends d w i e h =
    let x = from_map _ d.right.edges i e h in
    let k = ends_known (node_names d.right) d.right.edges w.nodes.right_ends i x.0 x.1 in
    let a : place_in (node_names d.right) x.0.source < length (node_names d.right) = place_below (node_names d.right) x.0.source k.0 in
    let b : place_in (node_names d.right) x.0.target < length (node_names d.right) = place_below (node_names d.right) x.0.target k.1 in
    let l : length (node_names d.right) ≡ length d.right.nodes = length-map d.right.nodes (λ (n : DeclaredNode). n.name) in
    let m : length (rule_of d).right_nodes ≡ length d.right.nodes = length-map d.right.nodes _ in
    let s : place_in (node_names d.right) x.0.source ≡ e.source = ap (λ (y : RightEdge). y.source) x.2 in
    let t : place_in (node_names d.right) x.0.target ≡ e.target = ap (λ (y : RightEdge). y.target) x.2 in
    (omega arith, omega arith)

-- the declared node of a right node with an origin, which has the name of the left node there
right_origin : (d : Declaration) (j i : ℕ) (q : RightNode) → slice_get (rule_of d).right_nodes j ≡ Some q → q.origin ≡ Some i →
    (n : Name) × (slice_get (node_names d.right) j ≡ Some n) × (i < length (node_names d.left)) × (slice_get (node_names d.left) i ≡ Some n)
right_origin d j i q h o =
    let x = from_map _ d.right.nodes j q h in
    let e : origin_in d x.0.name ≡ Some i = ap (λ (y : RightNode). y.origin) x.2 ∙ o in
    let p = place_has (node_names d.left) x.0.name i (in_interface d x.0.name i e) in
    (x.0.name, slice_get-map (λ (n : DeclaredNode). n.name) d.right.nodes j ∙ ap (λ z. option_map (λ (n : DeclaredNode). n.name) z) x.1, p.0, p.1)

-- an origin is a left node
origins : (d : Declaration) (j i : ℕ) (q : RightNode) → slice_get (rule_of d).right_nodes j ≡ Some q → q.origin ≡ Some i → i < length (rule_of d).left_nodes
origins d j i q h o =
    let r = right_origin d j i q h o in
    let a : i < length (node_names d.left) = r.2 in
    let l : length (node_names d.left) ≡ length d.left.nodes = length-map d.left.nodes (λ (n : DeclaredNode). n.name) in
    let m : length (rule_of d).left_nodes ≡ length d.left.nodes = length-map d.left.nodes _ in
    omega arith

-- two right nodes have two origins
origins_apart : (d : Declaration) → IsWellNamed d → (j k i : ℕ) (p q : RightNode) → slice_get (rule_of d).right_nodes j ≡ Some p → slice_get (rule_of d).right_nodes k ≡ Some q → p.origin ≡ Some i → q.origin ≡ Some i → j ≡ k
origins_apart d w j k i p q h f a b =
    let r = right_origin d j i p h a in
    let s = right_origin d k i q f b in
    let e : s.0 ≡ r.0 = same_Some s.0 r.0 (sym s.3 ∙ r.3) in
    stands_once [] (node_names d.right) j k r.0 w.once.right_nodes r.1 (s.1 ∙ ap (λ n. Some n) e)

-- all of it together
pub fits_declaration : (d : Declaration) → IsWellNamed d → FitsDeclaration d (rule_of d)
fits_declaration d w = record {
  left_nodes = length-map d.left.nodes _;
  left_edges = length-map d.left.edges _;
  right_nodes = length-map d.right.nodes _;
  right_edges = length-map d.right.edges _;
  left_ends = left_ends d w;
  right_ends = right_ends d w;
  origins = origins d;
  origins_apart = origins_apart d w;
}
