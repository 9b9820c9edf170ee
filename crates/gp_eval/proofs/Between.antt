-- Edges between two nodes, by a walk and by the entries of a graph.
use Rattle.std.proofs.Common.{◌≡◌, inl, inr, ℕ, ◌==◌, Bool, true, false, cond, List, [], ◌∷◌, Option, Some, None, IsSomeAnd, Contains, refl, sym, ap, subst, ◌∙◌, arith}
use Rattle.std.specs.Prelude.{◌&&◌, ◌||◌}
use Rattle.std.specs.List.{list_any}
use Rattle.std.specs.Ordering.{nat_cmp, is_lt, eq_by_cmp}
use Rattle.std.specs.Cmp.{unsigned_tied}
use Rattle.std.specs.FinMap.{FinMap, get, entries, entries_sorted, get-entries}
use Rattle.std.specs.FinMap.Entries.{find, below_all, is_sorted}
use Rattle.std.proofs.Math.Dec.{T}
use Rattle.std.proofs.lemmas.Bool.{eqb-true, eq-eqb}
use Rattle.std.proofs.lemmas.Bool.Decides.{Decides-eqb}
use Rattle.std.proofs.lemmas.Grind.{common_steps}
use Rattle.gp_memory.proofs.Basics.{and_both, and_left, and_right, first_or_later, here, later, or_left, or_right}
use Rattle.gp_values.specs.declared.atom.Atom.{Atom}
use Rattle.gp_values.specs.declared.marks.EdgeMark.{EdgeMark}
use Rattle.gp_values.specs.Atoms.{same_list}
use Rattle.gp_values.specs.Graph.{Graph, Edge, edge_at}
use Rattle.gp_graph.specs.Walks.{Walks, GoesBetween}
use Rattle.gp_syntax.specs.Expression.{MarkPattern}
use Rattle.gp_syntax.specs.Truth.{has_edge, has_edge_with, has_mark}
use Rattle.gp_eval.specs.inside.Between.{carried, carries}

-- ---- tests

or_false : (a b : Bool) → a ≡ false → (a || b) ≡ true → b ≡ true
or_false true b h k = absurd cc
or_false false b h k = k

both_ways : (a b : Bool) → (a ≡ true → b ≡ true) → (b ≡ true → a ≡ true) → a ≡ b
both_ways true b h k = sym (h refl)
both_ways false true h k = k refl
both_ways false false h k = refl

-- ---- numbers of a list

any_there : (p : ℕ → Bool) (ws : List ℕ) (e : ℕ) → Contains ws e → p e ≡ true → list_any p ws ≡ true
any_there p [] e h k = let b = h.1 in absurd (omega arith)
any_there p (x ∷ ws) e h k =
    elim (first_or_later x ws e h) [
      | inl is ↦ or_left (p x) (list_any p ws) (ap p is ∙ k)
      | inr there ↦ or_right (p x) (list_any p ws) (any_there p ws e there k)
    ]

there_any : (p : ℕ → Bool) (ws : List ℕ) → list_any p ws ≡ true → (e : ℕ) × Contains ws e × (p e ≡ true)
there_any p [] h = absurd cc
there_any p (x ∷ ws) h = at (p x) refl (there_any p ws)
  where
    at : (b : Bool) → p x ≡ b → (list_any p ws ≡ true → (e : ℕ) × Contains ws e × (p e ≡ true)) → (e : ℕ) × Contains (x ∷ ws) e × (p e ≡ true)
    at true q rest = (x, here x ws x refl, q)
    at false q rest = let k = rest (or_false (p x) (list_any p ws) q h) in (k.0, later x ws k.0 k.1, k.2)

pub any_on : (p : ℕ → Bool) (ws rest : List ℕ) (e : ℕ) (m : Bool) → ws ≡ e ∷ rest → p e ≡ false → list_any p ws ≡ m → list_any p rest ≡ m
any_on p ws rest e m s f h = sym (ap (λ b. b || list_any p rest) f) ∙ sym (ap (λ z. list_any p z) s) ∙ h

pub any_here : (p : ℕ → Bool) (ws rest : List ℕ) (e : ℕ) (m : Bool) → ws ≡ e ∷ rest → p e ≡ true → list_any p ws ≡ m → true ≡ m
any_here p ws rest e m s f h = sym (ap (λ b. b || list_any p rest) f) ∙ sym (ap (λ z. list_any p z) s) ∙ h

pub any_end : (p : ℕ → Bool) (ws : List ℕ) (m : Bool) → ws ≡ [] → list_any p ws ≡ m → false ≡ m
any_end p ws m s h = sym (ap (λ z. list_any p z) s) ∙ h

-- ---- entries of a map

module _ {X : Type 0} (t : X → Bool) where
  abbrev Found : List (ℕ × X) → ℕ → Type 0
  Found es k = IsSomeAnd (find nat_cmp k es) (λ x. t x ≡ true)

  first_of : (a b : Bool) → T (a && b) → T a
  first_of true b h = tt
  first_of false b h = h

  second_of : (a b : Bool) → T (a && b) → T b
  second_of true b h = h
  second_of false b h = absurd h

  not_below : (k n : ℕ) → T (is_lt (nat_cmp k n)) → (k == n) ≡ false
  not_below k n h = grind (arith, common_steps)

  none_found : (es : List (ℕ × X)) (k : ℕ) → T (below_all nat_cmp k es) → Found es k → ⊥
  none_found [] k below h = h
  none_found (e ∷ es) k below h =
      let past : eq_by_cmp nat_cmp k e.0 ≡ false = unsigned_tied k e.0 ∙ not_below k e.0 (first_of (is_lt (nat_cmp k e.0)) (below_all nat_cmp k es) below) in
      none_found es k (second_of (is_lt (nat_cmp k e.0)) (below_all nat_cmp k es) below) (subst (λ b. IsSomeAnd (cond b (Some e.1) (find nat_cmp k es)) (λ x. t x ≡ true)) past h)

  found_any_at : (e : ℕ × X) (es : List (ℕ × X)) (k : ℕ) (b : Bool) → (Found es k → list_any (λ (d : ℕ × X). t d.1) es ≡ true) → IsSomeAnd (cond b (Some e.1) (find nat_cmp k es)) (λ x. t x ≡ true) → (t e.1 || list_any (λ (d : ℕ × X). t d.1) es) ≡ true
  found_any_at e es k true rest h = or_left (t e.1) _ h
  found_any_at e es k false rest h = or_right (t e.1) _ (rest h)

  found_any : (es : List (ℕ × X)) (k : ℕ) → Found es k → list_any (λ (d : ℕ × X). t d.1) es ≡ true
  found_any [] k h = absurd h
  found_any (e ∷ es) k h = found_any_at e es k (eq_by_cmp nat_cmp k e.0) (found_any es k) h

  found_behind : (e : ℕ × X) (es : List (ℕ × X)) (k : ℕ) (b : Bool) → (k == e.0) ≡ b → T (below_all nat_cmp e.0 es) → Found es k → IsSomeAnd (cond b (Some e.1) (find nat_cmp k es)) (λ x. t x ≡ true)
  found_behind e es k true same below h = absurd (none_found es e.0 below (subst (Found es) (eqb-true k e.0 same) h))
  found_behind e es k false other below h = h

  found_first : (e : ℕ × X) (es : List (ℕ × X)) → t e.1 ≡ true → Found (e ∷ es) e.0
  found_first e es passes = subst (λ b. IsSomeAnd (cond b (Some e.1) (find nat_cmp e.0 es)) (λ x. t x ≡ true)) (sym (unsigned_tied e.0 e.0 ∙ eq-eqb e.0 e.0 refl)) passes

  any_found_at : (e : ℕ × X) (es : List (ℕ × X)) (b : Bool) → t e.1 ≡ b → T (below_all nat_cmp e.0 es) → (list_any (λ (d : ℕ × X). t d.1) es ≡ true → (k : ℕ) × Found es k) → (t e.1 || list_any (λ (d : ℕ × X). t d.1) es) ≡ true → (k : ℕ) × Found (e ∷ es) k
  any_found_at e es true q below rest h = (e.0, found_first e es q)
  any_found_at e es false q below rest h =
      let k = rest (or_false (t e.1) _ q h) in
      (k.0, found_behind e es k.0 (eq_by_cmp nat_cmp k.0 e.0) (sym (unsigned_tied k.0 e.0)) below k.1)

  any_found : (es : List (ℕ × X)) → T (is_sorted nat_cmp es) → list_any (λ (d : ℕ × X). t d.1) es ≡ true → (k : ℕ) × Found es k
  any_found [] sorted h = absurd cc
  any_found (e ∷ es) sorted h =
      any_found_at e es (t e.1) refl (first_of (below_all nat_cmp e.0 es) (is_sorted nat_cmp es) sorted)
      (any_found es (second_of (below_all nat_cmp e.0 es) (is_sorted nat_cmp es) sorted)) h

  pub at_any : (m : FinMap nat_cmp X) (k : ℕ) → IsSomeAnd (get m k) (λ x. t x ≡ true) → list_any (λ (d : ℕ × X). t d.1) (entries m) ≡ true
  at_any m k h = found_any (entries m) k (subst (λ o. IsSomeAnd o (λ x. t x ≡ true)) (get-entries m k) h)

  pub any_at : (m : FinMap nat_cmp X) → list_any (λ (d : ℕ × X). t d.1) (entries m) ≡ true → (k : ℕ) × IsSomeAnd (get m k) (λ x. t x ≡ true)
  any_at m h =
      let f = any_found (entries m) (entries_sorted m) h in
      (f.0, subst (λ o. IsSomeAnd o (λ x. t x ≡ true)) (sym (get-entries m f.0)) f.1)

-- ---- edges

module _ (g : Graph) (a b : ℕ) where
  abbrev Ends : Edge → Type 0
  Ends d = (d.source ≡ a) × (d.target ≡ b)

  abbrev goes : Edge → Bool
  goes d = d.source == a && d.target == b

  goes_is : (d : Edge) → goes d ≡ true → Ends d
  goes_is d h = ((Decides-eqb d.source a).0 (and_left (d.source == a) (d.target == b) h), (Decides-eqb d.target b).0 (and_right (d.source == a) (d.target == b) h))

  is_going : (d : Edge) → Ends d → goes d ≡ true
  is_going d h = and_both (d.source == a) (d.target == b) ((Decides-eqb d.source a).1 h.0) ((Decides-eqb d.target b).1 h.1)

  ends_of : (o : Option Edge) → IsSomeAnd o (λ d. goes d ≡ true) → IsSomeAnd o Ends
  ends_of None h = absurd h
  ends_of (Some d) h = goes_is d h

  to_goes : (o : Option Edge) → IsSomeAnd o Ends → IsSomeAnd o (λ d. goes d ≡ true)
  to_goes None h = absurd h
  to_goes (Some d) h = is_going d h

  pub first_there : (ws rest : List ℕ) (e : ℕ) → Walks ws (GoesBetween g a b) → ws ≡ e ∷ rest → true ≡ has_edge g a b
  first_there ws rest e w s =
      let c : Contains ws e = subst (λ z. Contains z e) (sym s) (here e rest e refl) in
      sym (at_any goes g.edges e (to_goes (edge_at g e) ((w.each e).0 c)))

  pub none_there : (ws : List ℕ) → Walks ws (GoesBetween g a b) → ws ≡ [] → false ≡ has_edge g a b
  none_there ws w s = both_ways false (has_edge g a b) (λ h. absurd cc) (λ h.
      let k = any_at goes g.edges h in
      let c = (w.each k.0).1 (ends_of (edge_at g k.0) k.1) in
      let l = (subst (λ z. Contains z k.0) s c).1 in
      absurd (omega arith))

  module _ (v : List Atom) (mark : MarkPattern EdgeMark) where
    abbrev test : Edge → Bool
    test d = (d.source == a && d.target == b) && (same_list d.label v && has_mark mark d.mark)

    passes : (o : Option Edge) → IsSomeAnd o Ends → carried o v mark ≡ true → IsSomeAnd o (λ d. test d ≡ true)
    passes None h k = absurd h
    passes (Some d) h k = and_both (goes d) _ (is_going d h) k

    passed : (o : Option Edge) → IsSomeAnd o (λ d. test d ≡ true) → IsSomeAnd o Ends × (carried o v mark ≡ true)
    passed None h = absurd h
    passed (Some d) h = (goes_is d (and_left (goes d) (same_list d.label v && has_mark mark d.mark) h), and_right (goes d) (same_list d.label v && has_mark mark d.mark) h)

    pub between_with : (ws : List ℕ) → Walks ws (GoesBetween g a b) → list_any (carries g v mark) ws ≡ has_edge_with g a b v mark
    between_with ws w = both_ways (list_any (carries g v mark) ws) (has_edge_with g a b v mark)
        (λ h.
        let k = there_any (carries g v mark) ws h in
        at_any test g.edges k.0 (passes (edge_at g k.0) ((w.each k.0).0 k.1) k.2))
        (λ h.
        let k = any_at test g.edges h in
        let p = passed (edge_at g k.0) k.1 in
        any_there (carries g v mark) ws k.0 ((w.each k.0).1 p.0) p.1)
