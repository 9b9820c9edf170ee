-- Names and their places, in the lists of a declaration and of its rule.
use Rattle.std.proofs.Common.{◌≡◌, ℕ, suc, ◌+◌, Bool, true, false, cond, if◌then◌else◌, ◌||◌, List, [], ◌∷◌, ◌++◌, map, flat_map, filter, slice_get, Option, Some, None, unwrap_or, option_map, refl, sym, ap, subst, ◌∙◌, add-one}
use Rattle.std.specs.Option.{option_map_or}
use Rattle.std.specs.List.{position_from}
use Rattle.std.proofs.lemmas.Option.{none-some}
use Rattle.gp_values.specs.Names.{Name, same_name, has_name, place_of, first_doubled_behind}
use Rattle.gp_syntax.specs.declared.kinds.VariableType.{VariableType}
use Rattle.gp_syntax.specs.declared.kinds.VariableType.TheVariants as types
use Rattle.gp_syntax.specs.Typing.{type_in}
use Rattle.gp_syntax.specs.Declaration.{DeclaredNode, DeclaredEdge, DeclaredVariable, place_in, edge_named}
use Rattle.gp_syntax.specs.Fault.{node_named}
use Rattle.gp_syntax.proofs.Declarations.{has_append, same_name_told, once_head, first_place, place_has, stands_once}

-- ---- places

shift : (t : Name → Bool) (s : ℕ) (names : List Name) → position_from t (s + 1) names ≡ option_map suc (position_from t s names)
shift t s [] = refl
shift t s (n ∷ names) = go (t n) (shift t (s + 1) names)
  where
    go : (b : Bool) → position_from t (s + 1 + 1) names ≡ option_map suc (position_from t (s + 1) names) →
        cond b (Some (s + 1)) (position_from t (s + 1 + 1) names) ≡ option_map suc (cond b (Some s) (position_from t (s + 1) names))
    go true h = ap (λ k. Some k) (add-one s)
    go false h = h

pub place_cons : (n : Name) (names : List Name) (x : Name) → place_of (n ∷ names) x ≡ (if same_name x n then Some 0 else option_map suc (place_of names x))
place_cons n names x = ap (cond (same_name x n) (Some 0)) (shift (same_name x) 0 names)

-- ---- the variables of left labels

abbrev names_of : List DeclaredVariable → List Name
names_of vs = map (λ (v : DeclaredVariable). v.name) vs

abbrev types_of : List DeclaredVariable → List VariableType
types_of vs = map (λ (v : DeclaredVariable). v.type) vs

-- used: the names that stand in left labels
module _ (used : List Name) where
  abbrev kept : List DeclaredVariable → List DeclaredVariable
  kept vs = filter (λ (v : DeclaredVariable). has_name used v.name) vs

  pub kept_has : (vs : List DeclaredVariable) (x : Name) → has_name (names_of vs) x ≡ true → has_name used x ≡ true → has_name (names_of (kept vs)) x ≡ true
  kept_has [] x h u = h
  kept_has (v ∷ vs) x h u = go (same_name x v.name) (has_name used v.name) refl refl h (λ r. kept_has vs x r u)
    where
      go : (a b : Bool) → same_name x v.name ≡ a → has_name used v.name ≡ b → (a || has_name (names_of vs) x) ≡ true → (has_name (names_of vs) x ≡ true → has_name (names_of (kept vs)) x ≡ true) →
          has_name (names_of (cond b (v ∷ kept vs) (kept vs))) x ≡ true
      go true true e f h rest = rw e refl
      go true false e f h rest = absurd (let g : has_name used v.name ≡ true = subst (λ n. has_name used n ≡ true) (same_name_told x v.name e) u in cc)
      go false true e f h rest = rw e (rest h)
      go false false e f h rest = rest h

  pub kept_used : (vs : List DeclaredVariable) (x : Name) → has_name (names_of (kept vs)) x ≡ true → has_name used x ≡ true
  kept_used [] x h = absurd cc
  kept_used (v ∷ vs) x h = go (has_name used v.name) refl h (λ r. kept_used vs x r)
    where
      first : (a : Bool) → same_name x v.name ≡ a → has_name used v.name ≡ true → (a || has_name (names_of (kept vs)) x) ≡ true → (has_name (names_of (kept vs)) x ≡ true → has_name used x ≡ true) → has_name used x ≡ true
      first true e f h rest = subst (λ n. has_name used n ≡ true) (sym (same_name_told x v.name e)) f
      first false e f h rest = rest h

      go : (b : Bool) → has_name used v.name ≡ b → has_name (names_of (cond b (v ∷ kept vs) (kept vs))) x ≡ true → (has_name (names_of (kept vs)) x ≡ true → has_name used x ≡ true) → has_name used x ≡ true
      go true f h rest = first (same_name x v.name) refl f h rest
      go false f h rest = rest h

  kept_once : (vs : List DeclaredVariable) (seen fewer : List Name) → ((n : Name) → has_name fewer n ≡ true → has_name seen n ≡ true) → first_doubled_behind seen (names_of vs) ≡ None → first_doubled_behind fewer (names_of (kept vs)) ≡ None
  kept_once [] seen fewer less h = refl
  kept_once (v ∷ vs) seen fewer less h = go (kept_once vs) (has_name used v.name)
    where
      p : (has_name seen v.name ≡ false) × (first_doubled_behind (seen ++ v.name ∷ []) (names_of vs) ≡ None)
      p = once_head seen v.name (names_of vs) h

      more : (n : Name) (a b : Bool) → (a ≡ true → b ≡ true) → (a || has_name (v.name ∷ []) n) ≡ true → (b || has_name (v.name ∷ []) n) ≡ true
      more n true b l q = rw (l refl) refl
      more n false true l q = refl
      more n false false l q = q

      wider : (n : Name) → has_name (fewer ++ v.name ∷ []) n ≡ true → has_name (seen ++ v.name ∷ []) n ≡ true
      wider n q = has_append seen (v.name ∷ []) n ∙ more n (has_name fewer n) (has_name seen n) (less n) (sym (has_append fewer (v.name ∷ []) n) ∙ q)

      left : (b c : Bool) → b ≡ true → (b || c) ≡ true
      left true c e = refl
      left false c e = absurd cc

      unseen : ((seen fewer : List Name) → ((n : Name) → has_name fewer n ≡ true → has_name seen n ≡ true) → first_doubled_behind seen (names_of vs) ≡ None → first_doubled_behind fewer (names_of (kept vs)) ≡ None) → (b : Bool) → has_name fewer v.name ≡ b → (if b then Some v.name else first_doubled_behind (fewer ++ v.name ∷ []) (names_of (kept vs))) ≡ None
      unseen rest true e = absurd (let f = less v.name e in let g = p.0 in cc)
      unseen rest false e = rest (seen ++ v.name ∷ []) (fewer ++ v.name ∷ []) wider p.1

      go : ((seen fewer : List Name) → ((n : Name) → has_name fewer n ≡ true → has_name seen n ≡ true) → first_doubled_behind seen (names_of vs) ≡ None → first_doubled_behind fewer (names_of (kept vs)) ≡ None) → (b : Bool) → first_doubled_behind fewer (names_of (cond b (v ∷ kept vs) (kept vs))) ≡ None
      go rest true = unseen rest (has_name fewer v.name) refl
      go rest false = rest (seen ++ v.name ∷ []) fewer (λ n q. has_append seen (v.name ∷ []) n ∙ left (has_name seen n) _ (less n q)) p.1

  -- a variable is at the place of its name
  pub kept_place : (vs : List DeclaredVariable) (x : ℕ) (n : Name) → first_doubled_behind [] (names_of vs) ≡ None → slice_get (names_of (kept vs)) x ≡ Some n → has_name (names_of (kept vs)) n ≡ true → place_in (names_of (kept vs)) n ≡ x
  kept_place vs x n once at has =
      let f = first_place (names_of (kept vs)) n 0 has in
      let p = place_has (names_of (kept vs)) n f.0 f.1 in
      let same : f.0 ≡ x = stands_once [] (names_of (kept vs)) f.0 x n (kept_once vs [] [] (λ m q. q) once) p.1 at in
      ap (λ o. unwrap_or o 0) f.1 ∙ same

  -- ---- types

  type_found : List DeclaredVariable → Name → VariableType
  type_found [] x = types.List
  type_found (v ∷ vs) x = if same_name x v.name then v.type else type_found vs x

  found_by_place : (vs : List DeclaredVariable) (x : Name) → option_map_or (type_in (types_of vs)) (place_of (names_of vs) x) types.List ≡ type_found vs x
  unfolding type_found
  found_by_place [] x = refl
  found_by_place (v ∷ vs) x = ap (λ o. option_map_or (type_in (types_of (v ∷ vs))) o types.List) (place_cons v.name (names_of vs) x) ∙ go (same_name x v.name) (place_of (names_of vs) x) refl (found_by_place vs x)
    where
      go : (b : Bool) (o : Option ℕ) → place_of (names_of vs) x ≡ o → option_map_or (type_in (types_of vs)) (place_of (names_of vs) x) types.List ≡ type_found vs x → option_map_or (type_in (types_of (v ∷ vs))) (if b then Some 0 else option_map suc o) types.List ≡ (if b then v.type else type_found vs x)
      go true o e r = refl
      go false None e r = ap (λ o. option_map_or (type_in (types_of vs)) o types.List) (sym e) ∙ r
      go false (Some i) e r = ap (λ o. option_map_or (type_in (types_of vs)) o types.List) (sym e) ∙ r

  found_kept : (vs : List DeclaredVariable) (x : Name) → has_name used x ≡ true → type_found (kept vs) x ≡ type_found vs x
  unfolding type_found
  found_kept [] x u = refl
  found_kept (v ∷ vs) x u = go (same_name x v.name) (has_name used v.name) refl refl (found_kept vs x u)
    where
      go : (a b : Bool) → same_name x v.name ≡ a → has_name used v.name ≡ b → type_found (kept vs) x ≡ type_found vs x → type_found (cond b (v ∷ kept vs) (kept vs)) x ≡ (if a then v.type else type_found vs x)
      go true true e f r = rw e refl
      go true false e f r = absurd (let g : has_name used v.name ≡ true = subst (λ n. has_name used n ≡ true) (same_name_told x v.name e) u in cc)
      go false true e f r = rw e r
      go false false e f r = r

  -- a variable has its declared type at its place
  pub kept_type : (vs : List DeclaredVariable) (x : Name) → has_name (names_of (kept vs)) x ≡ true →
      type_in (types_of (kept vs)) (place_in (names_of (kept vs)) x) ≡ option_map_or (type_in (types_of vs)) (place_of (names_of vs) x) types.List
  kept_type vs x has =
      let f = first_place (names_of (kept vs)) x 0 has in
      let here : type_in (types_of (kept vs)) (place_in (names_of (kept vs)) x) ≡ option_map_or (type_in (types_of (kept vs))) (place_of (names_of (kept vs)) x) types.List =
      at_place (types_of (kept vs)) (place_of (names_of (kept vs)) x) f.0 f.1 in
      here ∙ found_by_place (kept vs) x ∙ found_kept vs x (kept_used vs x has) ∙ sym (found_by_place vs x)
    where
      at_place : (ts : List VariableType) (o : Option ℕ) (i : ℕ) → o ≡ Some i → type_in ts (unwrap_or o 0) ≡ option_map_or (type_in ts) o types.List
      at_place ts None i e = absurd (none-some i e)
      at_place ts (Some k) i e = refl

-- ---- what a name finds on the left side

-- a name that stands in some of the lists
pub among_some : {A : Type 0} (g : A → List Name) (xs : List A) (n : Name) → has_name (flat_map g xs) n ≡ true → (k : ℕ) × (x : A) × (slice_get xs k ≡ Some x) × (has_name (g x) n ≡ true)
among_some g [] n h = absurd cc
among_some g (x ∷ xs) n h = go (has_name (g x) n) refl (sym (has_append (g x) (flat_map g xs) n) ∙ h) (among_some g xs n)
  where
    go : (b : Bool) → has_name (g x) n ≡ b → (b || has_name (flat_map g xs) n) ≡ true → (has_name (flat_map g xs) n ≡ true → (k : ℕ) × (y : _) × (slice_get xs k ≡ Some y) × (has_name (g y) n ≡ true)) → (k : ℕ) × (y : _) × (slice_get (x ∷ xs) k ≡ Some y) × (has_name (g y) n ≡ true)
    go true e h rest = (0, x, refl, e)
    go false e h rest = let r = rest h in (suc r.0, r.1, r.2, r.3)

pub node_found : (t : DeclaredNode → Bool) (ps : List DeclaredNode) (n : Name) → option_map_or t (node_named ps n) false ≡ true →
    (i : ℕ) × (p : DeclaredNode) × (place_of (map (λ (q : DeclaredNode). q.name) ps) n ≡ Some i) × (slice_get ps i ≡ Some p) × (t p ≡ true)
node_found t [] n h = absurd cc
node_found t (p ∷ ps) n h = go (same_name n p.name) refl h (λ r. node_found t ps n r)
  where
    go : (b : Bool) → same_name n p.name ≡ b → option_map_or t (if b then Some p else node_named ps n) false ≡ true →
        (option_map_or t (node_named ps n) false ≡ true → (i : ℕ) × (q : DeclaredNode) × (place_of (map (λ (q : DeclaredNode). q.name) ps) n ≡ Some i) × (slice_get ps i ≡ Some q) × (t q ≡ true)) →
        (i : ℕ) × (q : DeclaredNode) × (place_of (map (λ (q : DeclaredNode). q.name) (p ∷ ps)) n ≡ Some i) × (slice_get (p ∷ ps) i ≡ Some q) × (t q ≡ true)
    go true e h rest = (0, p, place_cons p.name (map (λ (q : DeclaredNode). q.name) ps) n ∙ rw e refl, refl, h)
    go false e h rest = let r = rest h in (suc r.0, r.1, place_cons p.name (map (λ (q : DeclaredNode). q.name) ps) n ∙ rw e (ap (option_map suc) r.2), r.3, r.4)

pub edge_found : (t : DeclaredEdge → Bool) (ps : List DeclaredEdge) (n : Name) → option_map_or t (edge_named ps n) false ≡ true →
    (i : ℕ) × (p : DeclaredEdge) × (place_of (map (λ (q : DeclaredEdge). q.name) ps) n ≡ Some i) × (slice_get ps i ≡ Some p) × (t p ≡ true)
edge_found t [] n h = absurd cc
edge_found t (p ∷ ps) n h = go (same_name n p.name) refl h (λ r. edge_found t ps n r)
  where
    go : (b : Bool) → same_name n p.name ≡ b → option_map_or t (if b then Some p else edge_named ps n) false ≡ true →
        (option_map_or t (edge_named ps n) false ≡ true → (i : ℕ) × (q : DeclaredEdge) × (place_of (map (λ (q : DeclaredEdge). q.name) ps) n ≡ Some i) × (slice_get ps i ≡ Some q) × (t q ≡ true)) →
        (i : ℕ) × (q : DeclaredEdge) × (place_of (map (λ (q : DeclaredEdge). q.name) (p ∷ ps)) n ≡ Some i) × (slice_get (p ∷ ps) i ≡ Some q) × (t q ≡ true)
    go true e h rest = (0, p, place_cons p.name (map (λ (q : DeclaredEdge). q.name) ps) n ∙ rw e refl, refl, h)
    go false e h rest = let r = rest h in (suc r.0, r.1, place_cons p.name (map (λ (q : DeclaredEdge). q.name) ps) n ∙ rw e (ap (option_map suc) r.2), r.3, r.4)
