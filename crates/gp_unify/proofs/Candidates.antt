-- A match is one by the candidate alone.
use Rattle.std.proofs.Common.{◌≡◌, inl, inr, ℕ, zero, suc, ◌<◌, Bool, false, List, [], ◌∷◌, ◌++◌, map, length, Option, Some, None, IsSome, IsSomeAnd, unwrap_or, slice_get, slice_index, slice_index_or, refl, sym, ap, subst, ◌∙◌, arith, ext_get_or}
use Rattle.std.specs.Option.{option_map}
use Rattle.std.proofs.lemmas.Bool.{cases_lt}
use Rattle.std.proofs.lemmas.List.{get_or_past}
use Rattle.std.proofs.lemmas.Option.{none-some}
use Rattle.gp_values.specs.declared.atom.Atom.{Atom}
use Rattle.gp_values.specs.Graph.{Graph, Node, Edge, node_at, edge_at}
use Rattle.gp_syntax.specs.Expression.{Expression}
use Rattle.gp_syntax.specs.Value.{Assignment, Setting}
use Rattle.gp_syntax.specs.Rule.{Rule, LeftNode, LeftEdge, Found}
use Rattle.gp_syntax.specs.Match.{FitsNode, FitsEdge, MatchBy, setting_of}
use Rattle.gp_syntax.specs.declared.kinds.VariableType.TheVariants as types
use Rattle.gp_syntax.specs.Typing.{type_in}
use Rattle.gp_syntax.specs.WellFormed.{left_labels, IsWellFormed}
use Rattle.gp_syntax.specs.Step.{StepBy, Step}
use Rattle.gp_syntax.proofs.Unique.{one_graph}
use Rattle.gp_unify.specs.Known.{InTypes, Known, nothing_known, Extends}
use Rattle.gp_unify.specs.Unify.{unify_all}
use Rattle.gp_unify.specs.Candidate.{found_labels, listed, candidate}
use Rattle.gp_unify.proofs.Unifies.{Fit, some_is, are_simple, stands_in_one, all_complete, all_cover}

-- ---- what is found fits

fits_both : (s : Setting) (es fs : List (Expression ℕ)) (vs ws : List (Option (List Atom))) → Fit s es vs → Fit s fs ws → Fit s (es ++ fs) (vs ++ ws)
fits_both s [] fs [] ws h k = k
fits_both s (e ∷ es) fs (Some v ∷ vs) ws h k = (h.0, fits_both s es fs vs ws h.1 k)
fits_both s es fs vs ws h k = absurd h

fits_one : (s : Setting) (p : LeftNode) (o : Option Node) (es : List (Expression ℕ)) (vs : List (Option (List Atom))) → IsSomeAnd o (FitsNode s p) → Fit s es vs → Fit s (p.label ∷ es) (option_map (λ (x : Node). x.label) o ∷ vs)
fits_one s p (Some x) es vs h k = (h.label, k)
fits_one s p None es vs h k = absurd h

fits_nodes : (s : Setting) (g : Graph) (ps : List LeftNode) (ns : List ℕ) → length ns ≡ length ps → ((i : ℕ) (p : LeftNode) → slice_get ps i ≡ Some p → IsSomeAnd (node_at g (slice_index ns i)) (FitsNode s p)) → Fit s (map (λ (p : LeftNode). p.label) ps) (map (λ n. option_map (λ (x : Node). x.label) (node_at g n)) ns)
fits_nodes s g [] [] l h = tt
fits_nodes s g (p ∷ ps) (n ∷ ns) l h = fits_one s p (node_at g n) _ _ (h 0 p refl) (fits_nodes s g ps ns (omega arith) (λ i q e. h (suc i) q e))
fits_nodes s g [] (n ∷ ns) l h = absurd (omega arith)
fits_nodes s g (p ∷ ps) [] l h = absurd (omega arith)

fits_one_edge : (s : Setting) (p : LeftEdge) (b : Bool) (o : Option Edge) (es : List (Expression ℕ)) (vs : List (Option (List Atom))) → IsSomeAnd o (FitsEdge s p b) → Fit s es vs → Fit s (p.label ∷ es) (option_map (λ (x : Edge). x.label) o ∷ vs)
fits_one_edge s p b (Some x) es vs h k = (h.label, k)
fits_one_edge s p b None es vs h k = absurd h

fits_edges : (s : Setting) (g : Graph) (ps : List LeftEdge) (ns : List ℕ) (b : ℕ → Bool) → length ns ≡ length ps → ((i : ℕ) (p : LeftEdge) → slice_get ps i ≡ Some p → IsSomeAnd (edge_at g (slice_index ns i)) (FitsEdge s p (b i))) → Fit s (map (λ (p : LeftEdge). p.label) ps) (map (λ n. option_map (λ (x : Edge). x.label) (edge_at g n)) ns)
fits_edges s g [] [] b l h = tt
fits_edges s g (p ∷ ps) (n ∷ ns) b l h = fits_one_edge s p (b 0) (edge_at g n) _ _ (h 0 p refl) (fits_edges s g ps ns (λ i. b (suc i)) (omega arith) (λ i q e. h (suc i) q e))
fits_edges s g [] (n ∷ ns) b l h = absurd (omega arith)
fits_edges s g (p ∷ ps) [] b l h = absurd (omega arith)

-- ---- the candidate

length-listed : (n : ℕ) (q : Known) → length (listed n q) ≡ n
length-listed zero q = refl
length-listed (suc n) q = ap suc (length-listed n (λ x. q (suc x)))

listed_at : (n : ℕ) (q : Known) (x : ℕ) → x < n → slice_index_or (listed n q) x [] ≡ unwrap_or (q x) []
listed_at zero q x l = absurd (omega arith)
listed_at (suc n) q zero l = refl
listed_at (suc n) q (suc x) l = listed_at n (λ y. q (suc y)) x (omega arith)

value_known : (o : Option (List Atom)) (w : List Atom) → o ≡ Some w → unwrap_or o [] ≡ w
value_known o w e = rw e refl

listed_is : (n : ℕ) (q : Known) (a : Assignment) → length a ≡ n → ((x : ℕ) → x < n → IsSome (q x)) → Extends q a → listed n q ≡ a
listed_is n q a l some h =
    ext_get_or [] (listed n q) a (length-listed n q ∙ sym l) (λ x k.
    let b : x < n = subst (λ z. x < z) (length-listed n q) k in
    let v = some_is (q x) (some x b) in
    listed_at n q x b ∙ value_known (q x) v.0 v.1 ∙ sym (h x v.0 v.1))

found_at : (n : ℕ) (o : Option Known) (q : Known) (a : Assignment) → o ≡ Some q → listed n q ≡ a → option_map (λ z. listed n z) o ≡ Some a
found_at n o q a e s = rw (e, s) refl

module _ {r : Rule} {g : Graph} {m : Found} where
  -- past the declared variables the type is list
  all_in_types : {a : Assignment} → MatchBy r g m a → InTypes (setting_of r g m a)
  all_in_types {a} w x =
      elim (cases_lt x (length r.types)) [
        | inl l ↦ w.in_types x l
        | inr l ↦ (let e : type_in r.types x ≡ types.List = get_or_past r.types x types.List l in rw e refl)
      ]

  -- a match by an assignment makes that one the candidate
  pub is_candidate : IsWellFormed r → (a : Assignment) → MatchBy r g m a → candidate r g m ≡ Some a
  is_candidate c a w =
      let s = setting_of r g m a in
      let f = fits_both s (map (λ (p : LeftNode). p.label) r.left_nodes) (map (λ (p : LeftEdge). p.label) r.left_edges) _ _
      (fits_nodes s g r.left_nodes m.nodes w.node_count w.nodes)
      (fits_edges s g r.left_edges m.edges (λ i. slice_index_or m.reversed i false) w.edge_count w.edges) in
      let q = all_complete s (left_labels r) (found_labels g m) nothing_known (are_simple (type_in r.types) (left_labels r) c.left_labels_simple) (all_in_types w) f (λ x v e. absurd (none-some v e)) in
      let same = listed_is (length r.types) q.0 a w.variable_count (λ x k. all_cover (type_in r.types) (left_labels r) (found_labels g m) nothing_known q.0 x q.1 (stands_in_one x (left_labels r) (c.variables_stand x k))) q.2 in
      found_at (length r.types) (unify_all (type_in r.types) (left_labels r) (found_labels g m) nothing_known) q.0 a q.1 same

  -- so there is at most one
  pub one_assignment : IsWellFormed r → (a b : Assignment) → MatchBy r g m a → MatchBy r g m b → a ≡ b
  one_assignment c a b w v =
      let e : Some a ≡ Some b = sym (is_candidate c a w) ∙ is_candidate c b v in
      cc

-- by any assignments a match leads to one graph
pub one_step : (r : Rule) (g : Graph) (m : Found) (h k : Graph) → IsWellFormed r → Step r g m h → Step r g m k → h ≡ k
one_step r g m h k c s t =
    let e : t.0 ≡ s.0 = one_assignment c t.0 s.0 t.1.is_match s.1.is_match in
    one_graph s.2 (subst (λ (a : Assignment). StepBy r g m a k) e t.2)
