-- Edges that are kept as they are.
use Rattle.std.proofs.Common.{◌≡◌, ◌≢◌, inl, inr, ℕ, suc, ◌<◌, List, [], ◌∷◌, map, length, Option, Some, None, IsSome, slice_get, slice_index, Contains, refl, sym, ap, subst, ◌∙◌, arith}
use Rattle.std.specs.Ordering.{nat_cmp}
use Rattle.std.specs.Cmp.{nat_cmp_total, unsigned_tied}
use Rattle.std.specs.FinMap.{FinMap, get, insert, gets, same_map, nat_cmp-IsAntisymmetric}
use Rattle.std.proofs.lemmas.Grind.{common_steps}
use Rattle.gp_memory.proofs.Basics.{first_or_later as split_head, here as at_head, later as behind, none_in, some_there as some_is}
use Rattle.gp_values.specs.declared.atom.Atom.{Atom}
use Rattle.gp_values.specs.declared.marks.EdgeMark.{EdgeMark}
use Rattle.gp_values.specs.Apart.{AreApart}
use Rattle.gp_values.specs.Graph.{Graph, Edge, edge_at, relabeled_edge}
use Rattle.gp_values.proofs.Graphs.{get-insert_apart}
use Rattle.gp_step.specs.declared.made.KeptEdge.{KeptEdge}
use Rattle.gp_step.specs.declared.made.KeptEdge.TheVariants.{Stays, Carries}
use Rattle.gp_step.specs.inside.Changes.{kept_first, kept_of, relabel_edges}
use Rattle.gp_step.specs.inside.Made.{carried_at, kept_edge_pairs, KeepsAs}
use Rattle.gp_step.proofs.Halves.{apart_rest, apart_head, same_place}
use Rattle.gp_step.proofs.Turns.{edge_relabeled, apart_more}

abbrev pub numbers : {X : Type 0} → List (ℕ × X) → List ℕ
numbers {X} ps = map (λ (p : ℕ × X). p.0) ps

-- ---- the numbers of what is kept

module _ {Q X : Type 0} (found : List ℕ) (keeps : Q → Option ℕ) (make : Q → X) where
  abbrev pub IsImage : List Q → ℕ → Type 0
  IsImage qs n = (j i : ℕ) × (slice_get (map keeps qs) j ≡ Some (Some i)) × (slice_index found i ≡ n)

  pub kept_place : (qs : List Q) (n : ℕ) → Contains (numbers (kept_of found keeps make qs)) n → IsImage qs n
  kept_place [] n c = absurd (none_in n c)
  kept_place (q ∷ qs) n c = by (keeps q) refl c (kept_place qs n)
    where
      by : (o : Option ℕ) → keeps q ≡ o → Contains (numbers (kept_first found o (make q) (kept_of found keeps make qs))) n → (Contains (numbers (kept_of found keeps make qs)) n → IsImage qs n) → IsImage (q ∷ qs) n
      by None e c f = let r = f c in (suc r.0, r.1, r.2, r.3)
      by (Some i) e c f =
          elim (split_head (slice_index found i) (numbers (kept_of found keeps make qs)) n c) [
            | inl s ↦ (0, i, ap (λ z. Some z) e, s)
            | inr d ↦ (let r = f d in (suc r.0, r.1, r.2, r.3))
          ]

  -- two items keep two places, which have two images
  pub kept_apart : (qs : List Q) → AreApart found → ((j i : ℕ) → slice_get (map keeps qs) j ≡ Some (Some i) → i < length found)
      → ((j k i : ℕ) → slice_get (map keeps qs) j ≡ Some (Some i) → slice_get (map keeps qs) k ≡ Some (Some i) → j ≡ k) → AreApart (numbers (kept_of found keeps make qs))
  kept_apart [] a within once = λ i j l k e. absurd (omega arith)
  kept_apart (q ∷ qs) a within once =
      by (keeps q) refl (kept_apart qs a (λ j i h. within (suc j) i h) (λ j k i h l. let e : suc j ≡ suc k = once (suc j) (suc k) i h l in omega arith))
    where
      by : (o : Option ℕ) → keeps q ≡ o → AreApart (numbers (kept_of found keeps make qs)) → AreApart (numbers (kept_first found o (make q) (kept_of found keeps make qs)))
      by None e rest = rest
      by (Some i) e rest =
          apart_more (slice_index found i) (numbers (kept_of found keeps make qs)) (λ c.
          let r = kept_place qs (slice_index found i) c in
          let here : slice_get (map keeps (q ∷ qs)) 0 ≡ Some (Some i) = ap (λ z. Some z) e in
          let same : r.1 ≡ i = same_place found a r.1 i (within (suc r.0) r.1 r.2) (within 0 i here) r.3 in
          let twice : 0 ≡ suc r.0 = once 0 (suc r.0) i here (r.2 ∙ ap (λ z. Some (Some z)) same) in
          omega arith) rest

-- ---- edges as they are held

written_same : {X : Type 0} (m : FinMap nat_cmp X) (k : ℕ) (v : X) (q : ℕ) → get m k ≡ Some v → get (insert m k v) q ≡ get m q
written_same m k v q h = grind (gets, arith, common_steps, unsigned_tied q k)

insert-same : {X : Type 0} (m : FinMap nat_cmp X) (k : ℕ) (v : X) → get m k ≡ Some v → insert m k v ≡ m
insert-same m k v h = same_map nat_cmp_total nat_cmp-IsAntisymmetric _ _ (λ q. written_same m k v q h)

-- an edge that is to carry what it carries
relabeled_same : (g h : Graph) (e : ℕ) → IsSome (edge_at g e) → edge_at h e ≡ edge_at g e → relabeled_edge h e (carried_at g e).0 (carried_at g e).1 ≡ h
relabeled_same g h e s same =
    let d = some_is (edge_at g e) s in
    let here : edge_at h e ≡ Some d.0 = same ∙ d.1 in
    rw d.1 (edge_relabeled h e d.0 d.0 here refl refl ∙ ap (λ (t : FinMap nat_cmp Edge). record h { edges = t }) (insert-same h.edges e d.0 here))

-- another edge is as it was
relabeled_apart : (h : Graph) (e k : ℕ) (l : List Atom) (m : EdgeMark) → IsSome (edge_at h e) → k ≢ e → edge_at (relabeled_edge h e l m) k ≡ edge_at h k
relabeled_apart h e k l m s a =
    let d = some_is (edge_at h e) s in
    let x : Edge = record d.0 { label = l; mark = m } in
    ap (λ (z : Graph). edge_at z k) (edge_relabeled h e d.0 x d.1 refl refl) ∙ get-insert_apart h.edges e k x a

abbrev pub AreAsIn : List ℕ → Graph → Graph → Type 0
AreAsIn ns g h = (e : ℕ) → Contains ns e → IsSome (edge_at g e) × (edge_at h e ≡ edge_at g e)

pub stays_as : (ks : List KeptEdge) (g h : Graph) → AreApart (numbers (kept_edge_pairs g ks)) → AreAsIn (numbers (kept_edge_pairs g ks)) g h → KeepsAs ks g h
stays_as [] g h a s = record { may = tt; same = refl }
stays_as (Stays e ∷ ks) g h a s =
    let rest = numbers (kept_edge_pairs g ks) in
    let here = s e (at_head e rest e refl) in
    let r = stays_as ks g h (apart_rest e rest a) (λ k c. s k (behind e rest k c)) in
    record {
      may = (subst IsSome (sym here.1) here.0, r.may);
      same = r.same ∙ ap (relabel_edges (kept_edge_pairs g ks)) (sym (relabeled_same g h e here.0 here.1));
    }
stays_as (Carries e l m ∷ ks) g h a s =
    let rest = numbers (kept_edge_pairs g ks) in
    let here = s e (at_head e rest e refl) in
    let there : IsSome (edge_at h e) = subst IsSome (sym here.1) here.0 in
    let r = stays_as ks g (relabeled_edge h e l m) (apart_rest e rest a) (λ k c.
    let p = s k (behind e rest k c) in
    (p.0, relabeled_apart h e k l m there (λ x. apart_head e rest a (subst (Contains rest) x c)) ∙ p.1)) in
    record { may = (there, r.may); same = r.same }
