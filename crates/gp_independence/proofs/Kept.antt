-- Independence is kept by the step of a match that is independent of both.
use Rattle.std.proofs.Common.{◌≡◌, ℕ, ◌<◌, length, sym, ap, subst, ◌∙◌, arith}
use Rattle.std.specs.Prelude.{Some, slice_get, slice_index}
use Rattle.std.specs.Option.{option_map}
use Rattle.std.proofs.lemmas.Option.{slice_get-map}
use Rattle.gp_values.specs.Graph.{Graph, Node, node_at}
use Rattle.gp_syntax.specs.Value.{Assignment}
use Rattle.gp_syntax.specs.Rule.{Rule, RightNode, Found, IsKept, kept_nodes}
use Rattle.gp_syntax.specs.Step.{MakesNode, Step}
use Rattle.gp_syntax.specs.WellFormed.{IsWellFormed}
use Rattle.gp_unify.proofs.Candidates.{one_assignment}
use Rattle.gp_step.specs.After.{after}
use Rattle.gp_step.specs.Laws.{IsNumbered}
use Rattle.gp_step.specs.Edits.{origin_of}
use Rattle.gp_step.proofs.Afters.{leads_on}
use Rattle.gp_independence.specs.Independent.{Preserves, Independent}
use Rattle.gp_independence.proofs.Second.{node_stays, match_stays, node_makes, applies_stays}

-- the place of a left node among those that are kept
pub kept_place : (r : Rule) (i : ℕ) (k : IsKept r i) → slice_get (kept_nodes r) k.0 ≡ Some (Some i)
kept_place r i k = slice_get-map origin_of r.right_nodes k.0 ∙ ap (option_map origin_of) k.2 ∙ ap (λ z. Some z) k.3

-- what a right node asks is one node
pub one_node : {r : Rule} {g : Graph} {m : Found} {a : Assignment} {q : RightNode} (x y : Node) → MakesNode r g m a q x → MakesNode r g m a q y → x ≡ y
one_node x y b c =
    let l : x.label ≡ y.label = cc (b.label, c.label) in
    let k = b.mark ∙ sym c.mark in
    let o = b.root ∙ sym c.root in
    λ i. record { label = l i; mark = k i; root = o i }

module _ {r s : Rule} {g h k h2 : Graph} {m n : Found} (wr : IsWellFormed r) (ws : IsWellFormed s) (whole : IsNumbered g) (i : Independent r s g m n) (t : Step r g m h) (u : Step s g n k) (v : Step s h n h2) where
  -- by the one assignment
  pub by_one : v.0 ≡ u.0
  by_one = one_assignment ws v.0 u.0 v.1.is_match (match_stays wr ws whole i t u.0 u.1.is_match)

  -- a right node makes of its image what it made before
  pub same_made : (j : ℕ) (q : RightNode) → slice_get s.right_nodes j ≡ Some q → node_at h2 (slice_index v.2.images j) ≡ node_at k (slice_index u.2.images j)
  same_made j q e =
      let x = u.2.right_nodes j q e in
      let y = v.2.right_nodes j q e in
      let z : y.0 ≡ x.0 = one_node y.0 x.0 (node_makes wr ws whole i t u.0 u.1.is_match j q y.0 e (subst (λ a. MakesNode s h n a q y.0) by_one y.2)) x.2 in
      y.1 ∙ ap (λ w. Some w) z ∙ sym x.1

  pub same_at_kept : (j : ℕ) → IsKept s j → node_at h2 (slice_index n.nodes j) ≡ node_at k (slice_index n.nodes j)
  same_at_kept j p =
      let o = kept_place s j p in
      let e = u.2.places.old p.0 j o in
      let f = v.2.places.old p.0 j o in
      ap (node_at h2) (sym f) ∙ same_made p.0 p.1 p.2 ∙ ap (node_at k) e

module _ {r s : Rule} {g h : Graph} {m n : Found} (wr : IsWellFormed r) (ws : IsWellFormed s) (whole : IsNumbered g) (i : Independent r s g m n) (t : Step r g m h) where
  pub preserves_stays : (j : ℕ) → j < length n.nodes → Preserves s g n j → Preserves s h n j
  preserves_stays j l p =
      let c : length n.nodes ≡ length s.left_nodes = i.second.1.is_match.node_count in
      let u = leads_on s g n ws whole i.second in
      record {
        kept = p.kept;
        carries = λ k v. same_at_kept wr ws whole i t u v j p.kept ∙ p.carries (after s g n) u ∙ sym (node_stays wr ws whole i t i.second.0 i.second.1.is_match j (omega arith));
      }

pub independence_kept : (r s t : Rule) (g h : Graph) (m n o : Found) → IsWellFormed r → IsWellFormed s → IsWellFormed t → IsNumbered g
    → Independent r s g m n → Independent r t g m o → Independent s t g n o → Step r g m h → Independent s t h n o
independence_kept r s t g h m n o wr ws wt whole first second both step = record {
  first = applies_stays wr ws whole first step first.second;
  second = applies_stays wr wt whole second step second.second;
  edges = both.edges;
  nodes = λ j k a b e. let p = both.nodes j k a b e in (preserves_stays wr ws whole first step j a p.0, preserves_stays wr wt whole second step k b p.1);
  apart = both.apart;
}
