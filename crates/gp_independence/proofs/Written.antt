-- A node is preserved where its right node, read as a left node, fits it, and only there.
use Rattle.std.proofs.Common.{◌≡◌, ℕ, Bool, true, false, Some, IsSomeAnd, slice_get, slice_index, refl, sym, ap, subst, ◌∙◌}
use Rattle.std.specs.Option.{option_map, option_map_or}
use Rattle.gp_values.specs.declared.marks.NodeMark.{NodeMark}
use Rattle.gp_values.specs.declared.marks.NodeMark.TheVariants as node_marks
use Rattle.gp_values.specs.Graph.{Graph, Node, node_at}
use Rattle.gp_syntax.specs.Expression.{MarkPattern, Marked, AnyMark}
use Rattle.gp_syntax.specs.Value.{Assignment, Setting, Value}
use Rattle.gp_syntax.specs.Rule.{Rule, LeftNode, RightNode, Found}
use Rattle.gp_syntax.specs.Match.{Agrees, FitsNode, MatchBy, setting_of}
use Rattle.gp_syntax.specs.Step.{made_mark, made_root, left_root, found_node, MakesNode, StepBy, Applies}
use Rattle.gp_syntax.specs.WellFormed.{IsWellFormed}
use Rattle.gp_unify.proofs.Candidates.{one_assignment}
use Rattle.gp_step.specs.After.{after}
use Rattle.gp_step.specs.Laws.{IsNumbered}
use Rattle.gp_step.proofs.Afters.{leads_on}
use Rattle.gp_independence.specs.Independent.{Preserves}
use Rattle.gp_independence.specs.inside.Tests.{as_left}
use Rattle.gp_independence.proofs.Frames.{some_at, at_some}
use Rattle.gp_independence.proofs.Kept.{kept_place}

-- ---- marks and roots

same_mark : (p : MarkPattern NodeMark) (m : NodeMark) → Agrees p m → made_mark p (Some m) node_marks.None ≡ m
same_mark (Marked a) m h = h
same_mark AnyMark m h = refl

agrees_same : (p : MarkPattern NodeMark) (m : NodeMark) → m ≡ made_mark p (Some m) node_marks.None → Agrees p m
agrees_same (Marked a) m h = sym h
agrees_same AnyMark m h = tt

-- the image of a left root alone is a root, so the right side tells what is one
root_is_right : (left right found : Bool) → left ≡ found → made_root left right found ≡ right
root_is_right true true found h = refl
root_is_right false true found h = refl
root_is_right true false true h = refl
root_is_right false false false h = refl
root_is_right true false false h = absurd cc
root_is_right false false true h = absurd cc

-- ---- one node

module _ {r : Rule} {g : Graph} {m : Found} {a : Assignment} (w : MatchBy r g m a) (i : ℕ) (p : LeftNode) (left : slice_get r.left_nodes i ≡ Some p) (q : RightNode) (from : q.origin ≡ Some i) where
  abbrev s : Setting
  s = setting_of r g m a

  module _ (x y : Node) (there : node_at g (slice_index m.nodes i) ≡ Some x) (makes : MakesNode r g m a q y) where
    was_found : found_node g m q.origin ≡ Some x
    was_found = ap (found_node g m) from ∙ there

    mark_is : y.mark ≡ made_mark q.mark (Some x.mark) node_marks.None
    mark_is = makes.mark ∙ ap (λ z. made_mark q.mark (option_map (λ (n : Node). n.mark) z) node_marks.None) was_found

    root_is : y.root ≡ q.root
    root_is =
        let z = some_at (FitsNode s p) (node_at g (slice_index m.nodes i)) (w.nodes i p left) in
        let same : Some z.0 ≡ Some x = sym z.1 ∙ there in
        let is : z.0 ≡ x = cc in
        let l : left_root r q.origin ≡ p.root = ap (left_root r) from ∙ ap (λ k. option_map_or (λ (n : LeftNode). n.root) k false) left in
        let f : p.root ≡ x.root = z.2.root ∙ ap (λ (n : Node). n.root) is in
        makes.root ∙ ap (λ k. made_root (left_root r q.origin) q.root (option_map_or (λ (n : Node). n.root) k false)) was_found
        ∙ root_is_right (left_root r q.origin) q.root x.root (l ∙ f)

    -- what it fits, it makes
    pub made_again : FitsNode s (as_left q) x → y ≡ x
    made_again fits =
        let l : y.label ≡ x.label = cc (makes.label, fits.label) in
        let k : y.mark ≡ x.mark = mark_is ∙ same_mark q.mark x.mark fits.mark in
        let o : y.root ≡ x.root = root_is ∙ fits.root in
        λ z. record { label = l z; mark = k z; root = o z }

    -- and what it makes again, it fits
    pub fits_again : y ≡ x → FitsNode s (as_left q) x
    fits_again same = record {
      label = makes.label ∙ ap (λ (n : Node). Value n.label) same;
      mark = agrees_same q.mark x.mark (sym (ap (λ (n : Node). n.mark) same) ∙ mark_is);
      root = sym root_is ∙ ap (λ (n : Node). n.root) same;
    }

-- ---- the nodes that are preserved

abbrev pub FitsAgain : Rule → Graph → Found → Assignment → ℕ → RightNode → Type 0
FitsAgain r g m a i q = IsSomeAnd (node_at g (slice_index m.nodes i)) (FitsNode (setting_of r g m a) (as_left q))

module _ (r : Rule) (g : Graph) (m : Found) (i j : ℕ) (p : LeftNode) (q : RightNode) (left : slice_get r.left_nodes i ≡ Some p) (right : slice_get r.right_nodes j ≡ Some q) (from : q.origin ≡ Some i) where
  stays_by : (a : Assignment) (h : Graph) → MatchBy r g m a → StepBy r g m a h → FitsAgain r g m a i q → node_at h (slice_index m.nodes i) ≡ node_at g (slice_index m.nodes i)
  stays_by a h w t fits =
      let x = some_at (FitsNode (setting_of r g m a) (as_left q)) (node_at g (slice_index m.nodes i)) fits in
      let y = t.right_nodes j q right in
      let same : y.0 ≡ x.0 = made_again w i p left q from x.0 y.0 x.1 y.2 x.2 in
      ap (node_at h) (sym (t.places.old j i (kept_place r i (j, q, right, from)))) ∙ y.1 ∙ ap (λ z. Some z) same ∙ sym x.1

  pub preserves_where : ((a : Assignment) → MatchBy r g m a → FitsAgain r g m a i q) → Preserves r g m i
  preserves_where fits = record {
    kept = (j, q, right, from);
    carries = λ h t. stays_by t.0 h t.1.is_match t.2 (fits t.0 t.1.is_match);
  }

  fits_where : (a : Assignment) (h : Graph) → MatchBy r g m a → StepBy r g m a h → node_at h (slice_index m.nodes i) ≡ node_at g (slice_index m.nodes i) → FitsAgain r g m a i q
  fits_where a h w t same =
      let y = t.right_nodes j q right in
      let there : node_at g (slice_index m.nodes i) ≡ Some y.0 = sym same ∙ ap (node_at h) (sym (t.places.old j i (kept_place r i (j, q, right, from)))) ∙ y.1 in
      at_some (FitsNode (setting_of r g m a) (as_left q)) (node_at g (slice_index m.nodes i)) y.0 there (fits_again w i p left q from y.0 y.0 there y.2 refl)

  -- by the one assignment of a match that applies
  pub preserves_if : IsWellFormed r → (a : Assignment) → MatchBy r g m a → FitsAgain r g m a i q → Preserves r g m i
  preserves_if o a w fits = preserves_where (λ b v. subst (λ z. FitsAgain r g m z i q) (one_assignment o a b w v) fits)

  pub fits_if : IsWellFormed r → IsNumbered g → (k : Applies r g m) → Preserves r g m i → FitsAgain r g m k.0 i q
  fits_if o whole k preserves =
      let t = leads_on r g m o whole k in
      subst (λ z. FitsAgain r g m z i q) (one_assignment o t.0 k.0 t.1.is_match k.1.is_match) (fits_where t.0 (after r g m) t.1.is_match t.2 (preserves.carries (after r g m) t))

-- a node that the right side writes as the left side does
pub written_again : (r : Rule) (g : Graph) (m : Found) (i j : ℕ) (p : LeftNode) (q : RightNode) → slice_get r.left_nodes i ≡ Some p → slice_get r.right_nodes j ≡ Some q
    → q.origin ≡ Some i → q.label ≡ p.label → q.mark ≡ p.mark → q.root ≡ p.root → Preserves r g m i
written_again r g m i j p q left right from label mark root =
    let same : p ≡ as_left q = λ z. record { label = sym label z; mark = sym mark z; root = sym root z } in
    preserves_where r g m i j p q left right from (λ a w. subst (λ z. IsSomeAnd (node_at g (slice_index m.nodes i)) (FitsNode (setting_of r g m a) z)) same (w.nodes i p left))
