-- A match of one edge, and the step that keeps it or makes another.
use Rattle.std.proofs.Common.{◌≡◌, ℕ, zero, suc, ◌+◌, ◌<◌, Bool, true, false, [], ◌∷◌, slice_get, slice_index, slice_index_or, get_or, count_by, is_none, Option, Some, None, IsSomeAnd, Contains, refl, sym, ap, subst, ◌∙◌, arith}
use Rattle.std.specs.Prelude.{pos}
use Rattle.std.specs.Option.{option_map}
use Rattle.gp_values.specs.declared.atom.Atom.TheVariants.{Int}
use Rattle.gp_values.specs.declared.marks.EdgeMark.{EdgeMark}
use Rattle.gp_values.specs.declared.marks.EdgeMark.TheVariants as edge_marks
use Rattle.gp_values.specs.Graph.{Node, Edge, node_at, edge_at}
use Rattle.gp_syntax.specs.declared.kinds.VariableType.TheVariants as types
use Rattle.gp_syntax.specs.Expression.{Number, Variable, Marked, AnyMark}
use Rattle.gp_syntax.specs.Value.{Assignment, Setting, is_of}
use Rattle.gp_syntax.specs.Rule.{Rule, LeftNode, LeftEdge, RightNode, RightEdge, kept_edge}
use Rattle.gp_syntax.specs.Match.{MatchBy, FitsNode, FitsEdge}
use Rattle.gp_syntax.specs.Step.{MakesNode, MakesEdge, Places, AppliesBy, Step, kind_or, made_mark}
use Rattle.gp_syntax.specs.Rows.{one_edge, plain, left, unmarked, labelled, before, behind, over_edge, left_edge, unmarked_edge, as_written, exchanged, KeptEdgeIsRelabelled, OtherEndsAreAnotherEdge, DirectionIsKept, OneWayIsAnotherEdge, AnyKeepsMarkOfEdge}
use Rattle.gp_syntax.proofs.Small.{at_only, at_one, past_one, one_stays, one_comes}
use Rattle.gp_syntax.proofs.Parallel.{at_both, at_next, past_next, two_apart, two_stay, at_first_of_two, at_second_of_two, no_root}

-- the values of x, y and z
abbrev values : Edge → Assignment
values d = (Int (pos 1) ∷ []) ∷ (Int (pos 2) ∷ []) ∷ d.label ∷ []

abbrev over : Edge → Setting
over d = record { types = types.List ∷ types.List ∷ types.List ∷ []; assigned = values d; images = 0 ∷ 1 ∷ []; graph = before d }

in_types : (d : Edge) (x : ℕ) → x < 3 → is_of (get_or (types.List ∷ types.List ∷ types.List ∷ []) x types.List) (get_or (values d) x []) ≡ true
in_types d zero l = refl
in_types d (suc zero) l = refl
in_types d (suc (suc zero)) l = refl
in_types d (suc (suc (suc x))) l = absurd (omega arith)

module _ (p : LeftEdge) (q : RightEdge) (reversed : Bool) (d e : Edge) where
  abbrev rule : Rule
  rule = one_edge p q

  abbrev first : RightNode
  first = record { origin = Some 0; label = Variable 0; mark = unmarked; root = false }

  abbrev second : RightNode
  second = record { origin = Some 1; label = Variable 1; mark = unmarked; root = false }

  fits_node : (l : LeftNode) (i : ℕ) (x : Node) → node_at (before d) (slice_index (0 ∷ 1 ∷ []) i) ≡ Some x → FitsNode (over d) l x → IsSomeAnd (node_at (before d) (slice_index (0 ∷ 1 ∷ []) i)) (FitsNode (over d) l)
  fits_node l i x e f = subst (λ (o : Option Node). IsSomeAnd o (FitsNode (over d) l)) (sym e) f

  kept_both : (i : ℕ) → i < 2 → (j : ℕ) × (z : RightNode) × (slice_get rule.right_nodes j ≡ Some z) × (z.origin ≡ Some i)
  kept_both zero l = (0, first, refl, refl)
  kept_both (suc zero) l = (1, second, refl, refl)
  kept_both (suc (suc i)) l = absurd (omega arith)

  matches : FitsEdge (over d) p reversed d → MatchBy rule (before d) (over_edge reversed) (values d)
  matches f = record {
    node_count = refl;
    edge_count = refl;
    direction_count = refl;
    nodes_apart = two_apart;
    edges_apart = λ i j l h e. let u : i < j = l in let v : j < 1 = h in omega arith;
    variable_count = refl;
    in_types = in_types d;
    nodes = at_both _ (left (Variable 0) unmarked false) (left (Variable 1) unmarked false)
        (fits_node (left (Variable 0) unmarked false) 0 (plain (pos 1)) (at_first_of_two _ _) (record { label = refl; mark = refl; root = refl }))
        (fits_node (left (Variable 1) unmarked false) 1 (plain (pos 2)) (at_second_of_two _ _) (record { label = refl; mark = refl; root = refl }));
    edges = at_only (λ i z. IsSomeAnd (edge_at (before d) (slice_index (0 ∷ []) i)) (FitsEdge (over d) z (slice_index_or (reversed ∷ []) i false))) p
        (subst (λ (o : Option Edge). IsSomeAnd o (FitsEdge (over d) p reversed)) (sym (at_one d)) f);
    dangling = λ i e d l kept at ends. absurd (kept (kept_both i l));
  }

  right_nodes : (j : ℕ) (z : RightNode) → slice_get rule.right_nodes j ≡ Some z → (x : Node) × (node_at (behind e) (slice_index (0 ∷ 1 ∷ []) j) ≡ Some x) × MakesNode rule (before d) (over_edge reversed) (values d) z x
  right_nodes = at_both (λ j z. (x : Node) × (node_at (behind e) (slice_index (0 ∷ 1 ∷ []) j) ≡ Some x) × MakesNode rule (before d) (over_edge reversed) (values d) z x) first second
      (plain (pos 1), at_first_of_two _ _, record { label = refl; mark = refl; root = no_root _ (plain (pos 1)) (at_first_of_two _ _) refl })
      (plain (pos 2), at_second_of_two _ _, record { label = refl; mark = refl; root = no_root _ (plain (pos 2)) (at_second_of_two _ _) refl })

  applies : FitsEdge (over d) p reversed d → MakesEdge rule (before d) (over_edge reversed) (values d) (0 ∷ 1 ∷ []) q e → AppliesBy rule (before d) (over_edge reversed) (values d)
  applies f make = record { is_match = matches f; condition = refl; values = ap (λ v. kind_or v None) make.label }

  -- the right edge keeps the left one
  pub step_keeps : kept_edge rule q ≡ Some 0 → FitsEdge (over d) p reversed d → MakesEdge rule (before d) (over_edge reversed) (values d) (0 ∷ 1 ∷ []) q e → Step rule (before d) (over_edge reversed) (before e)
  step_keeps k f make = (
    values d,
    applies f make,
    record {
      images = 0 ∷ 1 ∷ [];
      edge_images = 0 ∷ [];
      places = two_stay 2;
      edge_places = subst (λ o. Places (o ∷ []) (0 ∷ []) 1 (0 ∷ [])) (sym k) (one_stays 1);
      next_node = refl;
      next_edge = ap (λ o. 1 + count_by is_none (o ∷ [])) (sym k);
      right_nodes = right_nodes;
      right_edges = at_only (λ k z. (y : Edge) × (edge_at (before e) (slice_index (0 ∷ []) k) ≡ Some y) × MakesEdge rule (before d) (over_edge reversed) (values d) (0 ∷ 1 ∷ []) z y) q (e, at_one e, make);
      deleted_nodes = λ n out c. absurd (out c);
      other_nodes = λ n out none. refl;
      deleted_edges = λ n out c. absurd (out c);
      other_edges = λ n out none. past_one e n (not_first n none) ∙ sym (past_one d n (not_first n none));
    },
  )
    where
      not_first : (n : ℕ) → (Contains (0 ∷ []) n → ⊥) → 0 ≡ n → ⊥
      not_first n none s = none (0, (let l : 0 < 1 = omega arith in l), s)

  -- or makes another
  pub step_makes : kept_edge rule q ≡ None → FitsEdge (over d) p reversed d → MakesEdge rule (before d) (over_edge reversed) (values d) (0 ∷ 1 ∷ []) q e → Step rule (before d) (over_edge reversed) (behind e)
  step_makes k f make = (
    values d,
    applies f make,
    record {
      images = 0 ∷ 1 ∷ [];
      edge_images = 1 ∷ [];
      places = two_stay 2;
      edge_places = subst (λ o. Places (o ∷ []) (0 ∷ []) 1 (1 ∷ [])) (sym k) (one_comes (0 ∷ []) 1);
      next_node = refl;
      next_edge = ap (λ o. 1 + count_by is_none (o ∷ [])) (sym k);
      right_nodes = right_nodes;
      right_edges = at_only (λ k z. (y : Edge) × (edge_at (behind e) (slice_index (1 ∷ []) k) ≡ Some y) × MakesEdge rule (before d) (over_edge reversed) (values d) (0 ∷ 1 ∷ []) z y) q (e, at_next e, make);
      deleted_nodes = λ n out c. absurd (out c);
      other_nodes = λ n out none. refl;
      deleted_edges = λ n out c. past_next e n (not_next n out);
      other_edges = λ n out none. past_next e n (not_next n out) ∙ sym (past_one d n (λ s. none (0, (let l : 0 < 1 = omega arith in l), s)));
    },
  )
    where
      not_next : (n : ℕ) → (Contains (1 ∷ []) n → ⊥) → 1 ≡ n → ⊥
      not_next n out s = out (0, (let l : 0 < 1 = omega arith in l), s)

  -- the mark that was found
  pub mark_of : (none : EdgeMark) → made_mark q.mark (Some d.mark) none ≡ made_mark q.mark (option_map (λ (y : Edge). y.mark) (edge_at (before d) 0)) none
  mark_of none = ap (λ o. made_mark q.mark (option_map (λ (y : Edge). y.mark) o) none) (sym (at_one d))

-- an edge of the host in each direction
abbrev there : Edge
there = labelled 0 1 (pos 7) edge_marks.None

abbrev back : Edge
back = labelled 1 0 (pos 7) edge_marks.None

pub kept_edge_is_relabelled : KeptEdgeIsRelabelled
kept_edge_is_relabelled = step_keeps (left_edge unmarked_edge false) (as_written 0 (Number (pos 5)) (Marked edge_marks.Red) false) false there (labelled 0 1 (pos 5) edge_marks.Red) refl
    (record { source = refl; target = refl; label = refl; mark = refl; direction = λ h. h }) (record { source = refl; target = refl; label = refl; mark = refl })

pub other_ends_are_another_edge : OtherEndsAreAnotherEdge
other_ends_are_another_edge = step_makes (left_edge unmarked_edge false) (exchanged 0 (Variable 2) unmarked_edge false) false there back refl
    (record { source = refl; target = refl; label = refl; mark = refl; direction = λ h. h }) (record { source = refl; target = refl; label = refl; mark = refl })

pub direction_is_kept : DirectionIsKept
direction_is_kept =
    let p = left_edge unmarked_edge true in
    let one = as_written 0 (Number (pos 5)) unmarked_edge true in
    let other = exchanged 0 (Number (pos 5)) unmarked_edge true in
    let to = labelled 0 1 (pos 5) edge_marks.None in
    let from = labelled 1 0 (pos 5) edge_marks.None in
    record {
      forward = step_keeps p one false there to refl (record { source = refl; target = refl; label = refl; mark = refl; direction = λ h. refl }) (record { source = refl; target = refl; label = refl; mark = refl });
      reversed = step_keeps p one true back from refl (record { source = refl; target = refl; label = refl; mark = refl; direction = λ h. refl }) (record { source = refl; target = refl; label = refl; mark = refl });
      forward_exchanged = step_keeps p other false there to refl (record { source = refl; target = refl; label = refl; mark = refl; direction = λ h. refl }) (record { source = refl; target = refl; label = refl; mark = refl });
      reversed_exchanged = step_keeps p other true back from refl (record { source = refl; target = refl; label = refl; mark = refl; direction = λ h. refl }) (record { source = refl; target = refl; label = refl; mark = refl });
    }

pub one_way_is_another_edge : OneWayIsAnotherEdge
one_way_is_another_edge = step_makes (left_edge unmarked_edge true) (as_written 0 (Variable 2) unmarked_edge false) true back there refl
    (record { source = refl; target = refl; label = refl; mark = refl; direction = λ h. refl }) (record { source = refl; target = refl; label = refl; mark = refl })

pub any_keeps_mark_of_edge : AnyKeepsMarkOfEdge
any_keeps_mark_of_edge mark =
    let p = left_edge AnyMark false in
    let q = as_written 0 (Number (pos 5)) AnyMark false in
    let d = labelled 0 1 (pos 7) mark in
    let e = labelled 0 1 (pos 5) mark in
    step_keeps p q false d e refl (record { source = refl; target = refl; label = refl; mark = tt; direction = λ h. h }) (record { source = refl; target = refl; label = refl; mark = mark_of p q false d e edge_marks.None })
