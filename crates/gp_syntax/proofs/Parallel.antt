-- A match of two parallel edges, and the step that deletes both.
use Rattle.std.proofs.Common.{◌≡◌, ℕ, zero, suc, ◌<◌, true, false, List, [], ◌∷◌, slice_get, slice_index, slice_index_or, get_or, Option, Some, None, IsSomeAnd, Contains, refl, sym, ap, subst, ◌∙◌, ◌&&◌, arith}
use Rattle.std.specs.Prelude.{pos}
use Rattle.std.specs.Option.{option_map_or}
use Rattle.std.specs.FinMap as map
use Rattle.std.specs.Ordering.{nat_cmp}
use Rattle.std.specs.Cmp.{unsigned_tied}
use Rattle.std.proofs.lemmas.Grind.{common_steps}
use Rattle.std.proofs.lemmas.Option.{same_Some, none-some}
use Rattle.gp_values.specs.declared.atom.Atom.TheVariants.{Int}
use Rattle.gp_values.specs.Graph.{Graph, Node, Edge, node_at, edge_at}
use Rattle.gp_syntax.specs.declared.kinds.VariableType.TheVariants as types
use Rattle.gp_syntax.specs.Expression.{Variable}
use Rattle.gp_syntax.specs.Value.{Assignment, is_of}
use Rattle.gp_syntax.specs.Rule.{LeftNode, LeftEdge, RightNode, RightEdge, Found}
use Rattle.gp_values.specs.Apart.{AreApart}
use Rattle.gp_syntax.specs.Match.{MatchBy, FitsNode, FitsEdge, setting_of}
use Rattle.gp_syntax.specs.Step.{MakesNode, MakesEdge, Places, StepBy}
use Rattle.gp_syntax.specs.Rows.{par, par_with, two_nodes, plain, edge, left, unmarked, unmarked_edge, as_written, found, ParallelEdgesMatch, KeptBesideRemoved}
use Rattle.gp_syntax.proofs.Small.{at_none, at_only, none_placed, one_apart}
use Rattle.gp_syntax.proofs.Blocked.{between}

-- ---- lists and maps of two

-- what holds of both elements, at their places, holds at each place
pub at_both : {X : Type 0} (P : ℕ → X → Type 0) (x y : X) → P 0 x → P 1 y → (i : ℕ) (z : X) → slice_get (x ∷ y ∷ []) i ≡ Some z → P i z
at_both P x y h k zero z e = subst (P 0) (same_Some x z e) h
at_both P x y h k (suc zero) z e = subst (P 1) (same_Some y z e) k
at_both P x y h k (suc (suc i)) z e = absurd (none-some z e)

-- 0 and 1 are apart
pub two_apart : AreApart (0 ∷ 1 ∷ [])
two_apart zero zero l h e = omega arith
two_apart zero (suc zero) l h e = cc
two_apart zero (suc (suc j)) l h e = omega arith
two_apart (suc i) zero l h e = omega arith
two_apart (suc i) (suc zero) l h e = omega arith
two_apart (suc i) (suc (suc j)) l h e = omega arith

-- what stands at 0
pub at_first_of_two : {X : Type 0} (x y : X) → map.get (map.from_sorted {R = nat_cmp} ((0, x) ∷ (1, y) ∷ [])) 0 ≡ Some x
at_first_of_two x y = map.get-from_sorted nat_cmp ((0, x) ∷ (1, y) ∷ []) 0 tt

-- what stands at 1
pub at_second_of_two : {X : Type 0} (x y : X) → map.get (map.from_sorted {R = nat_cmp} ((0, x) ∷ (1, y) ∷ [])) 1 ≡ Some y
at_second_of_two x y = map.get-from_sorted nat_cmp ((0, x) ∷ (1, y) ∷ []) 1 tt

-- and nowhere else does anything
pub past_two : {X : Type 0} (x y : X) (n : ℕ) → (0 ≡ n → ⊥) → (1 ≡ n → ⊥) → map.get (map.from_sorted {R = nat_cmp} ((0, x) ∷ (1, y) ∷ [])) n ≡ None
past_two x y n a b = map.get-from_sorted nat_cmp ((0, x) ∷ (1, y) ∷ []) n tt ∙ grind (arith, common_steps, unsigned_tied n 0, unsigned_tied n 1)

-- a map with one entry at 1
pub at_next : {X : Type 0} (x : X) → map.get (map.from_sorted {R = nat_cmp} ((1, x) ∷ [])) 1 ≡ Some x
at_next x = map.get-from_sorted nat_cmp ((1, x) ∷ []) 1 tt

pub past_next : {X : Type 0} (x : X) (n : ℕ) → (1 ≡ n → ⊥) → map.get (map.from_sorted {R = nat_cmp} ((1, x) ∷ [])) n ≡ None
past_next x n d = map.get-from_sorted nat_cmp ((1, x) ∷ []) n tt ∙ grind (arith, common_steps, unsigned_tied n 1)

-- ---- the match

-- nodes 0 and 1 with two edges between them
abbrev host : Graph
host = two_nodes ((0, edge 0 1) ∷ (1, edge 0 1) ∷ []) 2

-- the left nodes and edges lie where they stand in the text
abbrev at : Found
at = found 0 (0 ∷ 1 ∷ []) (0 ∷ 1 ∷ []) (false ∷ false ∷ [])

-- the values of x, y, z and w
abbrev values : Assignment
values = (Int (pos 1) ∷ []) ∷ (Int (pos 2) ∷ []) ∷ [] ∷ [] ∷ []

-- each is a list
in_types : (x : ℕ) → x < 4 → is_of (get_or par.types x types.List) (get_or values x []) ≡ true
in_types zero l = refl
in_types (suc zero) l = refl
in_types (suc (suc zero)) l = refl
in_types (suc (suc (suc zero))) l = refl
in_types (suc (suc (suc (suc x)))) l = absurd (omega arith)

module _ (qs : List RightEdge) where
  -- a left node fits the node at its image
  fits_node : (p : LeftNode) (i : ℕ) (x : Node) → node_at host (slice_index at.nodes i) ≡ Some x → FitsNode (setting_of (par_with qs) host at values) p x → IsSomeAnd (node_at host (slice_index at.nodes i)) (FitsNode (setting_of (par_with qs) host at values) p)
  fits_node p i x e f = subst (λ (o : Option Node). IsSomeAnd o (FitsNode (setting_of (par_with qs) host at values) p)) (sym e) f

  -- a left edge fits the edge at its image
  fits_edge : (p : LeftEdge) (i : ℕ) (d : Edge) → edge_at host (slice_index at.edges i) ≡ Some d → FitsEdge (setting_of (par_with qs) host at values) p (slice_index_or at.reversed i false) d →
      IsSomeAnd (edge_at host (slice_index at.edges i)) (FitsEdge (setting_of (par_with qs) host at values) p (slice_index_or at.reversed i false))
  fits_edge p i d e f = subst (λ (o : Option Edge). IsSomeAnd o (FitsEdge (setting_of (par_with qs) host at values) p (slice_index_or at.reversed i false))) (sym e) f

  -- both left nodes are in the interface
  kept_both : (i : ℕ) → i < 2 → (j : ℕ) × (q : RightNode) × (slice_get (par_with qs).right_nodes j ≡ Some q) × (q.origin ≡ Some i)
  kept_both zero l = (0, record { origin = Some 0; label = Variable 0; mark = unmarked; root = false }, refl, refl)
  kept_both (suc zero) l = (1, record { origin = Some 1; label = Variable 1; mark = unmarked; root = false }, refl, refl)
  kept_both (suc (suc i)) l = absurd (omega arith)

  -- the match
  matches : MatchBy (par_with qs) host at values
  matches = record {
    node_count = refl;
    edge_count = refl;
    direction_count = refl;
    nodes_apart = two_apart;
    edges_apart = two_apart;
    variable_count = refl;
    in_types = in_types;
    nodes = at_both _ (left (Variable 0) unmarked false) (left (Variable 1) unmarked false)
        (fits_node (left (Variable 0) unmarked false) 0 (plain (pos 1)) (at_first_of_two _ _) (record { label = refl; mark = refl; root = refl }))
        (fits_node (left (Variable 1) unmarked false) 1 (plain (pos 2)) (at_second_of_two _ _) (record { label = refl; mark = refl; root = refl }));
    edges = at_both _ (between 2) (between 3)
        (fits_edge (between 2) 0 (edge 0 1) (at_first_of_two _ _) (record { source = refl; target = refl; label = refl; mark = refl; direction = λ h. h }))
        (fits_edge (between 3) 1 (edge 0 1) (at_second_of_two _ _) (record { source = refl; target = refl; label = refl; mark = refl; direction = λ h. h }));
    dangling = λ i e d l kept at ends. absurd (kept (kept_both i l));
  }

-- ---- the step

-- both nodes, without edges
abbrev left_over : Graph
left_over = two_nodes [] 2

-- no edge is left
no_edges : (e : ℕ) → edge_at left_over e ≡ None
no_edges e = map.get-from_sorted nat_cmp [] e tt

-- a number that is neither 0 nor 1
pub not_in : (n : ℕ) → (Contains (0 ∷ 1 ∷ []) n → ⊥) → (0 ≡ n → ⊥) × (1 ≡ n → ⊥)
not_in n out = (λ e. out (0, (let l : 0 < 2 = omega arith in l), e), λ e. out (1, (let l : 1 < 2 = omega arith in l), e))

-- two items that are kept lie where they were
pub two_stay : (next : ℕ) → Places (Some 0 ∷ Some 1 ∷ []) (0 ∷ 1 ∷ []) next (0 ∷ 1 ∷ [])
two_stay next = record {
  count = refl;
  apart = two_apart;
  old = λ j i e. at_both (λ j o. o ≡ Some i → slice_index (0 ∷ 1 ∷ []) j ≡ slice_index (0 ∷ 1 ∷ []) i) (Some 0) (Some 1)
      (λ s. ap (λ n. slice_index (0 ∷ 1 ∷ []) n) (same_Some 0 i s)) (λ s. ap (λ n. slice_index (0 ∷ 1 ∷ []) n) (same_Some 1 i s)) j (Some i) e refl;
  new = λ j e. absurd (at_both (λ j o. o ≡ None → ⊥) (Some 0) (Some 1) (λ s. none-some 0 (sym s)) (λ s. none-some 1 (sym s)) j None e refl);
}

-- the second item of two stays alone
second_stays : Places (Some 1 ∷ []) (0 ∷ 1 ∷ []) 2 (1 ∷ [])
second_stays = record {
  count = refl;
  apart = one_apart 1;
  old = λ j i e. at_only (λ j o. o ≡ Some i → slice_index (1 ∷ []) j ≡ slice_index (0 ∷ 1 ∷ []) i) (Some 1) (λ s. ap (λ n. slice_index (0 ∷ 1 ∷ []) n) (same_Some 1 i s)) j (Some i) e refl;
  new = λ j e. absurd (at_only (λ j o. o ≡ None → ⊥) (Some 1) (λ s. none-some 1 (sym s)) j None e refl);
}

-- a node that is no root stays none
pub no_root : (o : Option Node) (x : Node) → o ≡ Some x → x.root ≡ false → false ≡ (option_map_or (λ (y : Node). y.root) o false && true)
no_root o x e r = sym (ap (λ z. option_map_or (λ (y : Node). y.root) z false && true) e ∙ ap (λ b. b && true) r)

-- both nodes are made as they were
right_nodes : (qs : List RightEdge) (es : List (ℕ × Edge)) (j : ℕ) (q : RightNode) → slice_get (par_with qs).right_nodes j ≡ Some q →
    (x : Node) × (node_at (two_nodes es 2) (slice_index (0 ∷ 1 ∷ []) j) ≡ Some x) × MakesNode (par_with qs) host at values q x
right_nodes qs es = at_both (λ j z. (x : Node) × (node_at (two_nodes es 2) (slice_index (0 ∷ 1 ∷ []) j) ≡ Some x) × MakesNode (par_with qs) host at values z x) _ _
    (plain (pos 1), at_first_of_two _ _, record { label = refl; mark = refl; root = no_root _ (plain (pos 1)) (at_first_of_two _ _) refl })
    (plain (pos 2), at_second_of_two _ _, record { label = refl; mark = refl; root = no_root _ (plain (pos 2)) (at_second_of_two _ _) refl })

-- the step that removes both edges
steps : StepBy par host at values left_over
steps = record {
  images = 0 ∷ 1 ∷ [];
  edge_images = [];
  places = two_stay 2;
  edge_places = none_placed (0 ∷ 1 ∷ []) 2;
  next_node = refl;
  next_edge = refl;
  right_nodes = right_nodes [] [];
  right_edges = at_none _;
  deleted_nodes = λ n out c. absurd (out c);
  other_nodes = λ n out none. refl;
  deleted_edges = λ e out c. no_edges e;
  other_edges = λ e out none. no_edges e ∙ sym (past_two _ _ e (not_in e none).0 (not_in e none).1);
}

-- and the one that keeps the second
abbrev second : RightEdge
second = as_written 1 (Variable 3) unmarked_edge false

abbrev second_left : Graph
second_left = two_nodes ((1, edge 0 1) ∷ []) 2

only_second : (n : ℕ) → (Contains (1 ∷ []) n → ⊥) → edge_at second_left n ≡ None
only_second n out = past_next (edge 0 1) n (λ e. out (0, (let l : 0 < 1 = omega arith in l), e))

steps_to_second : StepBy (par_with (second ∷ [])) host at values second_left
steps_to_second = record {
  images = 0 ∷ 1 ∷ [];
  edge_images = 1 ∷ [];
  places = two_stay 2;
  edge_places = second_stays;
  next_node = refl;
  next_edge = refl;
  right_nodes = right_nodes (second ∷ []) ((1, edge 0 1) ∷ []);
  right_edges = at_only (λ k z. (y : Edge) × (edge_at second_left (slice_index (1 ∷ []) k) ≡ Some y) × MakesEdge (par_with (second ∷ [])) host at values (0 ∷ 1 ∷ []) z y) second
      (edge 0 1, at_next (edge 0 1), record { source = refl; target = refl; label = refl; mark = refl });
  deleted_nodes = λ n out c. absurd (out c);
  other_nodes = λ n out none. refl;
  deleted_edges = λ e out c. only_second e out;
  other_edges = λ e out none. only_second e out ∙ sym (past_two _ _ e (not_in e none).0 (not_in e none).1);
}

-- the match applies, and leads there
pub parallel_edges_match : ParallelEdgesMatch
parallel_edges_match = (values, record { is_match = matches []; condition = refl; values = refl }, steps)

pub kept_beside_removed : KeptBesideRemoved
kept_beside_removed = (values, record { is_match = matches (second ∷ []); condition = refl; values = refl }, steps_to_second)
