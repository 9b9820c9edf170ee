-- Small graphs in which rules are blocked.
use Rattle.std.proofs.Common.{◌≡◌, inl, ℕ, ◌<◌, true, false, [], ◌∷◌, length, slice_index, Contains, refl, sym, ◌∙◌, arith}
use Rattle.std.specs.Prelude.{pos}
use Rattle.std.proofs.lemmas.Option.{none-some}
use Rattle.gp_values.specs.declared.marks.NodeMark.TheVariants as node_marks
use Rattle.gp_values.specs.declared.marks.EdgeMark.TheVariants as edge_marks
use Rattle.gp_syntax.specs.Expression.{Variable, Marked, AnyMark}
use Rattle.gp_syntax.specs.Value.{Assignment}
use Rattle.gp_syntax.specs.Rule.{LeftEdge, Found}
use Rattle.gp_syntax.specs.Match.{MatchBy}
use Rattle.gp_syntax.specs.Step.{Blocked}
use Rattle.gp_syntax.specs.Rows.{del, par, one, red, unroot, one_node, rooted, program, start, raised, looped, two_nodes, plain, edge, left, unmarked, DanglingEdgeBlocks, OneEdgeIsNotTwo, RootWantsRoot, OtherWantsNoRoot}
use Rattle.gp_syntax.proofs.Small.{at_one, one_has, image_fits, only_image, edge_image, blocked_alone}

-- the loop would have to be matched, and del has no edge
del_dangles : (m : Found) (a : Assignment) → MatchBy del looped m a → ⊥
del_dangles m a h =
    let f = image_fits 0 (left (Variable 0) unmarked false) h refl in
    let n : slice_index m.nodes 0 ≡ 0 = one_has (plain (pos 1)) f.0 (slice_index m.nodes 0) f.1 in
    let c : Contains m.edges 0 = h.dangling 0 0 (edge 0 0) (let l : 0 < 1 = omega arith in l) (λ k. absurd (none-some k.1 k.2)) (at_one (edge 0 0)) (inl (sym n)) in
    let l : c.0 < length m.edges = c.1 in
    let z : length m.edges ≡ 0 = h.edge_count in
    omega arith

-- a node with a loop that is not matched is not deleted
pub loop_dangles : DanglingEdgeBlocks
loop_dangles = blocked_alone (del ∷ []) 0 del looped refl del_dangles

-- an edge of `par`, with the variable of its label
abbrev pub between : ℕ → LeftEdge
between x = record { source = 0; target = 1; label = Variable x; mark = Marked edge_marks.None; bidirectional = false }

-- both left edges would lie on edge 0
par_wants_two : (m : Found) (a : Assignment) → MatchBy par (two_nodes ((0, edge 0 1) ∷ []) 1) m a → ⊥
par_wants_two m a h =
    let e = edge_image 0 (between 2) h refl in
    let d = edge_image 1 (between 3) h refl in
    let first : slice_index m.edges 0 ≡ 0 = one_has (edge 0 1) e.0 (slice_index m.edges 0) e.1 in
    let second : slice_index m.edges 1 ≡ 0 = one_has (edge 0 1) d.0 (slice_index m.edges 1) d.1 in
    let n : length m.edges ≡ 2 = h.edge_count in
    h.edges_apart 0 1 (let l : 0 < 1 = omega arith in l) (omega arith) (first ∙ sym second)

-- two left edges are not one edge
pub one_is_not_two : OneEdgeIsNotTwo
one_is_not_two = blocked_alone (par ∷ []) 0 par (two_nodes ((0, edge 0 1) ∷ []) 1) refl par_wants_two

-- the only node is no root
unroot_wants_root : (m : Found) (a : Assignment) → MatchBy unroot start m a → ⊥
unroot_wants_root m a h =
    let r : true ≡ false = (only_image (plain (pos 1)) 0 (left (Variable 0) AnyMark true) h refl).root in
    cc

-- a left root is no node that is none
pub root_wants_root : RootWantsRoot
root_wants_root = blocked_alone (unroot ∷ []) 0 unroot start refl unroot_wants_root

-- the only node is a root
one_wants_none : (m : Found) (a : Assignment) → MatchBy one (one_node rooted) m a → ⊥
one_wants_none m a h =
    let r : false ≡ true = (only_image rooted 0 (left (Variable 0) (Marked node_marks.None) false) h refl).root in
    cc

-- another left node is no root
pub other_wants_no_root : OtherWantsNoRoot
other_wants_no_root = blocked_alone (one ∷ []) 0 one (one_node rooted) refl one_wants_none

-- the only node has no mark
red_wants_red : (m : Found) (a : Assignment) → MatchBy red raised m a → ⊥
red_wants_red m a h =
    let r : node_marks.Red ≡ node_marks.None = (only_image (plain (pos 2)) 0 (left (Variable 0) (Marked node_marks.Red) false) h refl).mark in
    cc

-- no red node where the only one has no mark
pub red_blocked : Blocked program.rules (2 ∷ []) raised
red_blocked = blocked_alone program.rules 2 red raised refl red_wants_red
