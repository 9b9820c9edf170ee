-- The worked examples.
use Rattle.std.proofs.Common.{◌≡◌, inl, inr, ℕ, zero, suc, ◌<◌, Bool, true, false, List, [], ◌∷◌, length, slice_index, get_or, Option, Some, None, IsSomeAnd, Contains, refl, sym, subst, ◌∙◌, arith}
use Rattle.std.specs.Prelude.{pos}
use Rattle.std.specs.FinMap as map
use Rattle.std.specs.Ordering.{nat_cmp}
use Rattle.std.proofs.lemmas.Option.{none-some}
use Rattle.gp_memory.proofs.Basics.{some_same}
use Rattle.gp_values.specs.declared.atom.Atom.TheVariants.{Int}
use Rattle.gp_values.specs.Graph.{Node, Edge, node_at, edge_at}
use Rattle.gp_syntax.specs.declared.kinds.VariableType.TheVariants as types
use Rattle.gp_syntax.specs.Expression.{Variable}
use Rattle.gp_syntax.specs.Value.{Assignment, Value, NoValue, is_of}
use Rattle.gp_syntax.specs.Truth.{truth_of}
use Rattle.gp_syntax.specs.Rule.{Rule, LeftNode, Found, IsKept}
use Rattle.gp_syntax.specs.Match.{MatchBy, FitsNode, setting_of}
use Rattle.gp_syntax.specs.Rows.{plain, edge, left, unmarked, del, at_first}
use Rattle.gp_syntax.proofs.Small.{at_none, at_only, one_apart, one_typed, at_one, one_has}
use Rattle.gp_syntax.proofs.Parallel.{at_both, two_apart, at_first_of_two, at_second_of_two}
use Rattle.gp_touch.specs.Touch.{AppliesOrFails, LiesAt}
use Rattle.gp_touch.specs.Ends.{AddsNoted, DiffersAtNoted}
use Rattle.gp_touch.specs.Rows.{joined, parted, at_target, nowhere, apart, in_order, OneEndIsEnough, OneEndIsNotEnough, WhatGoesIsSeen}

-- ---- the two graphs

none_left : (e : ℕ) → edge_at parted e ≡ None
none_left e = map.get-from_sorted nat_cmp [] e tt

the_edge : (e : ℕ) (d : Edge) → edge_at joined e ≡ Some d → edge 0 1 ≡ d
the_edge e d there = some_same (sym (at_one (edge 0 1)) ∙ subst (λ k. edge_at joined k ≡ Some d) (one_has (edge 0 1) d e there) there)

adds : (noted : ℕ → Bool) → AddsNoted noted joined parted
adds noted = record {
  node = λ n x u there. there;
  edge = λ e d u there. absurd (none-some d (sym (none_left e) ∙ there));
}

differs : DiffersAtNoted at_target joined parted
differs = record {
  adds = adds at_target;
  takes = record {
    node = λ n x u there. there;
    edge = λ e d u there.
        let t : true ≡ false = subst (λ (c : Edge). at_target c.target ≡ false) (sym (the_edge e d there)) u.1 in
        absurd cc;
  };
}

-- ---- a left node fits the node at its image

fits : (r : Rule) (m : Found) (a : Assignment) (p : LeftNode) (i : ℕ) (x : Node) → node_at parted (slice_index m.nodes i) ≡ Some x → FitsNode (setting_of r parted m a) p x → IsSomeAnd (node_at parted (slice_index m.nodes i)) (FitsNode (setting_of r parted m a) p)
fits r m a p i x e f = subst (λ (o : Option Node). IsSomeAnd o (FitsNode (setting_of r parted m a) p)) (sym e) f

-- ---- `apart`

abbrev values : Assignment
values = (Int (pos 1) ∷ []) ∷ (Int (pos 2) ∷ []) ∷ []

kept : (i : ℕ) → i < 2 → IsKept apart i
kept zero l = (0, record { origin = Some 0; label = Variable 0; mark = unmarked; root = false }, refl, refl)
kept (suc zero) l = (1, record { origin = Some 1; label = Variable 1; mark = unmarked; root = false }, refl, refl)
kept (suc (suc i)) l = absurd (omega arith)

lists : (x : ℕ) → x < 2 → is_of (get_or apart.types x types.List) (get_or values x []) ≡ true
lists zero l = refl
lists (suc zero) l = refl
lists (suc (suc x)) l = absurd (omega arith)

apart_matches : MatchBy apart parted in_order values
apart_matches = record {
  node_count = refl;
  edge_count = refl;
  direction_count = refl;
  nodes_apart = two_apart;
  edges_apart = λ i j l h e. absurd (omega arith);
  variable_count = refl;
  in_types = lists;
  nodes = at_both _ (left (Variable 0) unmarked false) (left (Variable 1) unmarked false)
      (fits apart in_order values (left (Variable 0) unmarked false) 0 (plain (pos 1)) (at_first_of_two _ _) (record { label = refl; mark = refl; root = refl }))
      (fits apart in_order values (left (Variable 1) unmarked false) 1 (plain (pos 2)) (at_second_of_two _ _) (record { label = refl; mark = refl; root = refl }));
  edges = at_none _;
  dangling = λ i e d l gone there at. absurd (gone (kept i l));
}

no_edges : map.entries parted.edges ≡ []
no_edges = map.entries-from_sorted nat_cmp [] tt

one_edge : map.entries joined.edges ≡ (0, edge 0 1) ∷ []
one_edge = map.entries-from_sorted nat_cmp ((0, edge 0 1) ∷ []) tt

true_parted : truth_of apart.condition (setting_of apart parted in_order values) ≡ Value true
true_parted = rw no_edges refl

false_joined : (a : Assignment) → truth_of apart.condition (setting_of apart joined in_order a) ≡ Value false
false_joined a = rw one_edge refl

apart_applies : AppliesOrFails apart parted in_order
apart_applies = inl (values, record { is_match = apart_matches; condition = true_parted; values = refl })

-- there is the edge
apart_waits : AppliesOrFails apart joined in_order → ⊥
apart_waits (inl x) = let c : Value false ≡ Value true = sym (false_joined x.0) ∙ x.1.condition in absurd cc
apart_waits (inr x) =
    elim x.1.1.cause [
      | inl c ↦ let n : Value false ≡ NoValue x.0 = sym (false_joined x.1.0) ∙ c in absurd cc
      | inr c ↦ let n : Value false ≡ Value true = sym (false_joined x.1.0) ∙ c.0 in absurd cc
    ]

nothing_noted : LiesAt apart in_order (λ n. nowhere n ≡ true) → ⊥
nothing_noted x = let e : false ≡ true = x.2 in cc

pub one_end_is_enough : OneEndIsEnough
one_end_is_enough = record {
  sees = record { keeps = kept; asks = refl };
  differs = differs;
  up = (apart_waits, apart_applies);
  lies = (1, (let l : 1 < 2 = omega arith in l), refl);
}

pub what_goes_is_seen : WhatGoesIsSeen
what_goes_is_seen = record {
  adds = adds nowhere;
  up = (apart_waits, apart_applies);
  elsewhere = nothing_noted;
}

-- ---- `del`

abbrev value : Assignment
value = (Int (pos 1) ∷ []) ∷ []

del_matches : MatchBy del parted (at_first 0) value
del_matches = record {
  node_count = refl;
  edge_count = refl;
  direction_count = refl;
  nodes_apart = one_apart 0;
  edges_apart = λ i j l h e. absurd (omega arith);
  variable_count = refl;
  in_types = one_typed types.List (Int (pos 1) ∷ []) refl;
  nodes = at_only _ (left (Variable 0) unmarked false) (fits del (at_first 0) value (left (Variable 0) unmarked false) 0 (plain (pos 1)) (at_first_of_two _ _) (record { label = refl; mark = refl; root = refl }));
  edges = at_none _;
  dangling = λ i e d l gone there at. absurd (none-some d (sym (none_left e) ∙ there));
}

none_in : (ns : List ℕ) → length ns ≡ 0 → Contains ns 0 → ⊥
none_in ns e c = let l : c.0 < length ns = c.1 in absurd (omega arith)

-- the edge dangles
del_dangles : (a : Assignment) → MatchBy del joined (at_first 0) a → ⊥
del_dangles a w =
    none_in [] refl (w.dangling 0 0 (edge 0 1) (let l : 0 < 1 = omega arith in l) (λ k. absurd (none-some k.1 k.2)) (at_one (edge 0 1)) (inl refl))

del_waits : AppliesOrFails del joined (at_first 0) → ⊥
del_waits (inl x) = del_dangles x.0 x.1.is_match
del_waits (inr x) = del_dangles x.1.0 x.1.1.is_match

only_first : (j : ℕ) → j < 1 → at_target (slice_index (0 ∷ []) j) ≡ true → ⊥
only_first zero l e = cc
only_first (suc j) l e = omega arith

pub one_end_is_not_enough : OneEndIsNotEnough
one_end_is_not_enough = record {
  differs = differs;
  up = (del_waits, inl (value, record { is_match = del_matches; condition = refl; values = refl }));
  elsewhere = λ x. only_first x.0 x.1 x.2;
}
