-- The index of pairs through the calls of a graph.
use Rattle.std.proofs.Common.{◌≡◌, ℕ, zero, suc, ◌-◌, ◌<◌, ◌≤◌, List, [], ◌∷◌, ◌++◌, length, take, refl, ap, ◌∙◌, arith, length-set}
use Rattle.std.specs.Prelude.{Option, Some, None, slice_set}
use Rattle.std.specs.Option.{option_map}
use Rattle.gp_values.specs.declared.atom.Atom.{Atom}
use Rattle.gp_values.specs.declared.marks.EdgeMark.{EdgeMark}
use Rattle.gp_graph.specs.inside.Slots.{slot_in}
use Rattle.gp_graph.specs.inside.View.{edge_of}
use Rattle.gp_graph.specs.inside.Rings.{changed_at, rewritten_edge, ShowSame}
use Rattle.gp_graph.specs.inside.Pairs.{pair_in, IndexesBut, IsIndex, IsIndexBut}
use Rattle.gp_graph.specs.declared.slots.EdgeSlot.{EdgeSlot}
use Rattle.gp_graph.specs.declared.pairs.PairIndex.{PairIndex}
use Rattle.gp_graph.proofs.Links.{kept, slot_here, slot_other}
use Rattle.gp_graph.proofs.Sides.{slot_past, slot_push_other}
use Rattle.gp_graph.proofs.Calls.{slot_dropped}
use Rattle.gp_graph.proofs.Buckets.{same_pairs, index_same, index_taken, index_freed}

pub take_short : {X : Type 0} (xs : List X) (n : ℕ) → length (take n xs) ≤ length xs
take_short [] zero = omega arith
take_short [] (suc n) = omega arith
take_short (x ∷ xs) zero = omega arith
take_short (x ∷ xs) (suc n) = let l : length (take n xs) ≤ length xs = take_short xs n in omega arith

-- the same pairs are seen
pub is_index_same : (i : PairIndex) (es es' : List (Option EdgeSlot)) → ((k : ℕ) → pair_in (slot_in es' k) ≡ pair_in (slot_in es k)) → length es' ≤ length es → IsIndex i es → IsIndex i es'
is_index_same i es es' same l h some =
    let room : length es ≤ length i.pairs.items = (h some).0 in (omega arith, index_same i.buckets.items i.pairs.items es es' same (h some).1)

-- an edge was added
pub is_index_added : (i : PairIndex) (es es' : List (Option EdgeSlot)) (x : EdgeSlot) → ShowSame edge_of (es ++ Some x ∷ []) es' → IsIndex i es → 0 < length i.buckets.items → IndexesBut i.buckets.items i.pairs.items es' (length es)
is_index_added i es es' x same h some =
    index_taken i.buckets.items i.pairs.items es es' (length es) (λ k ne. same_pairs (es ++ Some x ∷ []) es' same k ∙ ap pair_in (slot_push_other es (Some x) k ne)) (slot_past es) (h some).1

-- an edge was put back
pub is_index_put : (i : PairIndex) (es es' : List (Option EdgeSlot)) (e : ℕ) (x : EdgeSlot) → slot_in es e ≡ None → ShowSame edge_of (slice_set es e (Some x)) es' → length es' ≡ length es → IsIndex i es → IsIndexBut i es' e
is_index_put i es es' e x none same l h some =
    let room : length es ≤ length i.pairs.items = (h some).0 in (
      omega arith,
      index_taken i.buckets.items i.pairs.items es es' e (λ k ne. same_pairs (slice_set es e (Some x)) es' same k ∙ ap pair_in (slot_other es e (Some x) k ne)) none (h some).1,
    )

-- an edge is cleared
pub is_index_cleared : (i : PairIndex) (es : List (Option EdgeSlot)) (e : ℕ) → e < length es → IsIndexBut i es e → IsIndex i (slice_set es e None)
is_index_cleared i es e l h some =
    let room : length es ≤ length i.pairs.items = (h some).0 in
    let long : length (slice_set es e None) ≡ length es = length-set es e None in (
      omega arith,
      index_freed i.buckets.items i.pairs.items es (slice_set es e None) e (λ k ne. ap pair_in (slot_other es e None k ne)) (slot_here es e None l) (h some).1,
    )

pair_rewritten : (l : List Atom) (m : EdgeMark) (o : Option EdgeSlot) → pair_in (option_map (rewritten_edge l m) o) ≡ pair_in o
pair_rewritten l m None = refl
pair_rewritten l m (Some s) = refl

pub is_index_rewritten : (i : PairIndex) (es : List (Option EdgeSlot)) (e : ℕ) (l : List Atom) (m : EdgeMark) → IsIndex i es → IsIndex i (changed_at (rewritten_edge l m) es e)
is_index_rewritten i es e l m h =
    let long : length (changed_at (rewritten_edge l m) es e) ≡ length es = length-set es e (option_map (rewritten_edge l m) (slot_in es e)) in
    is_index_same i es (changed_at (rewritten_edge l m) es e) (kept pair_in (rewritten_edge l m) (pair_rewritten l m) es e) (omega arith) h

pub is_index_dropped : (i : PairIndex) (es : List (Option EdgeSlot)) → 0 < length es → slot_in es (length es - 1) ≡ None → IsIndex i es → IsIndex i (take (length es - 1) es)
is_index_dropped i es some none h =
    is_index_same i es (take (length es - 1) es) (λ k. ap pair_in (slot_dropped es some none k)) (take_short es (length es - 1)) h
