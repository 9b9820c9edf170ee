-- Tokens written one behind another.
use Rattle.std.proofs.Common.{◌≡◌, ℕ, suc, ◌+◌, ◌<◌, ◌≤◌, List, [], ◌∷◌, ◌++◌, length, get_or, drop, refl, sym, ap, subst, ◌∙◌, arith, append_assoc, append-nil}
use Rattle.std.specs.Prelude.{Result, Ok, Err, OnErr}
use Rattle.std.proofs.Math.Seq.{drop-cons}
use Rattle.std.proofs.Math.ListN.{drop_of_length-le}
use Rattle.gp_values.specs.Texts.{IsBegun}
use Rattle.gp_values.proofs.Labels.{begun_longer, begun_after}
use Rattle.gp_fmt.specs.declared.piece.Piece.{Piece}
use Rattle.gp_fmt.specs.Pieces.{text_of}
use Rattle.gp_fmt.specs.Spaces.{gap, spaced_behind}

-- so much is written, and this is left to write
abbrev pub IsDone : List ℕ → List ℕ → List ℕ → List ℕ → Type 0
IsDone whole old mid rest = (done : List ℕ) × ((mid ≡ old ++ done) × (whole ≡ done ++ rest))

cut : (ps : List Piece) (i : ℕ) (next : Piece) → i < length ps → next ≡ get_or ps i next → drop i ps ≡ next ∷ drop (i + 1) ps
cut ps i next lt e =
    let n : suc i ≡ i + 1 = omega arith in
    drop-cons ps i next lt ∙ ap (λ x. x ∷ drop (suc i) ps) (sym e) ∙ ap (λ n. next ∷ drop n ps) n

module _ (last next : Piece) (ps : List Piece) (i : ℕ) (lt : i < length ps) (is : next ≡ get_or ps i next) where
  -- what stands behind, from a token on
  from_here : spaced_behind last (drop i ps) ≡ (gap last next ++ text_of next) ++ spaced_behind next (drop (i + 1) ps)
  from_here = ap (spaced_behind last) (cut ps i next lt is)

  pub one_more_done : (whole old mid new : List ℕ) → IsDone whole old mid (spaced_behind last (drop i ps)) → new ≡ mid ++ (gap last next ++ text_of next) → IsDone whole old new (spaced_behind next (drop (i + 1) ps))
  one_more_done whole old mid new d h =
      let piece = gap last next ++ text_of next in (
        d.0 ++ piece,
        (
          h ∙ ap (λ m. m ++ piece) d.1.0 ∙ append_assoc old d.0 piece,
          d.1.1 ∙ ap (λ l. d.0 ++ l) from_here ∙ sym (append_assoc d.0 piece (spaced_behind next (drop (i + 1) ps))),
        ),
      )

  pub begun_here : (whole old mid new : List ℕ) → IsDone whole old mid (spaced_behind last (drop i ps)) → IsBegun (gap last next ++ text_of next) mid new → IsBegun whole old new
  begun_here whole old mid new d h =
      let piece = gap last next ++ text_of next in
      let rest = spaced_behind next (drop (i + 1) ps) in
      subst (λ t. IsBegun t old new) (sym (d.1.1 ∙ ap (λ l. d.0 ++ l) from_here)) (begun_after d.0 (piece ++ rest) old mid new d.1.0 (begun_longer piece rest mid new h))

-- a text is begun where a part of it is written and the rest is begun
pub begun_then : {T E : Type 0} (r : Result T E) (a b old mid new : List ℕ) → mid ≡ old ++ a → OnErr r (IsBegun b mid new) → OnErr r (IsBegun (a ++ b) old new)
begun_then (Ok x) a b old mid new e h = tt
begun_then (Err x) a b old mid new e h = begun_after a b old mid new e h

pub none_done : (whole old : List ℕ) → IsDone whole old old whole
none_done whole old = ([], (sym (append-nil old), refl))

pub all_done : (last : Piece) (ps : List Piece) (i : ℕ) (whole old mid : List ℕ) → length ps ≤ i → IsDone whole old mid (spaced_behind last (drop i ps)) → mid ≡ old ++ whole
all_done last ps i whole old mid le d =
    d.1.0 ∙ ap (λ l. old ++ l) (sym (d.1.1 ∙ ap (λ l. d.0 ++ spaced_behind last l) (drop_of_length-le ps le) ∙ append-nil d.0))
