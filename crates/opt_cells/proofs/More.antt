-- One more place beside those that are held, and places that stay true.
use Rattle.std.proofs.Common.{◌≡◌, ◌≢◌, inl, inr, ⊎_elim, ℕ, zero, suc, ◌+◌, ◌<◌, ◌≤◌, ◌%◌, List, [], ◌∷◌, ◌++◌, Bool, true, false, length, get_or, set, refl, sym, ◌∙◌, subst, arith, nat_eq, eqb-true, eq-eqb, append_assoc, get_or-set_other, append-nil}
use Rattle.std.proofs.lemmas.List.{get_or_append_left, get_or_push, length_push}
use Rattle.std.proofs.lemmas.List.Elements.{All-push, Contains-get_or, Contains-append_left, Contains-push}
use Rattle.std.specs.Prelude.{cond, All, AllPairs, Contains}
use Rattle.std.specs.List.{IsAnyAnswer}
use mathlib.Core.Logic.{dite}
use native.Mathlib.Decide.{ℕ_discrete}
use Rattle.opt_system.specs.Meaning.{Judged, applies, neither}
use Rattle.opt_system.specs.Batch.{AreHeld, IsFull, StartsWith, NoneFits}
use Rattle.opt_cells.specs.declared.cells_goal.CellsGoal.{CellsGoal}
use Rattle.opt_cells.specs.declared.cells_goal.Never.{Never}
use Rattle.opt_cells.specs.Row.{Row}
use Rattle.opt_cells.specs.Cells.{cells_means}
use Rattle.opt_cells.specs.inside.Laws.{true_where}

module _ {X : Type 0} where
  pairs_push : (R : X → X → Type 0) (xs : List X) (x : X) → AllPairs R xs → All (λ y. R y x) xs → AllPairs R (xs ++ x ∷ [])
  pairs_push R xs x all last i j d low high = let long = length_push xs x in dite (ℕ_discrete j (length xs))
      (λ e. let at = get_or_push xs x d j (sym e) in let before = get_or_append_left xs (x ∷ []) d i (omega arith) in
      subst (λ y. R y (get_or (xs ++ x ∷ []) j d)) (sym before) (subst (λ y. R (get_or xs i d) y) (sym at) (last i d (omega arith))))
      (λ n. let at = get_or_append_left xs (x ∷ []) d j (omega arith) in let before = get_or_append_left xs (x ∷ []) d i (omega arith) in
      subst (λ y. R y (get_or (xs ++ x ∷ []) j d)) (sym before) (subst (λ y. R (get_or xs i d) y) (sym at) (all i j d low (omega arith))))

  starts_more : (list seen : List X) (x : X) → StartsWith list seen → StartsWith (list ++ x ∷ []) seen
  starts_more list seen x s = (s.0 ++ x ∷ [], (λ i. s.1 i ++ x ∷ []) ∙ append_assoc seen s.0 (x ∷ []))

module _ (xs ys : List ℕ) (x : ℕ) (same : xs ≡ ys) where
  pub contained_where : (b : Bool) → b ≡ true → IsAnyAnswer (λ y t. nat_eq y x ≡ t) xs b → Contains ys x
  contained_where true e h = subst (λ zs. Contains zs x) same (h.0, h.1, eqb-true (get_or xs h.0 x) x (h.2 x))
  contained_where false e h = cc

  pub none_where : (b : Bool) → b ≡ false → IsAnyAnswer (λ y t. nat_eq y x ≡ t) xs b → Contains ys x → ⊥
  none_where true e h w = cc
  none_where false e h w = let v = subst (λ zs. Contains zs x) (sym same) w in let eq = eq-eqb (get_or xs v.0 x) x v.2 in let other = h v.0 x (omega arith) v.1 in cc

lit_below : (cells : List Bool) (q : ℕ) → get_or cells q false ≡ true → q < length cells
lit_below [] q e = cc
lit_below (c ∷ cs) zero e = omega arith
lit_below (c ∷ cs) (suc q) e = let rest = lit_below cs q e in omega arith

applies_where : (b : Bool) → b ≡ true → cond {A = Judged Never} b applies neither ≡ applies
applies_where true e = refl
applies_where false e = cc

-- what is held where all places below n were looked at
pub record Gathered (goal : CellsGoal) (share : ℕ) (at : Row) (limit : ℕ) (first held : List ℕ) (n : ℕ) : Type 0 where
  pub are_held : AreHeld cells_means goal share at limit held
  pub begins : StartsWith held first
  pub below : (q : ℕ) → q < n → q % goal.shares ≡ share → get_or at.cells q false ≡ true → Contains held q

module _ (goal : CellsGoal) (share : ℕ) (at : Row) (limit : ℕ) where
  held_more : (held : List ℕ) (place : ℕ) → AreHeld cells_means goal share at limit held → length held < limit → place % goal.shares ≡ share → get_or at.cells place false ≡ true
      → (Contains held place → ⊥) → AreHeld cells_means goal share at limit (held ++ place ∷ [])
  held_more held place h room its lit new = let long = length_push held place in record {
    some = omega arith;
    few = omega arith;
    of_share = All-push (λ f. f % goal.shares ≡ share) held place h.of_share its;
    independent = record {
      each_applies = All-push (λ f. cells_means.judged goal at f ≡ applies) held place h.independent.each_applies (applies_where (get_or at.cells place false) lit);
      pairwise = pairs_push (λ a b. a ≢ b) held place h.independent.pairwise (λ k d lt e. new (subst (λ y. Contains held y) e (Contains-get_or held k d lt)));
    };
  }

  module _ (first held : List ℕ) where
    pub begins_so : AreHeld cells_means goal share at limit first → Gathered goal share at limit first first 0
    begins_so h = record { are_held = h; begins = ([], sym (append-nil first)); below = λ q lt its lit. absurd (omega arith) }

    pub skips : (n : ℕ) → Gathered goal share at limit first held n → (n % goal.shares ≡ share → get_or at.cells n false ≡ true → Contains held n) → Gathered goal share at limit first held (n + 1)
    skips n g here = record {
      are_held = g.are_held;
      begins = g.begins;
      below = λ q lt. dite (ℕ_discrete q n) (λ e. subst (λ y. y % goal.shares ≡ share → get_or at.cells y false ≡ true → Contains held y) (sym e) here) (λ e. g.below q (omega arith));
    }

    pub joins : (n : ℕ) → Gathered goal share at limit first held n → length held < limit → n % goal.shares ≡ share → get_or at.cells n false ≡ true → (Contains held n → ⊥)
        → Gathered goal share at limit first (held ++ n ∷ []) (n + 1)
    joins n g room its lit new = record {
      are_held = held_more held n g.are_held room its lit new;
      begins = starts_more held first n g.begins;
      below = λ q lt its lit. dite (ℕ_discrete q n) (λ e. subst (λ y. Contains (held ++ n ∷ []) y) (sym e) (Contains-push held n)) (λ e. Contains-append_left held (n ∷ []) q (g.below q (omega arith) its lit));
    }

    -- at the limit, and where all places were looked at
    pub at_limit : (n : ℕ) → Gathered goal share at limit first held n → limit ≤ length held → IsFull cells_means goal share at limit held
    at_limit n g long = let few = g.are_held.few in inl (omega arith)

    pub at_end : Gathered goal share at limit first held (length at.cells) → IsFull cells_means goal share at limit held
    at_end g = inr (λ f its now new. let lit = true_where (get_or at.cells f false) now in absurd (new (g.below f (lit_below at.cells f lit) its lit)))
