-- What a memory knows, after one more was put in.
use Rattle.std.proofs.Common.{◌≡◌, ◌⊎◌, inl, inr, ℕ, ◌<◌, Bool, true, false, cond, List, Some, Vec, Global, refl, sym, ap, subst, ◌∙◌}
use Rattle.std.specs.Cmp.{ranks}
use Rattle.std.specs.Ordering.{nat_cmp, ordering_then, is_eq, MatchOrdering}
use Rattle.std.specs.declared.cmp.Ordering.{Ordering}
use Rattle.std.specs.declared.cmp.Ordering.TheVariants.{Less, Equal, Greater}
use Rattle.std.specs.BTreeMap.{get, is_at}
use Rattle.std.specs.Map.{lookup}
use Rattle.gp_certify.specs.declared.end.End.{End}
use Rattle.gp_certify.specs.inside.Memory.{Kept, Knows, Learns, pair_cmp}

same_number : (x y : ℕ) → nat_cmp x y ≡ Equal → x ≡ y
same_number x y e = subst (λ (o : Ordering). MatchOrdering o (x < y) (x ≡ y) (y < x)) e (ranks x y)

both_equal : (a b : Ordering) → is_eq (ordering_then a b) ≡ true → (a ≡ Equal) × (b ≡ Equal)
both_equal Less b e = absurd cc
both_equal Equal Less e = absurd cc
both_equal Equal Equal e = (refl, refl)
both_equal Equal Greater e = absurd cc
both_equal Greater b e = absurd cc

pub learned : (old new : Kept) (n i : ℕ) (kept : Vec End Global) (es : List End) → kept.items ≡ es
    → ((q : ℕ × ℕ) → get pair_cmp new q ≡ cond (is_at (pair_cmp (i, n)) q) (Some kept) (get pair_cmp old q)) → Learns old new n i es
learned old new n i kept es same u = λ k j fs h. by k j fs h (is_at (pair_cmp (i, n)) (j, k)) refl
  where
    by : (k j : ℕ) (fs : List End) → Knows new k j fs → (b : Bool) → is_at (pair_cmp (i, n)) (j, k) ≡ b → Knows old k j fs ⊎ ((k ≡ n) × (j ≡ i) × (fs ≡ es))
    by k j fs (x, e, s) true t =
        let f : get pair_cmp new (j, k) ≡ Some kept = u (j, k) ∙ ap (λ z. cond z (Some kept) (get pair_cmp old (j, k))) t in
        let y : x ≡ kept = cc in
        let p = both_equal (nat_cmp i j) (nat_cmp n k) t in
        inr (sym (same_number n k p.1), sym (same_number i j p.0), sym s ∙ ap (λ (z : Vec End Global). z.items) y ∙ same)
    by k j fs (x, e, s) false t =
        let f : get pair_cmp new (j, k) ≡ get pair_cmp old (j, k) = u (j, k) ∙ ap (λ z. cond z (Some kept) (get pair_cmp old (j, k))) t in
        inl (x, sym f ∙ e, s)

pub learned_nothing : (old new : Kept) (n i : ℕ) (es : List End) → new.entries ≡ old.entries → Learns old new n i es
learned_nothing old new n i es e = λ k j fs (x, f, s). inl (x, sym (ap (λ z. lookup (is_at (pair_cmp (j, k))) z) e) ∙ f, s)
