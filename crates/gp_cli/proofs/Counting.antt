-- The entries of a finite map that pass a test, counted key by key.
use Rattle.std.proofs.Common.{◌≡◌, ℕ, ◌+◌, ◌<◌, ◌≤◌, ◌==◌, Bool, true, false, cond, List, [], ◌∷◌, length, refl, sym, ap, ap₂, subst, ◌∙◌, arith}
use Rattle.std.specs.Prelude.{◌&&◌, nat_lt, Option, Some, None, IsSome, is_some, count_by}
use Rattle.std.specs.Option.{option_map_or}
use Rattle.std.specs.Ordering.{nat_cmp, is_lt, eq_by_cmp}
use Rattle.std.specs.Cmp.{unsigned_tied}
use Rattle.std.specs.FinMap.{FinMap, get, len, entries, entries_sorted, get-entries, len-entries}
use Rattle.std.specs.FinMap.Entries.{find, below_all, is_sorted}
use Rattle.std.proofs.Math.Dec.{T}
use Rattle.std.proofs.lemmas.Bool.{eqb-true, eq-eqb}
use Rattle.std.proofs.lemmas.Grind.{common_steps}
use Rattle.std.proofs.lemmas.List.Sums.{sum_by-cons}
use Rattle.gp_memory.proofs.Basics.{first_of, lt_true, not_less as lt_self, second_of}

abbrev pub one_if : Bool → ℕ
one_if b = cond b 1 0

-- a key above k is below neither k nor k + 1
lt_above : (k a : ℕ) → T (is_lt (nat_cmp k a)) → (nat_lt a k ≡ false) × (nat_lt a (k + 1) ≡ false)
lt_above k a h = (grind (arith, common_steps), grind (arith, common_steps))

lt_other : (k a : ℕ) → (k == a) ≡ false → nat_lt a (k + 1) ≡ nat_lt a k
lt_other k a h = grind (arith, common_steps)

lt_next : (k : ℕ) → nat_lt k (k + 1) ≡ true
lt_next k = grind (arith, common_steps)

lt_none : (a : ℕ) → nat_lt a 0 ≡ false
lt_none a = grind (arith, common_steps)

module _ {X : Type 0} (q : X → Bool) where
  -- how many entries with keys below k pass
  abbrev pub below : ℕ → List (ℕ × X) → ℕ
  below k es = count_by (λ (e : ℕ × X). nat_lt e.0 k && q e.1) es

  abbrev pub passes : Option X → Bool
  passes o = option_map_or q o false

  more : (k : ℕ) (e : ℕ × X) (es : List (ℕ × X)) → below k (e ∷ es) ≡ one_if (nat_lt e.0 k && q e.1) + below k es
  more k e es = sum_by-cons (λ (d : ℕ × X). cond (nat_lt d.0 k && q d.1) 1 0) e es

  same_head : (k j : ℕ) (e : ℕ × X) (es : List (ℕ × X)) → nat_lt e.0 k ≡ nat_lt e.0 j → below k es ≡ below j es → below k (e ∷ es) ≡ below j (e ∷ es)
  same_head k j e es h r = more k e es ∙ ap₂ (λ (b : Bool) (m : ℕ). one_if (b && q e.1) + m) h r ∙ sym (more j e es)

  -- keys above k
  above : (k : ℕ) (es : List (ℕ × X)) → T (below_all nat_cmp k es) → below (k + 1) es ≡ below k es
  above k [] h = refl
  above k (e ∷ es) h =
      let l = lt_above k e.0 (first_of (is_lt (nat_cmp k e.0)) (below_all nat_cmp k es) h) in
      same_head (k + 1) k e es (l.1 ∙ sym l.0) (above k es (second_of (is_lt (nat_cmp k e.0)) (below_all nat_cmp k es) h))

  step_at : (k : ℕ) (e : ℕ × X) (es : List (ℕ × X)) (b : Bool) → (k == e.0) ≡ b → T (below_all nat_cmp e.0 es) → below (k + 1) es ≡ one_if (passes (find nat_cmp k es)) + below k es →
      below (k + 1) (e ∷ es) ≡ one_if (passes (cond b (Some e.1) (find nat_cmp k es))) + below k (e ∷ es)
  step_at k e es true same all r =
      let is : k ≡ e.0 = eqb-true k e.0 same in
      let rest : below (k + 1) es ≡ below k es = above k es (subst (λ (j : ℕ). T (below_all nat_cmp j es)) (sym is) all) in
      let head : nat_lt e.0 (k + 1) ≡ true = subst (λ (j : ℕ). nat_lt j (k + 1) ≡ true) is (lt_next k) in
      let none : nat_lt e.0 k ≡ false = subst (λ (j : ℕ). nat_lt j k ≡ false) is (lt_self k) in
      let left : below (k + 1) (e ∷ es) ≡ one_if (q e.1) + below k es = more (k + 1) e es ∙ ap₂ (λ (b : Bool) (m : ℕ). one_if (b && q e.1) + m) head rest in
      let right : below k (e ∷ es) ≡ 0 + below k es = more k e es ∙ ap (λ (b : Bool). one_if (b && q e.1) + below k es) none in
      omega (arith, left, right)
  step_at k e es false other all r =
      let head = ap (λ (b : Bool). one_if (b && q e.1)) (lt_other k e.0 other) in
      let one = more (k + 1) e es in
      let two = more k e es in
      grind (arith, head, one, two, r)

  -- one key more is looked at
  step : (k : ℕ) (es : List (ℕ × X)) → T (is_sorted nat_cmp es) → below (k + 1) es ≡ one_if (passes (find nat_cmp k es)) + below k es
  step k [] h = refl
  step k (e ∷ es) h =
      subst (λ (b : Bool). below (k + 1) (e ∷ es) ≡ one_if (passes (cond b (Some e.1) (find nat_cmp k es))) + below k (e ∷ es)) (sym (unsigned_tied k e.0))
      (step_at k e es (k == e.0) refl (first_of (below_all nat_cmp e.0 es) (is_sorted nat_cmp es) h) (step k es (second_of (below_all nat_cmp e.0 es) (is_sorted nat_cmp es) h)))

  none_below : (es : List (ℕ × X)) → below 0 es ≡ 0
  none_below [] = refl
  none_below (e ∷ es) = more 0 e es ∙ ap₂ (λ (b : Bool) (m : ℕ). one_if (b && q e.1) + m) (lt_none e.0) (none_below es)

  is_there : (k : ℕ) (e : ℕ × X) (es : List (ℕ × X)) (b : Bool) → IsSome (find nat_cmp k es) → IsSome (cond b (Some e.1) (find nat_cmp k es))
  is_there k e es true h = refl
  is_there k e es false h = h

  first_there : (e : ℕ × X) (es : List (ℕ × X)) → IsSome (find nat_cmp e.0 (e ∷ es))
  first_there e es = subst (λ (b : Bool). IsSome (cond b (Some e.1) (find nat_cmp e.0 es))) (sym (unsigned_tied e.0 e.0 ∙ eq-eqb e.0 e.0 refl)) refl

  -- all keys are below n
  all_below : (n : ℕ) (es : List (ℕ × X)) → ((k : ℕ) → IsSome (find nat_cmp k es) → k < n) → below n es ≡ count_by (λ (e : ℕ × X). q e.1) es
  all_below n [] h = refl
  all_below n (e ∷ es) h =
      more n e es
      ∙ ap₂ (λ (b : Bool) (m : ℕ). one_if (b && q e.1) + m) (lt_true e.0 n (h e.0 (first_there e es))) (all_below n es (λ k s. h k (is_there k e es (eq_by_cmp nat_cmp k e.0) s)))
      ∙ sym (sum_by-cons (λ (d : ℕ × X). cond (q d.1) 1 0) e es)

  -- ---- of a map

  pub counted_none : (m : FinMap nat_cmp X) → below 0 (entries m) ≡ 0
  counted_none m = none_below (entries m)

  pub counted_next : (m : FinMap nat_cmp X) (k : ℕ) → below (k + 1) (entries m) ≡ one_if (passes (get m k)) + below k (entries m)
  counted_next m k = rw get-entries (step k (entries m) (entries_sorted m))

  pub counted_all : (m : FinMap nat_cmp X) (n : ℕ) → ((k : ℕ) → IsSome (get m k) → k < n) → below n (entries m) ≡ count_by (λ (e : ℕ × X). q e.1) (entries m)
  counted_all m n h = all_below n (entries m) (λ k s. h k (rw get-entries s))

  -- a count goes on by one where the test passes
  pub goes_on : (m : FinMap nat_cmp X) (k : ℕ) (b : Bool) (count next : ℕ) → b ≡ passes (get m k) → count ≡ below k (entries m) → count ≤ k → next ≡ count + one_if b →
      (next ≡ below (k + 1) (entries m)) × (next ≤ k + 1)
  goes_on m k true count next p c w e =
      let n = counted_next m k ∙ ap (λ (b : Bool). one_if b + below k (entries m)) (sym p) in (omega (arith, n, c, e), omega (arith, w, e))
  goes_on m k false count next p c w e =
      let n = counted_next m k ∙ ap (λ (b : Bool). one_if b + below k (entries m)) (sym p) in (omega (arith, n, c, e), omega (arith, w, e))

pub always : {X : Type 0} (o : Option X) → is_some o ≡ option_map_or (λ (x : X). true) o false
always None = refl
always (Some x) = refl

all_pass : {X : Type 0} (es : List (ℕ × X)) → count_by (λ (e : ℕ × X). true) es ≡ length es
all_pass [] = refl
all_pass (e ∷ es) = let s = sum_by-cons (λ d. 1) e es in let r = all_pass es in omega (arith, s, r)

pub counted_len : {X : Type 0} (m : FinMap nat_cmp X) → count_by (λ (e : ℕ × X). true) (entries m) ≡ len m
counted_len m = all_pass (entries m) ∙ sym (len-entries m)
