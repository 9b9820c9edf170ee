-- Two blocks of numbers change places.
use Rattle.std.proofs.Common.{◌≡◌, inl, inr, ℕ, ◌+◌, ◌-◌, ◌<◌, ◌≤◌, if◌then◌else◌, List, Option, None, Contains, refl, sym, ap, subst, ◌∙◌, arith, ltb}
use Rattle.std.proofs.lemmas.Bool.{cases_lt, lt-ltb, le-ltb}
use Rattle.gp_syntax.proofs.Unique.{contained}

-- the a numbers from `start` on, and the b behind them
abbrev pub exchanged : ℕ → ℕ → ℕ → ℕ → ℕ
exchanged start a b n = if ltb n start then n else (if ltb n (start + a) then n + b else (if ltb n ((start + a) + b) then n - a else n))

module _ (start a b : ℕ) where
  pub exchanged_old : (n : ℕ) → n < start → exchanged start a b n ≡ n
  exchanged_old n l = rw (lt-ltb n start l) refl

  pub exchanged_first : (n k : ℕ) → n ≡ start + k → k < a → exchanged start a b n ≡ (start + b) + k
  exchanged_first n k e l =
      let c : start ≤ n = omega arith in
      let d : n < start + a = omega arith in
      rw (le-ltb n start c, lt-ltb n (start + a) d) (omega arith)

  pub exchanged_second : (n k : ℕ) → n ≡ (start + a) + k → k < b → exchanged start a b n ≡ start + k
  exchanged_second n k e l =
      let c : start ≤ n = omega arith in
      let d : start + a ≤ n = omega arith in
      let f : n < (start + a) + b = omega arith in
      rw (le-ltb n start c, le-ltb n (start + a) d, lt-ltb n ((start + a) + b) f) (omega arith)

  pub exchanged_past : (n : ℕ) → (start + a) + b ≤ n → exchanged start a b n ≡ n
  exchanged_past n l =
      let c : start ≤ n = omega arith in
      let d : start + a ≤ n = omega arith in
      rw (le-ltb n start c, le-ltb n (start + a) d, le-ltb n ((start + a) + b) l) refl

  -- a fact at each number, by where it stands
  pub by_block : (P : ℕ → Type 0) → ((n : ℕ) → n < start → P n) → ((k : ℕ) → k < a → P (start + k)) → ((k : ℕ) → k < b → P ((start + a) + k)) → ((n : ℕ) → (start + a) + b ≤ n → P n) → (n : ℕ) → P n
  by_block P old first second past n =
      elim (cases_lt n start) [
        | inl l ↦ old n l
        | inr c ↦ elim (cases_lt n (start + a)) [
          | inl l ↦ (let e : start + (n - start) ≡ n = omega arith in subst P e (first (n - start) (omega arith)))
          | inr d ↦ elim (cases_lt n ((start + a) + b)) [
            | inl l ↦ (let e : (start + a) + (n - (start + a)) ≡ n = omega arith in subst P e (second (n - (start + a)) (omega arith)))
            | inr l ↦ past n l
          ]
        ]
      ]

-- and back
pub exchanged_back : (start a b n : ℕ) → exchanged start b a (exchanged start a b n) ≡ n
exchanged_back start a b n =
    by_block start a b (λ z. exchanged start b a (exchanged start a b z) ≡ z)
    (λ z l. ap (exchanged start b a) (exchanged_old start a b z l) ∙ exchanged_old start b a z l)
    (λ k l. ap (exchanged start b a) (exchanged_first start a b (start + k) k refl l) ∙ exchanged_second start b a ((start + b) + k) k refl l)
    (λ k l. ap (exchanged start b a) (exchanged_second start a b ((start + a) + k) k refl l) ∙ exchanged_first start b a (start + k) k refl l)
    (λ z l. ap (exchanged start b a) (exchanged_past start a b z l) ∙ exchanged_past start b a z (omega arith))
    n

-- ---- one half of a graph before, after either step, and after both in either order

-- ms, ns: what the matches found; a, b: how many new numbers each step takes; h, k: after either step; h2, k2: after the
-- other one as well; to, back: what is told by numbers that change places
pub record TwoOrders {X : Type 0} (start a b : ℕ) (ms ns : List ℕ) (g h k h2 k2 : ℕ → Option X) (to back : Option X → Option X) : Type 0 where
  pub m_below : (n : ℕ) → Contains ms n → n < start
  pub n_below : (n : ℕ) → Contains ns n → n < start
  pub h_other : (n : ℕ) → n < start → (Contains ms n → ⊥) → h n ≡ g n
  pub k_other : (n : ℕ) → n < start → (Contains ns n → ⊥) → k n ≡ g n
  pub h2_other : (n : ℕ) → n < start + a → (Contains ns n → ⊥) → h2 n ≡ h n
  pub k2_other : (n : ℕ) → n < start + b → (Contains ms n → ⊥) → k2 n ≡ k n
  pub m_found : (n : ℕ) → Contains ms n → k2 n ≡ to (h n)
  pub n_found : (n : ℕ) → Contains ns n → h2 n ≡ back (k n)
  pub m_new : (p : ℕ) → p < a → k2 ((start + b) + p) ≡ to (h (start + p))
  pub n_new : (p : ℕ) → p < b → h2 ((start + a) + p) ≡ back (k (start + p))
  pub shared : (n : ℕ) → Contains ms n → Contains ns n → k2 n ≡ to (h2 n)
  pub h2_past : (n : ℕ) → (start + a) + b ≤ n → h2 n ≡ None
  pub k2_past : (n : ℕ) → (start + a) + b ≤ n → k2 n ≡ None
  pub stays : (n : ℕ) → to (g n) ≡ g n
  pub again : (o : Option X) → to (back o) ≡ o
  pub none : to None ≡ None

module _ {X : Type 0} {start a b : ℕ} {ms ns : List ℕ} {g h k h2 k2 : ℕ → Option X} {to back : Option X → Option X} (w : TwoOrders start a b ms ns g h k h2 k2 to back) where
  old_same : (n : ℕ) → n < start → k2 n ≡ to (h2 n)
  old_same n l =
      elim (contained ms n) [
        | inl x ↦ elim (contained ns n) [
          | inl y ↦ w.shared n x y
          | inr out ↦ w.m_found n x ∙ ap to (sym (w.h2_other n (omega arith) out))
        ]
        | inr out ↦ elim (contained ns n) [
          | inl y ↦ w.k2_other n (omega arith) out ∙ sym (w.again (k n)) ∙ ap to (sym (w.n_found n y))
          | inr none ↦ w.k2_other n (omega arith) out ∙ w.k_other n l none ∙ sym (w.stays n) ∙ ap to (sym (w.h2_other n (omega arith) none ∙ w.h_other n l out))
        ]
      ]

  -- the new numbers of the two change places
  pub one_half : (n : ℕ) → k2 (exchanged start a b n) ≡ to (h2 n)
  one_half =
      by_block start a b (λ z. k2 (exchanged start a b z) ≡ to (h2 z))
      (λ z l. ap k2 (exchanged_old start a b z l) ∙ old_same z l)
      (λ p l. ap k2 (exchanged_first start a b (start + p) p refl l) ∙ w.m_new p l ∙ ap to (sym (w.h2_other (start + p) (omega arith) (λ c. let d = w.n_below (start + p) c in omega arith))))
      (λ p l. ap k2 (exchanged_second start a b ((start + a) + p) p refl l) ∙ w.k2_other (start + p) (omega arith) (λ c. let d = w.m_below (start + p) c in omega arith)
      ∙ sym (w.again (k (start + p))) ∙ ap to (sym (w.n_new p l)))
      (λ z l. ap k2 (exchanged_past start a b z l) ∙ w.k2_past z l ∙ sym (ap to (w.h2_past z l) ∙ w.none))
