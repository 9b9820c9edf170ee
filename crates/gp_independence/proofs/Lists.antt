-- Pairwise independent matches are a derivation in every order.
use Rattle.std.proofs.Common.{◌≡◌, ◌⊎◌, inl, inr, ℕ, zero, suc, ◌<◌, List, [], ◌∷◌, length, get_or, refl, sym, ap, subst, ◌∙◌, arith}
use Rattle.std.specs.Prelude.{Some, slice_get, All}
use Rattle.std.specs.List.{AllPairs, swap}
use Rattle.std.specs.List.Sorted.{IsPermutation}
use Rattle.std.proofs.lemmas.Bool.{cases_eq, cases_order}
use Rattle.std.proofs.lemmas.List.Edits.{Swapped, swapped_from_swap, length-swap}
use Rattle.std.proofs.lemmas.List.Sorted.{IsPermutation-keeps, IsPermutation-cons, All-permutation}
use Rattle.std.proofs.lemmas.Option.{get_or_from_slice_get, slice_get_within}
use Rattle.gp_values.specs.Graph.{Graph}
use Rattle.gp_syntax.specs.Rule.{Rule, Found}
use Rattle.gp_syntax.specs.Step.{Step}
use Rattle.gp_syntax.specs.Replay.{StepsTo}
use Rattle.gp_syntax.specs.WellFormed.{IsWellFormed}
use Rattle.gp_step.specs.After.{after}
use Rattle.gp_step.specs.Laws.{IsNumbered}
use Rattle.gp_step.proofs.Afters.{leads_on}
use Rattle.gp_step.proofs.Wholes.{numbered_step}
use Rattle.gp_independence.specs.Laws.{AreIndependent, IsApplying}
use Rattle.gp_independence.proofs.Second.{applies_stays}
use Rattle.gp_independence.proofs.Kept.{independence_kept}
use Rattle.gp_independence.proofs.Orders.{other_way}

-- ---- pairs in any order

-- what holds of each two of a list, whichever stands first
abbrev AllTwo : {X : Type 0} → (X → X → Type 0) → List X → Type 0
AllTwo {X} R xs = (i j : ℕ) (d : X) → i < length xs → j < length xs → (i ≡ j → ⊥) → R (get_or xs i d) (get_or xs j d)

two_of_pairs : {X : Type 0} (R : X → X → Type 0) → ((x y : X) → R x y → R y x) → (xs : List X) → AllPairs R xs → AllTwo R xs
two_of_pairs R other xs h i j d k l apart =
    elim (cases_order i j) [
      | inl e ↦ absurd (apart e)
      | inr c ↦ elim c [ inl b ↦ h i j d b l | inr b ↦ other (get_or xs j d) (get_or xs i d) (h j i d b k) ]
    ]

-- where the element of a place stood before two changed places
pub record Was {X : Type 0} (f h : ℕ → X) (a b n i : ℕ) : Type 0 where
  pub before : ℕ
  pub below : before < n
  pub same : h i ≡ f before
  pub how : ((i ≡ a) × (before ≡ b)) ⊎ (((i ≡ b) × (before ≡ a)) ⊎ ((i ≡ a → ⊥) × (i ≡ b → ⊥) × (before ≡ i)))

place_before : {X : Type 0} (f h : ℕ → X) (a b n : ℕ) → a < n → b < n → Swapped f h a b → (i : ℕ) → i < n → Was f h a b n i
place_before f h a b n k l s i m =
    elim (cases_eq i a) [
      | inl e ↦ record { before = b; below = l; same = ap h e ∙ s.0; how = inl (e, refl) }
      | inr c ↦ elim (cases_eq i b) [
        | inl e ↦ record { before = a; below = k; same = ap h e ∙ s.1; how = inr (inl (e, refl)) }
        | inr d ↦ record { before = i; below = m; same = s.2 i c d; how = inr (inr (c, d, refl)) }
      ]
    ]

still_apart : {X : Type 0} (f h : ℕ → X) (a b n i j : ℕ) (x : Was f h a b n i) (y : Was f h a b n j) → (i ≡ j → ⊥) → x.before ≡ y.before → ⊥
still_apart f h a b n i j x y apart e =
    elim x.how [
      | inl p ↦ (let p0 = p.0 in let p1 = p.1 in elim y.how [
        | inl q ↦ (let q0 = q.0 in let q1 = q.1 in apart (omega arith))
        | inr z ↦ elim z [ inl q ↦ (let q0 = q.0 in let q1 = q.1 in apart (omega arith)) | inr q ↦ (let q2 = q.2 in q.1 (omega arith)) ]
      ])
      | inr w ↦ elim w [
        | inl p ↦ (let p0 = p.0 in let p1 = p.1 in elim y.how [
          | inl q ↦ (let q0 = q.0 in let q1 = q.1 in apart (omega arith))
          | inr z ↦ elim z [ inl q ↦ (let q0 = q.0 in let q1 = q.1 in apart (omega arith)) | inr q ↦ (let q2 = q.2 in q.0 (omega arith)) ]
        ])
        | inr p ↦ (let p2 = p.2 in elim y.how [
          | inl q ↦ (let q0 = q.0 in let q1 = q.1 in p.1 (omega arith))
          | inr z ↦ elim z [ inl q ↦ (let q0 = q.0 in let q1 = q.1 in p.0 (omega arith)) | inr q ↦ (let q2 = q.2 in apart (omega arith)) ]
        ])
      ]
    ]

two_swapped : {X : Type 0} (R : X → X → Type 0) (xs : List X) (a b : ℕ) → a < length xs → b < length xs → AllTwo R xs → AllTwo R (swap xs a b)
two_swapped R xs a b k l h i j d m n apart =
    let s = swapped_from_swap xs (swap xs a b) a b d k l refl in
    let c = length-swap xs a b in
    let x = place_before (λ z. get_or xs z d) (λ z. get_or (swap xs a b) z d) a b (length xs) k l s i (omega arith) in
    let y = place_before (λ z. get_or xs z d) (λ z. get_or (swap xs a b) z d) a b (length xs) k l s j (omega arith) in
    let r = h x.before y.before d x.below y.below (still_apart _ _ a b (length xs) i j x y apart) in
    subst (λ z. R z (get_or (swap xs a b) j d)) (sym x.same) (subst (R (get_or xs x.before d)) (sym y.same) r)

two_permuted : {X : Type 0} (R : X → X → Type 0) (xs ys : List X) → IsPermutation xs ys → AllTwo R xs → AllTwo R ys
two_permuted R xs ys p h = IsPermutation-keeps xs (AllTwo R) h (λ zs a b k l z. two_swapped R zs a b k l z) ys p

-- ---- a derivation

all_at : {X : Type 0} (P : X → Type 0) (xs : List X) → All P xs → (j : ℕ) (x : X) → slice_get xs j ≡ Some x → P x
all_at P xs h j x e = subst P (get_or_from_slice_get xs j x x e) (h j x (slice_get_within xs j x e))

-- ---- a match behind others

-- the pairs without the second match
without_second : (R : Found → Found → Type 0) (m o : Found) (os : List Found) → AllTwo R (m ∷ o ∷ os) → AllTwo R (m ∷ os)
without_second R m o os h zero zero d a b apart = absurd (apart refl)
without_second R m o os h zero (suc j) d a b apart = h 0 (suc (suc j)) d (omega arith) (omega arith) (omega arith)
without_second R m o os h (suc i) zero d a b apart = h (suc (suc i)) 0 d (omega arith) (omega arith) (omega arith)
without_second R m o os h (suc i) (suc j) d a b apart = h (suc (suc i)) (suc (suc j)) d (omega arith) (omega arith) (λ e. apart (omega arith))

module _ (rules : List Rule) (each : All IsWellFormed rules) where
  well : (m : Found) (r : Rule) → slice_get rules m.rule ≡ Some r → IsWellFormed r
  well m r e = all_at IsWellFormed rules each m.rule r e

  -- after the step of o all matches of a list that are independent of it apply
  still_applying : (g k : Graph) (o : Found) (r : Rule) (ms : List Found) → IsNumbered g → slice_get rules o.rule ≡ Some r → Step r g o k
      → ((i : ℕ) (d : Found) → i < length ms → AreIndependent rules g o (get_or ms i d)) → All (IsApplying rules g) ms → All (IsApplying rules k) ms
  still_applying g k o r ms whole e t two applying i d l =
      let n = applying i d l in
      (n.0, n.1, applies_stays (well o r e) (well (get_or ms i d) n.0 n.1) whole (two i d l r n.0 e n.1) t n.2)

  -- and what was independent of one another still is
  still_two : (g k : Graph) (o : Found) (r : Rule) (ms : List Found) → IsNumbered g → slice_get rules o.rule ≡ Some r → Step r g o k
      → ((i : ℕ) (d : Found) → i < length ms → AreIndependent rules g o (get_or ms i d)) → AllTwo (AreIndependent rules g) ms → AllTwo (AreIndependent rules k) ms
  still_two g k o r ms whole e t two pairs i j d a b apart u v x y =
      independence_kept r u v g k o (get_or ms i d) (get_or ms j d) (well o r e) (well (get_or ms i d) u x) (well (get_or ms j d) v y) whole
      (two i d a r u e x) (two j d b r v e y) (pairs i j d a b apart u v x y) t

  other_pair : (g : Graph) (m n : Found) → AreIndependent rules g m n → AreIndependent rules g n m
  other_pair g m n h r s a b = other_way (h s r b a)

  derives : (ms : List Found) (g : Graph) → IsNumbered g → All (IsApplying rules g) ms → AllTwo (AreIndependent rules g) ms → (h : Graph) × StepsTo rules g ms h
  derives [] g whole applying two = (g, refl)
  derives (m ∷ ms) g whole applying two =
      let first = applying 0 m (omega arith) in
      let r = first.0 in
      let wr = well m r first.1 in
      let t = leads_on r g m wr whole first.2 in
      let k = after r g m in
      let others : (i : ℕ) (d : Found) → i < length ms → AreIndependent rules g m (get_or ms i d) = λ i d l. two 0 (suc i) d (omega arith) (omega arith) (omega arith) in
      let rest = derives ms k (numbered_step wr whole t.1.is_match t.2)
      (still_applying g k m r ms whole first.1 t others (λ i d l. applying (suc i) d (omega arith)))
      (still_two g k m r ms whole first.1 t others (λ i j d a b apart. two (suc i) (suc j) d (omega arith) (omega arith) (λ e. apart (omega arith)))) in
      (rest.0, (k, r, first.1, t, rest.1))

  -- the second match of a list and each other one
  second_and : (g : Graph) (m o : Found) (os : List Found) → AllTwo (AreIndependent rules g) (m ∷ o ∷ os) → (i : ℕ) (d : Found) → i < length (m ∷ os) → AreIndependent rules g o (get_or (m ∷ os) i d)
  second_and g m o os two zero d l = two 1 0 d (omega arith) (omega arith) (omega arith)
  second_and g m o os two (suc i) d l = two 1 (suc (suc i)) d (omega arith) (omega arith) (omega arith)

  all_but_second : (g : Graph) (m o : Found) (os : List Found) → All (IsApplying rules g) (m ∷ o ∷ os) → All (IsApplying rules g) (m ∷ os)
  all_but_second g m o os h zero d l = h 0 d (omega arith)
  all_but_second g m o os h (suc i) d l = h (suc (suc i)) d (omega arith)

  follows : (os : List Found) (g h : Graph) (m : Found) → IsNumbered g → All (IsApplying rules g) (m ∷ os) → AllTwo (AreIndependent rules g) (m ∷ os) → StepsTo rules g os h → IsApplying rules h m
  follows [] g h m whole applying two same = subst (λ z. IsApplying rules z m) (sym same) (applying 0 m (omega arith))
  follows (o ∷ os) g h m whole applying two steps =
      let k = steps.0 in
      let r = steps.1 in
      let e = steps.2 in
      let t = steps.3 in
      let others = second_and g m o os two in
      follows os k h m (numbered_step (well o r e) whole t.1.is_match t.2)
      (still_applying g k o r (m ∷ os) whole e t others (all_but_second g m o os applying))
      (still_two g k o r (m ∷ os) whole e t others (without_second (AreIndependent rules g) m o os two)) steps.4

pub matches_derive : (rules : List Rule) (g : Graph) (ms ns : List Found) → All IsWellFormed rules → IsNumbered g
    → All (IsApplying rules g) ms → AllPairs (AreIndependent rules g) ms → IsPermutation ms ns → (h : Graph) × StepsTo rules g ns h
matches_derive rules g ms ns each whole applying pairs p =
    derives rules each ns g whole (All-permutation (IsApplying rules g) ms ns p applying)
    (two_permuted (AreIndependent rules g) ms ns p (two_of_pairs (AreIndependent rules g) (other_pair rules each g) ms pairs))

pub matches_follow : (rules : List Rule) (g h : Graph) (m : Found) (ms ns : List Found) → All IsWellFormed rules → IsNumbered g
    → All (IsApplying rules g) (m ∷ ms) → AllPairs (AreIndependent rules g) (m ∷ ms) → IsPermutation ms ns → StepsTo rules g ns h → IsApplying rules h m
matches_follow rules g h m ms ns each whole applying pairs p steps =
    let q = IsPermutation-cons m ms ns p in
    follows rules each ns g h m whole (All-permutation (IsApplying rules g) (m ∷ ms) (m ∷ ns) q applying)
    (two_permuted (AreIndependent rules g) (m ∷ ms) (m ∷ ns) q (two_of_pairs (AreIndependent rules g) (other_pair rules each g) (m ∷ ms) pairs)) steps
