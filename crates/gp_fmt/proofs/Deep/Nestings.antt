-- Two texts side by side, by the roles of their tokens: where the one is nowhere nested deeper than the other.
use Rattle.std.proofs.Common.{◌≡◌, ℕ, zero, suc, ◌+◌, ◌≤◌, List, [], ◌∷◌, ◌++◌, sum, refl, arith}
use Rattle.std.proofs.lemmas.List.Sums.{sum_by-cons}
use Rattle.gp_program.specs.declared.depth.Role.{Role}
use Rattle.gp_program.specs.declared.depth.Role.TheVariants as role
use Rattle.gp_program.specs.declared.depth.Run.{Run}
use Rattle.gp_program.specs.Depth.{Nesting, longer, next_run, next_open}

abbrev pub step : Nesting → Role → Nesting
step n r = record { still = next_open n.still n.run.len r; run = next_run n.run r }

-- behind tokens of these roles
abbrev pub after : Nesting → List Role → Nesting
after n [] = n
after n (r ∷ rs) = after (step n r) rs

abbrev pub deep : Nesting → ℕ
deep n = sum n.still + n.run.len

-- the depth at none of them is above this
abbrev pub IsWithin : ℕ → Nesting → List Role → Type 0
IsWithin k n [] = Unit {0}
IsWithin k n (r ∷ rs) = (deep (step n r) ≤ k) × IsWithin k (step n r) rs

-- ---- one behind the other

pub after_both : (n : Nesting) (xs ys : List Role) → after n (xs ++ ys) ≡ after (after n xs) ys
after_both n [] ys = refl
after_both n (x ∷ xs) ys = after_both (step n x) xs ys

pub within_first : (k : ℕ) (n : Nesting) (xs ys : List Role) → IsWithin k n (xs ++ ys) → IsWithin k n xs
within_first k n [] ys h = tt
within_first k n (x ∷ xs) ys h = (h.0, within_first k (step n x) xs ys h.1)

pub within_second : (k : ℕ) (n : Nesting) (xs ys : List Role) → IsWithin k n (xs ++ ys) → IsWithin k (after n xs) ys
within_second k n [] ys h = h
within_second k n (x ∷ xs) ys h = within_second k (step n x) xs ys h.1

pub within_both : (k : ℕ) (n : Nesting) (xs ys : List Role) → IsWithin k n xs → IsWithin k (after n xs) ys → IsWithin k n (xs ++ ys)
within_both k n [] ys g h = h
within_both k n (x ∷ xs) ys g h = (g.0, within_both k (step n x) xs ys g.1 h)

-- ---- one nesting beside another

-- so many open signs above these, and at each the open count of the first is no more than that of the second
pub data Stills (s t : List ℕ) : ℕ → List ℕ → List ℕ → Type 0 where
  level : sum s ≤ sum t → Stills s t zero s t
  higher : {k : ℕ} {p q : List ℕ} {a b : ℕ} → Stills s t k p q → sum (a ∷ p) ≤ sum (b ∷ q) → Stills s t (suc k) (a ∷ p) (b ∷ q)

-- two runs are of one token, or one of them is none
pub data RunsFit (p q : Run) : Type 0 where
  same : p.role ≡ q.role → RunsFit p q
  first_none : p.len ≡ 0 → RunsFit p q
  second_none : q.len ≡ 0 → RunsFit p q

pub record IsBelow (s t : List ℕ) (k : ℕ) (n m : Nesting) : Type 0 where
  pub stills : Stills s t k n.still m.still
  pub reach : deep n ≤ deep m
  pub runs : RunsFit n.run m.run

pub stills_below : {s t : List ℕ} {k : ℕ} {p q : List ℕ} → Stills s t k p q → sum p ≤ sum q
stills_below (level h) = h
stills_below (higher h g) = g

pub second_is : {s t p q : List ℕ} → Stills s t zero p q → q ≡ t
second_is (level h) = refl

-- ---- one token more in both

minus_run : (p : Role) (n : ℕ) → (1 ≤ longer role.Minus p n) × (longer role.Minus p n ≤ n + 1)
minus_run role.Opening n = omega arith
minus_run role.Closing n = omega arith
minus_run role.Minus n = omega arith
minus_run role.Not n = omega arith
minus_run role.Other n = omega arith

not_run : (p : Role) (n : ℕ) → (1 ≤ longer role.Not p n) × (longer role.Not p n ≤ n + 1)
not_run role.Opening n = omega arith
not_run role.Closing n = omega arith
not_run role.Minus n = omega arith
not_run role.Not n = omega arith
not_run role.Other n = omega arith

same_minus : (p : Role) (x y a b : ℕ) → x ≤ y → x + a ≤ y + b → x + longer role.Minus p a ≤ y + longer role.Minus p b
same_minus role.Opening x y a b g h = omega arith
same_minus role.Closing x y a b g h = omega arith
same_minus role.Minus x y a b g h = omega arith
same_minus role.Not x y a b g h = omega arith
same_minus role.Other x y a b g h = omega arith

same_not : (p : Role) (x y a b : ℕ) → x ≤ y → x + a ≤ y + b → x + longer role.Not p a ≤ y + longer role.Not p b
same_not role.Opening x y a b g h = omega arith
same_not role.Closing x y a b g h = omega arith
same_not role.Minus x y a b g h = omega arith
same_not role.Not x y a b g h = omega arith
same_not role.Other x y a b g h = omega arith

minus_reach : (p q : Run) (x y : ℕ) → x ≤ y → x + p.len ≤ y + q.len → RunsFit p q → x + longer role.Minus p.role p.len ≤ y + longer role.Minus q.role q.len
minus_reach p q x y g h (same e) = rw (← e) (same_minus p.role x y p.len q.len g h)
minus_reach p q x y g h (first_none e) = let a = minus_run p.role p.len in let b = minus_run q.role q.len in omega (arith, a.1, b.0, e)
minus_reach p q x y g h (second_none e) = let a = minus_run p.role p.len in let b = minus_run q.role q.len in omega (arith, a.1, b.0, e)

not_reach : (p q : Run) (x y : ℕ) → x ≤ y → x + p.len ≤ y + q.len → RunsFit p q → x + longer role.Not p.role p.len ≤ y + longer role.Not q.role q.len
not_reach p q x y g h (same e) = rw (← e) (same_not p.role x y p.len q.len g h)
not_reach p q x y g h (first_none e) = let a = not_run p.role p.len in let b = not_run q.role q.len in omega (arith, a.1, b.0, e)
not_reach p q x y g h (second_none e) = let a = not_run p.role p.len in let b = not_run q.role q.len in omega (arith, a.1, b.0, e)

module _ {s t : List ℕ} {k : ℕ} (n m : Nesting) (h : IsBelow s t k n m) where
  pub minus_step : IsBelow s t k (step n role.Minus) (step m role.Minus)
  minus_step = record { stills = h.stills; reach = minus_reach n.run m.run (sum n.still) (sum m.still) (stills_below h.stills) h.reach h.runs; runs = same refl }

  pub not_step : IsBelow s t k (step n role.Not) (step m role.Not)
  not_step = record { stills = h.stills; reach = not_reach n.run m.run (sum n.still) (sum m.still) (stills_below h.stills) h.reach h.runs; runs = same refl }

  pub other_step : IsBelow s t k (step n role.Other) (step m role.Other)
  other_step = let b = stills_below h.stills in record { stills = h.stills; reach = omega arith; runs = same refl }

  pub opening_step : IsBelow s t (suc k) (step n role.Opening) (step m role.Opening)
  opening_step =
      let r = h.reach in
      let a = sum_by-cons (λ (x : ℕ). x) (1 + n.run.len) n.still in
      let b = sum_by-cons (λ (x : ℕ). x) (1 + m.run.len) m.still in
      let le : sum ((1 + n.run.len) ∷ n.still) ≤ sum ((1 + m.run.len) ∷ m.still) = omega (arith, a, b, r) in
      record { stills = higher h.stills le; reach = omega (arith, le); runs = same refl }

pub closed : {s t p q : List ℕ} {k : ℕ} (x y : ℕ) → Stills s t (suc k) p q → Stills s t k (next_open p x role.Closing) (next_open q y role.Closing)
closed x y (higher h g) = h

pub closing_step : {s t : List ℕ} {k : ℕ} (n m : Nesting) → IsBelow s t (suc k) n m → IsBelow s t k (step n role.Closing) (step m role.Closing)
closing_step n m h = let c = closed n.run.len m.run.len h.stills in let b = stills_below c in record { stills = c; reach = omega arith; runs = same refl }
