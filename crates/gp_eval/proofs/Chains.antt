-- Chains, operand by operand, and their sizes.
use Rattle.std.proofs.Common.{◌≡◌, ℕ, zero, suc, ℤ, pos, negsuc, neg_ℤ, if◌then◌else◌, ◌+◌, ◌<◌, ◌≤◌, List, [], ◌∷◌, ◌++◌, length, map, drop, fold, get_or, All, refl, sym, ap, subst, ◌∙◌, arith, Result, Ok, Err, IsErrAnd, Bool, true, false, ◌==◌}
use Rattle.std.specs.Prelude.{◌↔◌, IsTrue, Option, Some, None, ◌+ℤ◌, ◌-ℤ◌, ◌*ℤ◌, int_div}
use mir.Val.{SFits, to_z, of_z}
use mir.Syntax.{w128}
use Rattle.std.proofs.lemmas.Int.{to_z-of_z}
use Rattle.std.proofs.lemmas.Bool.Decides.{Decides-eqb}
use Rattle.gp_values.specs.declared.atom.Atom.{Atom}
use Rattle.gp_values.specs.declared.atom.Atom.TheVariants.{Str}
use Rattle.gp_syntax.specs.declared.expression.Expr.{Expr}
use Rattle.gp_syntax.specs.declared.expression.Expr.TheVariants as tree
use Rattle.gp_syntax.specs.declared.expression.Expr.TheOpen.{Expr-F}
use Rattle.gp_syntax.specs.declared.expression.Expr.TheFolds.{fold-roll-Expr}
use Rattle.gp_syntax.specs.declared.expression.Signed.{Signed}
use Rattle.gp_syntax.specs.declared.expression.SumSign.{SumSign}
use Rattle.gp_syntax.specs.declared.expression.SumSign.TheVariants as sums
use Rattle.gp_syntax.specs.declared.expression.ProductSign.{ProductSign}
use Rattle.gp_syntax.specs.declared.expression.ProductSign.TheVariants as products
use Rattle.gp_syntax.specs.Expression.{Expression, Dot, Join}
use Rattle.gp_syntax.specs.Tree.{expression_of, operands_of, sum as summed, product, dots, joins, added as plus, multiplied as times}
use Rattle.gp_syntax.specs.Value.{Setting, Valued, Value, NoValue, ◌>>=◌, value_of, ranged, quotient, integer, characters, number}
use Rattle.gp_syntax.specs.declared.kinds.NumberKind.TheVariants.{PastBits}
use Rattle.gp_eval.specs.inside.Compared.{IsListed}
use Rattle.gp_eval.specs.Answer.{presence}
use Rattle.gp_syntax.specs.declared.kinds.NumberKind.{NumberKind}
use Rattle.std.proofs.lemmas.Option.{none-some, same_Some}
use Rattle.gp_syntax.specs.WellFormed.{IsWithin}
use Rattle.gp_eval.specs.declared.valued.Missing.{Missing}
use Rattle.gp_eval.specs.declared.valued.Missing.TheVariants as missing
use Rattle.gp_eval.specs.inside.Chains.{Values, Lacks, Gives, counted, opposite, added, multiplied, sum_step, product_step, dot_step, join_step}
use Rattle.gp_eval.specs.inside.Size.{total, size_step, size, sizes, operand_sizes}

module _ {X : Type 0} (val : X → Values) (f : X → List Atom → List Atom → Values) where
  abbrev pub step : Values → X → Values
  step v x = v >>= λ a. val x >>= λ b. f x a b

  stays : (k : _) (xs : List X) → fold step (NoValue k) xs ≡ NoValue k
  stays k [] = refl
  stays k (x ∷ xs) = stays k xs

  goes_on : (v w : Values) (i : ℕ) (x : X) (xs : List X) → i < length xs → get_or xs i x ≡ x → step v x ≡ w → (m : Values) → fold step v (drop i xs) ≡ m → fold step w (drop (suc i) xs) ≡ m
  goes_on v w i x [] l e s m h = absurd (omega arith)
  goes_on v w zero x (y ∷ xs) l e s m h = ap (λ z. fold step z xs) (sym s ∙ ap (step v) (sym e)) ∙ h
  goes_on v w (suc i) x (y ∷ xs) l e s m h = goes_on v w i x xs (omega arith) e s m h

  -- one operand more
  pub chain_on : (total y w : List Atom) (i : ℕ) (x : X) (xs : List X) (m : Values) → i < length xs → get_or xs i x ≡ x → val x ≡ Value y → f x total y ≡ Value w → fold step (Value total) (drop i xs) ≡ m → fold step (Value w) (drop (i + 1) xs) ≡ m
  chain_on total y w i x xs m l e v s h =
      let n : suc i ≡ i + 1 = omega arith in
      subst (λ k. fold step (Value w) (drop k xs) ≡ m) n (goes_on (Value total) (Value w) i x xs l e (ap (λ z. z >>= λ b. f x total b) v ∙ s) m h)

  lacks : (e : Missing) (v : Values) (i : ℕ) (x : X) (xs : List X) (m : Values) → i < length xs → get_or xs i x ≡ x → Lacks e (step v x) → fold step v (drop i xs) ≡ m → Lacks e m
  lacks (missing.NoValue k) v i x xs m l e s h = sym (goes_on v (NoValue k) i x xs l e s m h) ∙ stays k (drop (suc i) xs)
  lacks missing.NoMemory v i x xs m l e s h = tt

  -- an operand without a value
  pub operand_lacks : (e : Missing) (total : List Atom) (i : ℕ) (x : X) (xs : List X) (m : Values) → i < length xs → get_or xs i x ≡ x → Lacks e (val x) → fold step (Value total) (drop i xs) ≡ m → Lacks e m
  operand_lacks (missing.NoValue k) total i x xs m l e s h = lacks (missing.NoValue k) (Value total) i x xs m l e (ap (λ z. z >>= λ b. f x total b) s) h
  operand_lacks missing.NoMemory total i x xs m l e s h = tt

  -- and an operation without one
  pub step_lacks : (e : Missing) (total y : List Atom) (i : ℕ) (x : X) (xs : List X) (m : Values) → i < length xs → get_or xs i x ≡ x → val x ≡ Value y → Lacks e (f x total y) → fold step (Value total) (drop i xs) ≡ m → Lacks e m
  step_lacks (missing.NoValue k) total y i x xs m l e v s h = lacks (missing.NoValue k) (Value total) i x xs m l e (ap (λ z. z >>= λ b. f x total b) v ∙ s) h
  step_lacks missing.NoMemory total y i x xs m l e v s h = tt

  -- the first operand without a value
  pub first_lacks : (e : Missing) (v : Values) (xs : List X) → Lacks e v → Lacks e (fold step v xs)
  first_lacks (missing.NoValue k) v xs h = ap (λ z. fold step z xs) h ∙ stays k xs
  first_lacks missing.NoMemory v xs h = tt

-- ---- what chains mean

pub sum_is : (s : Setting) (e : Expression ℕ) (ts : List (Signed SumSign (Expr ℕ))) → value_of (summed e (operands_of ts)) s ≡ fold (sum_step s) (value_of e s) ts
sum_is s e [] = refl
sum_is s e (t ∷ ts) = sum_is s (plus t.sign e (expression_of t.operand)) ts ∙ ap (λ v. fold (sum_step s) v ts) (by t.sign)
  where
    by : (sign : SumSign) → value_of (plus sign e (expression_of t.operand)) s ≡ sum_step s (value_of e s) (record { sign = sign; operand = t.operand })
    by sums.Plus = refl
    by sums.Minus = refl

pub product_is : (s : Setting) (e : Expression ℕ) (ts : List (Signed ProductSign (Expr ℕ))) → value_of (product e (operands_of ts)) s ≡ fold (product_step s) (value_of e s) ts
product_is s e [] = refl
product_is s e (t ∷ ts) = product_is s (times t.sign e (expression_of t.operand)) ts ∙ ap (λ v. fold (product_step s) v ts) (by t.sign)
  where
    by : (sign : ProductSign) → value_of (times sign e (expression_of t.operand)) s ≡ product_step s (value_of e s) (record { sign = sign; operand = t.operand })
    by products.Times = refl
    by products.Over = refl

pub dots_are : (s : Setting) (e : Expression ℕ) (xs : List (Expr ℕ)) → value_of (dots e (map expression_of xs)) s ≡ fold (dot_step s) (value_of e s) xs
dots_are s e [] = refl
dots_are s e (x ∷ xs) = dots_are s (Dot e (expression_of x)) xs

pub joins_are : (s : Setting) (e : Expression ℕ) (xs : List (Expr ℕ)) → value_of (joins e (map expression_of xs)) s ≡ fold (join_step s) (value_of e s) xs
joins_are s e [] = refl
joins_are s e (x ∷ xs) = joins_are s (Join e (expression_of x)) xs

-- ---- their parts are within

pub within_sum : (v n : ℕ) (e : Expression ℕ) (ts : List (Signed SumSign (Expr ℕ))) → IsWithin v n (summed e (operands_of ts)) → IsWithin v n e × All (λ (t : Signed SumSign (Expr ℕ)). IsWithin v n (expression_of t.operand)) ts
within_sum v n e [] h = (h, λ k d l. absurd (omega arith))
within_sum v n e (t ∷ ts) h = by t.sign (within_sum v n (plus t.sign e (expression_of t.operand)) ts h)
  where
    at : IsWithin v n (expression_of t.operand) → All (λ (t : Signed SumSign (Expr ℕ)). IsWithin v n (expression_of t.operand)) ts → All (λ (t : Signed SumSign (Expr ℕ)). IsWithin v n (expression_of t.operand)) (t ∷ ts)
    at h k zero d l = h
    at h k (suc i) d l = k i d (omega arith)

    by : (sign : SumSign) → IsWithin v n (plus sign e (expression_of t.operand)) × All (λ (t : Signed SumSign (Expr ℕ)). IsWithin v n (expression_of t.operand)) ts → IsWithin v n e × All (λ (t : Signed SumSign (Expr ℕ)). IsWithin v n (expression_of t.operand)) (t ∷ ts)
    by sums.Plus h = (h.0.0, at h.0.1 h.1)
    by sums.Minus h = (h.0.0, at h.0.1 h.1)

pub within_product : (v n : ℕ) (e : Expression ℕ) (ts : List (Signed ProductSign (Expr ℕ))) → IsWithin v n (product e (operands_of ts)) → IsWithin v n e × All (λ (t : Signed ProductSign (Expr ℕ)). IsWithin v n (expression_of t.operand)) ts
within_product v n e [] h = (h, λ k d l. absurd (omega arith))
within_product v n e (t ∷ ts) h = by t.sign (within_product v n (times t.sign e (expression_of t.operand)) ts h)
  where
    at : IsWithin v n (expression_of t.operand) → All (λ (t : Signed ProductSign (Expr ℕ)). IsWithin v n (expression_of t.operand)) ts → All (λ (t : Signed ProductSign (Expr ℕ)). IsWithin v n (expression_of t.operand)) (t ∷ ts)
    at h k zero d l = h
    at h k (suc i) d l = k i d (omega arith)

    by : (sign : ProductSign) → IsWithin v n (times sign e (expression_of t.operand)) × All (λ (t : Signed ProductSign (Expr ℕ)). IsWithin v n (expression_of t.operand)) ts → IsWithin v n e × All (λ (t : Signed ProductSign (Expr ℕ)). IsWithin v n (expression_of t.operand)) (t ∷ ts)
    by products.Times h = (h.0.0, at h.0.1 h.1)
    by products.Over h = (h.0.0, at h.0.1 h.1)

all_behind : (v n : ℕ) (x : Expr ℕ) (xs : List (Expr ℕ)) → IsWithin v n (expression_of x) → All (λ (t : Expr ℕ). IsWithin v n (expression_of t)) xs → All (λ (t : Expr ℕ). IsWithin v n (expression_of t)) (x ∷ xs)
all_behind v n x xs h k zero d l = h
all_behind v n x xs h k (suc i) d l = k i d (omega arith)

pub within_dots : (v n : ℕ) (e : Expression ℕ) (xs : List (Expr ℕ)) → IsWithin v n (dots e (map expression_of xs)) → IsWithin v n e × All (λ (t : Expr ℕ). IsWithin v n (expression_of t)) xs
within_dots v n e [] h = (h, λ k d l. absurd (omega arith))
within_dots v n e (x ∷ xs) h = let k = within_dots v n (Dot e (expression_of x)) xs h in (k.0.0, all_behind v n x xs k.0.1 k.1)

pub within_joins : (v n : ℕ) (e : Expression ℕ) (xs : List (Expr ℕ)) → IsWithin v n (joins e (map expression_of xs)) → IsWithin v n e × All (λ (t : Expr ℕ). IsWithin v n (expression_of t)) xs
within_joins v n e [] h = (h, λ k d l. absurd (omega arith))
within_joins v n e (x ∷ xs) h = let k = within_joins v n (Join e (expression_of x)) xs h in (k.0.0, all_behind v n x xs k.0.1 k.1)

-- ---- sizes

pub size-Negated : (e : Expr ℕ) → size (tree.Negated e) ≡ 2 + size e
unfolding size
size-Negated e = ap size (sym (tree.rolls-Negated e)) ∙ fold-roll-Expr ℕ ℕ size_step (Expr-F.Negated e)

pub size-Sum : (e : Expr ℕ) (ts : List (Signed SumSign (Expr ℕ))) → size (tree.Sum e ts) ≡ 3 + size e + operand_sizes ts
unfolding size
size-Sum e ts = ap size (sym (tree.rolls-Sum e ts)) ∙ fold-roll-Expr ℕ ℕ size_step (Expr-F.Sum e ts) ∙ ap (λ n. 3 + size e + total n) (twice ts)
  where
    twice : (ts : List (Signed SumSign (Expr ℕ))) → map (λ (t : Signed SumSign ℕ). t.operand) (map (λ (t : Signed SumSign (Expr ℕ)). record { sign = t.sign; operand = size t.operand }) ts) ≡ map (λ (t : Signed SumSign (Expr ℕ)). size t.operand) ts
    twice [] = refl
    twice (t ∷ ts) = λ i. size t.operand ∷ twice ts i

pub size-Product : (e : Expr ℕ) (ts : List (Signed ProductSign (Expr ℕ))) → size (tree.Product e ts) ≡ 3 + size e + operand_sizes ts
unfolding size
size-Product e ts = ap size (sym (tree.rolls-Product e ts)) ∙ fold-roll-Expr ℕ ℕ size_step (Expr-F.Product e ts) ∙ ap (λ n. 3 + size e + total n) (twice ts)
  where
    twice : (ts : List (Signed ProductSign (Expr ℕ))) → map (λ (t : Signed ProductSign ℕ). t.operand) (map (λ (t : Signed ProductSign (Expr ℕ)). record { sign = t.sign; operand = size t.operand }) ts) ≡ map (λ (t : Signed ProductSign (Expr ℕ)). size t.operand) ts
    twice [] = refl
    twice (t ∷ ts) = λ i. size t.operand ∷ twice ts i

pub size-Dot : (e : Expr ℕ) (es : List (Expr ℕ)) → size (tree.Dot e es) ≡ 2 + size e + sizes es
unfolding size
size-Dot e es = ap size (sym (tree.rolls-Dot e es)) ∙ fold-roll-Expr ℕ ℕ size_step (Expr-F.Dot e es)

pub size-Join : (e : Expr ℕ) (es : List (Expr ℕ)) → size (tree.Join e es) ≡ 2 + size e + sizes es
unfolding size
size-Join e es = ap size (sym (tree.rolls-Join e es)) ∙ fold-roll-Expr ℕ ℕ size_step (Expr-F.Join e es)

pub size_at : (es : List (Expr ℕ)) (i : ℕ) (d : Expr ℕ) → i < length es → size (get_or es i d) ≤ sizes es
size_at [] i d l = absurd (omega arith)
size_at (e ∷ es) zero d l = omega arith
size_at (e ∷ es) (suc i) d l = omega (arith, size_at es i d (omega arith))

pub operand_size_at : {Sign : Type 0} (ts : List (Signed Sign (Expr ℕ))) (i : ℕ) (d : Signed Sign (Expr ℕ)) → i < length ts → size (get_or ts i d).operand ≤ operand_sizes ts
operand_size_at [] i d l = absurd (omega arith)
operand_size_at (t ∷ ts) zero d l = omega arith
operand_size_at (t ∷ ts) (suc i) d l = omega (arith, operand_size_at ts i d (omega arith))

-- ---- answers that `?` hands on

pub err_given : {X : Type 0} (r : Result X Missing) (e : Missing) (m : Valued X) → IsErrAnd r (λ k. k ≡ e) → Lacks e m → Gives r m
err_given (Ok x) e m h k = absurd h
err_given (Err d) e m h k = subst (λ z. Lacks z m) (sym h) k

pub none_given : {X : Type 0} (r : Result X Missing) (m : Valued X) → IsErrAnd r (λ k. k ≡ missing.NoMemory) → Gives r m
none_given r m h = err_given r missing.NoMemory m h tt

pub memory_given : {X : Type 0} (r : Result X Missing) (e : Missing) (m : Valued X) → IsErrAnd r (λ k. k ≡ e) → e ≡ missing.NoMemory → Gives r m
memory_given r e m h k = err_given r e m h (subst (λ z. Lacks z m) (sym k) tt)

pub bind_lacks : {X Y : Type 0} (e : Missing) (v : Valued X) (f : X → Valued Y) → Lacks e v → Lacks e (v >>= f)
bind_lacks (missing.NoValue k) v f h = ap (λ z. z >>= f) h
bind_lacks missing.NoMemory v f h = tt

-- past the last operand
pub ended : {X : Type 0} (f : Values → X → Values) (v m : Values) (i : ℕ) (xs : List X) → length xs ≤ i → fold f v (drop i xs) ≡ m → m ≡ v
ended f v m zero [] l h = sym h
ended f v m (suc i) [] l h = sym h
ended f v m zero (x ∷ xs) l h = absurd (omega arith)
ended f v m (suc i) (x ∷ xs) l h = ended f v m i xs (omega arith) h

-- ---- sums and products, of which the integers are kept

-- an integer that a call is given by its bits
pub passed : (m : Valued ℤ) (z : ℤ) → SFits w128 z → m ≡ Value z → m ≡ Value (to_z w128 (of_z w128 z))
passed m z f h = h ∙ ap Value (sym (to_z-of_z w128 z f))

module _ {X : Type 0} (val : X → Values) (op : X → ℤ → ℤ → Values) where
  abbrev by_lists : X → List Atom → List Atom → Values
  by_lists x a b = op x (integer a) (integer b)

  abbrev pub count : Values → X → Values
  count = step val by_lists

  -- a step by integers
  counted_step : (v : Values) (x : X) → counted (count v x) ≡ (counted v >>= λ a. counted (val x) >>= λ b. counted (op x a b))
  counted_step v x = by v (val x)
    where
      by : (v w : Values) → counted (v >>= λ a. w >>= λ b. by_lists x a b) ≡ (counted v >>= λ a. counted w >>= λ b. counted (op x a b))
      by (NoValue k) w = refl
      by (Value a) (NoValue k) = refl
      by (Value a) (Value b) = refl

  -- of what is valued so far the integer alone tells the rest
  pub by_integer : (v : Values) (z : ℤ) (xs : List X) → counted v ≡ Value z → counted (fold count (Value (number z)) xs) ≡ counted (fold count v xs)
  by_integer (NoValue k) z xs h = absurd cc
  by_integer (Value a) z [] h = sym h
  by_integer (Value a) z (x ∷ xs) h = let e : z ≡ integer a = cc in ap (λ y. counted (fold count (val x >>= λ b. op x y (integer b)) xs)) e

  -- without one, there is none for the rest
  pub first_uncounted : (e : Missing) (v : Values) (xs : List X) → Lacks e (counted v) → Lacks e (counted (fold count v xs))
  first_uncounted (missing.NoValue k) (Value a) xs h = absurd cc
  first_uncounted (missing.NoValue k) (NoValue j) xs h = ap counted (stays val by_lists j xs) ∙ h
  first_uncounted missing.NoMemory v xs h = tt

  next : (z : ℤ) (i : ℕ) (x : X) (xs : List X) → i < length xs → x ≡ get_or xs i x → counted (fold count (count (Value (number z)) x) (drop (suc i) xs)) ≡ counted (fold count (Value (number z)) (drop i xs))
  next z i x xs l e = ap counted (goes_on val by_lists (Value (number z)) (count (Value (number z)) x) i x xs l (sym e) refl _ refl)

  lacks_next : (e : Missing) (z : ℤ) (i : ℕ) (x : X) (xs : List X) (m : Valued ℤ) → i < length xs → x ≡ get_or xs i x → Lacks e (counted (count (Value (number z)) x)) → counted (fold count (Value (number z)) (drop i xs)) ≡ m → Lacks e m
  lacks_next (missing.NoValue k) z i x xs m l e s h = sym h ∙ sym (next z i x xs l e) ∙ first_uncounted (missing.NoValue k) (count (Value (number z)) x) (drop (suc i) xs) s
  lacks_next missing.NoMemory z i x xs m l e s h = tt

  -- an operand without an integer
  pub operand_uncounted : (e : Missing) (z : ℤ) (i : ℕ) (x : X) (xs : List X) (m : Valued ℤ) → i < length xs → x ≡ get_or xs i x → Lacks e (counted (val x)) → counted (fold count (Value (number z)) (drop i xs)) ≡ m → Lacks e m
  operand_uncounted (missing.NoValue k) z i x xs m l e s h = lacks_next (missing.NoValue k) z i x xs m l e (counted_step (Value (number z)) x ∙ ap (λ w. w >>= λ y. counted (op x z y)) s) h
  operand_uncounted missing.NoMemory z i x xs m l e s h = tt

  -- and an operation without one
  pub step_uncounted : (e : Missing) (z y : ℤ) (i : ℕ) (x : X) (xs : List X) (m : Valued ℤ) → i < length xs → x ≡ get_or xs i x → counted (val x) ≡ Value y → Lacks e (counted (op x z y)) → counted (fold count (Value (number z)) (drop i xs)) ≡ m → Lacks e m
  step_uncounted (missing.NoValue k) z y i x xs m l e v s h = lacks_next (missing.NoValue k) z i x xs m l e (counted_step (Value (number z)) x ∙ ap (λ w. w >>= λ y. counted (op x z y)) v ∙ s) h
  step_uncounted missing.NoMemory z y i x xs m l e v s h = tt

  -- one operand more
  pub counted_on : (z y u : ℤ) (i : ℕ) (x : X) (xs : List X) (m : Valued ℤ) → i < length xs → x ≡ get_or xs i x → counted (val x) ≡ Value y → counted (op x z y) ≡ Value u → counted (fold count (Value (number z)) (drop i xs)) ≡ m → counted (fold count (Value (number u)) (drop (i + 1) xs)) ≡ m
  counted_on z y u i x xs m l e v w h =
      let n : suc i ≡ i + 1 = omega arith in
      let s = counted_step (Value (number z)) x ∙ ap (λ w. w >>= λ y. counted (op x z y)) v ∙ w in
      subst (λ j. counted (fold count (Value (number u)) (drop j xs)) ≡ m) n (by_integer (count (Value (number z)) x) u (drop (suc i) xs) s ∙ next z i x xs l e ∙ h)

  -- past the last operand
  pub counted_all : (z : ℤ) (i : ℕ) (xs : List X) (m : Valued ℤ) → length xs ≤ i → counted (fold count (Value (number z)) (drop i xs)) ≡ m → m ≡ Value z
  counted_all z i xs m l h = sym h ∙ ap counted (ended count (Value (number z)) _ i xs l refl)

  -- the value of a chain with a further operand is a list of one integer
  chain_listed : ((x : X) (a b : ℤ) → IsListed (op x a b)) → (v : Values) (xs : List X) → (xs ≡ [] → ⊥) → IsListed (fold count v xs)
  chain_listed h v [] d = absurd (d refl)
  chain_listed h v (x ∷ xs) d = onwards (count v x) xs (one v (val x) x)
    where
      one : (v w : Values) (x : X) → IsListed (v >>= λ a. w >>= λ b. by_lists x a b)
      one (NoValue k) w x = refl
      one (Value a) (NoValue k) x = refl
      one (Value a) (Value b) x = h x (integer a) (integer b)

      onwards : (v : Values) (xs : List X) → IsListed v → IsListed (fold count v xs)
      onwards v [] e = e
      onwards v (x ∷ xs) e = onwards (count v x) xs (one v (val x) x)

ranged_listed : (z : ℤ) → IsListed (ranged z)
ranged_listed z = by _
  where
    by : (b : Bool) → IsListed (if b then Value (number z) else NoValue PastBits)
    by true = refl
    by false = refl

quotient_listed : (x y : ℤ) → IsListed (quotient x y)
quotient_listed x (pos zero) = refl
quotient_listed x (pos (suc n)) = ranged_listed (int_div x (pos (suc n)))
quotient_listed x (negsuc n) = ranged_listed (int_div x (negsuc n))

pub quotient_is : (x y : ℤ) → (y ≡ pos 0 → ⊥) → quotient x y ≡ ranged (int_div x y)
quotient_is x (pos zero) n = absurd (n refl)
quotient_is x (pos (suc n)) h = refl
quotient_is x (negsuc n) h = refl

added_listed : (sign : SumSign) (x y : ℤ) → IsListed (added sign x y)
added_listed sums.Plus x y = ranged_listed (x +ℤ y)
added_listed sums.Minus x y = ranged_listed (x -ℤ y)

multiplied_listed : (sign : ProductSign) (x y : ℤ) → IsListed (multiplied sign x y)
multiplied_listed products.Times x y = ranged_listed (x *ℤ y)
multiplied_listed products.Over x y = quotient_listed x y

pub sum_listed : (s : Setting) (v : Values) (ts : List (Signed SumSign (Expr ℕ))) → (ts ≡ [] → ⊥) → IsListed (fold (sum_step s) v ts)
sum_listed s v ts d = chain_listed (λ t. value_of (expression_of t.operand) s) (λ t x y. added t.sign x y) (λ t a b. added_listed t.sign a b) v ts d

pub product_listed : (s : Setting) (v : Values) (ts : List (Signed ProductSign (Expr ℕ))) → (ts ≡ [] → ⊥) → IsListed (fold (product_step s) v ts)
product_listed s v ts d = chain_listed (λ t. value_of (expression_of t.operand) s) (λ t x y. multiplied t.sign x y) (λ t a b. multiplied_listed t.sign a b) v ts d

-- minus an integer
pub negated_counted : (v : Values) → counted (v >>= λ x. ranged (neg_ℤ (integer x))) ≡ opposite (counted v)
negated_counted (Value x) = refl
negated_counted (NoValue k) = refl

pub negated_listed : (v : Values) → IsListed (v >>= λ x. ranged (neg_ℤ (integer x)))
negated_listed (Value x) = ranged_listed (neg_ℤ (integer x))
negated_listed (NoValue k) = refl

-- ---- strings and lists

-- of the first operand a chain of strings has the characters alone
pub dot_first : (s : Setting) (v : List Atom) (cs : List ℕ) (xs : List (Expr ℕ)) → cs ≡ characters v → (xs ≡ [] → ⊥) → fold (dot_step s) (Value (Str cs ∷ [])) xs ≡ fold (dot_step s) (Value v) xs
dot_first s v cs [] e d = absurd (d refl)
dot_first s v cs (x ∷ xs) e d = ap (λ z. fold (dot_step s) (value_of (expression_of x) s >>= λ y. Value (Str (z ++ characters y) ∷ [])) xs) e

pub dot_on : (s : Setting) (cs ds : List ℕ) (y : List Atom) (i : ℕ) (x : Expr ℕ) (xs : List (Expr ℕ)) (m : Values) → i < length xs → x ≡ get_or xs i x → value_of (expression_of x) s ≡ Value y
    → ds ≡ cs ++ characters y → fold (dot_step s) (Value (Str cs ∷ [])) (drop i xs) ≡ m → fold (dot_step s) (Value (Str ds ∷ [])) (drop (i + 1) xs) ≡ m
dot_on s cs ds y i x xs m l e v h k =
    chain_on (λ z. value_of (expression_of z) s) (λ z a b. Value (Str (characters a ++ characters b) ∷ [])) (Str cs ∷ []) y (Str ds ∷ []) i x xs m l (sym e) v (ap (λ z. Value (Str z ∷ [])) (sym h)) k

pub join_on : (s : Setting) (total y w : List Atom) (i : ℕ) (x : Expr ℕ) (xs : List (Expr ℕ)) (m : Values) → i < length xs → x ≡ get_or xs i x → value_of (expression_of x) s ≡ Value y
    → Value (total ++ y) ≡ Value w → fold (join_step s) (Value total) (drop i xs) ≡ m → fold (join_step s) (Value w) (drop (i + 1) xs) ≡ m
join_on s total y w i x xs m l e v h k = chain_on (λ z. value_of (expression_of z) s) (λ z a b. Value (a ++ b)) total y w i x xs m l (sym e) v h k

pub empty_fold : {X : Type 0} (f : Values → X → Values) (v w : Values) (xs : List X) (b : Bool) → b ≡ (length xs == 0) → b ≡ true → v ≡ w → fold f v xs ≡ w
empty_fold f v w [] b e t h = h
empty_fold f v w (x ∷ xs) b e t h = let l : length (x ∷ xs) ≡ 0 = (Decides-eqb (length (x ∷ xs)) 0).0 (sym e ∙ t) in absurd (omega arith)

pub not_empty : {X : Type 0} (xs : List X) (b : Bool) → b ≡ (length xs == 0) → b ≡ false → xs ≡ [] → ⊥
not_empty xs b e f s = let t : (length xs == 0) ≡ true = (Decides-eqb (length xs) 0).1 (ap length s) in absurd (let d : false ≡ true = sym f ∙ e ∙ t in cc)

-- a chain with further operands, where the list of them was asked
pub some_left : {X : Type 0} (xs : List X) (b : Bool) → IsTrue b ↔ (xs ≡ []) → b ≡ false → xs ≡ [] → ⊥
some_left xs b is f e = absurd (let d : false ≡ true = sym f ∙ is.1 e in cc)

-- ---- whether there is a value

abbrev kind_told : Valued (Unit {0}) → Option NumberKind
kind_told (Value u) = None
kind_told (NoValue k) = Some k

pub present : (v : Values) (u : Unit {0}) → presence v ≡ Value u → (x : List Atom) × (v ≡ Value x)
present (Value x) u h = (x, refl)
present (NoValue k) u h = absurd (none-some k (sym (ap kind_told h)))

pub absent : (e : Missing) (v : Values) → Lacks e (presence v) → Lacks e v
absent (missing.NoValue k) (Value x) h = absurd (none-some k (ap kind_told h))
absent (missing.NoValue k) (NoValue j) h = ap NoValue (same_Some j k (ap kind_told h))
absent missing.NoMemory v h = tt
