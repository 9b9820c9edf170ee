-- What is told is taken back.
use Rattle.std.proofs.Common.{◌≡◌, inl, inr, ℕ, zero, suc, ◌+◌, ◌<◌, ◌≤◌, min, List, [], ◌∷◌, ◌++◌, length, take, drop, Option, Some, None, slice_get, slice_set, refl, sym, ap, subst, ◌∙◌, arith, append-nil, append_assoc, length-append, All}
use Rattle.std.proofs.lemmas.Option.{none-some}
use Rattle.std.proofs.lemmas.Bool.{cases_eq, cases_lt}
use Rattle.std.proofs.lemmas.List.{length-set, drop-append-le, drop_all, take-append-le, take_all}
use Rattle.std.proofs.lemmas.List.Elements.{All-append, All-nil, All-cons}
use Rattle.gp_memory.proofs.Basics.{set_back}
use Rattle.gp_values.specs.declared.atom.Atom.{Atom}
use Rattle.gp_syntax.specs.Assigned.{PartialAssignment}
use Rattle.gp_unify.specs.Extension.{known_of}
use Rattle.gp_unify.specs.Trail.{cleared, Grown}
use Rattle.gp_unify.specs.Unify.{with_value}
use Rattle.gp_unify.proofs.Unifies.{with_here, with_apart}

-- ---- lists

set_here : {X : Type 0} (xs : List X) (i : ℕ) (y n : X) → slice_get xs i ≡ Some n → slice_get (slice_set xs i y) i ≡ Some y
set_here [] i y n e = absurd (none-some n e)
set_here (x ∷ xs) zero y n e = refl
set_here (x ∷ xs) (suc i) y n e = set_here xs i y n e

set_apart : {X : Type 0} (xs : List X) (i j : ℕ) (y : X) → (j ≡ i → ⊥) → slice_get (slice_set xs i y) j ≡ slice_get xs j
set_apart [] i j y d = refl
set_apart (x ∷ xs) zero zero y d = absurd (d refl)
set_apart (x ∷ xs) zero (suc j) y d = refl
set_apart (x ∷ xs) (suc i) zero y d = refl
set_apart (x ∷ xs) (suc i) (suc j) y d = set_apart xs i j y (λ e. d (ap suc e))

-- ---- what is known

abbrev pub with_set : PartialAssignment → ℕ → Option (List Atom) → PartialAssignment
with_set a x o = record a { values = slice_set a.values x o }

known_at : (a : PartialAssignment) (x : ℕ) (o : Option (List Atom)) → slice_get a.values x ≡ Some o → known_of a x ≡ o
known_at a x o e = rw e refl

pub known_set : (a : PartialAssignment) (x : ℕ) (v : List Atom) → slice_get a.values x ≡ Some None → known_of (with_set a x (Some v)) ≡ with_value (known_of a) x v
known_set a x v e =
    let same : (y : ℕ) → known_of (with_set a x (Some v)) y ≡ with_value (known_of a) x v y = λ y.
    elim (cases_eq y x) [
      | inl s ↦ rw s (known_at (with_set a x (Some v)) x (Some v) (set_here a.values x (Some v) None e) ∙ sym (with_here (known_of a) x v))
      | inr d ↦ (let g : slice_get (slice_set a.values x (Some v)) y ≡ slice_get a.values y = set_apart a.values x y (Some v) d in rw g (sym (with_apart (known_of a) x y v d)))
    ] in
    λ i y. same y i

-- ---- trails

cleared_both : (xs ys : List ℕ) (a : PartialAssignment) → cleared (xs ++ ys) a ≡ cleared xs (cleared ys a)
cleared_both [] ys a = refl
cleared_both (x ∷ xs) ys a = ap (λ (b : PartialAssignment). with_set b x None) (cleared_both xs ys a)

cleared_count : (xs : List ℕ) (a : PartialAssignment) → length (cleared xs a).values ≡ length a.values
cleared_count [] a = refl
cleared_count (x ∷ xs) a = length-set (cleared xs a).values x None ∙ cleared_count xs a

module _ (a : PartialAssignment) where
  pub grown_count : (b : PartialAssignment) (s t : List ℕ) → Grown a b s t → length b.values ≡ length a.values
  grown_count b s t g = sym (cleared_count g.added b) ∙ ap (λ (z : PartialAssignment). length z.values) g.back

  pub grown_same : (b : PartialAssignment) (s t : List ℕ) → b ≡ a → t ≡ s → Grown a b s t
  grown_same b s t e f = record {
    types = ap (λ (z : PartialAssignment). z.types) e;
    added = [];
    trail = f ∙ sym (append-nil s);
    places = All-nil (λ x. x < length a.types);
    back = e;
  }

  pub grown_with : (x : ℕ) (v : List Atom) (s t : List ℕ) → x < length a.types → slice_get a.values x ≡ Some None → t ≡ s ++ x ∷ [] → Grown a (with_set a x (Some v)) s t
  grown_with x v s t l e f = record {
    types = refl;
    added = x ∷ [];
    trail = f;
    places = All-cons (λ x. x < length a.types) x [] l (All-nil (λ x. x < length a.types));
    back = ap (λ z. record a { values = z }) (set_back a.values x (Some v) None e);
  }

  pub grown_on : (b c : PartialAssignment) (s t u : List ℕ) → Grown a b s t → Grown b c t u → Grown a c s u
  grown_on b c s t u g h = record {
    types = h.types ∙ g.types;
    added = g.added ++ h.added;
    trail = h.trail ∙ ap (λ z. z ++ h.added) g.trail ∙ append_assoc s g.added h.added;
    places = All-append (λ x. x < length a.types) g.added h.added g.places (subst (λ (ts : List _). All (λ x. x < length ts) h.added) g.types h.places);
    back = cleared_both g.added h.added c ∙ ap (λ z. cleared g.added z) h.back ∙ g.back;
  }

  added_is : (b : PartialAssignment) (s t : List ℕ) (g : Grown a b s t) → drop (length s) t ≡ g.added
  added_is b s t g = ap (λ z. drop (length s) z) g.trail ∙ drop-append-le (length s) s g.added (omega arith) ∙ ap (λ z. z ++ g.added) (drop_all (length s) s (omega arith))

  -- what has grown is taken back to what it was
  pub back_to : (b : PartialAssignment) (s t : List ℕ) → Grown a b s t → cleared (drop (length s) t) b ≡ a
  back_to b s t g = ap (λ z. cleared z b) (added_is b s t g) ∙ g.back

  pub back_places : (b : PartialAssignment) (s t : List ℕ) → Grown a b s t → All (λ x. x < length b.types) (drop (length s) t)
  back_places b s t g = subst (λ z. All (λ x. x < length z) (drop (length s) t)) (sym g.types) (subst (λ z. All (λ x. x < length a.types) z) (sym (added_is b s t g)) g.places)

  pub back_trail : (b : PartialAssignment) (s t : List ℕ) → Grown a b s t → take (length s) t ≡ s
  back_trail b s t g = ap (λ z. take (length s) z) g.trail ∙ take-append-le (length s) s g.added (omega arith) ∙ take_all (length s) s (omega arith)

  -- the same, where so many were counted before
  pub taken_back : (b c : PartialAssignment) (s t u : List ℕ) (count : ℕ) → count ≡ length s → Grown a b s t → c ≡ cleared (drop count t) b → u ≡ take count t → (c ≡ a) × (u ≡ s)
  taken_back b c s t u count n g e f = (
    e ∙ ap (λ k. cleared (drop k t) b) n ∙ back_to b s t g,
    f ∙ ap (λ k. take k t) n ∙ back_trail b s t g,
  )

-- ---- taking back, one by one

pub record Takes (count : ℕ) (from : List ℕ) (a : PartialAssignment) (trail : List ℕ) (b : PartialAssignment) : Type 0 where
  pub front : trail ≡ take (length trail) from
  pub enough : min count (length from) ≤ length trail
  pub same : cleared (drop count trail) b ≡ cleared (drop count from) a
  pub types : b.types ≡ a.types
  pub places : All (λ x. x < length a.types) (drop count trail)

module _ (count : ℕ) (from : List ℕ) (a : PartialAssignment) where
  pub takes_first : All (λ x. x < length a.types) (drop count from) → Takes count from a from a
  takes_first h = record { front = sym (take_all (length from) from (omega arith)); enough = omega arith; same = refl; types = refl; places = h }

  split_last : (trail s : List ℕ) (x : ℕ) → trail ≡ s ++ x ∷ [] → count < length trail → drop count trail ≡ drop count s ++ x ∷ []
  split_last trail s x e l =
      let n : length trail ≡ length s + 1 = ap length e ∙ length-append s (x ∷ []) in
      ap (λ z. drop count z) e ∙ drop-append-le count s (x ∷ []) (omega arith)

  pub takes_place : (trail s : List ℕ) (b : PartialAssignment) (x : ℕ) → Takes count from a trail b → trail ≡ s ++ x ∷ [] → count < length trail → x < length b.types
  takes_place trail s b x h e l =
      let p : All (λ x. x < length a.types) (drop count s ++ x ∷ []) = subst (λ z. All (λ x. x < length a.types) z) (split_last trail s x e l) h.places in
      subst (λ z. x < length z) (sym h.types) (last_of (drop count s) x p)
    where
      last_of : (ys : List ℕ) (x : ℕ) → All (λ x. x < length a.types) (ys ++ x ∷ []) → x < length a.types
      last_of [] x p = p 0 0 (omega arith)
      last_of (y ∷ ys) x p = last_of ys x (λ k d l. p (suc k) d (omega arith))

  pub takes_on : (trail s : List ℕ) (b : PartialAssignment) (x : ℕ) → Takes count from a trail b → trail ≡ s ++ x ∷ [] → count < length trail → Takes count from a s (with_set b x None)
  takes_on trail s b x h e l =
      let n : length trail ≡ length s + 1 = ap length e ∙ length-append s (x ∷ []) in
      let d = split_last trail s x e l in
      let f : s ≡ take (length s) trail = sym (ap (λ z. take (length s) z) e ∙ take-append-le (length s) s (x ∷ []) (omega arith) ∙ take_all (length s) s (omega arith)) in
      record {
        front = f ∙ ap (λ z. take (length s) z) h.front ∙ take_shorter (length s) (length trail) from (omega arith);
        enough = omega (arith, h.enough);
        same = sym (cleared_both (drop count s) (x ∷ []) b) ∙ ap (λ z. cleared z b) (sym d) ∙ h.same;
        types = h.types;
        places = firsts (drop count s) x (subst (λ z. All (λ x. x < length a.types) z) d h.places);
      }
    where
      firsts : (ys : List ℕ) (x : ℕ) → All (λ x. x < length a.types) (ys ++ x ∷ []) → All (λ x. x < length a.types) ys
      firsts [] x p = All-nil (λ x. x < length a.types)
      firsts (y ∷ ys) x p = All-cons (λ x. x < length a.types) y ys (p 0 0 (omega arith)) (firsts ys x (λ k d l. p (suc k) d (omega arith)))

      take_shorter : (i j : ℕ) (ys : List ℕ) → i ≤ j → take i (take j ys) ≡ take i ys
      take_shorter zero j ys l = refl
      take_shorter (suc i) zero ys l = absurd (omega arith)
      take_shorter (suc i) (suc j) [] l = refl
      take_shorter (suc i) (suc j) (y ∷ ys) l = ap (λ z. y ∷ z) (take_shorter i j ys (omega arith))

  pub takes_end : (trail : List ℕ) (b : PartialAssignment) → Takes count from a trail b → length trail ≤ count → (b ≡ cleared (drop count from) a) × (trail ≡ take count from)
  takes_end trail b h l =
      let e : drop count trail ≡ [] = drop_all count trail l in (
        ap (λ z. cleared z b) (sym e) ∙ h.same,
        h.front ∙ (elim (cases_lt count (length from)) [
          | inl k ↦ (let n : length trail ≡ count = omega (arith, h.enough) in ap (λ z. take z from) n)
          | inr k ↦ (take_all (length trail) from (omega (arith, h.enough)) ∙ sym (take_all count from k))
        ]),
      )
