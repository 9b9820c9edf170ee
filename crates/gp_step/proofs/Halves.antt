-- One half of a graph after a step: what stands at each number.
use Rattle.std.proofs.Common.{◌≡◌, ◌⊎◌, inl, inr, ℕ, zero, suc, ◌+◌, ◌<◌, ◌==◌, ◌||◌, Bool, true, false, cond, if◌then◌else◌, List, [], ◌∷◌, map, take, length, count_by, Option, Some, None, is_none, slice_get, slice_index, Contains, refl, sym, ap, subst, ◌∙◌, arith, true≢false}
use Rattle.std.specs.Ordering.{nat_cmp}
use Rattle.std.specs.FinMap.{FinMap, get, insert, remove}
use Rattle.std.proofs.lemmas.Bool.{cases_eq, cases_lt}
use Rattle.std.proofs.lemmas.Bool.Decides.{Decides-eqb}
use Rattle.std.proofs.lemmas.List.Sums.{sum_by-cons}
use Rattle.std.proofs.lemmas.List.{get_or_default}
use Rattle.std.proofs.lemmas.Option.{none-some, slice_get_within}
use Rattle.gp_memory.proofs.Basics.{first_or_later as split_head, here as at_head, later as behind, none_in, some_at as element, some_same, standing, stands_in, take_whole}
use Rattle.gp_values.specs.Apart.{AreApart}
use Rattle.gp_values.proofs.Graphs.{get-insert_here, get-insert_apart, get-remove_here, get-remove_apart}
use Rattle.gp_syntax.specs.Rule.{is_origin}
use Rattle.gp_syntax.proofs.Unique.{contained}
use Rattle.gp_syntax.specs.Step.{Places}
use Rattle.gp_step.specs.Halves.{image_of, next_of, images_from, stays, gone, cut, put_all, half_after}

-- ---- lists of numbers

pub apart_rest : (t : ℕ) (ts : List ℕ) → AreApart (t ∷ ts) → AreApart ts
apart_rest t ts h i j l k e = h (suc i) (suc j) (omega arith) (omega arith) e

pub apart_head : (t : ℕ) (ts : List ℕ) → AreApart (t ∷ ts) → Contains ts t → ⊥
apart_head t ts h c =
    let l : c.0 < length ts = c.1 in
    h 0 (suc c.0) (omega arith) (omega arith) (sym (get_or_default ts c.0 0 t c.1 ∙ c.2))

pub same_place : (ns : List ℕ) → AreApart ns → (i j : ℕ) → i < length ns → j < length ns → slice_index ns i ≡ slice_index ns j → i ≡ j
same_place ns a i j k l e =
    elim (cases_lt i j) [
      | inl b ↦ absurd (a i j b l e)
      | inr b ↦ elim (cases_lt j i) [ inl c ↦ absurd (a j i c k (sym e)) | inr c ↦ omega arith ]
    ]

-- ---- what is cut

stay_none : {X : Type 0} (ns : List ℕ) (s : FinMap nat_cmp X) (n : ℕ) → get s n ≡ None → get (cut ns s) n ≡ None
stay_none [] s n e = e
stay_none (k ∷ ns) s n e =
    stay_none ns (remove s k) n (elim (cases_eq n k) [
      | inl i ↦ rw i (get-remove_here s k)
      | inr d ↦ get-remove_apart s k n d ∙ e
    ])

pub dropped : {X : Type 0} (ns : List ℕ) (s : FinMap nat_cmp X) (n : ℕ) → Contains ns n → get (cut ns s) n ≡ None
dropped [] s n c = absurd (none_in n c)
dropped (k ∷ ns) s n c =
    elim (split_head k ns n c) [
      | inl i ↦ stay_none ns (remove s k) n (rw (← i) (get-remove_here s k))
      | inr d ↦ dropped ns (remove s k) n d
    ]

pub left : {X : Type 0} (ns : List ℕ) (s : FinMap nat_cmp X) (n : ℕ) → (Contains ns n → ⊥) → get (cut ns s) n ≡ get s n
left [] s n d = refl
left (k ∷ ns) s n d = left ns (remove s k) n (λ c. d (behind k ns n c)) ∙ get-remove_apart s k n (λ i. d (at_head k ns n (sym i)))

-- what is gone: the images at places that do not stay
gone_at : (kept : ℕ → Bool) (ns : List ℕ) (i : ℕ) → i < length ns → kept i ≡ false → Contains (gone kept ns) (slice_index ns i)
gone_at kept [] i l e = absurd (omega arith)
gone_at kept (n ∷ ns) zero l e = rw e (at_head n (gone (λ i. kept (suc i)) ns) n refl)
gone_at kept (n ∷ ns) (suc i) l e = by (kept 0) (gone_at (λ i. kept (suc i)) ns i (omega arith) e)
  where
    by : (b : Bool) → Contains (gone (λ i. kept (suc i)) ns) (slice_index ns i) → Contains (if b then gone (λ i. kept (suc i)) ns else n ∷ gone (λ i. kept (suc i)) ns) (slice_index ns i)
    by true c = c
    by false c = behind n (gone (λ i. kept (suc i)) ns) (slice_index ns i) c

pub gone_place : (kept : ℕ → Bool) (ns : List ℕ) (n : ℕ) → Contains (gone kept ns) n → (i : ℕ) × (i < length ns) × (slice_index ns i ≡ n) × (kept i ≡ false)
gone_place kept [] n c = absurd (none_in n c)
gone_place kept (k ∷ ns) n c = by (kept 0) refl c (gone_place (λ i. kept (suc i)) ns n)
  where
    by : (b : Bool) → kept 0 ≡ b → Contains (if b then gone (λ i. kept (suc i)) ns else k ∷ gone (λ i. kept (suc i)) ns) n →
        (Contains (gone (λ i. kept (suc i)) ns) n → (i : ℕ) × (i < length ns) × (slice_index ns i ≡ n) × (kept (suc i) ≡ false)) → (i : ℕ) × (i < length (k ∷ ns)) × (slice_index (k ∷ ns) i ≡ n) × (kept i ≡ false)
    by true e c f = let r = f c in let l = r.1 in (suc r.0, omega arith, r.2, r.3)
    by false e c f =
        elim (split_head k (gone (λ i. kept (suc i)) ns) n c) [
          | inl s ↦ (0, omega arith, s, e)
          | inr d ↦ (let r = f d in let l = r.1 in (suc r.0, omega arith, r.2, r.3))
        ]

-- some item keeps the place that stays
pub keeper : (kept : List (Option ℕ)) (i : ℕ) → stays kept i ≡ true → (j : ℕ) × (slice_get kept j ≡ Some (Some i))
keeper [] i e = absurd (true≢false (sym e))
keeper (None ∷ os) i e = let r = keeper os i e in (suc r.0, r.1)
keeper (Some k ∷ os) i e = by (k == i) refl e (λ h. keeper os i h)
  where
    by : (b : Bool) → (k == i) ≡ b → (b || stays os i) ≡ true → (stays os i ≡ true → (j : ℕ) × (slice_get os j ≡ Some (Some i))) → (j : ℕ) × (slice_get (Some k ∷ os) j ≡ Some (Some i))
    by true s e f = (0, ap (λ z. Some (Some z)) ((Decides-eqb k i).0 s))
    by false s e f = let r = f e in (suc r.0, r.1)

pub keeps_place : (kept : List (Option ℕ)) (i j : ℕ) → slice_get kept j ≡ Some (Some i) → stays kept i ≡ true
keeps_place [] i j e = absurd (none-some (Some i) e)
keeps_place (o ∷ os) i zero e = rw (some_same e) (rw ((Decides-eqb i i).1 refl) refl)
keeps_place (o ∷ os) i (suc j) e = rw (keeps_place os i j e) (or_true (is_origin i o))
  where
    or_true : (b : Bool) → (b || true) ≡ true
    or_true true = refl
    or_true false = refl

-- what was found is kept or goes
pub kept_or_gone : (kept : List (Option ℕ)) (found : List ℕ) (n : ℕ) (d : Contains found n) → ((j : ℕ) × (slice_get kept j ≡ Some (Some d.0))) ⊎ Contains (gone (stays kept) found) n
kept_or_gone kept found n d = by (stays kept d.0) refl
  where
    by : (b : Bool) → stays kept d.0 ≡ b → ((j : ℕ) × (slice_get kept j ≡ Some (Some d.0))) ⊎ Contains (gone (stays kept) found) n
    by true e = inl (keeper kept d.0 e)
    by false e = inr (subst (Contains (gone (stays kept) found)) (standing found n d) (gone_at (stays kept) found d.0 d.1 e))

-- ---- the images

next_is : (o : Option ℕ) (k : ℕ) → next_of o k ≡ k + cond (is_none o) 1 0
next_is None k = refl
next_is (Some i) k = omega arith

pub length-images : (found : List ℕ) (kept : List (Option ℕ)) (k : ℕ) → length (images_from found kept k) ≡ length kept
length-images found [] k = refl
length-images found (o ∷ os) k = ap suc (length-images found os (next_of o k))

image_old : (found : List ℕ) (kept : List (Option ℕ)) (k j i : ℕ) → slice_get kept j ≡ Some (Some i) → slice_index (images_from found kept k) j ≡ slice_index found i
image_old found [] k j i h = absurd (none-some (Some i) h)
image_old found (o ∷ os) k zero i h = ap (λ z. image_of found z k) (some_same h)
image_old found (o ∷ os) k (suc j) i h = image_old found os (next_of o k) j i h

pub count-cons : (o : Option ℕ) (os : List (Option ℕ)) → count_by is_none (o ∷ os) ≡ cond (is_none o) 1 0 + count_by is_none os
count-cons o os = sum_by-cons (λ (x : Option ℕ). cond (is_none x) 1 0) o os

image_new : (found : List ℕ) (kept : List (Option ℕ)) (k j : ℕ) → slice_get kept j ≡ Some None → slice_index (images_from found kept k) j ≡ k + count_by is_none (take j kept)
image_new found [] k j h = absurd (none-some None h)
image_new found (o ∷ os) k zero h = ap (λ z. image_of found z k) (some_same h) ∙ (omega arith)
image_new found (o ∷ os) k (suc j) h =
    let i = image_new found os (next_of o k) j h in
    let n = next_is o k in
    let c = count-cons o (take j os) in
    i ∙ (omega arith)

-- a new item at the first place counts for one
new_one : (o : Option ℕ) → o ≡ None → ◌≡◌ {A = ℕ} (cond (is_none o) 1 0) 1
new_one o e = rw e refl

count_rises : (kept : List (Option ℕ)) (i j : ℕ) → i < j → slice_get kept i ≡ Some None → count_by is_none (take i kept) < count_by is_none (take j kept)
count_rises [] i j l h = absurd (none-some None h)
count_rises (o ∷ os) i zero l h = absurd (omega arith)
count_rises (o ∷ os) zero (suc j) l h =
    let c = count-cons o (take j os) in
    let n = new_one o (some_same h) in
    omega arith
count_rises (o ∷ os) (suc i) (suc j) l h =
    let c = count-cons o (take j os) in
    let d = count-cons o (take i os) in
    let r = count_rises os i j (omega arith) h in
    omega arith

pub count_below : (kept : List (Option ℕ)) (j : ℕ) → slice_get kept j ≡ Some None → count_by is_none (take j kept) < count_by is_none kept
count_below kept j h = subst (λ os. count_by is_none (take j kept) < count_by is_none os) (take_whole kept) (count_rises kept j (length kept) (slice_get_within kept j None h) h)

-- ---- what is put, in turn

module _ {Q X : Type 0} (found : List ℕ) (keeps : Q → Option ℕ) (make : Q → X) where
  pub put_apart : (qs : List Q) (s : FinMap nat_cmp X) (k n : ℕ) → (Contains (images_from found (map keeps qs) k) n → ⊥) → get (put_all found keeps make qs s k) n ≡ get s n
  put_apart [] s k n d = refl
  put_apart (q ∷ qs) s k n d =
      let t = image_of found (keeps q) k in
      let ts = images_from found (map keeps qs) (next_of (keeps q) k) in
      put_apart qs (insert s t (make q)) (next_of (keeps q) k) n (λ c. d (behind t ts n c))
      ∙ get-insert_apart s t n (make q) (λ e. d (at_head t ts n (sym e)))

  pub put_at : (qs : List Q) (s : FinMap nat_cmp X) (k j : ℕ) (q : Q) → AreApart (images_from found (map keeps qs) k) → slice_get qs j ≡ Some q → get (put_all found keeps make qs s k) (slice_index (images_from found (map keeps qs) k) j) ≡ Some (make q)
  put_at [] s k j q a e = absurd (none-some q e)
  put_at (p ∷ qs) s k zero q a e =
      let t = image_of found (keeps p) k in
      let ts = images_from found (map keeps qs) (next_of (keeps p) k) in
      put_apart qs (insert s t (make p)) (next_of (keeps p) k) t (λ c. apart_head t ts a c)
      ∙ get-insert_here s t (make p) ∙ ap (λ z. Some (make z)) (some_same e)
  put_at (p ∷ qs) s k (suc j) q a e =
      let t = image_of found (keeps p) k in
      put_at qs (insert s t (make p)) (next_of (keeps p) k) j q (apart_rest t (images_from found (map keeps qs) (next_of (keeps p) k)) a) e

-- ---- a half after a step

-- what is kept stands among what was found, and two items keep two places
pub record Keeps (kept : List (Option ℕ)) (found : List ℕ) (next : ℕ) : Type 0 where
  pub within : (j i : ℕ) → slice_get kept j ≡ Some (Some i) → i < length found
  pub once : (j k i : ℕ) → slice_get kept j ≡ Some (Some i) → slice_get kept k ≡ Some (Some i) → j ≡ k
  pub apart : AreApart found
  pub below : (i : ℕ) → i < length found → slice_index found i < next

module _ (kept : List (Option ℕ)) (found : List ℕ) (next : ℕ) (c : Keeps kept found next) where
  abbrev images : List ℕ
  images = images_from found kept next

  images_differ : (i j : ℕ) (b d : Option ℕ) → i < j → slice_get kept i ≡ Some b → slice_get kept j ≡ Some d → slice_index images i ≡ slice_index images j → ⊥
  images_differ i j (Some x) (Some y) l s t e =
      let f : slice_index found x ≡ slice_index found y = sym (image_old found kept next i x s) ∙ e ∙ image_old found kept next j y t in
      let z : x ≡ y = same_place found c.apart x y (c.within i x s) (c.within j y t) f in
      let k : i ≡ j = c.once i j y (s ∙ ap (λ n. Some (Some n)) z) t in
      omega arith
  images_differ i j (Some x) None l s t e =
      let f = image_old found kept next i x s in
      let h = image_new found kept next j t in
      let b = c.below x (c.within i x s) in
      omega arith
  images_differ i j None (Some y) l s t e =
      let f = image_old found kept next j y t in
      let h = image_new found kept next i s in
      let b = c.below y (c.within j y t) in
      omega arith
  images_differ i j None None l s t e =
      let f = image_new found kept next i s in
      let h = image_new found kept next j t in
      let b = count_rises kept i j l s in
      omega arith

  pub places : Places kept found next images
  places = record {
    count = length-images found kept next;
    apart = λ i j l k e.
        let n : length images ≡ length kept = length-images found kept next in
        let p = element kept i (omega arith) in
        let q = element kept j (omega arith) in
        images_differ i j p.0 q.0 l p.1 q.1 e;
    old = λ j i h. image_old found kept next j i h;
    new = λ j h. image_new found kept next j h;
  }

-- an image is that of what is kept, or new
module _ (kept : List (Option ℕ)) (found : List ℕ) (next : ℕ) (images : List ℕ) (c : Keeps kept found next) (p : Places kept found next images) where
  image_cases : (j : ℕ) (o : Option ℕ) → slice_get kept j ≡ Some o → ((i : ℕ) × (o ≡ Some i) × (slice_index images j ≡ slice_index found i)) ⊎ ((o ≡ None) × (slice_index images j ≡ next + count_by is_none (take j kept)))
  image_cases j (Some i) e = inl (i, refl, p.old j i e)
  image_cases j None e = inr (refl, p.new j e)

  -- what goes is at no image
  pub gone_apart_images : (n : ℕ) → Contains (gone (stays kept) found) n → Contains images n → ⊥
  gone_apart_images n g d =
      let z = gone_place (stays kept) found n g in
      let b : length images ≡ length kept = p.count in
      let l : d.0 < length images = d.1 in
      let o = element kept d.0 (omega arith) in
      let s : slice_index images d.0 ≡ n = standing images n d in
      elim (image_cases d.0 o.0 o.1) [
        | inl k ↦
            (let e : slice_get kept d.0 ≡ Some (Some k.0) = o.1 ∙ ap (λ y. Some y) k.1 in
            let f : z.0 ≡ k.0 = same_place found c.apart z.0 k.0 z.1 (c.within d.0 k.0 e) (z.2 ∙ sym s ∙ k.2) in
            true≢false (sym (keeps_place kept k.0 d.0 e) ∙ ap (stays kept) (sym f) ∙ z.3))
        | inr k ↦ (let f = c.below z.0 z.1 in let h = z.2 in let i = k.1 in omega arith)
      ]

  -- what was found and is at no image goes
  pub goes : (n : ℕ) → (Contains images n → ⊥) → Contains found n → Contains (gone (stays kept) found) n
  goes n out d =
      elim (kept_or_gone kept found n d) [
        | inl k ↦
            (let b : length images ≡ length kept = p.count in
            let l : k.0 < length kept = slice_get_within kept k.0 (Some d.0) k.1 in
            absurd (out (stands_in images k.0 n (omega arith) (p.old k.0 d.0 k.1 ∙ standing found n d))))
        | inr g ↦ g
      ]

  -- images are below the number after the new ones
  pub image_below : (n : ℕ) → Contains images n → n < next + count_by is_none kept
  image_below n d =
      let b : length images ≡ length kept = p.count in
      let l : d.0 < length images = d.1 in
      let o = element kept d.0 (omega arith) in
      let s : slice_index images d.0 ≡ n = standing images n d in
      elim (image_cases d.0 o.0 o.1) [
        | inl k ↦ (let f = c.below k.0 (c.within d.0 k.0 (o.1 ∙ ap (λ y. Some y) k.1)) in let h = k.2 in omega arith)
        | inr k ↦ (let f = count_below kept d.0 (o.1 ∙ ap (λ y. Some y) k.0) in let h = k.1 in omega arith)
      ]

module _ {Q X : Type 0} (found : List ℕ) (keeps : Q → Option ℕ) (make : Q → X) (qs : List Q) (s : FinMap nat_cmp X) (next : ℕ) (c : Keeps (map keeps qs) found next) where
  abbrev kept : List (Option ℕ)
  kept = map keeps qs

  abbrev at : List ℕ
  at = images_from found kept next

  abbrev after : FinMap nat_cmp X
  after = half_after found keeps make qs s next

  pub stands : (j : ℕ) (q : Q) → slice_get qs j ≡ Some q → get after (slice_index at j) ≡ Some (make q)
  stands j q h = put_at found keeps make qs (cut (gone (stays kept) found) s) next j q (places kept found next c).apart h

  pub deleted : (n : ℕ) → (Contains at n → ⊥) → Contains found n → get after n ≡ None
  deleted n out d =
      put_apart found keeps make qs (cut (gone (stays kept) found) s) next n out
      ∙ dropped (gone (stays kept) found) s n (goes kept found next at c (places kept found next c) n out d)

  pub untouched : (n : ℕ) → (Contains at n → ⊥) → (Contains found n → ⊥) → get after n ≡ get s n
  untouched n out none =
      put_apart found keeps make qs (cut (gone (stays kept) found) s) next n out
      ∙ left (gone (stays kept) found) s n (λ g. none (let z = gone_place (stays kept) found n g in stands_in found z.0 n z.1 z.2))

-- ---- what stands where, told by the relation

-- what stands after a step stands at an image, or stood there before
pub stood : {X : Type 0} (images found : List ℕ) (s t : FinMap nat_cmp X) → ((n : ℕ) → (Contains images n → ⊥) → Contains found n → get t n ≡ None) → ((n : ℕ) → (Contains images n → ⊥) → (Contains found n → ⊥) → get t n ≡ get s n)
    → (n : ℕ) (x : X) → get t n ≡ Some x → Contains images n ⊎ ((Contains images n → ⊥) × (Contains found n → ⊥) × (get s n ≡ Some x))
stood images found s t deleted other n x e =
    elim (contained images n) [
      | inl c ↦ inl c
      | inr out ↦ elim (contained found n) [
        | inl d ↦ absurd (none-some x (sym (deleted n out d) ∙ e))
        | inr none ↦ inr (out, none, sym (other n out none) ∙ e)
      ]
    ]
