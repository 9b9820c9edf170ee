-- Segments of two texts: the first is nowhere nested deeper than the second, wherever the two stand.
use Rattle.std.proofs.Common.{◌≡◌, ℕ, zero, suc, ◌+◌, ◌≤◌, Bool, true, false, List, [], ◌∷◌, ◌++◌, sum, refl, ap, arith}
use Rattle.std.proofs.lemmas.List.Sums.{sum_by-cons}
use Rattle.gp_program.specs.declared.depth.Role.{Role}
use Rattle.gp_program.specs.declared.depth.Role.TheVariants as role
use Rattle.gp_program.specs.Depth.{Nesting, next_open}
use Rattle.gp_fmt.proofs.Deep.Nestings.{step, after, deep, IsWithin, after_both, within_first, within_second, within_both, Stills, level, same, first_none, second_none, IsBelow, stills_below, second_is, minus_step, not_step, other_step, opening_step, closing_step, closed}

pub record Reaches (q : Bool) (k : ℕ) (s t : List ℕ) (b : ℕ) (n m : Nesting) (ps xs : List Role) : Type 0 where
  pub within : IsWithin k n ps
  pub ends : IsBelow s t b (after n ps) (after m xs)
  pub quiet : q ≡ true → (after n ps).run.len ≡ 0

-- Two texts that begin with a signs open above where they stand, and end with b: wherever the second is within a depth, the
-- first is too, and its end is below that of the second. A quiet first text ends in no run.
pub record IsUnder (q : Bool) (a b : ℕ) (ps xs : List Role) : Type 0 where
  pub under : (k : ℕ) (s t : List ℕ) (n m : Nesting) → IsBelow s t a n m → IsWithin k m xs → Reaches q k s t b n m ps xs

pub none_under : (a : ℕ) → IsUnder false a a [] []
none_under a = record { under = λ k s t n m h f. record { within = tt; ends = h; quiet = λ e. absurd cc } }

pub both_under : (q r : Bool) (a b c : ℕ) (ps qs xs ys : List Role) → IsUnder q a b ps xs → IsUnder r b c qs ys → IsUnder r a c (ps ++ qs) (xs ++ ys)
both_under q r a b c ps qs xs ys u v = record { under = λ k s t n m h f. go k s t n m (u.under k s t n m h (within_first k m xs ys f)) (within_second k m xs ys f) }
  where
    go : (k : ℕ) (s t : List ℕ) (n m : Nesting) → Reaches q k s t b n m ps xs → IsWithin k (after m xs) ys → Reaches r k s t c n m (ps ++ qs) (xs ++ ys)
    go k s t n m p f =
        let w = v.under k s t (after n ps) (after m xs) p.ends f in
        record { within = within_both k n ps qs p.within w.within; ends = rw (after_both n ps qs, after_both m xs ys) w.ends; quiet = λ e. rw (after_both n ps qs) (w.quiet e) }

-- where it is not told whether it is quiet
pub loud_under : (q : Bool) (a b : ℕ) (ps xs : List Role) → IsUnder q a b ps xs → IsUnder false a b ps xs
loud_under q a b ps xs u = record { under = λ k s t n m h f. let w = u.under k s t n m h f in record { within = w.within; ends = w.ends; quiet = λ e. absurd cc } }

-- ---- one token

one_reaches : (q : Bool) (r : Role) (k : ℕ) (s t : List ℕ) (b : ℕ) (n m : Nesting) → IsBelow s t b (step n r) (step m r) → (q ≡ true → (step n r).run.len ≡ 0) → IsWithin k m (r ∷ []) → Reaches q k s t b n m (r ∷ []) (r ∷ [])
one_reaches q r k s t b n m h e f = let d = h.reach in let g = f.0 in let le : deep (step n r) ≤ k = omega (arith, d, g) in record { within = (le, tt); ends = h; quiet = e }

pub other_under : (a : ℕ) → IsUnder true a a (role.Other ∷ []) (role.Other ∷ [])
other_under a = record { under = λ k s t n m h f. one_reaches true role.Other k s t a n m (other_step n m h) (λ e. refl) f }

pub minus_under : (a : ℕ) → IsUnder false a a (role.Minus ∷ []) (role.Minus ∷ [])
minus_under a = record { under = λ k s t n m h f. one_reaches false role.Minus k s t a n m (minus_step n m h) (λ e. absurd cc) f }

pub not_under : (a : ℕ) → IsUnder false a a (role.Not ∷ []) (role.Not ∷ [])
not_under a = record { under = λ k s t n m h f. one_reaches false role.Not k s t a n m (not_step n m h) (λ e. absurd cc) f }

pub opening_under : (a : ℕ) → IsUnder true a (suc a) (role.Opening ∷ []) (role.Opening ∷ [])
opening_under a = record { under = λ k s t n m h f. one_reaches true role.Opening k s t (suc a) n m (opening_step n m h) (λ e. refl) f }

pub closing_under : (a : ℕ) → IsUnder true (suc a) a (role.Closing ∷ []) (role.Closing ∷ [])
closing_under a = record { under = λ k s t n m h f. one_reaches true role.Closing k s t a n m (closing_step n m h) (λ e. refl) f }

-- ---- inside brackets

-- any nesting is below itself
pub itself : (n : Nesting) → IsBelow n.still n.still zero n n
itself n = record { stills = level (omega arith); reach = omega arith; runs = same refl }

ends_first : {s t : List ℕ} {k : ℕ} {p q p' q' : List ℕ} → Stills s t k p q → Stills p q zero p' q' → Stills s t k p' q'
ends_first h (level g) = h

-- what closes all that it opens may stand where more is open
pub raised : (q : Bool) (a : ℕ) (ps xs : List Role) → IsUnder q 0 0 ps xs → IsUnder q a a ps xs
raised q a ps xs u = record { under = λ k s t n m h f. go k s t n m h (u.under k n.still m.still n m (record { stills = level (stills_below h.stills); reach = h.reach; runs = h.runs }) f) }
  where
    go : (k : ℕ) (s t : List ℕ) (n m : Nesting) → IsBelow s t a n m → Reaches q k n.still m.still 0 n m ps xs → Reaches q k s t a n m ps xs
    go k s t n m h w = record { within = w.within; ends = record { stills = ends_first h.stills w.ends.stills; reach = w.ends.reach; runs = w.ends.runs }; quiet = w.quiet }

-- ---- what the second text alone has

-- what closes all that it opens leaves the open signs as they were
kept : (q : Bool) (ps ys : List Role) → IsUnder q 0 0 ps ys → (k : ℕ) (m : Nesting) → IsWithin k m ys → (after m ys).still ≡ m.still
kept q ps ys u k m f = second_is (u.under k m.still m.still m m (itself m) f).ends.stills

-- something behind it
pub dropped : (q : Bool) (a b : ℕ) (ps xs qs ys : List Role) → IsUnder true a b ps xs → IsUnder q 0 0 qs ys → IsUnder true a b ps (xs ++ ys)
dropped q a b ps xs qs ys u v = record { under = λ k s t n m h f. go k s t n m (u.under k s t n m h (within_first k m xs ys f)) (kept q qs ys v k (after m xs) (within_second k m xs ys f)) }
  where
    go : (k : ℕ) (s t : List ℕ) (n m : Nesting) → Reaches true k s t b n m ps xs → (after (after m xs) ys).still ≡ (after m xs).still → Reaches true k s t b n m ps (xs ++ ys)
    go k s t n m w e =
        let z = w.quiet refl in
        let le : sum (after n ps).still ≤ sum (after m xs).still = stills_below w.ends.stills in
        let same_sum : sum (after (after m xs) ys).still ≡ sum (after m xs).still = ap sum e in
        let below : IsBelow s t b (after n ps) (after (after m xs) ys) = record { stills = rw e w.ends.stills; reach = omega (arith, z, le, same_sum); runs = first_none z } in
        record { within = w.within; ends = rw (after_both m xs ys) below; quiet = w.quiet }

-- something before a closing sign
pub dropped_last : (q : Bool) (a : ℕ) (qs ys : List Role) → IsUnder q 0 0 qs ys → IsUnder true (suc a) a (role.Closing ∷ []) (ys ++ role.Closing ∷ [])
dropped_last q a qs ys v = record { under = λ k s t n m h f. go k s t n m h (kept q qs ys v k m (within_first k m ys (role.Closing ∷ []) f)) (within_second k m ys (role.Closing ∷ []) f) }
  where
    go : (k : ℕ) (s t : List ℕ) (n m : Nesting) → IsBelow s t (suc a) n m → (after m ys).still ≡ m.still → IsWithin k (after m ys) (role.Closing ∷ []) → Reaches true k s t a n m (role.Closing ∷ []) (ys ++ role.Closing ∷ [])
    go k s t n m h e f =
        let st : Stills s t (suc a) n.still (after m ys).still = rw e h.stills in
        let c = closed n.run.len (after m ys).run.len st in
        let d = stills_below c in
        let g = f.0 in
        let fit : deep (step n role.Closing) ≤ k = omega (arith, d, g) in
        record { within = (fit, tt); ends = rw (after_both m ys (role.Closing ∷ [])) (record { stills = c; reach = omega (arith, d); runs = first_none refl }); quiet = λ e. refl }

-- the second nesting may have one sign more open
anew : {s t p q : List ℕ} (r : List ℕ) → Stills s t zero p q → sum p ≤ sum r → Stills s r zero p r
anew r (level h) g = level g

opened : {s t : List ℕ} (n m : Nesting) → IsBelow s t 0 n m → IsBelow s (step m role.Opening).still 0 n (step m role.Opening)
opened n m h =
    let a = sum_by-cons (λ (x : ℕ). x) (1 + m.run.len) m.still in
    let r = h.reach in
    let b = stills_below h.stills in
    let le : sum n.still ≤ sum ((1 + m.run.len) ∷ m.still) = omega (arith, a, b) in
    record { stills = anew _ h.stills le; reach = omega (arith, a, r); runs = second_none refl }

closed_up : {s t r p q p' q' : List ℕ} → Stills s t zero p q → Stills s r zero p' q' → Stills s t zero p' q
closed_up (level h) (level g) = level h

-- brackets around it
pub unwrapped : (ps xs : List Role) → IsUnder true 0 0 ps xs → IsUnder true 0 0 ps (role.Opening ∷ xs ++ role.Closing ∷ [])
unwrapped ps xs u = record {
  under = λ k s t n m h f. go k s t n m h (u.under k s (step m role.Opening).still n (step m role.Opening) (opened n m h) (within_first k (step m role.Opening) xs (role.Closing ∷ []) f.1));
}
  where
    go : (k : ℕ) (s t : List ℕ) (n m : Nesting) → IsBelow s t 0 n m → Reaches true k s (step m role.Opening).still 0 n (step m role.Opening) ps xs → Reaches true k s t 0 n m ps (role.Opening ∷ xs ++ role.Closing ∷ [])
    go k s t n m h w =
        let z = w.quiet refl in
        let l = after (step m role.Opening) xs in
        let e : l.still ≡ (1 + m.run.len) ∷ m.still = second_is w.ends.stills in
        let c : next_open l.still l.run.len role.Closing ≡ m.still = rw e refl in
        let st : Stills s t zero (after n ps).still m.still = closed_up h.stills w.ends.stills in
        let le : sum (after n ps).still ≤ sum m.still = stills_below st in
        let same_sum : sum (next_open l.still l.run.len role.Closing) ≡ sum m.still = ap sum c in
        let below : IsBelow s t 0 (after n ps) (step l role.Closing) = record { stills = rw c st; reach = omega (arith, z, le, same_sum); runs = first_none z } in
        record { within = w.within; ends = rw (after_both (step m role.Opening) xs (role.Closing ∷ [])) below; quiet = w.quiet }

-- ---- a minus before zero, which the tree has not

pub zero_under : IsUnder true 0 0 (role.Other ∷ []) (role.Minus ∷ role.Other ∷ [])
zero_under = record {
  under = λ k s t n m h f.
      let b = stills_below h.stills in
      let g = f.1.0 in
      record { within = (omega (arith, b, g), tt); ends = record { stills = h.stills; reach = omega (arith, b); runs = same refl }; quiet = λ e. refl };
}

-- a minus before it, and brackets around it in the first text
pub zero_negated : IsUnder true 0 0 (role.Minus ∷ role.Opening ∷ role.Other ∷ role.Closing ∷ []) (role.Minus ∷ role.Minus ∷ role.Other ∷ [])
zero_negated = record {
  under = λ k s t n m h f.
      let b = stills_below h.stills in
      let d = (minus_step n m h).reach in
      let c = sum_by-cons (λ (x : ℕ). x) (1 + (step n role.Minus).run.len) n.still in
      let g = f.0 in
      let g' = f.1.0 in
      let one : deep (step n role.Minus) ≤ k = omega (arith, d, g) in
      let two : sum ((1 + (step n role.Minus).run.len) ∷ n.still) + 0 ≤ k = omega (arith, c, d, g') in
      let last : sum n.still + 0 ≤ k = omega (arith, one) in
      record { within = (one, (two, (two, (last, tt)))); ends = record { stills = h.stills; reach = omega (arith, b); runs = first_none refl }; quiet = λ e. refl };
}
