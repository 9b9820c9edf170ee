-- What a visit leaves.
use Rattle.std.proofs.Common.{◌≡◌, ◌≢◌, ◌⊎◌, inl, inr, ℕ, zero, suc, ◌+◌, ◌<◌, Bool, true, false, List, [], ◌∷◌, ◌++◌, length, get_or, replicate, refl, sym, ap, ◌∙◌, subst, arith, length-append}
use Rattle.std.proofs.Math.ListN.{set}
use Rattle.std.specs.Prelude.{Contains}
use Rattle.std.proofs.lemmas.List.{get_or-set_same, get_or-set_other, length-set}
use Rattle.std.proofs.lemmas.List.Elements.{Contains-push, Contains-push_cases, Contains-append_left}
use Rattle.gp_reader.specs.inside.Procedures.{IsMarked}
use Rattle.gp_reader.specs.inside.Visits.{unmarked, Visited}

same_or_other : (k x : ℕ) → (k ≡ x) ⊎ (k ≢ x)
same_or_other zero zero = inl refl
same_or_other zero (suc x) = inr (λ e. omega (arith, e))
same_or_other (suc k) zero = inr (λ e. omega (arith, e))
same_or_other (suc k) (suc x) = elim (same_or_other k x) [ inl e ↦ inl (ap suc e) | inr n ↦ inr (λ e. n (omega (arith, e))) ]

-- ---- marks

pub marked_still : (marks : List Bool) (x k : ℕ) → x < length marks → IsMarked marks k → IsMarked (set marks x true) k
marked_still marks x k lt h = elim (same_or_other k x) [ inl e ↦ ap (λ n. get_or (set marks x true) n false) e ∙ get_or-set_same marks x true false lt | inr n ↦ get_or-set_other marks x k true false n ∙ h ]

pub marked_before : (marks : List Bool) (x k : ℕ) → IsMarked (set marks x true) k → IsMarked marks k ⊎ (x ≡ k)
marked_before marks x k h = elim (same_or_other k x) [ inl e ↦ inr (sym e) | inr n ↦ inl (sym (get_or-set_other marks x k true false n) ∙ h) ]

pub marked_here : (marks : List Bool) (x k : ℕ) → x < length marks → x ≡ k → IsMarked (set marks x true) k
marked_here marks x k lt e = ap (λ n. get_or (set marks x true) n false) (sym e) ∙ get_or-set_same marks x true false lt

pub one_less : (marks : List Bool) (x : ℕ) → x < length marks → get_or marks x false ≡ false → unmarked (set marks x true) + 1 ≡ unmarked marks
one_less [] x lt e = absurd (omega (arith, lt))
one_less (true ∷ marks) zero lt e = cc
one_less (false ∷ marks) zero lt e = omega arith
one_less (true ∷ marks) (suc x) lt e = one_less marks x (omega (arith, lt)) e
one_less (false ∷ marks) (suc x) lt e = let h = one_less marks x (omega (arith, lt)) e in omega (arith, h)

pub marked_within : (marks : List Bool) (k : ℕ) → IsMarked marks k → k < length marks
marked_within [] k h = cc
marked_within (b ∷ marks) zero h = omega arith
marked_within (b ∷ marks) (suc k) h = let l = marked_within marks k h in omega (arith, l)

none_in_replicate : (n k : ℕ) → IsMarked (replicate n false) k → ⊥
none_in_replicate zero k h = cc
none_in_replicate (suc n) zero h = cc
none_in_replicate (suc n) (suc k) h = none_in_replicate n k h

pub none_of_replicate : (n : ℕ) (marks : List Bool) → marks ≡ replicate n false → (k : ℕ) → IsMarked marks k → ⊥
none_of_replicate n marks e k h = none_in_replicate n k (subst (λ m. IsMarked m k) e h)

-- ---- visits

pub visited_again : (f : List ℕ) (x : ℕ) (s0 s : List Bool) (l0 l : List ℕ) → IsMarked s x → Visited f s0 s l0 l → Visited (f ++ x ∷ []) s0 s l0 l
visited_again f x s0 s l0 l h m = record {
  same_length = m.same_length;
  all_found = λ k c. elim (Contains-push_cases f x k c) [ inl d ↦ m.all_found k d | inr e ↦ ap (λ n. get_or s n false) (sym e) ∙ h ];
  kept = m.kept;
  only = λ k d. elim (m.only k d) [ inl a ↦ inl a | inr b ↦ inr (Contains-append_left f (x ∷ []) k b) ];
  still_left = m.still_left;
  new_left = m.new_left;
  left_seen = m.left_seen;
  balance = m.balance;
}

pub visited_anew : (f : List ℕ) (x : ℕ) (s0 s : List Bool) (l0 l : List ℕ) → x < length s → get_or s x false ≡ false → Visited f s0 s l0 l → Visited (f ++ x ∷ []) s0 (set s x true) l0 (l ++ x ∷ [])
visited_anew f x s0 s l0 l lt e m = record {
  same_length = length-set s x true ∙ m.same_length;
  all_found = λ k c. elim (Contains-push_cases f x k c) [ inl d ↦ marked_still s x k lt (m.all_found k d) | inr q ↦ marked_here s x k lt q ];
  kept = λ k h. marked_still s x k lt (m.kept k h);
  only = λ k h. elim (marked_before s x k h) [ inl d ↦ elim (m.only k d) [ inl a ↦ inl a | inr b ↦ inr (Contains-append_left f (x ∷ []) k b) ] | inr q ↦ inr (subst (λ n. Contains (f ++ x ∷ []) n) q (Contains-push f x)) ];
  still_left = λ k h. Contains-append_left l (x ∷ []) k (m.still_left k h);
  new_left = λ k h. elim (marked_before s x k h) [ inl d ↦ elim (m.new_left k d) [ inl a ↦ inl a | inr b ↦ inr (Contains-append_left l (x ∷ []) k b) ] | inr q ↦ inr (subst (λ n. Contains (l ++ x ∷ []) n) q (Contains-push l x)) ];
  left_seen = λ k h. elim (Contains-push_cases l x k h) [ inl d ↦ elim (m.left_seen k d) [ inl a ↦ inl a | inr b ↦ inr (marked_still s x k lt b) ] | inr q ↦ inr (marked_here s x k lt q) ];
  balance = let o = one_less s x lt e in let n = length-append l (x ∷ []) in omega (arith, o, n, m.balance);
}
