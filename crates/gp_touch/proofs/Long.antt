-- Steps one after another, and the matches that they unblock.
use Rattle.std.proofs.Common.{inl, inr, ◌≡◌, ℕ, zero, suc, ◌<◌, Bool, true, false, List, [], ◌∷◌, length, refl, sym, subst, arith}
use Rattle.std.specs.Prelude.{◌⊎◌, Some, All, Contains, slice_get, slice_index}
use Rattle.std.proofs.lemmas.Option.{get_or_from_slice_get, slice_get_within}
use Rattle.gp_memory.proofs.Basics.{standing}
use Rattle.gp_values.specs.Graph.{Graph}
use Rattle.gp_syntax.specs.Rule.{Rule, Found}
use Rattle.gp_syntax.specs.Step.{Step, Blocked}
use Rattle.gp_syntax.specs.Replay.{StepsTo}
use Rattle.gp_syntax.specs.WellFormed.{IsWellFormed}
use Rattle.gp_syntax.proofs.Unique.{contained}
use Rattle.gp_step.specs.Laws.{IsNumbered}
use Rattle.gp_step.proofs.Wholes.{numbered_step}
use Rattle.gp_touch.specs.Touch.{IsTouched, IsTouchedBy, AreSameAt, AreSameFor, OthersStayLong, AppliesOrFails, ComesUp, LiesAt, NotedAloneBringUp, TouchedAloneBringUp, TouchedAloneBringBack, TouchedAloneUnblock, BareStayBlocked}
use Rattle.gp_touch.proofs.Around.{same_self, same_back, same_on, untouched_stays}
use Rattle.gp_touch.proofs.Others.{same_for, bare_same}

pub rule_at : (rules : List Rule) → All IsWellFormed rules → (i : ℕ) (r : Rule) → slice_get rules i ≡ Some r → IsWellFormed r
rule_at rules each i r e = subst IsWellFormed (get_or_from_slice_get rules i r r e) (each i r (slice_get_within rules i r e))

same_long : (rules : List Rule) → All IsWellFormed rules → (ms : List Found) (g h : Graph) → IsNumbered g → (t : StepsTo rules g ms h) (k : ℕ) → (IsTouchedBy rules g ms h t k → ⊥) → AreSameAt g h k
same_long rules each [] g h whole t k out = subst (λ z. AreSameAt g z k) (sym t) (same_self g k)
same_long rules each (m ∷ ms) g h whole t k out =
    let w = rule_at rules each m.rule t.1 t.2 in
    same_on (untouched_stays t.1 g t.0 m w whole t.3 k (λ c. out (inl c)))
    (same_long rules each ms t.0 h (numbered_step w whole t.3.1.is_match t.3.2) t.4 k (λ c. out (inr c)))

pub others_stays_long : OthersStayLong
others_stays_long rules s g h ms n each ws whole t out = same_for ws (λ k c. same_long rules each ms g h whole t k (out k c))

-- ---- touched or not

is_touched : (r : Rule) (g : Graph) (m : Found) (h : Graph) (t : Step r g m h) (n : ℕ) → IsTouched r g m h t n ⊎ (IsTouched r g m h t n → ⊥)
is_touched r g m h t n =
    elim (contained m.nodes n) [
      | inl c ↦ inl (inl c)
      | inr a ↦ elim (contained t.2.images n) [
        | inl c ↦ inl (inr c)
        | inr b ↦ inr (λ c. elim c [ inl x ↦ a x | inr x ↦ b x ])
      ]
    ]

touched_by : (rules : List Rule) (ms : List Found) (g h : Graph) (t : StepsTo rules g ms h) (n : ℕ) → IsTouchedBy rules g ms h t n ⊎ (IsTouchedBy rules g ms h t n → ⊥)
touched_by rules [] g h t n = inr (λ c. c)
touched_by rules (m ∷ ms) g h t n =
    elim (is_touched t.1 g m t.0 t.3 n) [
      | inl c ↦ inl (inl c)
      | inr a ↦ elim (touched_by rules ms t.0 h t.4 n) [
        | inl c ↦ inl (inr c)
        | inr b ↦ inr (λ c. elim c [ inl x ↦ a x | inr x ↦ b x ])
      ]
    ]

-- a number of a list for which it holds, or none
one_of : (P : ℕ → Type 0) → ((n : ℕ) → P n ⊎ (P n → ⊥)) → (ns : List ℕ) (k : ℕ) → ((j : ℕ) × (j < k) × P (slice_index ns j)) ⊎ ((j : ℕ) → j < k → P (slice_index ns j) → ⊥)
one_of P decide ns zero = inr (λ j l. absurd (omega arith))
one_of P decide ns (suc k) =
    elim (one_of P decide ns k) [
      | inl x ↦ inl (let l : x.0 < k = x.1 in (x.0, omega arith, x.2))
      | inr none ↦ elim (decide (slice_index ns k)) [
        | inl x ↦ inl (k, omega arith, x)
        | inr not_last ↦ inr (λ j l p. last_or_before j k l (λ b. none j b p) (λ e. not_last (subst (λ z. P (slice_index ns z)) e p)))
      ]
    ]
  where
    last_or_before : (j k : ℕ) → j < suc k → (j < k → ⊥) → (j ≡ k → ⊥) → ⊥
    last_or_before j k l a b = b (omega arith)

-- ---- matches that come up

nodes_of : (r : Rule) (g : Graph) (n : Found) → AppliesOrFails r g n → length n.nodes ≡ length r.left_nodes
nodes_of r g n (inl x) = x.1.is_match.node_count
nodes_of r g n (inr x) = x.1.1.is_match.node_count

also : (r : Rule) (g h : Graph) (n : Found) → AreSameFor r n g h → AppliesOrFails r h n → AppliesOrFails r g n
also r g h n same (inl x) = inl (x.0, (same.applies x.0).1 x.1)
also r g h n same (inr x) = inr (x.0, (x.1.0, (same.faulty x.0 x.1.0).1 x.1.1))

-- where it can be told whether P holds, and a match whose nodes have no P would not come up
pub lies_at : (P : ℕ → Type 0) → ((k : ℕ) → P k ⊎ (P k → ⊥)) → (r : Rule) (g h : Graph) (n : Found) → (((k : ℕ) → Contains n.nodes k → P k → ⊥) → AppliesOrFails r h n → AppliesOrFails r g n) → ComesUp r g h n → LiesAt r n P
lies_at P decide r g h n back up =
    elim (one_of P decide n.nodes (length r.left_nodes)) [
      | inl x ↦ x
      | inr none ↦ absurd (
          let count : length n.nodes ≡ length r.left_nodes = nodes_of r h n up.1 in
          up.0 (back (λ k d x. let l : d.0 < length n.nodes = d.1 in none d.0 (omega arith) (subst P (sym (standing n.nodes k d)) x)) up.1))
    ]

-- and two graphs are the same at all nodes of which P does not hold
lies_where : (P : ℕ → Type 0) → ((k : ℕ) → P k ⊎ (P k → ⊥)) → (r : Rule) (g h : Graph) (n : Found) → IsWellFormed r → ((k : ℕ) → (P k → ⊥) → AreSameAt g h k) → ComesUp r g h n → LiesAt r n P
lies_where P decide r g h n wr same up = lies_at P decide r g h n (λ out. also r g h n (same_for wr (λ k d. same k (out k d)))) up

pub true_or : (b : Bool) → (b ≡ true) ⊎ (b ≡ true → ⊥)
true_or true = inl refl
true_or false = inr (λ e. absurd cc)

pub not_true : (b : Bool) → (b ≡ true → ⊥) → b ≡ false
not_true true out = absurd (out refl)
not_true false out = refl

pub noted_bring_up : NotedAloneBringUp
noted_bring_up r g h m noted wr same up = lies_where (λ n. noted n ≡ true) (λ n. true_or (noted n)) r g h m wr (λ k out. same k (not_true (noted k) out)) up

pub touched_bring_up : TouchedAloneBringUp
touched_bring_up rules g h ms r n each wr whole t up = lies_where (IsTouchedBy rules g ms h t) (touched_by rules ms g h t) r g h n wr (same_long rules each ms g h whole t) up

pub touched_bring_back : TouchedAloneBringBack
touched_bring_back rules g h ms r n each wr whole t back = lies_where (IsTouchedBy rules g ms h t) (touched_by rules ms g h t) r h g n wr (λ k out. same_back (same_long rules each ms g h whole t k out)) back

-- ---- after a graph on which a set of rules is blocked

pub none_of : (rules : List Rule) (set : List ℕ) (g : Graph) (i : ℕ) (r : Rule) (n : Found) → Blocked rules set g → Contains set i → slice_get rules i ≡ Some r → AppliesOrFails r g n → ⊥
none_of rules set g i r n blocked c e (inl x) = blocked.none_applies i r n c e x
none_of rules set g i r n blocked c e (inr x) = blocked.none_faulty i r n x.0 c e x.1

pub unblock_touched : TouchedAloneUnblock
unblock_touched rules set g h ms each whole blocked t i r n c e some =
    touched_bring_up rules g h ms r n each (rule_at rules each i r e) whole t (none_of rules set g i r n blocked c e, some)

pub bare_blocked : BareStayBlocked
bare_blocked rules set g h each blocked i r n c e none some =
    none_of rules set g i r n blocked c e (also r g h n (bare_same r g h n (rule_at rules each i r e) none) some)
