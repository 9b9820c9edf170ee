-- What is found of commands that may break is so, and all of it is found.
use Rattle.std.proofs.Common.{◌≡◌, ◌⊎◌, inl, inr, ℕ, suc, ◌+◌, ◌<◌, ◌≤◌, Bool, true, ◌||◌, List, [], ◌∷◌, ◌++◌, length, get_or, slice_get, Some, refl, sym, ap, ◌∙◌, subst, arith}
use Rattle.std.proofs.Math.ListN.{set}
use Rattle.std.specs.Prelude.{Contains, slice_index_or}
use Rattle.std.proofs.lemmas.Bool.{cases_eq}
use Rattle.std.proofs.lemmas.List.Elements.{Contains-append_left, Contains-append_right, Contains-append_cases, Contains-push_cases}
use Rattle.gp_memory.proofs.Basics.{or_cases, or_left, or_right}
use Rattle.gp_syntax.specs.Run.{Command, Call, Seq, If, Try, Loop, Or, Skip, Fail, Break, Procedure}
use Rattle.gp_syntax.specs.Scoped.{MayBreak, conditions_in}
use Rattle.gp_syntax.specs.Scoped as may
use Rattle.gp_reader.specs.inside.Procedures.{IsMarked}
use Rattle.gp_reader.specs.inside.Visits.{unmarked}
use Rattle.gp_reader.specs.inside.Procedures.{procedures_alone}
use Rattle.gp_reader.specs.inside.Judged.{is_known, breaks_by, strays_by, AreBreaking, AreAllBreaking}

behind : (c k p q : Command) (x : Command) → Contains (conditions_in k ++ conditions_in p ++ conditions_in q) x → Contains (c ∷ (conditions_in k ++ conditions_in p ++ conditions_in q)) x
behind c k p q x h = Contains-append_right (c ∷ []) (conditions_in k ++ conditions_in p ++ conditions_in q) x h

pub first_or : (c x : Command) (cs : List Command) → Contains (c ∷ cs) x → (c ≡ x) ⊎ Contains cs x
first_or c x cs h = elim (Contains-append_cases (c ∷ []) cs x h) [ inl d ↦ elim (Contains-push_cases [] c x d) [ inl n ↦ absurd (omega (arith, n.1)) | inr e ↦ inl e ] | inr r ↦ inr r ]

module _ (procedures : List Command) (marks : List Bool) where
  -- ---- found rightly

  module _ (sound : AreBreaking procedures marks) where
    pub breaks_so : (c : Command) → breaks_by marks c ≡ true → MayBreak (procedures_alone procedures) c
    breaks_so (Call c) e = cc
    breaks_so (Seq p q) e = elim (or_cases (breaks_by marks p) (breaks_by marks q) e) [ inl f ↦ may.seq_first (breaks_so p f) | inr f ↦ may.seq_second (breaks_so q f) ]
    breaks_so (If k p q) e = elim (or_cases (breaks_by marks k) (breaks_by marks p || breaks_by marks q) e) [ inl f ↦ may.if_condition (breaks_so k f) | inr f ↦ elim (or_cases (breaks_by marks p) (breaks_by marks q) f) [ inl h ↦ may.if_then (breaks_so p h) | inr h ↦ may.if_else (breaks_so q h) ] ]
    breaks_so (Try k p q) e = elim (or_cases (breaks_by marks k) (breaks_by marks p || breaks_by marks q) e) [ inl f ↦ may.try_condition (breaks_so k f) | inr f ↦ elim (or_cases (breaks_by marks p) (breaks_by marks q) f) [ inl h ↦ may.try_then (breaks_so p h) | inr h ↦ may.try_else (breaks_so q h) ] ]
    breaks_so (Loop p) e = cc
    breaks_so (Or p q) e = elim (or_cases (breaks_by marks p) (breaks_by marks q) e) [ inl f ↦ may.or_first (breaks_so p f) | inr f ↦ may.or_second (breaks_so q f) ]
    breaks_so Skip e = cc
    breaks_so Fail e = cc
    breaks_so Break e = may.breaks
    breaks_so (Procedure k) e = let b = sound k e in may.procedure b.1.0 b.1.1

    -- a condition that breaks, somewhere in a command
    abbrev pub BreaksIn : Command → Type 0
    BreaksIn c = (k : Command) × (Contains (conditions_in c) k × MayBreak (procedures_alone procedures) k)

    pub strays_so : (c : Command) → strays_by marks c ≡ true → BreaksIn c
    strays_so (Call c) e = cc
    strays_so (Seq p q) e = elim (or_cases (strays_by marks p) (strays_by marks q) e) [ inl f ↦ (let h = strays_so p f in (h.0, (Contains-append_left (conditions_in p) (conditions_in q) h.0 h.1.0, h.1.1))) | inr f ↦ (let h = strays_so q f in (h.0, (Contains-append_right (conditions_in p) (conditions_in q) h.0 h.1.0, h.1.1))) ]
    strays_so (If k p q) e = elim (or_cases (breaks_by marks k || strays_by marks k) (strays_by marks p || strays_by marks q) e) [
      | inl f ↦ elim (or_cases (breaks_by marks k) (strays_by marks k) f) [
        | inl h ↦ (k, ((0, omega arith, refl), breaks_so k h))
        | inr h ↦ (let b = strays_so k h in (b.0, (behind k k p q b.0 (Contains-append_left (conditions_in k ++ conditions_in p) (conditions_in q) b.0 (Contains-append_left (conditions_in k) (conditions_in p) b.0 b.1.0)), b.1.1)))
      ]
      | inr f ↦ elim (or_cases (strays_by marks p) (strays_by marks q) f) [
        | inl h ↦ (let b = strays_so p h in (b.0, (behind k k p q b.0 (Contains-append_left (conditions_in k ++ conditions_in p) (conditions_in q) b.0 (Contains-append_right (conditions_in k) (conditions_in p) b.0 b.1.0)), b.1.1)))
        | inr h ↦ (let b = strays_so q h in (b.0, (behind k k p q b.0 (Contains-append_right (conditions_in k ++ conditions_in p) (conditions_in q) b.0 b.1.0), b.1.1)))
      ]
    ]
    strays_so (Try k p q) e = elim (or_cases (breaks_by marks k || strays_by marks k) (strays_by marks p || strays_by marks q) e) [
      | inl f ↦ elim (or_cases (breaks_by marks k) (strays_by marks k) f) [
        | inl h ↦ (k, ((0, omega arith, refl), breaks_so k h))
        | inr h ↦ (let b = strays_so k h in (b.0, (behind k k p q b.0 (Contains-append_left (conditions_in k ++ conditions_in p) (conditions_in q) b.0 (Contains-append_left (conditions_in k) (conditions_in p) b.0 b.1.0)), b.1.1)))
      ]
      | inr f ↦ elim (or_cases (strays_by marks p) (strays_by marks q) f) [
        | inl h ↦ (let b = strays_so p h in (b.0, (behind k k p q b.0 (Contains-append_left (conditions_in k ++ conditions_in p) (conditions_in q) b.0 (Contains-append_right (conditions_in k) (conditions_in p) b.0 b.1.0)), b.1.1)))
        | inr h ↦ (let b = strays_so q h in (b.0, (behind k k p q b.0 (Contains-append_right (conditions_in k ++ conditions_in p) (conditions_in q) b.0 b.1.0), b.1.1)))
      ]
    ]
    strays_so (Loop p) e = strays_so p e
    strays_so (Or p q) e = elim (or_cases (strays_by marks p) (strays_by marks q) e) [ inl f ↦ (let h = strays_so p f in (h.0, (Contains-append_left (conditions_in p) (conditions_in q) h.0 h.1.0, h.1.1))) | inr f ↦ (let h = strays_so q f in (h.0, (Contains-append_right (conditions_in p) (conditions_in q) h.0 h.1.0, h.1.1))) ]
    strays_so Skip e = cc
    strays_so Fail e = cc
    strays_so Break e = cc
    strays_so (Procedure k) e = cc

  -- ---- all found

  module _ (all : AreAllBreaking procedures marks) where
    pub breaks_all : (c : Command) → MayBreak (procedures_alone procedures) c → breaks_by marks c ≡ true
    breaks_all c may.breaks = refl
    breaks_all c (may.seq_first {p} {q} h) = or_left (breaks_by marks p) (breaks_by marks q) (breaks_all p h)
    breaks_all c (may.seq_second {p} {q} h) = or_right (breaks_by marks p) (breaks_by marks q) (breaks_all q h)
    breaks_all c (may.if_condition {k} {p} {q} h) = or_left (breaks_by marks k) (breaks_by marks p || breaks_by marks q) (breaks_all k h)
    breaks_all c (may.if_then {k} {p} {q} h) = or_right (breaks_by marks k) (breaks_by marks p || breaks_by marks q) (or_left (breaks_by marks p) (breaks_by marks q) (breaks_all p h))
    breaks_all c (may.if_else {k} {p} {q} h) = or_right (breaks_by marks k) (breaks_by marks p || breaks_by marks q) (or_right (breaks_by marks p) (breaks_by marks q) (breaks_all q h))
    breaks_all c (may.try_condition {k} {p} {q} h) = or_left (breaks_by marks k) (breaks_by marks p || breaks_by marks q) (breaks_all k h)
    breaks_all c (may.try_then {k} {p} {q} h) = or_right (breaks_by marks k) (breaks_by marks p || breaks_by marks q) (or_left (breaks_by marks p) (breaks_by marks q) (breaks_all p h))
    breaks_all c (may.try_else {k} {p} {q} h) = or_right (breaks_by marks k) (breaks_by marks p || breaks_by marks q) (or_right (breaks_by marks p) (breaks_by marks q) (breaks_all q h))
    breaks_all c (may.or_first {p} {q} h) = or_left (breaks_by marks p) (breaks_by marks q) (breaks_all p h)
    breaks_all c (may.or_second {p} {q} h) = or_right (breaks_by marks p) (breaks_by marks q) (breaks_all q h)
    breaks_all c (may.procedure {k} {body} s h) = all k body s (breaks_all body h)

    pub strays_all : (c x : Command) → Contains (conditions_in c) x → MayBreak (procedures_alone procedures) x → strays_by marks c ≡ true
    strays_all (Call n) x h m = absurd (omega (arith, h.1))
    strays_all (Seq p q) x h m = elim (Contains-append_cases (conditions_in p) (conditions_in q) x h) [
      | inl a ↦ or_left (strays_by marks p) (strays_by marks q) (strays_all p x a m)
      | inr b ↦ or_right (strays_by marks p) (strays_by marks q) (strays_all q x b m)
    ]
    strays_all (If k p q) x h m = elim (first_or k x (conditions_in k ++ conditions_in p ++ conditions_in q) h) [
      | inl e ↦ or_left (breaks_by marks k || strays_by marks k) (strays_by marks p || strays_by marks q) (or_left (breaks_by marks k) (strays_by marks k) (breaks_all k (subst (MayBreak (procedures_alone procedures)) (sym e) m)))
      | inr r ↦ elim (Contains-append_cases (conditions_in k ++ conditions_in p) (conditions_in q) x r) [
        | inl l ↦ elim (Contains-append_cases (conditions_in k) (conditions_in p) x l) [
          | inl a ↦ or_left (breaks_by marks k || strays_by marks k) (strays_by marks p || strays_by marks q) (or_right (breaks_by marks k) (strays_by marks k) (strays_all k x a m))
          | inr b ↦ or_right (breaks_by marks k || strays_by marks k) (strays_by marks p || strays_by marks q) (or_left (strays_by marks p) (strays_by marks q) (strays_all p x b m))
        ]
        | inr d ↦ or_right (breaks_by marks k || strays_by marks k) (strays_by marks p || strays_by marks q) (or_right (strays_by marks p) (strays_by marks q) (strays_all q x d m))
      ]
    ]
    strays_all (Try k p q) x h m = elim (first_or k x (conditions_in k ++ conditions_in p ++ conditions_in q) h) [
      | inl e ↦ or_left (breaks_by marks k || strays_by marks k) (strays_by marks p || strays_by marks q) (or_left (breaks_by marks k) (strays_by marks k) (breaks_all k (subst (MayBreak (procedures_alone procedures)) (sym e) m)))
      | inr r ↦ elim (Contains-append_cases (conditions_in k ++ conditions_in p) (conditions_in q) x r) [
        | inl l ↦ elim (Contains-append_cases (conditions_in k) (conditions_in p) x l) [
          | inl a ↦ or_left (breaks_by marks k || strays_by marks k) (strays_by marks p || strays_by marks q) (or_right (breaks_by marks k) (strays_by marks k) (strays_all k x a m))
          | inr b ↦ or_right (breaks_by marks k || strays_by marks k) (strays_by marks p || strays_by marks q) (or_left (strays_by marks p) (strays_by marks q) (strays_all p x b m))
        ]
        | inr d ↦ or_right (breaks_by marks k || strays_by marks k) (strays_by marks p || strays_by marks q) (or_right (strays_by marks p) (strays_by marks q) (strays_all q x d m))
      ]
    ]
    strays_all (Loop p) x h m = strays_all p x h m
    strays_all (Or p q) x h m = elim (Contains-append_cases (conditions_in p) (conditions_in q) x h) [
      | inl a ↦ or_left (strays_by marks p) (strays_by marks q) (strays_all p x a m)
      | inr b ↦ or_right (strays_by marks p) (strays_by marks q) (strays_all q x b m)
    ]
    strays_all Skip x h m = absurd (omega (arith, h.1))
    strays_all Fail x h m = absurd (omega (arith, h.1))
    strays_all Break x h m = absurd (omega (arith, h.1))
    strays_all (Procedure n) x h m = absurd (omega (arith, h.1))
