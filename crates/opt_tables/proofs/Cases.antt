-- One commit of a pass that has all the room.
use Rattle.std.proofs.Common.{◌≡◌, ℕ, zero, suc, ◌+◌, ◌==◌, List, [], ◌∷◌, ◌++◌, Some, cond, length, refl, sym, ◌∙◌, ap, arith, subst}
use Rattle.std.proofs.lemmas.Bool.Decides.{nat_tests}
use mathlib.Core.Option.{some-injective, some-ne-none}
use Rattle.opt_core.specs.declared.event.Reply.{Reply}
use Rattle.opt_core.specs.declared.event.Reply.TheVariants as reply
use Rattle.opt_gate.specs.declared.ask.Ask.TheVariants as ask
use Rattle.opt_gate.specs.declared.key.Key.{Key}
use Rattle.opt_gate.specs.Lists.{AllAt, times, once_below}
use Rattle.opt_gate.specs.Pass.{GateView, PassView, OwnsRightly, IsWhole, first_pass, pass_after_split, new_pass, joined_pass}
use Rattle.opt_core.specs.Runs.{commits_of}
use Rattle.opt_gate.specs.Turn.{event_of, pass_after}

both_places : (place n : ℕ) → cond (place == 0) 1 0 + 0 ≡ once_below 0 (suc (suc n)) → cond (place == 1) 1 0 + 0 ≡ once_below 1 (suc (suc n)) → ⊥
both_places place n a b = grind (arith, nat_tests)

module _ {A : Type 0} where
  one_commit : (knows : List A) (place : ℕ) (f : A) → AllAt knows ((place, f) ∷ []) → ((p : ℕ) → times p ((place, f) ∷ []) ≡ once_below p (length knows)) → (knows ≡ f ∷ []) × (place ≡ 0)
  one_commit [] place f at each = absurd (some-ne-none f (sym at.0))
  one_commit (x ∷ []) zero f at each = (ap (λ (y : A). y ∷ []) (some-injective x f at.0), refl)
  one_commit (x ∷ []) (suc place) f at each = absurd (some-ne-none f (sym at.0))
  one_commit (x ∷ y ∷ ys) place f at each = absurd (both_places place (length ys) (each 0) (each 1))

module _ {C Found Reason : Type 0} where
  module _ (gate : GateView (Key C)) (p q then r : PassView (Key C) Found Reason) (f : Found) (place : ℕ) (a : Reply Found Reason)
      (two : gate.key.passes ≡ 2) (is_p : p ≡ pass_after_split (first_pass gate 2)) (is_q : q ≡ new_pass (first_pass gate 2) 1) (is_a : a ≡ reply.Committed place)
      (turned : then ≡ pass_after p (ask.Offer f) a then.knows then.ending) (joined : r ≡ joined_pass then q) where
    its_own : r.own ≡ (place, f) ∷ []
    its_own = ap (λ (x : PassView (Key C) Found Reason). x.own) joined ∙ (ap (λ (l : List (ℕ × Found)). l ++ q.own) (ap (λ (x : PassView (Key C) Found Reason). x.own) turned)
        ∙ (ap (λ (l : List (ℕ × Found)). (l ++ commits_of (event_of p.told (ask.Offer f)) a) ++ q.own) (ap (λ (x : PassView (Key C) Found Reason). x.own) is_p)
        ∙ (ap (λ (x : Reply Found Reason). commits_of (event_of p.told (ask.Offer f)) x ++ q.own) is_a ∙ ap (λ (l : List (ℕ × Found)). (place, f) ∷ l) (ap (λ (x : PassView (Key C) Found Reason). x.own) is_q))))

    all_room : r.room ≡ gate.key.passes
    all_room = let a = ap (λ (x : PassView (Key C) Found Reason). x.room) joined in let b = ap (λ (x : PassView (Key C) Found Reason). x.room) turned in let c = ap (λ (x : PassView (Key C) Found Reason). x.room) is_p in let d = ap (λ (x : PassView (Key C) Found Reason). x.room) is_q in omega arith

    pub one_known : OwnsRightly r → IsWhole gate.key r → (r.knows ≡ f ∷ []) × (r.own ≡ (0, f) ∷ []) × (r.table ≡ gate.table) × (r.key ≡ Some gate.key)
    one_known owns whole =
        let o = one_commit r.knows place f (subst (λ (l : List (ℕ × Found)). AllAt r.knows l) its_own owns.at_places)
        (λ n. ap (λ (l : List (ℕ × Found)). times n l) (sym its_own) ∙ whole.each_once all_room n) in (
          o.0,
          its_own ∙ ap (λ (n : ℕ). (n, f) ∷ []) o.1,
          ap (λ (x : PassView (Key C) Found Reason). x.table) joined ∙ (ap (λ (x : PassView (Key C) Found Reason). x.table) turned ∙ ap (λ (x : PassView (Key C) Found Reason). x.table) is_p),
          ap (λ (x : PassView (Key C) Found Reason). x.key) joined ∙ (ap (λ (x : PassView (Key C) Found Reason). x.key) turned ∙ ap (λ (x : PassView (Key C) Found Reason). x.key) is_p),
        )
