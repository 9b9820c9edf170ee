-- Items break at one place at most: before it a beginning replays, and from it on none does. Where they break at none,
-- they have an upgrade.
use Rattle.std.proofs.Common.{inl, inr, ℕ, ◌+◌, ◌<◌, List, arith}
use Rattle.std.proofs.lemmas.Bool.{cases_lt}
use Rattle.gp_values.specs.Graph.{Graph}
use Rattle.gp_syntax.specs.Rule.{Rule}
use Rattle.gp_syntax.specs.Run.{Item}
use Rattle.gp_derivation.specs.Upgrade.{BreaksAtItem}
use Rattle.gp_derivation.specs.Laws.{BreaksAreTold}
use Rattle.gp_derivation.proofs.Existing.{upgraded_or_broken}

-- of two such places none is before the other
not_before : (rules : List Rule) (host : Graph) (s : List Item) (m n : ℕ) → m < n → BreaksAtItem rules host s m → BreaksAtItem rules host s n → ⊥
not_before rules host s m n l b d = let r = d.before (m + 1) (omega arith) in b.none r.0 r.1

pub told : (rules : List Rule) (host : Graph) (s : List Item) → BreaksAreTold rules host s
told rules host s = record {
  one = λ m n b d.
      elim (cases_lt m n) [
        | inl l ↦ absurd (not_before rules host s m n l b d)
        | inr l ↦ elim (cases_lt n m) [ inl k ↦ absurd (not_before rules host s n m k d b) | inr k ↦ omega arith ]
      ];
  some = λ w n. upgraded_or_broken rules host w n s;
  none = λ t n u b. let l = u.beginnings (n + 1) in b.none l.was l.replays_anew;
}
