use Rattle.std.proofs.Common.{◌≡◌, ℕ, zero, suc, ◌-◌, ◌∙◌, ap, sym, refl, arith}
use Rattle.opt_system.specs.Meaning.{Meaning, undone_by}
use Rattle.opt_cells.specs.Traps.{traps_means}
use Rattle.opt_cells.proofs.traps.TrapsSystem.back.Goals as goal

module _ {Found Goal Reason : Type 0} (m : Meaning ℕ Found Goal Reason) (one : (n : ℕ) → m.undone n ≡ n - 1) where
  undone_less : (k n : ℕ) → n - k ≡ undone_by m k n
  undone_less zero n = omega arith
  undone_less (suc k) n =
      let less : n - suc k ≡ (n - 1) - k = omega arith in
      less ∙ undone_less k (n - 1) ∙ ap (λ (x : ℕ). undone_by m k x) (sym (one n))

pub returns : goal.returns
returns c = undone_less traps_means (λ n. refl) c.args.k c.args.at.now
