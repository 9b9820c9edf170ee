-- What may go back into the slot.
use Rattle.std.specs.Prelude.{◌≡◌, ℕ, ◌<◌, ◌⊎◌, List, Option, Some}
use Rattle.opt_core.specs.declared.event.Ending.{Ending}
use Rattle.opt_core.specs.declared.event.Ending.TheVariants as ending
use Rattle.opt_gate.specs.declared.view.View.{View}
use Rattle.opt_gate.specs.Lists.{StartsWith}

module _ {K F R C : Type 0} (entries : C → List F) (ended : C → Option (Ending R)) (Same : K → C → Type 0) where
  -- the core c may follow the one that the served view v took: it begins with the same entries, an ending that stands
  -- stays, with its entries, and Stopped comes with a stop
  pub record MayFollow (stops : ℕ) (v : View K F R) (c : C) : Type 0 where
    pub same : (k : K) → v.key ≡ Some k → Same k c
    pub further : StartsWith (entries c) v.knows
    pub stands : (x : Ending R) → v.ending ≡ Some x → (ended c ≡ Some x) × (entries c ≡ v.knows)
    pub stopped : ended c ≡ Some ending.Stopped → (v.ending ≡ Some ending.Stopped) ⊎ (0 < stops)
