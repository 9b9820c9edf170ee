-- Traps have no independent matches.
use Rattle.std.specs.Prelude.{◌≡◌, ℕ, List, [], ◌∷◌}
use Rattle.std.proofs.Common.{arith}
use Rattle.opt_system.specs.Meaning.{AllIndependent, applies, reached}
use Rattle.opt_cells.specs.Traps.{traps_means}

pub traps_follow : (goal : Unit {0}) (at f : ℕ) (fs : List ℕ) → AllIndependent traps_means goal at (f ∷ fs) → traps_means.judged goal (reached traps_means at fs) f ≡ applies
traps_follow goal at f [] all = all.each_applies 0 0 (omega arith)
traps_follow goal at f (h ∷ fs) all = absurd (all.pairwise 0 1 0 (omega arith) (omega arith))
