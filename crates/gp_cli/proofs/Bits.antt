-- A chooser's answers are the lowest bits of the words of its generator.
use Rattle.std.proofs.Common.{◌≡◌, ℕ, zero, suc, Bool, List, [], ◌∷◌, map, length, refl, ap₂}
use Rattle.rand_core.specs.Steps.{first_words}
use Rattle.rand_pcg.specs.Lcg.{Lcg}
use Rattle.rand_pcg.specs.Pcg.{pcg32}
use Rattle.gp_run.specs.Finished.{AreAnswers}
use Rattle.gp_cli.specs.Choices.{is_odd}

more_words : (k : ℕ) (s : Lcg) → first_words pcg32 (suc k) s ≡ (pcg32 s).0 ∷ first_words pcg32 k (pcg32 s).1
unfolding first_words
more_words k s = refl

no_words : (s : Lcg) → first_words pcg32 zero s ≡ []
unfolding first_words
no_words s = refl

pub bits_of : (picks : List Bool) (s u : Lcg) → AreAnswers (λ (g : Lcg). is_odd (pcg32 g).0) (λ (g : Lcg). (pcg32 g).1) picks s u → picks ≡ map is_odd (first_words pcg32 (length picks) s)
bits_of [] s u a = rw (no_words s) refl
bits_of (b ∷ bs) s u a = rw (more_words (length bs) s) (ap₂ (λ (x : Bool) (xs : List Bool). x ∷ xs) a.0 (bits_of bs (pcg32 s).1 u a.1))
