-- The choices of `or`: the lowest bits of the first words of a generator, which the seed starts (O'Neill 2014: PCG32).
use Rattle.std.specs.Prelude.{◌≡◌, ℕ, ◌%◌, ◌==◌, Bool, List, map, length}
use Rattle.rand_core.specs.Steps.{first_words}
use Rattle.rand_core.specs.Pcg32Seed.{pcg32_seed}
use Rattle.rand_pcg.specs.Lcg.{Lcg}
use Rattle.rand_pcg.specs.Pcg.{pcg32, pcg32_of_seed}

-- the generator of a seed
abbrev pub seeded : ℕ → Lcg
seeded seed = pcg32_of_seed (pcg32_seed 16 seed)

abbrev pub is_odd : ℕ → Bool
is_odd word = word % 2 == 1

abbrev pub AreSeeded : ℕ → List Bool → Type 0
AreSeeded seed picks = picks ≡ map is_odd (first_words pcg32 (length picks) (seeded seed))
