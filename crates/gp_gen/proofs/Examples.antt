-- The worked examples compute.
use Rattle.std.proofs.Common.{refl}
use Rattle.std.specs.Fmt.{digits}
use Rattle.rand_core.specs.Steps.{first_words, word_bytes, u32_at}
use Rattle.rand_core.specs.Pcg32Seed.{pcg32_seed}
use Rattle.gp_gen.specs.Rows.{ClosureExamples, ColourExamples, TreeExample}

pub closure_computes : ClosureExamples
unfolding digits first_words word_bytes u32_at pcg32_seed
closure_computes = record { words = refl; one = refl; two = refl }

pub colour_computes : ColourExamples
unfolding digits first_words word_bytes u32_at pcg32_seed
colour_computes = record { words = refl; one = λ seed. refl; two = λ seed. refl; pairs = refl; of_0 = refl; of_1 = refl }

pub tree_computes : TreeExample
unfolding digits
tree_computes seed = refl
