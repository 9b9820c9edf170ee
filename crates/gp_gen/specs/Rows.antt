-- Worked examples: the hosts of small sizes, to be compared with what is meant.
use Rattle.std.specs.Prelude.{◌≡◌, ℕ, [], ◌∷◌, codes}
use Rattle.gp_gen.specs.declared.kind.Kind.TheVariants.{Closure, Colour, Tree}
use Rattle.gp_gen.specs.Host.{words, grid_pairs, grid_edge, drawn, host_edges}
use Rattle.gp_gen.specs.Texts.{host_text}

-- The words of seed 0 end in 107 and 527.
pub record ClosureExamples : Type 0 where
  pub words : words 0 2 ≡ 298703107 ∷ 4236525527 ∷ []
  pub one : host_text Closure 1 0 ≡ codes "[\n  (0, 0)\n|\n  (e0, 0, 0, 107)\n]\n"
  pub two : host_text Closure 2 0 ≡ codes "[\n  (0, 0)\n  (1, 1)\n|\n  (e0, 0, 1, 107)\n  (e1, 1, 0, 527)\n]\n"

-- The first two words of seed 0 are odd, and of seed 1 the third one is.
pub record ColourExamples : Type 0 where
  pub words : words 1 4 ≡ 866585574 ∷ 2109535214 ∷ 3403630417 ∷ 296513984 ∷ []
  pub one : (seed : ℕ) → host_text Colour 1 seed ≡ codes "[\n  (0, 0 # red)\n|\n]\n"
  pub two : (seed : ℕ) → host_edges Colour 2 seed ≡ drawn grid_edge ((0, 1) ∷ (2, 3) ∷ (0, 2) ∷ (1, 3) ∷ []) seed
  pub pairs : grid_pairs 3 ≡ (0, 1) ∷ (1, 2) ∷ (3, 4) ∷ (4, 5) ∷ (6, 7) ∷ (7, 8) ∷ (0, 3) ∷ (1, 4) ∷ (2, 5) ∷ (3, 6) ∷ (4, 7) ∷ (5, 8) ∷ []
  pub of_0 : host_text Colour 2 0 ≡ codes "[\n  (0, 0 # red)\n  (1, 1)\n  (2, 2)\n  (3, 3)\n|\n  (e0, 1, 0, empty)\n  (e1, 3, 2, empty)\n  (e2, 2, 0, empty)\n  (e3, 1, 3, empty)\n]\n"
  pub of_1 : host_text Colour 2 1 ≡ codes "[\n  (0, 0 # red)\n  (1, 1)\n  (2, 2)\n  (3, 3)\n|\n  (e0, 0, 1, empty)\n  (e1, 2, 3, empty)\n  (e2, 2, 0, empty)\n  (e3, 1, 3, empty)\n]\n"

-- The seed has no effect.
abbrev pub TreeExample : Type 0
TreeExample = (seed : ℕ) → host_text Tree 2 seed ≡ codes "[\n  (0, 2)\n|\n]\n"
