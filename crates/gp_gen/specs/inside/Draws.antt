-- Edges while they are put: each takes a word of the generator, and is the next line of the text.
use Rattle.std.specs.Prelude.{◌≡◌, ℕ, zero, suc, ◌+◌, List, [], ◌∷◌, ◌++◌, length}
use Rattle.rand_pcg.specs.Lcg.{Lcg}
use Rattle.rand_pcg.specs.Pcg.{pcg32}
use Rattle.gp_gen.specs.declared.sheet.Sheet.{Sheet}
use Rattle.gp_gen.specs.Host.{HostEdge}
use Rattle.gp_gen.specs.Texts.{edge_line}
use Rattle.gp_gen.specs.inside.Puts.{Puts}

-- the generator when this many words were taken
unfoldable pub after : ℕ → Lcg → Lcg
after zero s = s
after (suc count) s = after count (pcg32 s).1

-- the lines of the edges of these items, numbered on from i, with the words of a generator
unfoldable pub drawn_lines : {A : Type 0} → (A × ℕ → HostEdge) → ℕ → List A → Lcg → List ℕ
drawn_lines edge i [] s = []
drawn_lines edge i (x ∷ xs) s = edge_line i (edge (x, (pcg32 s).0)) ++ drawn_lines edge (i + 1) xs (pcg32 s).1

-- these lines were put on the sheet, and their words were taken
pub record Draws {A : Type 0} (edge : A × ℕ → HostEdge) (items : List A) (i : ℕ) (old new : Sheet) (s u : Lcg) : Type 0 where
  pub written : Puts old new (drawn_lines edge i items s)
  pub taken : u ≡ after (length items) s
