-- The words of lines.
use Rattle.std.specs.Prelude.{◌≡◌, ℕ, List}
use Rattle.gp_derivation.specs.declared.line.Line.{Line}
use Rattle.gp_derivation.specs.Script.{word_of}

abbrev pub IsNoWord : List ℕ → Type 0
IsNoWord word = (line : Line) → word ≡ word_of line → ⊥
