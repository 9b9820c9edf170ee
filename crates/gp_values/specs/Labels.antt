-- The text of a label.
use Rattle.std.specs.Prelude.{ℕ, List, [], ◌∷◌, ◌++◌, codes}
use Rattle.std.specs.Fmt.{signed_decimal}
use Rattle.std.specs.List.{join_by}
use Rattle.gp_values.specs.declared.atom.Atom.{Atom}
use Rattle.gp_values.specs.declared.atom.Atom.TheVariants.{Int, Str}

-- an integer in decimal, without leading zeros and with a minus where it is negative; a string in quotation marks
abbrev pub atom_text : Atom → List ℕ
atom_text (Int z) = signed_decimal z
atom_text (Str s) = codes "\"" ++ s ++ codes "\""

-- the word `empty`, or the atoms with a colon between each two
abbrev pub label_text : List Atom → List ℕ
label_text [] = codes "empty"
label_text (x ∷ xs) = join_by atom_text (codes ":") (x ∷ xs)
