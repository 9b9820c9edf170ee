-- The text of a script: moves and looks, one a line.
use Rattle.std.specs.Prelude.{◌≡◌, ◌==◌, ℕ, ◌+◌, ◌<◌, List, [], ◌∷◌, map, Some, slice_get, codes}
use Rattle.std.specs.List.{slice_split}
use Rattle.gp_memory.specs.Free.{Free}
use Rattle.gp_derivation.specs.declared.line.Line.{Line}
use Rattle.gp_derivation.specs.declared.line.Line.TheVariants.{Forward, Back, Show}
use Rattle.gp_derivation.specs.declared.script_fault.ScriptFault.{ScriptFault}
use Rattle.gp_derivation.specs.declared.script_fault.ScriptFault.TheVariants as faults

abbrev pub word_of : Line → List ℕ
word_of Forward = codes "forward"
word_of Back = codes "back"
word_of Show = codes "show"

-- without the last of them, where it is empty
abbrev pub without_empty_end : List (List ℕ) → List (List ℕ)
without_empty_end [] = []
without_empty_end ([] ∷ []) = []
without_empty_end (w ∷ ws) = w ∷ without_empty_end ws

-- the lines of a text, between its line feeds; behind the last of these may be one more, and an empty text has none
abbrev pub lines_of : List ℕ → List (List ℕ)
lines_of text = without_empty_end (slice_split (λ b. b == 10) text)

-- each line of the text is one of the three words
abbrev pub IsScript : List ℕ → List Line → Type 0
IsScript text lines = lines_of text ≡ map word_of lines

-- line n, counted from 1, is the first that is none of them
pub record BreaksAt (text : List ℕ) (n : ℕ) : Type 0 where
  pub place : ℕ
  pub counted : n ≡ place + 1
  pub word : List ℕ
  pub is_line : slice_get (lines_of text) place ≡ Some word
  pub none : (l : Line) → word ≡ word_of l → ⊥
  pub before : (k : ℕ) (w : List ℕ) → k < place → slice_get (lines_of text) k ≡ Some w → (l : Line) × (w ≡ word_of l)

-- why a text is answered with this fault
abbrev pub HasFault : List ℕ → ScriptFault → Type 0
HasFault text (faults.Line n) = BreaksAt text n
HasFault text faults.NoMemory = Free
