-- Lines of traces.
use Rattle.std.specs.Prelude.{◌≡◌, ◌⊎◌, ◌==◌, ℕ, ◌+◌, ◌<◌, false, List, [], ◌∷◌, ◌++◌, flat_map, length, take, drop, codes, All}
use Rattle.gp_memory.specs.Free.{Free}
use Rattle.gp_syntax.specs.Run.{Item}
use Rattle.gp_trace.specs.declared.fault.TraceFault.{TraceFault}
use Rattle.gp_trace.specs.declared.fault.TraceFault.TheVariants.{Line, NoMemory}
use Rattle.gp_trace.specs.TraceText.{item_line}
use Rattle.gp_trace.specs.Reading.{CanBeHeld}

-- each word behind a space
abbrev pub spaced : List (List ℕ) → List ℕ
spaced words = flat_map (λ (w : List ℕ). 32 ∷ w) words

abbrev pub item_lines : List Item → List ℕ
item_lines items = flat_map item_line items

-- no line feed
abbrev pub IsFeedless : List ℕ → Type 0
IsFeedless text = All (λ b. (b == 10) ≡ false) text

pub record EndsLine (text : List ℕ) (i : ℕ) : Type 0 where
  pub within : i < length text
  pub cut : text ≡ take i text ++ (10 ∷ drop (i + 1) text)
  pub line : IsFeedless (take i text)

abbrev pub EndsNoLine : List ℕ → Type 0
EndsNoLine text = IsFeedless text

-- ---- the lines behind the header

pub record AreLinesOf (text : List ℕ) (items : List Item) : Type 0 where
  pub text_is : text ≡ item_lines items ++ codes "end\n"
  pub held : All CanBeHeld items

pub record LinesStop (text : List ℕ) (n : ℕ) : Type 0 where
  pub items : List Item
  pub rest : List ℕ
  pub held : All CanBeHeld items
  pub begins : text ≡ item_lines items ++ rest
  pub no_item : (i : Item) (more : List ℕ) → CanBeHeld i → rest ≡ item_line i ++ more → ⊥
  pub no_end : (more : List ℕ) → rest ≡ codes "end\n" ++ more → ⊥
  pub line : n ≡ length items + 2

pub record LinesGoOn (text : List ℕ) (n : ℕ) : Type 0 where
  pub items : List Item
  pub rest : List ℕ
  pub held : All CanBeHeld items
  pub begins : text ≡ item_lines items ++ (codes "end\n" ++ rest)
  pub more : rest ≡ [] → ⊥
  pub line : n ≡ length items + 3

abbrev pub HasLineFault : List ℕ → TraceFault → Type 0
HasLineFault text (Line n) = LinesStop text n ⊎ LinesGoOn text n
HasLineFault text NoMemory = Free
