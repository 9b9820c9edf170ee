-- What is read from a text, and where a text that is no trace breaks.
use Rattle.std.specs.Prelude.{◌≡◌, ◌⊎◌, ℕ, ◌+◌, ◌<◌, ◌^◌, List, [], ◌++◌, flat_map, length, codes, All}
use Rattle.gp_memory.specs.Free.{Free}
use Rattle.gp_syntax.specs.Rule.{Found}
use Rattle.gp_syntax.specs.Run.{Item, Stepped, Turned, Back}
use Rattle.gp_trace.specs.declared.fault.TraceFault.{TraceFault}
use Rattle.gp_trace.specs.declared.fault.TraceFault.TheVariants.{Line, NoMemory}
use Rattle.gp_trace.specs.declared.version.Version.{Version}
use Rattle.gp_trace.specs.TraceText.{item_line, header, text_in, trace_text}

abbrev pub IsNumber : ℕ → Type 0
IsNumber n = n < 2 ^ 64

-- a match that can be held: its rule has 32 bits, all other numbers 64, and each edge has its direction
pub record IsHeld (m : Found) : Type 0 where
  pub rule : m.rule < 2 ^ 32
  pub nodes : All IsNumber m.nodes
  pub edges : All IsNumber m.edges
  pub directions : length m.reversed ≡ length m.edges

abbrev pub CanBeHeld : Item → Type 0
CanBeHeld (Stepped m) = IsHeld m
CanBeHeld Turned = Unit {0}
CanBeHeld (Back k) = IsNumber k

-- the text is that of these items, in this version
pub record IsTraceOf (text : List ℕ) (version : Version) (items : List Item) : Type 0 where
  pub text_is : text ≡ text_in version items
  pub held : All CanBeHeld items

-- the first line is that of no version
pub record HasNoHeader (text : List ℕ) (n : ℕ) : Type 0 where
  pub none : (version : Version) (rest : List ℕ) → text ≡ header version ++ rest → ⊥
  pub line : n ≡ 1

-- behind the header and some items there is neither the line of an item nor that of the end
pub record StopsShort (text : List ℕ) (n : ℕ) : Type 0 where
  pub version : Version
  pub items : List Item
  pub rest : List ℕ
  pub held : All CanBeHeld items
  pub begins : text ≡ header version ++ (flat_map item_line items ++ rest)
  pub no_item : (i : Item) (more : List ℕ) → CanBeHeld i → rest ≡ item_line i ++ more → ⊥
  pub no_end : (more : List ℕ) → rest ≡ codes "end\n" ++ more → ⊥
  pub line : n ≡ length items + 2

-- something stands behind the end
pub record GoesOn (text : List ℕ) (n : ℕ) : Type 0 where
  pub version : Version
  pub items : List Item
  pub rest : List ℕ
  pub held : All CanBeHeld items
  pub begins : text ≡ text_in version items ++ rest
  pub more : rest ≡ [] → ⊥
  pub line : n ≡ length items + 3

-- line n, counted from 1, is the first that is not of the form of its place
abbrev pub BreaksAt : List ℕ → ℕ → Type 0
BreaksAt text n = HasNoHeader text n ⊎ (StopsShort text n ⊎ GoesOn text n)

-- why a text is answered with this fault
abbrev pub HasFault : List ℕ → TraceFault → Type 0
HasFault text (Line n) = BreaksAt text n
HasFault text NoMemory = Free

-- a refused write leaves what the text held, and behind it a beginning of what it was to write
pub record BeginsTrace (items : List Item) (before after : List ℕ) : Type 0 where
  pub piece : List ℕ
  pub rest : List ℕ
  pub after_is : after ≡ before ++ piece
  pub begins : trace_text items ≡ piece ++ rest
