-- What words spell.
use Rattle.std.specs.Prelude.{◌≡◌, ℕ, ◌<◌, ◌^◌, drop, List, [], ◌∷◌, map, length, Some, slice_get, All, codes}
use Rattle.std.specs.List.{join_with_byte}
use Rattle.std.specs.Fmt.{decimal}
use Rattle.gp_syntax.specs.Images.{EdgeImage}
use Rattle.gp_syntax.specs.Rule.{Found}
use Rattle.gp_syntax.specs.Run.{Item}
use Rattle.gp_trace.specs.TraceText.{image_word, found_words, item_words}
use Rattle.gp_trace.specs.Reading.{IsNumber, IsHeld, CanBeHeld}

-- ---- numbers and images

pub record SpellsNumber (w : List ℕ) (n : ℕ) : Type 0 where
  pub word : decimal n ≡ w
  pub number : IsNumber n

abbrev pub SpellsNoNumber : List ℕ → Type 0
SpellsNoNumber w = (n : ℕ) → SpellsNumber w n → ⊥

pub record SpellsImage (w : List ℕ) (i : EdgeImage) : Type 0 where
  pub word : image_word i ≡ w
  pub number : IsNumber i.number

abbrev pub SpellsNoImage : List ℕ → Type 0
SpellsNoImage w = (i : EdgeImage) → SpellsImage w i → ⊥

-- ---- lists of them

pub record SpellsNumbers (ws : List (List ℕ)) (ns : List ℕ) : Type 0 where
  pub words : map decimal ns ≡ ws
  pub numbers : All IsNumber ns

abbrev pub SpellsNoNumbers : List (List ℕ) → Type 0
SpellsNoNumbers ws = (ns : List ℕ) → SpellsNumbers ws ns → ⊥

pub record SpellsImages (ws : List (List ℕ)) (is : List EdgeImage) : Type 0 where
  pub words : map image_word is ≡ ws
  pub numbers : All (λ (i : EdgeImage). IsNumber i.number) is

abbrev pub SpellsNoImages : List (List ℕ) → Type 0
SpellsNoImages ws = (is : List EdgeImage) → SpellsImages ws is → ⊥

-- the nodes of a match that had none
pub record PutsNodes (ws : List (List ℕ)) (before after : Found) : Type 0 where
  pub spells : SpellsNumbers ws after.nodes
  pub rule : after.rule ≡ before.rule
  pub edges : after.edges ≡ before.edges
  pub reversed : after.reversed ≡ before.reversed

-- the edges of a match that had none
pub record PutsEdges (ws : List (List ℕ)) (before after : Found) : Type 0 where
  pub images : List EdgeImage
  pub spells : SpellsImages ws images
  pub edges : after.edges ≡ map (λ (i : EdgeImage). i.number) images
  pub reversed : after.reversed ≡ map (λ (i : EdgeImage). i.reversed) images
  pub rule : after.rule ≡ before.rule
  pub nodes : after.nodes ≡ before.nodes

-- ---- matches and items

pub record SpellsFound (ws : List (List ℕ)) (m : Found) : Type 0 where
  pub words : found_words m ≡ ws
  pub held : IsHeld m

abbrev pub SpellsNoFound : List (List ℕ) → Type 0
SpellsNoFound ws = (m : Found) → SpellsFound ws m → ⊥

pub record SpellsBack (ws : List (List ℕ)) (k : ℕ) : Type 0 where
  pub words : codes "back" ∷ (decimal k ∷ []) ≡ ws
  pub number : IsNumber k

abbrev pub SpellsNoBack : List (List ℕ) → Type 0
SpellsNoBack ws = (k : ℕ) → SpellsBack ws k → ⊥

pub record SpellsItem (ws : List (List ℕ)) (i : Item) : Type 0 where
  pub words : item_words i ≡ ws
  pub held : CanBeHeld i

abbrev pub SpellsNoItem : List (List ℕ) → Type 0
SpellsNoItem ws = (i : Item) → SpellsItem ws i → ⊥

-- the line of an item, without its line feed
pub record IsLineOf (line : List ℕ) (i : Item) : Type 0 where
  pub text : join_with_byte 32 (item_words i) ≡ line
  pub held : CanBeHeld i

abbrev pub IsLineOfNone : List ℕ → Type 0
IsLineOfNone line = (i : Item) → IsLineOf line i → ⊥

-- ---- the first place of a word

pub record StandsFirst (ws : List (List ℕ)) (w : List ℕ) (i : ℕ) : Type 0 where
  pub within : i < length ws
  pub at : slice_get ws i ≡ Some w
  pub not_before : (k : ℕ) → k < i → slice_get ws k ≡ Some w → ⊥

abbrev pub StandsNowhere : List (List ℕ) → List ℕ → Type 0
StandsNowhere ws w = (k : ℕ) → slice_get ws k ≡ Some w → ⊥

-- the words before the nodes, and the place behind them of the word before the edges
pub record HasFrame (ws : List (List ℕ)) (rule end : ℕ) : Type 0 where
  pub step : slice_get ws 0 ≡ Some (codes "step")
  pub rule_word : slice_get ws 1 ≡ Some (decimal rule)
  pub rule_fits : rule < 2 ^ 32
  pub nodes : slice_get ws 2 ≡ Some (codes "nodes")
  pub edges : StandsFirst (drop 3 ws) (codes "edges") end
