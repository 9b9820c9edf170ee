-- What a script comes to over the items of a run.
use Rattle.std.specs.Prelude.{◌≡◌, ℕ, ◌+◌, List, [], ◌∷◌, ◌++◌, length, take, Some, slice_get, codes}
use Rattle.std.specs.Fmt.{decimal}
use Rattle.gp_values.specs.Graph.{Graph}
use Rattle.gp_syntax.specs.Rule.{Rule}
use Rattle.gp_syntax.specs.Run.{Item}
use Rattle.gp_syntax.specs.Replay.{Replays}
use Rattle.gp_trace.specs.TraceText.{item_line}
use Rattle.gp_hostfile.specs.GraphText.{IsGraphText}
use Rattle.gp_derivation.specs.declared.line.Line.{Line}
use Rattle.gp_derivation.specs.declared.line.Line.TheVariants.{Forward, Back, Show}

abbrev pub end_text : List ℕ
end_text = codes "end\n"

abbrev pub start_text : List ℕ
start_text = codes "start\n"

abbrev pub place_text : ℕ → List ℕ
place_text n = codes "at " ++ decimal n ++ codes "\n"

-- From place n of the items on, which stands before the item of that number or behind the last, the lines come to the text:
-- a move forward tells the item that it goes over, a move back the place to which it comes, and a look the graph to which
-- the items before the place lead from the host.
pub data Walks (rules : List Rule) (host : Graph) (t : List Item) : ℕ → List Line → List ℕ → Type 0 where
  ends : {n : ℕ} → Walks rules host t n [] []
  goes_over : {n : ℕ} {i : Item} {ls : List Line} {rest : List ℕ} → slice_get t n ≡ Some i → Walks rules host t (n + 1) ls rest →
      Walks rules host t n (Forward ∷ ls) (item_line i ++ rest)
  is_at_end : {n : ℕ} {ls : List Line} {rest : List ℕ} → n ≡ length t → Walks rules host t n ls rest → Walks rules host t n (Forward ∷ ls) (end_text ++ rest)
  goes_back : {n : ℕ} {ls : List Line} {rest : List ℕ} → Walks rules host t n ls rest → Walks rules host t (n + 1) (Back ∷ ls) (place_text n ++ rest)
  is_at_start : {ls : List Line} {rest : List ℕ} → Walks rules host t 0 ls rest → Walks rules host t 0 (Back ∷ ls) (start_text ++ rest)
  looks : {n : ℕ} {h : Graph} {text : List ℕ} {ls : List Line} {rest : List ℕ} → Replays rules host (take n t) h → IsGraphText h text → Walks rules host t n ls rest →
      Walks rules host t n (Show ∷ ls) (text ++ rest)
