-- The text of a trace: a line for each item, between a header and an end. The words of a line stand with one space
-- between them.
use Rattle.std.specs.Prelude.{ℕ, Bool, if◌then◌else◌, List, [], ◌∷◌, ◌++◌, map, flat_map, codes}
use Rattle.std.specs.List.{join_with_byte}
use Rattle.std.specs.Fmt.{decimal}
use Rattle.gp_syntax.specs.Images.{EdgeImage}
use Rattle.gp_syntax.specs.Rule.{Found}
use Rattle.gp_syntax.specs.Run.{Item, Stepped, Turned, Back}
use Rattle.gp_trace.specs.declared.version.Version.{Version}
use Rattle.gp_trace.specs.declared.version.Version.TheVariants.{One, Two}

-- the number of an edge; one that was matched reversed has a tilde behind it
abbrev pub image_word : EdgeImage → List ℕ
image_word i = decimal i.number ++ (if i.reversed then codes "~" else [])

-- the images of edges, each number with its direction
abbrev pub images_of : List ℕ → List Bool → List EdgeImage
images_of [] reversed = []
images_of (e ∷ edges) [] = []
images_of (e ∷ edges) (r ∷ reversed) = record { number = e; reversed = r } ∷ images_of edges reversed

abbrev pub found_words : Found → List (List ℕ)
found_words m =
    codes "step" ∷ (decimal m.rule ∷ (codes "nodes" ∷ (map decimal m.nodes ++ (codes "edges" ∷ map image_word (images_of m.edges m.reversed)))))

abbrev pub item_words : Item → List (List ℕ)
item_words (Stepped m) = found_words m
item_words Turned = codes "turn" ∷ []
item_words (Back k) = codes "back" ∷ (decimal k ∷ [])

-- 32 is the space
abbrev pub line_of : List (List ℕ) → List ℕ
line_of words = join_with_byte 32 words ++ codes "\n"

abbrev pub found_line : Found → List ℕ
found_line m = line_of (found_words m)

abbrev pub item_line : Item → List ℕ
item_line i = line_of (item_words i)

abbrev pub header : Version → List ℕ
header One = codes "gp2-trace 1\n"
header Two = codes "gp2-trace 2\n"

abbrev pub text_in : Version → List Item → List ℕ
text_in version items = header version ++ (flat_map item_line items ++ codes "end\n")

-- what is written
abbrev pub trace_text : List Item → List ℕ
trace_text items = text_in Two items
