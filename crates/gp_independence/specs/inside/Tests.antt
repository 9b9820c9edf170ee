-- What a step preserves, as tests.
use Rattle.std.specs.Prelude.{ℕ, Bool, List, Option, length}
use Rattle.std.specs.List.{find}
use Rattle.gp_values.specs.Graph.{node_at}
use Rattle.gp_syntax.specs.declared.rule.RightNode.{RightNode}
use Rattle.gp_syntax.specs.Rule as meant
use Rattle.gp_syntax.specs.Rule.{is_origin}
use Rattle.gp_syntax.specs.Tree.{right_node_of}
use Rattle.gp_syntax.specs.Value.{Setting, image_at}
use Rattle.gp_match.specs.Tests.{all_below, some_and, has_number, implies, fits_node}

-- a right node, read as a left one: it fits a node just if it says what that carries
abbrev pub as_left : meant.RightNode → meant.LeftNode
as_left q = record { label = q.label; mark = q.mark; root = q.root }

abbrev pub says_again : Setting → ℕ → RightNode → Bool
says_again s i q = some_and (node_at s.graph (image_at s i)) (fits_node s (as_left (right_node_of q)))

-- the right node of the left node of this place
abbrev pub right_of : List RightNode → ℕ → Option RightNode
right_of qs i = find (λ (q : RightNode). is_origin i q.origin) qs

abbrev pub is_preserved : Setting → List RightNode → ℕ → Bool
is_preserved s qs i = some_and (right_of qs i) (says_again s i)

-- each image that is one of these is preserved
abbrev pub all_preserved : Setting → List RightNode → List ℕ → Bool
all_preserved s qs others = all_below (λ i. implies (has_number others (image_at s i)) (is_preserved s qs i)) (length s.images)
