-- Nodes and edges are what is read in parts.
use Rattle.std.proofs.Common.{◌≡◌, List, Option, Some, None, refl}
use Rattle.gp_tokens.specs.declared.token.Token.{Token}
use Rattle.gp_tokens.specs.Ahead.{◌>>=◌}
use Rattle.gp_tokens.specs.Reading.{reader_of}
use Rattle.gp_hostfile.specs.Grammar.{node, edge}
use Rattle.gp_hostfile.specs.inside.Edges.{item, placed_label, node_in_parts, last_label, edge_in_parts}

in_turn : {A B C : Type 0} (o : Option A) (f : A → Option B) (g : B → Option C) → ((o >>= f) >>= g) ≡ (o >>= λ x. f x >>= g)
in_turn None f g = refl
in_turn (Some x) f g = refl

pub node_parts : (ts : List Token) → reader_of node ts ≡ reader_of node_in_parts ts
unfolding node item placed_label node_in_parts
node_parts ts = simp in_turn

pub edge_parts : (ts : List Token) → reader_of edge ts ≡ reader_of edge_in_parts ts
unfolding edge item last_label edge_in_parts
edge_parts ts = simp in_turn
