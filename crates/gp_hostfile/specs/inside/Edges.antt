-- Nodes and edges, read in parts.
use Rattle.std.specs.Prelude.{Bool, List, Option}
use Rattle.gp_tokens.specs.declared.token.Token.{Token}
use Rattle.gp_tokens.specs.declared.want.Want.{Want}
use Rattle.gp_tokens.specs.declared.want.Want.TheVariants as wants
use Rattle.gp_tokens.specs.Grammar.{Grammar, One, Made, ◌followed_by◌}
use Rattle.gp_tokens.specs.Shape.{second_of}
use Rattle.gp_tokens.specs.SignWants.{open_sign, close_sign, comma}
use Rattle.gp_values.specs.Names.{Name}
use Rattle.gp_hostfile.specs.declared.tree.AtomTree.{AtomTree}
use Rattle.gp_hostfile.specs.declared.tree.NodeTree.{NodeTree}
use Rattle.gp_hostfile.specs.declared.tree.EdgeTree.{EdgeTree}
use Rattle.gp_hostfile.specs.Grammar.{label, place, root}

-- the atoms of a label, and its mark
abbrev pub Label : Type 0
Label = List AtomTree × Option Name

-- a name behind a sign
unfoldable pub item : Want → Grammar Token
item sign = Made second_of (One sign followed_by One wants.Item)

abbrev pub placed_of : Token × (Label × (Unit {0} × Token)) → Label
placed_of (_, (l, _)) = l

-- "," Label [Position] ")"
unfoldable pub placed_label : Grammar Label
placed_label = Made placed_of (One comma followed_by label followed_by place followed_by One close_sign)

abbrev pub node_of_parts : Token × (Bool × Label) → NodeTree
node_of_parts (name, (root, l)) = record { name = name.text; label = l.0; mark = l.1; root = root }

unfoldable pub node_in_parts : Grammar NodeTree
node_in_parts = Made node_of_parts (item open_sign followed_by root followed_by placed_label)

abbrev pub last_of : Token × (Label × Token) → Label
last_of (_, (l, _)) = l

-- "," Label ")"
unfoldable pub last_label : Grammar Label
last_label = Made last_of (One comma followed_by label followed_by One close_sign)

abbrev pub edge_of_parts : Token × (Token × (Token × Label)) → EdgeTree
edge_of_parts (name, (source, (target, l))) = record { name = name.text; source = source.text; target = target.text; label = l.0; mark = l.1 }

unfoldable pub edge_in_parts : Grammar EdgeTree
edge_in_parts = Made edge_of_parts (item open_sign followed_by item comma followed_by item comma followed_by last_label)
