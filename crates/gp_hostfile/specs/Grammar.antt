-- The grammar of hosts.
use Rattle.std.specs.Prelude.{ℕ, Bool, true, false, ◌&&◌, List, [], ◌∷◌, Option, Some, None}
use Rattle.gp_tokens.specs.declared.token.Token.{Token}
use Rattle.gp_tokens.specs.declared.want.Want.{Want}
use Rattle.gp_tokens.specs.declared.want.Want.TheVariants as wants
use Rattle.gp_tokens.specs.Grammar.{Grammar, One, NumberAt, String, Made, At, If, Absent, Repeated, Separated, ◌followed_by◌, shape_of}
use Rattle.gp_tokens.specs.Shape.{Shape, dropped, second_of}
use Rattle.gp_tokens.specs.SignWants.{number_sign, any_word, open_sign, close_sign, open_bracket, close_bracket, less, greater, comma, colon, dot, minus, hash, bar, empty, root_word}
use Rattle.gp_tokens.specs.Wants.{meets}
use Rattle.gp_tokens.specs.Ahead.{stands_before}
use Rattle.gp_values.specs.Names.{Name}
use Rattle.gp_hostfile.specs.declared.tree.AtomTree.{AtomTree}
use Rattle.gp_hostfile.specs.declared.tree.AtomTree.TheVariants as atoms
use Rattle.gp_hostfile.specs.declared.tree.NodeTree.{NodeTree}
use Rattle.gp_hostfile.specs.declared.tree.EdgeTree.{EdgeTree}

-- a part of which nothing is kept
abbrev pub Part : Type (0 + 1)
Part = Grammar (Unit {0})

-- [part], where the part begins with such a token
abbrev pub optional : Want → Part → Part
optional want g = At want g (Absent (tt {0}))

-- ---- labels

abbrev pub positive : ℕ × ℕ → AtomTree
positive (value, start) = atoms.Number false start value

abbrev pub negative : Token × (ℕ × ℕ) → AtomTree
negative (_, (value, start)) = atoms.Number true start value

abbrev pub characters : List ℕ → AtomTree
characters cs = atoms.String cs

-- Atom = ["-"] Number | String
unfoldable pub atom : Grammar AtomTree
atom = At minus (Made negative (One minus followed_by NumberAt)) (At number_sign (Made positive NumberAt) (Made characters String))

abbrev pub no_atoms : Token → List AtomTree
no_atoms _ = []

-- "empty" | Atom {":" Atom}
unfoldable pub atom_list : Grammar (List AtomTree)
atom_list = At empty (Made no_atoms (One empty)) (Separated colon atom)

abbrev pub word_of : Token × Token → Option Name
word_of (_, t) = Some t.text

-- ["#" Word]
unfoldable pub mark : Grammar (Option Name)
mark = At hash (Made word_of (One hash followed_by One any_word)) (Absent None)

-- Label = ("empty" | Atom {":" Atom}) ["#" Word]
unfoldable pub label : Grammar (List AtomTree × Option Name)
label = atom_list followed_by mark

-- ---- positions, of which nothing is kept

-- Coord = ["-"] Number ["." Number]
unfoldable pub coord : Part
coord = Made dropped (optional minus (Made dropped (One minus)) followed_by One number_sign followed_by optional dot (Made dropped (One dot followed_by One number_sign)))

-- Position = "<" Coord "," Coord ">"
unfoldable pub position : Part
position = Made dropped (One less followed_by coord followed_by One comma followed_by coord followed_by One greater)

-- [Position]
unfoldable pub place : Part
place = optional less position

-- ---- nodes and edges

abbrev pub rooted : Token × (Token × Token) → Bool
rooted _ = true

-- ["(" "R" ")"]
unfoldable pub root : Grammar Bool
root = At open_sign (Made rooted (One open_sign followed_by One root_word followed_by One close_sign)) (Absent false)

abbrev pub node_of : Token × (Token × (Bool × (Token × ((List AtomTree × Option Name) × (Unit {0} × Token))))) → NodeTree
node_of (_, (name, (root, (_, (label, _))))) = record { name = name.text; label = label.0; mark = label.1; root = root }

-- Node = "(" Item ["(" "R" ")"] "," Label [Position] ")"
unfoldable pub node : Grammar NodeTree
node = Made node_of (One open_sign followed_by One wants.Item followed_by root followed_by One comma followed_by label followed_by place followed_by One close_sign)

abbrev pub edge_of : Token × (Token × (Token × (Token × (Token × (Token × (Token × ((List AtomTree × Option Name) × Token))))))) → EdgeTree
edge_of (_, (name, (_, (source, (_, (target, (_, (label, _)))))))) = record { name = name.text; source = source.text; target = target.text; label = label.0; mark = label.1 }

-- Edge = "(" Item "," Item "," Item "," Label ")"
unfoldable pub edge : Grammar EdgeTree
edge =
    Made edge_of
    (One open_sign followed_by One wants.Item followed_by One comma followed_by One wants.Item followed_by One comma followed_by One wants.Item followed_by One comma followed_by label followed_by One close_sign)

-- ---- hosts

-- the nodes and the edges
abbrev pub HostTree : Type 0
HostTree = List NodeTree × List EdgeTree

unfoldable pub nodes : Grammar (List NodeTree)
nodes = Repeated open_sign node

unfoldable pub edges : Grammar (List EdgeTree)
edges = Repeated open_sign edge

abbrev pub tree_of : List NodeTree × (Token × (List EdgeTree × Token)) → HostTree
tree_of (nodes, (_, (edges, _))) = (nodes, edges)

-- {Node} "|" {Edge} "]"
unfoldable pub body : Grammar HostTree
body = Made tree_of (nodes followed_by One bar followed_by edges followed_by One close_bracket)

-- a bar comes next, and another one before the next closing bracket
abbrev pub two_bars : List Token → Bool
two_bars [] = false
two_bars (t ∷ ts) = meets bar t && stands_before bar close_bracket ts

-- ["|"] {Node} "|" {Edge} "]"
-- The first bar is there exactly where there are two, since a node and an edge have none.
unfoldable pub barred : Grammar HostTree
barred = If two_bars (Made second_of (One bar followed_by body)) body

-- Host = "[" [Position ["|"]] {Node} "|" {Edge} "]"
unfoldable pub host : Grammar HostTree
host = Made second_of (One open_bracket followed_by At less (Made second_of (position followed_by barred)) body)

-- these tokens, up to the rest, are a host with this tree
abbrev pub IsHostShape : Shape HostTree
IsHostShape = shape_of host
