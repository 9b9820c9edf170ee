-- The grammar of rules.
use Rattle.std.specs.Prelude.{ℕ, Bool, true, false, ◌&&◌, List, [], ◌∷◌, Option, Some, None}
use Rattle.std.specs.Option.{option_or}
use Rattle.gp_tokens.specs.declared.token.Token.{Token}
use Rattle.gp_tokens.specs.declared.want.Want.{Want}
use Rattle.gp_tokens.specs.declared.want.Want.TheVariants as wants
use Rattle.gp_tokens.specs.Grammar.{Grammar, One, Made, At, If, Absent, Repeated, Separated, ◌followed_by◌}
use Rattle.gp_tokens.specs.Shape.{dropped, second_of}
use Rattle.gp_tokens.specs.SignWants.{number_sign, open_sign, close_sign, open_bracket, close_bracket, open_brace, close_brace, less, greater, comma, semicolon, colon, dot, minus, bar, equal, arrow, root_word}
use Rattle.gp_tokens.specs.Wants.{meets}
use Rattle.gp_tokens.specs.Ahead.{stands_before}
use Rattle.gp_values.specs.Names.{Name}
use Rattle.gp_syntax.specs.declared.kinds.VariableType.{VariableType}
use Rattle.gp_syntax.specs.declared.kinds.VariableType.TheVariants as types
use Rattle.gp_syntax.specs.declared.tree.VariableGroup.{VariableGroup}
use Rattle.gp_syntax.specs.declared.tree.NodeDecl.{NodeDecl}
use Rattle.gp_syntax.specs.declared.tree.EdgeDecl.{EdgeDecl}
use Rattle.gp_syntax.specs.declared.tree.GraphDecl.{GraphDecl}
use Rattle.gp_syntax.specs.declared.tree.RuleDecl.{RuleDecl}
use Rattle.gp_expressions.specs.declared.ranged.Ranged.{Ranged}
use Rattle.gp_expressions.specs.Ranges.{whole, with, both, gathered}
use Rattle.gp_expressions.specs.Signs.{int_word, char_word, string_word, atom_word, list_word, where_word, interface_word, bidirectional_word}
use Rattle.gp_expressions.specs.Expressions.{Tree, name, behind, list}
use Rattle.gp_expressions.specs.Conditions.{CondTree, label, means, condition}

-- ---- positions, of which nothing is kept

abbrev pub Part : Type (0 + 1)
Part = Grammar (Unit {0})

-- [part], where the part begins with such a token
abbrev pub optional : Want → Part → Part
optional want g = At want g (Absent (tt {0}))

-- Coord = ["-"] Number ["." Number]
unfoldable pub coord : Part
coord = Made dropped (optional minus (Made dropped (One minus)) followed_by One number_sign followed_by optional dot (Made dropped (One dot followed_by One number_sign)))

-- Position = "<" Coord "," Coord ">"
unfoldable pub position : Part
position = Made dropped (One less followed_by coord followed_by One comma followed_by coord followed_by One greater)

-- [Position]
unfoldable pub place : Part
place = optional less position

-- ---- nodes and edges

abbrev pub flagged : Token × (Token × Token) → Bool
flagged _ = true

-- ["(" word ")"]
unfoldable pub flag : Want → Grammar Bool
flag word = At open_sign (Made flagged (One open_sign followed_by One word followed_by One close_sign)) (Absent false)

abbrev pub node_of : Token × (Name × (Bool × (Token × ((Ranged Tree × Option Name) × (Unit {0} × Token))))) → Ranged NodeDecl
node_of (_, (n, (root, (_, (label, _))))) = with (λ e. record { name = n; root = root; label = e; mark = label.1 }) label.0

abbrev pub edge_of : Token × (Name × (Bool × (Token × (Name × (Token × (Name × (Token × ((Ranged Tree × Option Name) × Token)))))))) → Ranged EdgeDecl
edge_of (_, (n, (both, (_, (source, (_, (target, (_, (label, _))))))))) =
    with (λ e. record { name = n; bidirectional = both; source = source; target = target; label = e; mark = label.1 }) label.0

abbrev pub graph_of : Ranged (List NodeDecl) × (Token × (Ranged (List EdgeDecl) × Token)) → Ranged GraphDecl
graph_of (nodes, (_, (edges, _))) = both (λ ns es. record { nodes = ns; edges = es }) nodes edges

-- a bar comes next, and another one before the next closing bracket
abbrev pub two_bars : List Token → Bool
two_bars [] = false
two_bars (t ∷ ts) = meets bar t && stands_before bar close_bracket ts

module _ (lists : Grammar (Ranged Tree)) where
  -- Node = "(" Item ["(" "R" ")"] "," Label [Position] ")"
  unfoldable pub node : Grammar (Ranged NodeDecl)
  node = Made node_of (One open_sign followed_by name wants.Item followed_by flag root_word followed_by One comma followed_by label lists followed_by place followed_by One close_sign)

  -- Edge = "(" Item ["(" "B" ")"] "," Item "," Item "," Label ")"
  unfoldable pub edge : Grammar (Ranged EdgeDecl)
  edge =
      Made edge_of
      (One open_sign followed_by name wants.Item followed_by flag bidirectional_word followed_by One comma followed_by name wants.Item followed_by One comma followed_by name wants.Item followed_by One comma
      followed_by label lists followed_by One close_sign)

  unfoldable pub nodes : Grammar (Ranged (List NodeDecl))
  nodes = Made gathered (Repeated open_sign node)

  unfoldable pub edges : Grammar (Ranged (List EdgeDecl))
  edges = Made gathered (Repeated open_sign edge)

  -- {Node} "|" {Edge} "]"
  unfoldable pub body : Grammar (Ranged GraphDecl)
  body = Made graph_of (nodes followed_by One bar followed_by edges followed_by One close_bracket)

  -- ["|"] {Node} "|" {Edge} "]"
  -- The first bar is there exactly where there are two, since a node and an edge have none.
  unfoldable pub barred : Grammar (Ranged GraphDecl)
  barred = If two_bars (Made second_of (One bar followed_by body)) body

  -- Graph = "[" [Position ["|"]] {Node} "|" {Edge} "]"
  unfoldable pub graph : Grammar (Ranged GraphDecl)
  graph = Made second_of (One open_bracket followed_by At less (Made second_of (position followed_by barred)) body)

-- ---- variables and interfaces

-- Type = "int" | "char" | "string" | "atom" | "list"
unfoldable pub variable_type : Grammar VariableType
variable_type =
    At int_word (Made (means types.Int) (One int_word))
    (At char_word (Made (means types.Char) (One char_word))
    (At string_word (Made (means types.String) (One string_word))
    (At atom_word (Made (means types.Atom) (One atom_word))
    (Made (means types.List) (One list_word)))))

abbrev pub group_of : Name × (List Name × (Token × VariableType)) → VariableGroup
group_of (first, (rest, (_, type))) = record { first = first; rest = rest; variable_type = type }

-- Vars = Var {"," Var} ":" Type
unfoldable pub variable_group : Grammar VariableGroup
variable_group = Made group_of (name wants.Variable followed_by Repeated comma (behind comma (name wants.Variable)) followed_by One colon followed_by variable_type)

-- [Vars {";" Vars}]
unfoldable pub variables : Grammar (List VariableGroup)
variables = At wants.Variable (Separated semicolon variable_group) (Absent [])

-- [Item {"," Item}]
unfoldable pub interface : Grammar (List Name)
interface = At wants.Item (Separated comma (name wants.Item)) (Absent [])

-- ---- rules

abbrev pub where_of : Token × Ranged CondTree → Ranged (Option CondTree)
where_of (_, r) = with Some r

-- ["where" Cond]
unfoldable pub where_part : Grammar (Ranged CondTree) → Grammar (Ranged (Option CondTree))
where_part conditions = At where_word (Made where_of (One where_word followed_by conditions)) (Absent (whole None))

abbrev pub rule_of : Name × (Token × (List VariableGroup × (Token × (Ranged GraphDecl × (Token × (Ranged GraphDecl × (Token × (Token × (Token × (List Name × (Token × Ranged (Option CondTree)))))))))))) → Ranged RuleDecl
rule_of (n, (_, (variables, (_, (left, (_, (right, (_, (_, (_, (interface, (_, condition)))))))))))) = record {
  tree = record { name = n; variables = variables; left = left.tree; right = right.tree; interface = interface; condition = condition.tree };
  past = option_or left.past (option_or right.past condition.past);
}

-- RuleDecl = RuleName "(" [Vars {";" Vars}] ")" Graph "=>" Graph "interface" "=" "{" [Item {"," Item}] "}" ["where" Cond]
unfoldable pub rule_with : Grammar (Ranged Tree) → Grammar (Ranged CondTree) → Grammar (Ranged RuleDecl)
rule_with lists conditions =
    Made rule_of (name wants.RuleName followed_by One open_sign followed_by variables followed_by One close_sign followed_by graph lists followed_by One arrow followed_by graph lists
    followed_by One interface_word followed_by One equal followed_by One open_brace followed_by interface followed_by One close_brace followed_by where_part conditions)

-- RuleDecl, with so much room for lists and for conditions
abbrev pub rule : ℕ → Grammar (Ranged RuleDecl)
rule room = rule_with (list room) (condition room room)
