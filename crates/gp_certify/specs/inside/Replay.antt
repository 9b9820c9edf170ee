-- What a replayed trace tells of itself.
use Rattle.std.specs.Prelude.{ℕ, List, length, map, refl}
use Rattle.std.specs.Coded.{Coded, code_by, coded×, coded_list}
use Rattle.gp_values.specs.Graph.{Graph, graph_code}
use Rattle.gp_syntax.specs.declared.command.ProgramParts.{ProgramParts}
use Rattle.gp_syntax.specs.contracts.command.ProgramParts.{the_row as program_row}
use Rattle.gp_syntax.specs.declared.found.Item.{Item}
use Rattle.gp_syntax.specs.contracts.found.Item.{the_row as item_row}
use Rattle.gp_syntax.specs.Tree.{rule_of_tree, program_of_tree, item_of}
use Rattle.gp_certify.specs.declared.along.Standing.{Standing}
use Rattle.gp_certify.specs.inside.View.{View}
use Rattle.gp_certify.specs.inside.Along.{trail_at, AllGo, AreDepths, Stands}

pub record Shown : Type 0 where
  pub program : ProgramParts
  pub host : Graph
  pub items : List Item

abbrev pub shown_code : Coded Shown
shown_code = code_by (ProgramParts × (Graph × List Item)) (coded× program_row.coded (coded× graph_code (coded_list item_row.coded))) (λ s. (s.program, (s.host, s.items))) (λ p. record { program = p.0; host = p.1.0; items = p.1.1 }) (λ _. refl)

abbrev pub view_of : Shown → View
view_of s = record {
  program = program_of_tree s.program;
  trace = map item_of s.items;
  graphs = λ n. (trail_at (map rule_of_tree s.program.rules) s.host (map item_of s.items) n).graph;
}

-- each item goes, these are the depths, and the trail is that of its place
pub record IsSound (p : ProgramParts) (host : Graph) (items : List Item) (depths : List ℕ) (s : Standing) : Type 0 where
  pub all_go : AllGo (map rule_of_tree p.rules) host (map item_of items) (length items)
  pub are_depths : AreDepths (map rule_of_tree p.rules) host (map item_of items) (length items) depths
  pub stands : Stands (map rule_of_tree p.rules) host (map item_of items) s
