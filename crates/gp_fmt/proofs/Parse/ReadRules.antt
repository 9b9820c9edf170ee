-- Each rule that is read of the tokens of a text is read again.
use Rattle.std.proofs.Common.{◌≡◌, ℕ, List, [], Option, None}
use Rattle.std.specs.Option.{option_or}
use Rattle.std.specs.List.{AllByRecursion}
use Rattle.gp_memory.proofs.Basics.{neither as none_of}
use Rattle.gp_tokens.specs.declared.token.Token.{Token}
use Rattle.gp_values.specs.Names.{Name}
use Rattle.gp_tokens.specs.declared.want.Want.{Want}
use Rattle.gp_tokens.specs.declared.want.Want.TheVariants as wants
use Rattle.gp_tokens.specs.Grammar.{shape_of}
use Rattle.gp_tokens.specs.Shape.{second_of}
use Rattle.gp_tokens.specs.SignWants.{open_sign, close_sign, open_bracket, close_bracket, open_brace, close_brace, comma, semicolon, colon, bar, equal, arrow, root_word}
use Rattle.gp_syntax.specs.declared.kinds.VariableType.{VariableType}
use Rattle.gp_syntax.specs.declared.tree.NodeDecl.{NodeDecl}
use Rattle.gp_syntax.specs.declared.tree.EdgeDecl.{EdgeDecl}
use Rattle.gp_syntax.specs.declared.tree.GraphDecl.{GraphDecl}
use Rattle.gp_expressions.specs.declared.ranged.Ranged.{Ranged}
use Rattle.gp_expressions.specs.Ranges.{whole, gathered}
use Rattle.gp_expressions.specs.Signs.{where_word, interface_word, bidirectional_word}
use Rattle.gp_expressions.specs.Expressions.{list}
use Rattle.gp_expressions.specs.Conditions.{CondTree, condition}
use Rattle.gp_program.specs.Rules.{position, place, flag, node_of, edge_of, graph_of, node, edge, nodes, edges, body, barred, graph, variable_type, group_of, variable_group, variables, interface, where_of, where_part, rule_of, rule_with, rule}
use Rattle.gp_fmt.proofs.Parse.Printed.{Anything}
use Rattle.gp_fmt.proofs.Parse.Gives.{Gives, any_token, then_gives, behind_gives, made_gives, either_gives, absent_gives, many_gives, separated_gives, gives_all, leaves_spelled}
use Rattle.gp_fmt.proofs.Parse.Names.{IsNamed, item, name_gives}
use Rattle.gp_fmt.proofs.Parse.Names as names
use Rattle.gp_fmt.proofs.Parse.Ranges.{InRange, gathered_all}
use Rattle.gp_fmt.proofs.Parse.Labels.{IsGoodLabel, label_gives}
use Rattle.gp_fmt.proofs.Parse.ConditionParts.{IsGoodCondition}
use Rattle.gp_fmt.proofs.Parse.Conditions.{condition_gives}
use Rattle.gp_fmt.proofs.Parse.RuleParts.{IsGoodGroup, IsGoodNode, IsGoodEdge, IsGoodGraph}
use Rattle.gp_fmt.proofs.Parse.Rules.{IsGoodWhere, IsGoodRule, FromInterface, FromRight, FromLeft, FromVariables}

-- ---- variables and interfaces

abbrev AreNamed : Want → List Name → Type 0
AreNamed want ns = AllByRecursion (IsNamed want) ns

group_gives : Gives (shape_of variable_group) IsGoodGroup
unfolding variable_group
group_gives =
    made_gives group_of _ (λ (x : Name × (List Name × (Token × VariableType))). IsNamed wants.Variable x.0 × (AreNamed wants.Variable x.1.0 × Anything x.1.1.1)) IsGoodGroup (λ x h. record { first = h.0; rest = h.1.0 })
    (then_gives _ _ (IsNamed wants.Variable) (λ (x : List Name × (Token × VariableType)). AreNamed wants.Variable x.0 × Anything x.1.1) (name_gives wants.Variable names.variable)
    (then_gives _ _ (AreNamed wants.Variable) (λ (x : Token × VariableType). Anything x.1)
    (many_gives _ (IsNamed wants.Variable) (made_gives second_of _ (λ (x : Token × Name). IsNamed wants.Variable x.1) (IsNamed wants.Variable) (λ x h. h) (behind_gives comma _ (IsNamed wants.Variable) (name_gives wants.Variable names.variable))))
    (behind_gives colon _ Anything (leaves_spelled variable_type))))

variables_give : Gives (shape_of variables) (AllByRecursion IsGoodGroup)
unfolding variables
variables_give = either_gives _ _ (AllByRecursion IsGoodGroup) (gives_all _ IsGoodGroup (separated_gives semicolon _ IsGoodGroup group_gives)) (absent_gives [] (AllByRecursion IsGoodGroup) tt)

interface_gives : Gives (shape_of interface) (AreNamed wants.Item)
unfolding interface
interface_gives = either_gives _ _ (AreNamed wants.Item) (gives_all _ (IsNamed wants.Item) (separated_gives comma _ (IsNamed wants.Item) (name_gives wants.Item item))) (absent_gives [] (AreNamed wants.Item) tt)

-- ---- graphs

module _ (m : ℕ) where
  node_gives : Gives (shape_of (node (list m))) (InRange IsGoodNode)
  unfolding node
  node_gives =
      made_gives node_of _ (λ x. IsNamed wants.Item x.1.0 × (Anything x.1.1.0 × (IsGoodLabel x.1.1.1.1.0 × Anything x.1.1.1.1.1))) (InRange IsGoodNode) (λ x h none. record { name = h.0; label = h.1.1.0.0 none; mark = h.1.1.0.1 })
      (behind_gives open_sign _ (λ x. IsNamed wants.Item x.0 × (Anything x.1.0 × (IsGoodLabel x.1.1.1.0 × Anything x.1.1.1.1)))
      (then_gives _ _ (IsNamed wants.Item) (λ x. Anything x.0 × (IsGoodLabel x.1.1.0 × Anything x.1.1.1)) (name_gives wants.Item item)
      (then_gives _ _ Anything (λ x. IsGoodLabel x.1.0 × Anything x.1.1) (leaves_spelled (flag root_word))
      (behind_gives comma _ (λ x. IsGoodLabel x.0 × Anything x.1)
      (then_gives _ _ IsGoodLabel Anything (label_gives m)
      (λ ts rest x s h. (tt, (then_gives _ _ Anything Anything (leaves_spelled place) (any_token close_sign) ts rest x s h).1)))))))

  edge_gives : Gives (shape_of (edge (list m))) (InRange IsGoodEdge)
  unfolding edge
  edge_gives =
      made_gives edge_of _ (λ x. IsNamed wants.Item x.1.0 × (Anything x.1.1.0 × (IsNamed wants.Item x.1.1.1.1.0 × (IsNamed wants.Item x.1.1.1.1.1.1.0 × (IsGoodLabel x.1.1.1.1.1.1.1.1.0 × Anything x.1.1.1.1.1.1.1.1.1))))) (InRange IsGoodEdge)
      (λ x h none. record { name = h.0; source = h.1.1.0; target = h.1.1.1.0; label = h.1.1.1.1.0.0 none; mark = h.1.1.1.1.0.1 })
      (behind_gives open_sign _ (λ x. IsNamed wants.Item x.0 × (Anything x.1.0 × (IsNamed wants.Item x.1.1.1.0 × (IsNamed wants.Item x.1.1.1.1.1.0 × (IsGoodLabel x.1.1.1.1.1.1.1.0 × Anything x.1.1.1.1.1.1.1.1)))))
      (then_gives _ _ (IsNamed wants.Item) (λ x. Anything x.0 × (IsNamed wants.Item x.1.1.0 × (IsNamed wants.Item x.1.1.1.1.0 × (IsGoodLabel x.1.1.1.1.1.1.0 × Anything x.1.1.1.1.1.1.1)))) (name_gives wants.Item item)
      (then_gives _ _ Anything (λ x. IsNamed wants.Item x.1.0 × (IsNamed wants.Item x.1.1.1.0 × (IsGoodLabel x.1.1.1.1.1.0 × Anything x.1.1.1.1.1.1))) (leaves_spelled (flag bidirectional_word))
      (behind_gives comma _ (λ x. IsNamed wants.Item x.0 × (IsNamed wants.Item x.1.1.0 × (IsGoodLabel x.1.1.1.1.0 × Anything x.1.1.1.1.1)))
      (then_gives _ _ (IsNamed wants.Item) (λ x. IsNamed wants.Item x.1.0 × (IsGoodLabel x.1.1.1.0 × Anything x.1.1.1.1)) (name_gives wants.Item item)
      (behind_gives comma _ (λ x. IsNamed wants.Item x.0 × (IsGoodLabel x.1.1.0 × Anything x.1.1.1))
      (then_gives _ _ (IsNamed wants.Item) (λ x. IsGoodLabel x.1.0 × Anything x.1.1) (name_gives wants.Item item)
      (behind_gives comma _ (λ x. IsGoodLabel x.0 × Anything x.1)
      (then_gives _ _ IsGoodLabel Anything (label_gives m) (any_token close_sign))))))))))

  abbrev AreNodes : List NodeDecl → Type 0
  AreNodes ns = AllByRecursion IsGoodNode ns

  abbrev AreEdges : List EdgeDecl → Type 0
  AreEdges es = AllByRecursion IsGoodEdge es

  nodes_give : Gives (shape_of (nodes (list m))) (InRange AreNodes)
  unfolding nodes
  nodes_give = made_gives gathered _ (AllByRecursion (InRange IsGoodNode)) (InRange AreNodes) (gathered_all IsGoodNode) (many_gives _ (InRange IsGoodNode) node_gives)

  edges_give : Gives (shape_of (edges (list m))) (InRange AreEdges)
  unfolding edges
  edges_give = made_gives gathered _ (AllByRecursion (InRange IsGoodEdge)) (InRange AreEdges) (gathered_all IsGoodEdge) (many_gives _ (InRange IsGoodEdge) edge_gives)

  graph_good : (ns : Ranged (List NodeDecl)) (es : Ranged (List EdgeDecl)) → InRange AreNodes ns → InRange AreEdges es → option_or ns.past es.past ≡ None → IsGoodGraph (record { nodes = ns.tree; edges = es.tree })
  graph_good ns es h k none = let n = none_of ns.past es.past none in record { nodes = h n.0; edges = k n.1 }

  body_gives : Gives (shape_of (body (list m))) (InRange IsGoodGraph)
  unfolding body
  body_gives =
      made_gives graph_of _ (λ (x : Ranged (List NodeDecl) × (Token × (Ranged (List EdgeDecl) × Token))). InRange AreNodes x.0 × (InRange AreEdges x.1.1.0 × Anything x.1.1.1)) (InRange IsGoodGraph) (λ x h none. graph_good x.0 x.1.1.0 h.0 h.1.0 none)
      (then_gives _ _ (InRange AreNodes) (λ (x : Token × (Ranged (List EdgeDecl) × Token)). InRange AreEdges x.1.0 × Anything x.1.1) nodes_give
      (behind_gives bar _ (λ (x : Ranged (List EdgeDecl) × Token). InRange AreEdges x.0 × Anything x.1) (then_gives _ _ (InRange AreEdges) Anything edges_give (any_token close_bracket))))

  barred_gives : Gives (shape_of (barred (list m))) (InRange IsGoodGraph)
  unfolding barred
  barred_gives =
      either_gives _ _ (InRange IsGoodGraph) (made_gives second_of _ (λ (x : Token × Ranged GraphDecl). InRange IsGoodGraph x.1) (InRange IsGoodGraph) (λ x h. h) (behind_gives bar _ (InRange IsGoodGraph) body_gives)) body_gives

  graph_gives : Gives (shape_of (graph (list m))) (InRange IsGoodGraph)
  unfolding graph
  graph_gives =
      made_gives second_of _ (λ (x : Token × Ranged GraphDecl). InRange IsGoodGraph x.1) (InRange IsGoodGraph) (λ x h. h)
      (behind_gives open_bracket _ (InRange IsGoodGraph) (either_gives _ _ (InRange IsGoodGraph)
      (made_gives second_of _ (λ (x : Unit {0} × Ranged GraphDecl). Anything x.0 × InRange IsGoodGraph x.1) (InRange IsGoodGraph) (λ x h. h.1) (then_gives _ _ Anything (InRange IsGoodGraph) (leaves_spelled position) barred_gives)) body_gives))

  -- ---- rules

  where_gives : Gives (shape_of (where_part (condition m m))) (InRange IsGoodWhere)
  unfolding where_part
  where_gives =
      either_gives _ _ (InRange IsGoodWhere) (made_gives where_of _ (λ (x : Token × Ranged CondTree). InRange IsGoodCondition x.1) (InRange IsGoodWhere) (λ x h. h) (behind_gives where_word _ (InRange IsGoodCondition) (condition_gives m m)))
      (absent_gives (whole None) (InRange IsGoodWhere) (λ _. tt))

  abbrev IsInterface : FromInterface → Type 0
  IsInterface x = AreNamed wants.Item x.0 × InRange IsGoodWhere x.1.1

  abbrev IsRight : FromRight → Type 0
  IsRight x = InRange IsGoodGraph x.0 × IsInterface x.1.1.1.1

  abbrev IsLeft : FromLeft → Type 0
  IsLeft x = InRange IsGoodGraph x.0 × IsRight x.1.1

  abbrev AreVariables : FromVariables → Type 0
  AreVariables x = AllByRecursion IsGoodGroup x.0 × IsLeft x.1.1

  abbrev IsWhole : Name × (Token × FromVariables) → Type 0
  IsWhole x = IsNamed wants.RuleName x.0 × AreVariables x.1.1

  rule_good : (x : Name × (Token × FromVariables)) → IsWhole x → InRange IsGoodRule (rule_of x)
  rule_good x h none =
      let l = none_of x.1.1.1.1.0.past (option_or x.1.1.1.1.1.1.0.past x.1.1.1.1.1.1.1.1.1.1.1.1.past) none in
      let r = none_of x.1.1.1.1.1.1.0.past x.1.1.1.1.1.1.1.1.1.1.1.1.past l.1 in
      record { name = h.0; variables = h.1.0; left = h.1.1.0 l.0; right = h.1.1.1.0 r.0; interface = h.1.1.1.1.0; condition = h.1.1.1.1.1 r.1 }

  pub rule_gives : Gives (shape_of (rule m)) (InRange IsGoodRule)
  unfolding rule_with
  rule_gives =
      made_gives rule_of _ IsWhole (InRange IsGoodRule) rule_good
      (then_gives _ _ (IsNamed wants.RuleName) (λ (x : Token × FromVariables). AreVariables x.1) (name_gives wants.RuleName names.rule)
      (behind_gives open_sign _ AreVariables
      (then_gives _ _ (AllByRecursion IsGoodGroup) (λ (x : Token × FromLeft). IsLeft x.1) variables_give
      (behind_gives close_sign _ IsLeft
      (then_gives _ _ (InRange IsGoodGraph) (λ (x : Token × FromRight). IsRight x.1) graph_gives
      (behind_gives arrow _ IsRight
      (then_gives _ _ (InRange IsGoodGraph) (λ (x : Token × (Token × (Token × FromInterface))). IsInterface x.1.1.1) graph_gives
      (behind_gives interface_word _ (λ (x : Token × (Token × FromInterface)). IsInterface x.1.1)
      (behind_gives equal _ (λ (x : Token × FromInterface). IsInterface x.1)
      (behind_gives open_brace _ IsInterface
      (then_gives _ _ (AreNamed wants.Item) (λ (x : Token × Ranged (Option CondTree)). InRange IsGoodWhere x.1) interface_gives
      (behind_gives close_brace _ (InRange IsGoodWhere) where_gives))))))))))))
