-- What the trees of programs and rules stand for. A chain of one operator groups from the left.
use Rattle.std.specs.Prelude.{ℕ, List, ◌∷◌, map, flat_map, fold, Option, Some, None}
use Rattle.gp_values.specs.Names.{Name}
use Rattle.gp_syntax.specs.declared.expression.Signed.{Signed}
use Rattle.gp_syntax.specs.declared.expression.SumSign.{SumSign}
use Rattle.gp_syntax.specs.declared.expression.SumSign.TheVariants as sums
use Rattle.gp_syntax.specs.declared.expression.ProductSign.{ProductSign}
use Rattle.gp_syntax.specs.declared.expression.ProductSign.TheVariants as products
use Rattle.gp_syntax.specs.declared.expression.Expr.{Expr}
use Rattle.gp_syntax.specs.declared.expression.Expr.TheOpen.{Expr-F}
use Rattle.gp_syntax.specs.declared.expression.Expr.TheFolds.{fold-Expr}
use Rattle.gp_syntax.specs.declared.expression.Cond.{Cond}
use Rattle.gp_syntax.specs.declared.expression.Cond.TheOpen.{Cond-F}
use Rattle.gp_syntax.specs.declared.expression.Cond.TheFolds.{fold-Cond}
use Rattle.gp_syntax.specs.declared.label.SimpleLabel.{SimpleLabel}
use Rattle.gp_syntax.specs.declared.label.SimpleLabel.TheOpen.{SimpleLabel-F}
use Rattle.gp_syntax.specs.declared.label.SimpleLabel.TheFolds.{fold-SimpleLabel}
use Rattle.gp_syntax.specs.declared.tree.VariableGroup.{VariableGroup}
use Rattle.gp_syntax.specs.declared.tree.NodeDecl.{NodeDecl}
use Rattle.gp_syntax.specs.declared.tree.EdgeDecl.{EdgeDecl}
use Rattle.gp_syntax.specs.declared.tree.GraphDecl.{GraphDecl}
use Rattle.gp_syntax.specs.declared.tree.RuleDecl.{RuleDecl}
use Rattle.gp_syntax.specs.declared.rule.MarkPattern.{MarkPattern as Pattern}
use Rattle.gp_syntax.specs.declared.rule.MarkPattern.TheVariants as patterns
use Rattle.gp_syntax.specs.declared.rule.RuleParts.{RuleParts}
use Rattle.gp_syntax.specs.declared.rule.LeftNode.{LeftNode}
use Rattle.gp_syntax.specs.declared.rule.LeftEdge.{LeftEdge}
use Rattle.gp_syntax.specs.declared.rule.RightNode.{RightNode}
use Rattle.gp_syntax.specs.declared.rule.RightEdge.{RightEdge}
use Rattle.gp_syntax.specs.declared.found.Item.{Item}
use Rattle.gp_syntax.specs.declared.found.Item.TheVariants as items
use Rattle.gp_syntax.specs.declared.command.Command.{Command}
use Rattle.gp_syntax.specs.declared.command.Command.TheOpen.{Command-F}
use Rattle.gp_syntax.specs.declared.command.Command.TheFolds.{fold-Command}
use Rattle.gp_syntax.specs.declared.command.ProgramParts.{ProgramParts}
use Rattle.gp_syntax.specs.Expression.{Expression, Number, Text, Variable, In_degree, Out_degree, Length_of, Negated, Plus, Minus, Times, Over, Dot, Empty, Join, Condition, Holds, HasType, HasEdge, HasEdgeWith, Compared, Not, And, Or, MarkPattern, Marked, AnyMark}
use Rattle.gp_syntax.specs.Declaration.{DeclaredNode, DeclaredEdge, Side, DeclaredVariable, Declaration}
use Rattle.gp_syntax.specs.Rule as meant
use Rattle.gp_syntax.specs.Run as meant_run

-- ---- expressions

abbrev pub added : {Ref : Type 0} → SumSign → Expression Ref → Expression Ref → Expression Ref
added sums.Plus d e = Plus d e
added sums.Minus d e = Minus d e

abbrev pub multiplied : {Ref : Type 0} → ProductSign → Expression Ref → Expression Ref → Expression Ref
multiplied products.Times d e = Times d e
multiplied products.Over d e = Over d e

-- each further operand behind what stands before it
abbrev pub sum : {Ref : Type 0} → Expression Ref → List (Signed SumSign (Expression Ref)) → Expression Ref
sum {Ref} e ts = fold (λ d (t : Signed SumSign (Expression Ref)). added t.sign d t.operand) e ts

abbrev pub product : {Ref : Type 0} → Expression Ref → List (Signed ProductSign (Expression Ref)) → Expression Ref
product {Ref} e ts = fold (λ d (t : Signed ProductSign (Expression Ref)). multiplied t.sign d t.operand) e ts

abbrev pub dots : {Ref : Type 0} → Expression Ref → List (Expression Ref) → Expression Ref
dots e es = fold Dot e es

abbrev pub joins : {Ref : Type 0} → Expression Ref → List (Expression Ref) → Expression Ref
joins e es = fold Join e es

abbrev pub expression_step : {Ref : Type 0} → Expr-F Ref (Expression Ref) → Expression Ref
expression_step (Expr-F.Number z) = Number z
expression_step (Expr-F.Text s) = Text s
expression_step (Expr-F.Variable x) = Variable x
expression_step (Expr-F.InDegree n) = In_degree n
expression_step (Expr-F.OutDegree n) = Out_degree n
expression_step (Expr-F.Length x) = Length_of x
expression_step Expr-F.Empty = Empty
expression_step (Expr-F.Negated e) = Negated e
expression_step (Expr-F.Sum e ts) = sum e ts
expression_step (Expr-F.Product e ts) = product e ts
expression_step (Expr-F.Dot e xs) = dots e xs
expression_step (Expr-F.Join e xs) = joins e xs

unfoldable pub expression_of : {Ref : Type 0} → Expr Ref → Expression Ref
expression_of {Ref} = fold-Expr Ref (Expression Ref) expression_step

-- further operands, each with its sign
abbrev pub operands_of : {Sign Ref : Type 0} → List (Signed Sign (Expr Ref)) → List (Signed Sign (Expression Ref))
operands_of {Sign} {Ref} ts = map (λ (t : Signed Sign (Expr Ref)). record { sign = t.sign; operand = expression_of t.operand }) ts

abbrev pub label_step : SimpleLabel-F (Expression ℕ) → Expression ℕ
label_step (SimpleLabel-F.Number z) = Number z
label_step (SimpleLabel-F.NegatedNumber z) = Negated (Number z)
label_step (SimpleLabel-F.Text s) = Text s
label_step (SimpleLabel-F.Variable x) = Variable x
label_step SimpleLabel-F.Empty = Empty
label_step (SimpleLabel-F.Dot e xs) = dots e xs
label_step (SimpleLabel-F.Join e xs) = joins e xs

unfoldable pub label_of : SimpleLabel → Expression ℕ
label_of = fold-SimpleLabel (Expression ℕ) label_step

-- ---- conditions

abbrev pub ands : {Ref Mark : Type 0} → Condition Ref Mark → List (Condition Ref Mark) → Condition Ref Mark
ands c cs = fold And c cs

abbrev pub ors : {Ref Mark : Type 0} → Condition Ref Mark → List (Condition Ref Mark) → Condition Ref Mark
ors c cs = fold Or c cs

abbrev pub condition_step : {Ref M Mark : Type 0} → (M → Mark) → Cond-F Ref M (Condition Ref Mark) → Condition Ref Mark
condition_step mark (Cond-F.HasType type e) = HasType type (expression_of e)
condition_step mark (Cond-F.HasEdge a b) = HasEdge a b
condition_step mark (Cond-F.HasEdgeWith a b e m) = HasEdgeWith a b (expression_of e) (mark m)
condition_step mark (Cond-F.Compared op d e) = Compared op (expression_of d) (expression_of e)
condition_step mark (Cond-F.Not c) = Not c
condition_step mark (Cond-F.And c ds) = ands c ds
condition_step mark (Cond-F.Or c ds) = ors c ds

-- mark: what the mark of an edge's label stands for
unfoldable pub condition_of : {Ref M Mark : Type 0} → (M → Mark) → Cond Ref M → Condition Ref Mark
condition_of {Ref} {M} {Mark} mark = fold-Cond Ref M (Condition Ref Mark) (condition_step mark)

-- true, where none is written
abbrev pub condition_or_true : {Ref M Mark : Type 0} → (M → Mark) → Option (Cond Ref M) → Condition Ref Mark
condition_or_true mark None = Holds
condition_or_true mark (Some c) = condition_of mark c

-- ---- declarations

abbrev pub node_of : NodeDecl → DeclaredNode
node_of n = record { name = n.name; root = n.root; label = expression_of n.label; mark = n.mark }

abbrev pub edge_of : EdgeDecl → DeclaredEdge
edge_of e = record { name = e.name; bidirectional = e.bidirectional; source = e.source; target = e.target; label = expression_of e.label; mark = e.mark }

abbrev pub side_of : GraphDecl → Side
side_of g = record { nodes = map node_of g.nodes; edges = map edge_of g.edges }

abbrev pub variables_of : VariableGroup → List DeclaredVariable
variables_of g = map (λ (n : Name). record { name = n; type = g.variable_type }) (g.first ∷ g.rest)

abbrev pub declaration_of : RuleDecl → Declaration
declaration_of d = record {
  name = d.name;
  variables = flat_map variables_of d.variables;
  left = side_of d.left;
  right = side_of d.right;
  interface = d.interface;
  condition = condition_or_true (λ m. m) d.condition;
}

-- ---- checked rules

abbrev pub pattern_of : {M : Type 0} → Pattern M → MarkPattern M
pattern_of (patterns.Marked mark) = Marked mark
pattern_of patterns.Any = AnyMark

abbrev pub left_node_of : LeftNode → meant.LeftNode
left_node_of p = record { label = label_of p.label; mark = pattern_of p.mark; root = p.root }

abbrev pub left_edge_of : LeftEdge → meant.LeftEdge
left_edge_of p = record { source = p.source; target = p.target; label = label_of p.label; mark = pattern_of p.mark; bidirectional = p.bidirectional }

abbrev pub right_node_of : RightNode → meant.RightNode
right_node_of q = record { origin = q.origin; label = expression_of q.label; mark = pattern_of q.mark; root = q.root }

abbrev pub right_edge_of : RightEdge → meant.RightEdge
right_edge_of q = record {
  origin = q.origin;
  turned = q.turned;
  source = q.source;
  target = q.target;
  label = expression_of q.label;
  mark = pattern_of q.mark;
  bidirectional = q.bidirectional;
}

abbrev pub rule_of_tree : RuleParts → meant.Rule
rule_of_tree r = record {
  types = r.types;
  left_nodes = map left_node_of r.left_nodes;
  left_edges = map left_edge_of r.left_edges;
  right_nodes = map right_node_of r.right_nodes;
  right_edges = map right_edge_of r.right_edges;
  condition = condition_or_true pattern_of r.condition;
}

-- ---- commands, programs and records

abbrev pub sequence : meant_run.Command → List meant_run.Command → meant_run.Command
sequence p ps = fold meant_run.Seq p ps

abbrev pub choice : meant_run.Command → List meant_run.Command → meant_run.Command
choice p ps = fold meant_run.Or p ps

abbrev pub command_step : Command-F meant_run.Command → meant_run.Command
command_step (Command-F.Call c) = meant_run.Call c
command_step (Command-F.Seq p qs) = sequence p qs
command_step (Command-F.If k p q) = meant_run.If k p q
command_step (Command-F.Try k p q) = meant_run.Try k p q
command_step (Command-F.Loop p) = meant_run.Loop p
command_step (Command-F.Or p qs) = choice p qs
command_step Command-F.Skip = meant_run.Skip
command_step Command-F.Fail = meant_run.Fail
command_step Command-F.Break = meant_run.Break
command_step (Command-F.Proc k) = meant_run.Procedure k

unfoldable pub command_of : Command → meant_run.Command
command_of = fold-Command meant_run.Command command_step

abbrev pub program_of_tree : ProgramParts → meant_run.Program
program_of_tree p = record {
  main = command_of p.main;
  procedures = map command_of p.procedures;
  sets = p.sets;
  rules = map rule_of_tree p.rules;
}

abbrev pub item_of : Item → meant_run.Item
item_of (items.Step m) = meant_run.Stepped m
item_of items.Turn = meant_run.Turned
item_of (items.Back k) = meant_run.Back k
