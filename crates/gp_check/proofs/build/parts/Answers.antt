use Rattle.std.proofs.Common.{ap, ◌∙◌}
use Rattle.gp_syntax.specs.declared.rule.RuleParts.{RuleParts}
use Rattle.gp_syntax.specs.Tree.{declaration_of, rule_of_tree}
use Rattle.gp_check.specs.inside.Placed.{rule_at}
use Rattle.gp_check.proofs.Wholes.{rule_made}
use Rattle.gp_clauses.specs.declared.variables.Variables.{Variables}
use Rattle.gp_check.proofs.build.parts.Goals as goal

pub returns-clause-rule : goal.returns-clause-rule
returns-clause-rule c =
    let d = declaration_of c.args.rule.now in
    let names = c.args.scope.left.names in
    let s = c.in_ok-sides.sides in
    let are = c.in_ok-sides.ensures in
    let made : RuleParts = record {
      name = c.in_ok-name.name;
      types = c.into_left_types.result;
      left_nodes = s.left_nodes;
      left_edges = s.left_edges;
      right_nodes = s.right_nodes;
      right_edges = s.right_edges;
      condition = c.in_ok-condition.condition;
    } in
    ap rule_of_tree c.with.ensures ∙ rule_made names d made are.left_nodes are.left_edges are.right_nodes are.right_edges c.in_ok-condition.ensures
    ∙ ap (rule_at names d) c.into_left_types.ensures ∙ ap (λ (v : Variables). rule_at v.names d v.types) c.requires.scope.left

pub returns-clause-name : goal.returns-clause-name
returns-clause-name c = ap (λ (r : RuleParts). r.name) c.with.ensures ∙ c.in_ok-name.ensures
