use Rattle.std.proofs.Common.{ap, ◌∙◌}
use Rattle.std.specs.List.{list_any}
use Rattle.gp_syntax.specs.Tree.{expression_of}
use Rattle.gp_independence.specs.Independent.{has_degree}
use Rattle.gp_independence.proofs.Asked.{then_first, else_rest, of_labels}
use Rattle.gp_independence.proofs.looks.labels_ask.Goals as goal

pub returns-then-nodes_ask : goal.returns-then-nodes_ask
returns-then-nodes_ask c =
    let p = c.args.parts.now in
    let s = c.nodes_ask.ensures ∙ ap (λ qs. list_any (λ q. has_degree (expression_of q.label)) qs) c.as_slice.ensures in
    then_first _ _ (list_any (λ q. has_degree (expression_of q.label)) p.right_edges) _ s c.if-nodes_ask.true (of_labels p)

pub returns-else-nodes_ask : goal.returns-else-nodes_ask
returns-else-nodes_ask c =
    let s = c.nodes_ask.ensures ∙ ap (λ qs. list_any (λ q. has_degree (expression_of q.label)) qs) c.as_slice.ensures in
    let u = c.edges_ask.ensures ∙ ap (λ qs. list_any (λ q. has_degree (expression_of q.label)) qs) c.as_slice-else-nodes_ask.ensures in
    else_rest _ _ _ _ _ s c.if-nodes_ask.false u (of_labels c.args.parts.now)
