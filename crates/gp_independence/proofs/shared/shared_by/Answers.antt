use Rattle.gp_independence.proofs.Deciding.{some_shared, none_shared}
use Rattle.gp_independence.proofs.shared.shared_by.Goals as goal

pub returns-then-share_edge : goal.returns-then-share_edge
returns-then-share_edge c = some_shared c.edges.ensures.numbers c.edges-2.ensures.numbers c.share_edge.ensures c.if-share_edge.true

pub returns-then-share_node : goal.returns-then-share_node
returns-then-share_node c = (
  none_shared c.edges.ensures.numbers c.edges-2.ensures.numbers c.share_edge.ensures c.if-share_edge.false,
  some_shared c.nodes.ensures c.nodes-2.ensures c.share_node.ensures c.if-share_node.true,
)

pub returns : goal.returns
returns c = (
  none_shared c.edges.ensures.numbers c.edges-2.ensures.numbers c.share_edge.ensures c.if-share_edge.false,
  none_shared c.nodes.ensures c.nodes-2.ensures c.share_node.ensures c.if-share_node.false,
)
