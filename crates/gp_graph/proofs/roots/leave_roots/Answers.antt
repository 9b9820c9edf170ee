use Rattle.gp_graph.proofs.RootSteps.{roots_left, prev_root_some, next_root_some, may_leave_roots}
use Rattle.gp_graph.proofs.roots.leave_roots.Goals as goal

pub join_roots-requires-clause-from : goal.join_roots-requires-clause-from
join_roots-requires-clause-from c = prev_root_some c.args.nodes.now c.args.roots c.args.n c.root_link_at-link.result c.requires.root c.requires.rings c.root_link_at-link.ensures

pub join_roots-requires-clause-to : goal.join_roots-requires-clause-to
join_roots-requires-clause-to c = next_root_some c.args.nodes.now c.args.roots c.args.n c.root_link_at-link.result c.requires.root c.requires.rings c.root_link_at-link.ensures

pub overflow_sub-result : goal.overflow_sub-result
overflow_sub-result c = may_leave_roots c.args.nodes.now c.args.roots c.args.n c.requires.root c.requires.rings

pub returns-clause-rings : goal.returns-clause-rings
returns-clause-rings c =
    roots_left c.args.nodes.now c.join_roots.new.nodes c.args.roots c.args.n c.first_without.result c.root_link_at-link.result c.requires.root c.requires.rings c.root_link_at-link.ensures
    c.first_without.ensures.first c.first_without.ensures.others c.join_roots.ensures.joins c.join_roots.ensures.keeps.seen
