use Rattle.std.proofs.Common.{ap, ◌∙◌, arith}
use Rattle.gp_rings.specs.declared.rings.Link.{Link}
use Rattle.gp_graph.proofs.RootSteps.{root_entered, last_root_some, first_root_some, may_enter_roots, still_some, keeps_then, root_there}
use Rattle.gp_graph.proofs.roots.enter_roots.Goals as goal

pub join_roots-requires-clause-from : goal.join_roots-requires-clause-from
join_roots-requires-clause-from c =
    last_root_some c.args.nodes.now c.args.roots c.args.n c.ends-first.result.1 c.requires.root c.requires.rings
    (λ z. (c.ends-first.ensures.none z).1) (λ z. (c.ends-first.ensures.some z).1 ∙ ap (λ (l : Link). l.prev) c.root_link_at-before.ensures)

pub join_roots-requires-clause-to : goal.join_roots-requires-clause-to
join_roots-requires-clause-to c = root_there c.args.nodes.now c.args.n c.requires.root

pub join_roots-requires-2-clause-from : goal.join_roots-requires-2-clause-from
join_roots-requires-2-clause-from c =
    still_some c.args.nodes.now c.join_roots.new.nodes c.args.n c.join_roots.ensures.keeps (root_there c.args.nodes.now c.args.n c.requires.root)

pub join_roots-requires-2-clause-to : goal.join_roots-requires-2-clause-to
join_roots-requires-2-clause-to c =
    still_some c.args.nodes.now c.join_roots.new.nodes c.ends-first.result.0 c.join_roots.ensures.keeps
    (first_root_some c.args.nodes.now c.args.roots c.args.n c.ends-first.result.0 c.requires.root c.requires.rings
    (λ z. (c.ends-first.ensures.none z).0) (λ z. (c.ends-first.ensures.some z).0))

pub overflow_add-result : goal.overflow_add-result
overflow_add-result c =
    let h = may_enter_roots c.args.nodes.now c.args.roots c.args.n c.requires.root c.requires.rings in
    omega (arith, h)

pub returns-clause-rings : goal.returns-clause-rings
returns-clause-rings c =
    root_entered c.args.nodes.now c.join_roots.new.nodes c.join_roots-2.new.nodes c.args.roots c.args.n c.ends-first.result.0 c.ends-first.result.1 c.requires.root c.requires.rings
    c.ends-first.ensures.none (λ z. ((c.ends-first.ensures.some z).0, (c.ends-first.ensures.some z).1 ∙ ap (λ (l : Link). l.prev) c.root_link_at-before.ensures)) c.join_roots.ensures.joins c.join_roots-2.ensures.joins (λ k. c.join_roots-2.ensures.keeps.seen k ∙ c.join_roots.ensures.keeps.seen k)

pub returns-clause-keeps : goal.returns-clause-keeps
returns-clause-keeps c = keeps_then c.args.nodes.now c.join_roots.new.nodes c.join_roots-2.new.nodes c.join_roots.ensures.keeps c.join_roots-2.ensures.keeps
