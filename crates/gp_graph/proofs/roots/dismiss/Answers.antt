use Rattle.std.proofs.Common.{sym, ◌∙◌}
use Rattle.gp_graph.proofs.RootSteps.{root_told, root_untold, roots_but, keeps_self}
use Rattle.gp_graph.proofs.roots.dismiss.Goals as goal

pub leave_roots-requires-clause-root : goal.leave_roots-requires-clause-root
leave_roots-requires-clause-root c = root_told c.args.nodes.now c.args.n (sym c.is_root_at.ensures ∙ c.if-is_root_at.true)

pub returns-else-is_root_at-clause-rings : goal.returns-else-is_root_at-clause-rings
returns-else-is_root_at-clause-rings c = roots_but c.args.roots c.args.nodes.now c.args.n c.requires (root_untold c.args.nodes.now c.args.n (sym c.is_root_at.ensures ∙ c.if-is_root_at.false))

pub returns-else-is_root_at-clause-keeps : goal.returns-else-is_root_at-clause-keeps
returns-else-is_root_at-clause-keeps c = keeps_self c.args.nodes.now
