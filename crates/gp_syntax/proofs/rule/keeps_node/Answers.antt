use Rattle.std.proofs.Common.{sym, ap, ◌∙◌}
use Rattle.gp_syntax.specs.Rule.{is_origin}
use Rattle.gp_syntax.proofs.Keeping.{keeps_at, keeps_past}
use Rattle.gp_syntax.proofs.rule.keeps_node.Goals as goal

pub returns-in-None : goal.returns-in-None
returns-in-None c = sym (keeps_past c.args.parts.now c.args.right c.args.left (rw c.as_slice.ensures at c.in-None.ensures.lookup.3))

pub returns-in-None-origin : goal.returns-in-None-origin
returns-in-None-origin c =
    sym (keeps_at c.args.parts.now c.args.right c.args.left c.in-Some.node.now (rw c.as_slice.ensures at c.in-Some.ensures.lookup.3.0) (rw c.as_slice.ensures at c.in-Some.ensures.lookup.1)
    ∙ ap (is_origin c.args.left) c.in-None-origin.is)

pub returns-in-Some-origin : goal.returns-in-Some-origin
returns-in-Some-origin c =
    sym (keeps_at c.args.parts.now c.args.right c.args.left c.in-Some.node.now (rw c.as_slice.ensures at c.in-Some.ensures.lookup.3.0) (rw c.as_slice.ensures at c.in-Some.ensures.lookup.1)
    ∙ ap (is_origin c.args.left) c.in-Some-origin.is)
