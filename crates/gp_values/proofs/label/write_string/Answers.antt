use Rattle.std.proofs.Common.{◌++◌, ap, ◌∙◌, append_assoc}
use Rattle.std.specs.Prelude.{codes}
use Rattle.std.proofs.lemmas.Result.{on_ok_weaker, on_err_weaker}
use Rattle.gp_values.proofs.Labels.{on_err, begun_none, begun_after}
use Rattle.gp_values.proofs.label.write_string.Goals as goal

pub returns-in_err-write_text-clause-err : goal.returns-in_err-write_text-clause-err
returns-in_err-write_text-clause-err c =
    on_err c.from_residual.result (begun_none _ c.args.out.now.items c.write_text.new.out.items c.in_err-write_text.ensures.err)

pub returns-in_err-write_text-2-clause-err : goal.returns-in_err-write_text-2-clause-err
returns-in_err-write_text-2-clause-err c =
    on_err c.from_residual-in_err-write_text-2.result
    (begun_after (codes "\"") _ c.args.out.now.items c.write_text.new.out.items c.write_text-2.new.out.items c.in_ok-write_text.ensures.ok
    (begun_none _ c.write_text.new.out.items c.write_text-2.new.out.items c.in_err-write_text-2.ensures.err))

pub returns-clause-err : goal.returns-clause-err
returns-clause-err c =
    on_err_weaker c.write_text-3.result
    (λ h. begun_after (codes "\"") _ c.args.out.now.items c.write_text.new.out.items c.write_text-3.new.out.items c.in_ok-write_text.ensures.ok
    (begun_after c.args.text.now _ c.write_text.new.out.items c.write_text-2.new.out.items c.write_text-3.new.out.items c.in_ok-write_text-2.ensures.ok
    (begun_none _ c.write_text-2.new.out.items c.write_text-3.new.out.items h)))
    c.write_text-3.ensures.err

pub returns-clause-ok : goal.returns-clause-ok
returns-clause-ok c =
    let q = codes "\"" in
    let t = c.args.text.now in
    let o = c.args.out.now.items in
    on_ok_weaker c.write_text-3.result
    (λ h. h ∙ ap (λ z. z ++ q) (c.in_ok-write_text-2.ensures.ok ∙ ap (λ z. z ++ t) c.in_ok-write_text.ensures.ok) ∙ append_assoc (o ++ q) t q ∙ append_assoc o q (t ++ q))
    c.write_text-3.ensures.ok
