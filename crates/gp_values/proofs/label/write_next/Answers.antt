use Rattle.std.proofs.Common.{◌++◌, ap, ◌∙◌, append_assoc}
use Rattle.std.specs.Prelude.{codes}
use Rattle.std.proofs.lemmas.Result.{on_ok_weaker, on_err_weaker}
use Rattle.gp_values.specs.Labels.{atom_text}
use Rattle.gp_values.proofs.Labels.{on_err, begun_none, begun_after}
use Rattle.gp_values.proofs.label.write_next.Goals as goal

pub returns-in_err-write_text-clause-err : goal.returns-in_err-write_text-clause-err
returns-in_err-write_text-clause-err c =
    on_err c.from_residual.result (begun_none _ c.args.out.now.items c.write_text.new.out.items c.in_err-write_text.ensures.err)

pub returns-clause-err : goal.returns-clause-err
returns-clause-err c =
    on_err_weaker c.write_atom.result
    (λ h. begun_after (codes ":") (atom_text c.args.atom.now) c.args.out.now.items c.write_text.new.out.items c.write_atom.new.out.items c.in_ok-write_text.ensures.ok h)
    c.write_atom.ensures.err

pub returns-clause-ok : goal.returns-clause-ok
returns-clause-ok c =
    let t = atom_text c.args.atom.now in
    on_ok_weaker c.write_atom.result
    (λ h. h ∙ ap (λ z. z ++ t) c.in_ok-write_text.ensures.ok ∙ append_assoc c.args.out.now.items (codes ":") t)
    c.write_atom.ensures.ok
