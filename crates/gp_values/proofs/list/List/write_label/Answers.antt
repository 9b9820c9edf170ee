use Rattle.gp_values.specs.Labels.{atom_text}
use Rattle.std.proofs.lemmas.Result.{on_err_weaker}
use Rattle.gp_values.proofs.Labels.{on_err, begun_longer, begun_after, label_text-first}
use Rattle.gp_values.proofs.list.List.write_label.Goals as goal

pub returns-in_err-write_atom-in-len1-up-clause-err :
    goal.returns-in_err-write_atom-in-len1-up-clause-err
returns-in_err-write_atom-in-len1-up-clause-err c =
    on_err c.from_residual.result (rw (← c.atoms.ensures.value, label_text-first c.atoms.result.now c.first-item.result c.in-len1-up.len_at_least c.first-item.is)
    (begun_longer (atom_text c.first-item.result) _ c.args.out.now.items c.write_atom.new.out.items c.in_err-write_atom-in-len1-up.ensures.err))

pub returns-in_ok-write_atom-in-len1-up-clause-err :
    goal.returns-in_ok-write_atom-in-len1-up-clause-err
returns-in_ok-write_atom-in-len1-up-clause-err c =
    on_err_weaker c.write_rest.result
    (λ h. rw (← c.atoms.ensures.value, label_text-first c.atoms.result.now c.first-item.result c.in-len1-up.len_at_least c.first-item.is)
    (begun_after (atom_text c.first-item.result) _ c.args.out.now.items c.write_atom.new.out.items c.write_rest.new.out.items
    c.in_ok-write_atom-in-len1-up.ensures.ok h))
    c.write_rest.ensures.err
