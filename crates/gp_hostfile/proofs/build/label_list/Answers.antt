use Rattle.std.proofs.lemmas.Result.{err_from_is_err_and}
use Rattle.gp_hostfile.proofs.Making.{atoms_go_on, atoms_stop, atoms_end}
use Rattle.gp_hostfile.proofs.build.label_list.Goals as goal

pub returns-in_err-value : goal.returns-in_err-value
returns-in_err-value c =
    let p = err_from_is_err_and c.from_residual.result c.from_residual.ensures.1 in
    rw (p.1, p.2) (atoms_stop c.args.label.now c.loop-atom.atom-index c.atom-item.result c.loop-atom-test.true c.atom-item.is c.loop-atom.list _ c.loop-atom.invariant c.in_err-value.field-0.0 c.in_err-value.ensures)

pub loop-atom-preserved : goal.loop-atom-preserved
loop-atom-preserved c =
    atoms_go_on c.args.label.now c.loop-atom.atom-index c.atom-item.result c.loop-atom-test.true c.atom-item.is c.loop-atom.list _ c.loop-atom.invariant c.in_ok-value.value c.push.new.self c.in_ok-value.ensures c.in_ok-push.ensures.ok

pub returns : goal.returns
returns c = atoms_end c.args.label.now c.loop-atom.atom-index c.loop-atom.list _ c.loop-atom-test.false c.loop-atom.invariant
