use Rattle.std.proofs.Common.{◌++◌}
use Rattle.std.specs.Prelude.{codes}
use Rattle.gp_values.specs.Labels.{atom_text}
use Rattle.gp_values.proofs.Labels.{on_err, begun_at, piece_on}
use Rattle.gp_values.proofs.label.write_rest.Goals as goal

pub returns-in_err-write_next-clause-err : goal.returns-in_err-write_next-clause-err
returns-in_err-write_next-clause-err c =
    on_err c.from_residual.result (begun_at (λ y. codes ":" ++ atom_text y) c.args.rest.now c.loop-atom.atom-index c.atom-item.result
    c.args.out.now.items c.loop-atom.out.items c.write_next.new.out.items
    c.loop-atom-test.true c.atom-item.is c.loop-atom.invariant c.in_err-write_next.ensures.err)

pub loop-atom-preserved : goal.loop-atom-preserved
loop-atom-preserved c =
    piece_on (λ y. codes ":" ++ atom_text y) c.args.rest.now c.loop-atom.atom-index c.atom-item.result
    c.args.out.now.items c.loop-atom.out.items c.write_next.new.out.items
    c.loop-atom-test.true c.atom-item.is c.loop-atom.invariant c.in_ok-write_next.ensures.ok
