use Rattle.gp_clauses.proofs.Doubles.{doubled_in_turn}
use Rattle.gp_clauses.proofs.names.twice_declared.Goals as goal

pub returns : goal.returns
returns c =
    doubled_in_turn c.args.rule.now _ _ _ _ _ _ c.doubled_variable-doubled.ensures (rw c.as_slice.ensures at c.doubled_among-doubled.ensures) (rw c.as_slice-2.ensures at c.doubled_among-doubled-2.ensures) (rw c.as_slice-3.ensures at c.doubled_among-doubled-3.ensures) (rw c.as_slice-4.ensures at c.doubled_among-doubled-4.ensures)
    (rw c.as_slice-5.ensures at c.doubled_among.ensures)
