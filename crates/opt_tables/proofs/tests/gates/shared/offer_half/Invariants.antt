use Rattle.opt_gate.specs.Pass.{IsPassOf}
use Rattle.opt_tables.proofs.tests.gates.shared.offer_half.Given as goal

abbrev pub invariant-loop-turn : goal.invariant-loop-turn
invariant-loop-turn g l = IsPassOf l.gate l.pass
