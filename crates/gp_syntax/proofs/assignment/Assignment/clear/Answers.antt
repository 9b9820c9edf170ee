use Rattle.std.specs.Prelude.{None}
use Rattle.gp_syntax.proofs.Assignments.{still_in_types, written_back}
use Rattle.gp_syntax.proofs.assignment.Assignment.clear.Goals as goal

pub invariant_of-self : goal.invariant_of-self
invariant_of-self c = still_in_types c.self.inside.types.items c.self.inside.values.items _ c.args.variable None (written_back c.self.inside.values.items c.deref_mut.result.now c.args.variable None c.deref_mut.ensures.value) c.self.invariant (λ v e. absurd cc)
