use Rattle.std.proofs.Common.{◌≡◌}
use Rattle.std.specs.Prelude.{Some}
use Rattle.gp_syntax.proofs.Assignments.{still_in_types, written_back}
use Rattle.gp_syntax.proofs.assignment.Assignment.set.Goals as goal

pub invariant_of-self : goal.invariant_of-self
invariant_of-self c = still_in_types c.self.inside.types.items c.self.inside.values.items _ c.args.variable (Some c.args.value) (written_back c.self.inside.values.items c.deref_mut.result.now c.args.variable (Some c.args.value) c.deref_mut.ensures.value) c.self.invariant (λ v e. let f : c.args.value ≡ v = cc in rw (← f) (rw (← c.self.view_is) at c.requires.in_type))
