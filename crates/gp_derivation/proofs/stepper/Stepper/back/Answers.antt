use Rattle.std.proofs.Common.{◌+◌, ◌-◌, map, arith}
use Rattle.gp_syntax.specs.Tree.{rule_of_tree}
use Rattle.gp_derivation.proofs.StepperStandings.{stands_held}
use Rattle.gp_derivation.proofs.stepper.Stepper.back.Goals as goal

pub unmake-requires-clause-stands : goal.unmake-requires-clause-stands
unmake-requires-clause-stands c =
    let s = c.self.inside in
    stands_held (map rule_of_tree c.args.rules.now) s.items.items c.as_slice.result.now s.place (s.place - 1 + 1) s.standing c.args.self.now c.self.view_is c.requires c.self.invariant c.as_slice.ensures (omega arith)
