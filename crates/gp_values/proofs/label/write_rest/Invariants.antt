use Rattle.std.proofs.Common.{◌≡◌, ◌++◌, take}
use Rattle.std.specs.Prelude.{codes}
use Rattle.std.specs.List.{flat_map}
use Rattle.gp_values.specs.Labels.{atom_text}
use Rattle.gp_values.proofs.label.write_rest.Given as goal

abbrev pub invariant-loop-atom : goal.invariant-loop-atom
invariant-loop-atom l = l.out.items ≡ l.initial.out.items ++ flat_map (λ y. codes ":" ++ atom_text y) (take l.atom-index l.rest)
