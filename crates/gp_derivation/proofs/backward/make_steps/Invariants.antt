use Rattle.std.proofs.Common.{map, take, drop}
use Rattle.gp_syntax.specs.Tree.{rule_of_tree}
use Rattle.gp_journal.specs.Trail.{Trail}
use Rattle.gp_journal.specs.Journal.{items_of}
use Rattle.gp_derivation.specs.inside.Stands.{StepsOn}
use Rattle.gp_derivation.proofs.backward.make_steps.Given as goal

-- what was made, and that what is left can be made, in one way
abbrev pub invariant-loop-made : goal.invariant-loop-made
invariant-loop-made l = record {
  so_far : StepsOn (map rule_of_tree l.rules) (items_of l.items) (take l.made l.numbers) l.initial.trail l.trail;
  onward : (t : Trail) × StepsOn (map rule_of_tree l.rules) (items_of l.items) (drop l.made l.numbers) l.trail t;
  only : (t : Trail) → StepsOn (map rule_of_tree l.rules) (items_of l.items) l.numbers l.initial.trail t → StepsOn (map rule_of_tree l.rules) (items_of l.items) (drop l.made l.numbers) l.trail t;
}
