-- The bodies of a program text with numbers in place of names, as values.
use Rattle.std.specs.Prelude.{◌≡◌, Some, map, flat_map, option_map}
use Rattle.gp_syntax.specs.Tree.{command_of}
use Rattle.gp_scope.specs.declared.bodies.Bodies.{Bodies}
use Rattle.gp_scope.specs.Outline.{Outline}
use Rattle.gp_scope.specs.Names.{all_bodies}
use Rattle.gp_scope.specs.Resolved.{ResolvedBody, resolved_bodies, others, main_of, sets_of}

-- those of the program for which the text stands
pub record AreBodies (os : Outline) (b : Bodies) : Type 0 where
  pub main : option_map command_of b.main ≡ Some (main_of (resolved_bodies os))
  pub procedures : map command_of b.procedures.items ≡ map (λ (r : ResolvedBody). r.command) (others (resolved_bodies os))
  pub sets : b.sets.items ≡ flat_map sets_of (all_bodies os)
