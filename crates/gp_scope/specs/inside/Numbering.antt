-- Bodies numbered one after another.
use Rattle.std.specs.Prelude.{◌≡◌, ℕ, ◌+◌, if◌then◌else◌, List, [], ◌∷◌, ◌++◌, map, length, Option, Some, option_map}
use Rattle.std.specs.Option.{option_or}
use Rattle.gp_values.specs.Names.{Name}
use Rattle.gp_syntax.specs.declared.tree.Decl.{Decl}
use Rattle.gp_syntax.specs.Run as meant
use Rattle.gp_syntax.specs.Tree.{command_of}
use Rattle.gp_scope.specs.declared.bodies.Bodies.{Bodies}
use Rattle.gp_scope.specs.declared.survey.Survey.{Survey}
use Rattle.gp_scope.specs.Outline.{Outline, is_main, declared}
use Rattle.gp_scope.specs.Names.{Scope, Body, bodies}
use Rattle.gp_scope.specs.Resolved.{resolved, sets_of}
use Rattle.gp_scope.specs.inside.Declares.{Counts}

pub record Numbered : Type 0 where
  pub main : Option meant.Command
  pub procedures : List meant.Command
  pub sets : List (List ℕ)

abbrev pub numbered_of : Bodies → Numbered
numbered_of b = record { main = option_map command_of b.main; procedures = map command_of b.procedures.items; sets = b.sets.items }

-- with a command as the body of this name; a second Main is not looked at
abbrev pub with_command : Numbered → Name → meant.Command → Numbered
with_command d n c = record {
  main = if is_main n then option_or d.main (Some c) else d.main;
  procedures = if is_main n then d.procedures else d.procedures ++ c ∷ [];
  sets = d.sets;
}

-- with one more body; a second Main is not looked at
abbrev pub with_body : Numbered → Body → Numbered
with_body d b = record {
  main = if is_main b.name then option_or d.main (Some (resolved b.scope (length d.sets) b.command)) else d.main;
  procedures = if is_main b.name then d.procedures else d.procedures ++ resolved b.scope (length d.sets) b.command ∷ [];
  sets = d.sets ++ sets_of b;
}

abbrev pub with_bodies : Numbered → List Body → Numbered
with_bodies d [] = d
with_bodies d (b ∷ bs) = with_bodies (with_body d b) bs

-- the bodies in the declaration are there, and those behind it are still to come
abbrev pub Numbers : Decl → Scope → ℕ → ℕ → Numbered → Numbered → Type 0
Numbers d s r p old new = (k : Survey) → Counts d k → (os : Outline) → with_bodies new (bodies s (r + k.rules) (p + k.procedures) os) ≡ with_bodies old (bodies s r p (declared d os))
