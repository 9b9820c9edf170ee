use Rattle.std.proofs.Common.{◌≡◌, [], ◌∷◌, length, map, take, ◌+◌}
use Rattle.gp_syntax.specs.Tree.{command_of, program_of_tree}
use Rattle.gp_certify.specs.inside.Table.{Lowers, grouped}
use Rattle.gp_certify.specs.inside.Fits.{size, sizes, room}
use Rattle.gp_certify.proofs.lower.+lower.Given as goal

abbrev pub decreases-lower : goal.decreases-lower
decreases-lower l = room l.program.now.procedures l.depth + size l.command.now

abbrev pub decreases-lower_chain : goal.decreases-lower_chain
decreases-lower_chain l = room l.program.now.procedures l.depth + (1 + size l.first.now + sizes l.rest.now)

abbrev pub decreases-lower_branches : goal.decreases-lower_branches
decreases-lower_branches l = room l.program.now.procedures l.depth + (1 + size l.condition.now + size l.then.now + size l.otherwise.now)

abbrev pub decreases-lower_body : goal.decreases-lower_body
decreases-lower_body l = room l.program.now.procedures l.depth + 1

abbrev pub invariant-lower_chain-parts : goal.invariant-lower_chain-parts
invariant-lower_chain-parts l = record {
  roots : length l.table.roots.items ≡ length l.program.procedures;
  lowered : Lowers (program_of_tree l.program) l.fn.table l.table (l.so_far ∷ []) (grouped l.chain (command_of l.first) (map command_of (take l.part-index l.rest)) ∷ []);
}
