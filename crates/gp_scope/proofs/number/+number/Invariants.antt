use Rattle.std.proofs.Common.{◌≡◌, ◌+◌, ◌*◌, ◌++◌, map, take, length}
use Rattle.gp_syntax.specs.Tree.{command_of}
use Rattle.gp_scope.specs.inside.Levels.{scope_of}
use Rattle.gp_scope.specs.inside.Commands.{size, sizes, resolved_rest, sets_in_rest}
use Rattle.gp_scope.proofs.number.+number.Given as goal

abbrev pub decreases-number : goal.decreases-number
decreases-number l = 4 * size l.command.now

abbrev pub decreases-number_boxed : goal.decreases-number_boxed
decreases-number_boxed l = 1 + 4 * size l.command.now

abbrev pub decreases-number_branches : goal.decreases-number_branches
decreases-number_branches l = 2 + 4 * (size l.first.now + size l.second.now + size l.third.now)

abbrev pub decreases-number_chain : goal.decreases-number_chain
decreases-number_chain l = 3 + 4 * (size l.first.now + sizes l.rest.now)

abbrev pub decreases-number_rest : goal.decreases-number_rest
decreases-number_rest l = 1 + 4 * sizes l.commands.now

abbrev pub invariant-number_rest-each : goal.invariant-number_rest-each
invariant-number_rest-each l = record {
  commands : map command_of l.numbered.items ≡ resolved_rest (scope_of l.levels) (length l.fn.sets.items) (take l.command-index l.commands);
  sets : l.sets.items ≡ l.fn.sets.items ++ sets_in_rest (scope_of l.levels) (take l.command-index l.commands);
}
