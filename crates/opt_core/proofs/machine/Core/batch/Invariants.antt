use Rattle.std.proofs.Common.{◌≡◌, ◌++◌, length}
use Rattle.std.specs.Vec.Iter.{into_iter_items, into_iter_len}
use Rattle.opt_core.specs.Steps.{AllCommitted}
use Rattle.opt_core.proofs.machine.Core.batch.Given as goal

abbrev pub invariant-loop-found : goal.invariant-loop-found
invariant-loop-found g l = (l.yielded ++ into_iter_items l.found-iterator ≡ into_iter_items l.initial.found-iterator)
    × AllCommitted (g.S.System.means l.s) l.fn.self l.told l.yielded l.self × (into_iter_len l.found-iterator ≡ length (into_iter_items l.found-iterator))
