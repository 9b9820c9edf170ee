use Rattle.std.proofs.Common.{◌≡◌, ◌∙◌, None, refl, arith}
use Rattle.opt_core.specs.Core.{IsEnding}
use Rattle.opt_core.proofs.Legal.{not_all_quiet, same_ending}
use Rattle.opt_core.proofs.machine.Core.look.Goals as goal

pub task_from-requires : goal.task_from-requires
task_from-requires g c = let l = c.self.invariant in let p = l.places in let some = (g.met.S.System.lawful c.self.inside.system.value).some_share c.self.inside.goal in
    rw c.deref.ensures.value (l.narrow, omega arith)

pub unreachable-unreachable : goal.unreachable-unreachable
unreachable-unreachable g c =
    let i = c.self.inside in
    let m = g.S.System.means i.system.value in
    let open_ : i.ending ≡ None = same_ending c.self.view_is ∙ c.requires.running in
    let some : IsEnding m i.goal i.state i.entries.items i.quiet.items i.given i.left None = rw open_ at c.self.invariant.ended in
    not_all_quiet m i.goal i.state i.entries.items i.quiet.items i.given i.left some (rw c.deref.ensures.value at c.in-None.ensures.none)

pub returns : goal.returns
returns g c =
    let first = rw c.deref.ensures.value at c.in-Some.ensures.some in
    rw (← c.self.view_is) (c.in-Ok.ensures, first, refl)
