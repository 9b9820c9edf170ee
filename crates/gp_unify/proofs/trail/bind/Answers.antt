use Rattle.gp_unify.proofs.Trails.{grown_with, known_set}
use Rattle.gp_unify.proofs.trail.bind.Goals as goal

pub returns-clause-grown : goal.returns-clause-grown
returns-clause-grown c =
    rw c.set.ensures (grown_with c.args.assignment.now c.args.x c.args.value c.args.trail.now.items c.note.new.trail.items c.requires.known c.requires.vacant c.in_ok-note.ensures.ok)

pub returns-clause-ok : goal.returns-clause-ok
returns-clause-ok c = rw c.set.ensures (known_set c.args.assignment.now c.args.x c.args.value c.requires.vacant)
