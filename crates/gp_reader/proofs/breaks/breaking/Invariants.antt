use Rattle.std.proofs.Common.{◌≡◌, length, map}
use Rattle.gp_syntax.specs.Tree.{command_of}
use Rattle.gp_reader.specs.inside.Visits.{unmarked}
use Rattle.gp_reader.specs.inside.Judged.{AreBreaking}
use Rattle.gp_reader.proofs.breaks.breaking.Given as goal

abbrev pub invariant-loop : goal.invariant-loop
invariant-loop l = (length l.known.items ≡ length l.procedures) × AreBreaking (map command_of l.procedures) l.known.items

abbrev pub decreases-loop : goal.decreases-loop
decreases-loop l = unmarked l.known.items
