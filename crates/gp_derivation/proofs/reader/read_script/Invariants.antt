use Rattle.std.proofs.Common.{◌≡◌, ◌++◌, length, map}
use Rattle.gp_derivation.specs.Script.{word_of, lines_of}
use Rattle.gp_derivation.proofs.reader.read_script.Given as goal

abbrev pub invariant-loop-rest : goal.invariant-loop-rest
invariant-loop-rest l = lines_of l.text ≡ map word_of l.lines.items ++ lines_of l.rest

abbrev pub decreases-loop-rest : goal.decreases-loop-rest
decreases-loop-rest l = length l.rest
