use Rattle.std.proofs.Common.{take}
use Rattle.gp_trace.specs.inside.Words.{PutsEdges}
use Rattle.gp_trace.proofs.WordFacts.{texts}
use Rattle.gp_trace.proofs.line.push_edges.Given as goal

abbrev pub invariant-loop-word : goal.invariant-loop-word
invariant-loop-word l = PutsEdges (take l.word-index (texts l.words)) l.initial.found l.found
