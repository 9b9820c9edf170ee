use Rattle.std.proofs.Common.{take}
use Rattle.gp_trace.specs.inside.Words.{PutsNodes}
use Rattle.gp_trace.proofs.WordFacts.{texts}
use Rattle.gp_trace.proofs.line.push_nodes.Given as goal

abbrev pub invariant-loop-word : goal.invariant-loop-word
invariant-loop-word l = PutsNodes (take l.word-index (texts l.words)) l.initial.found l.found
