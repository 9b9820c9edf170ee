use Rattle.gp_trace.proofs.WordFacts.{texts, text_at, no_edges, edges_more}
use Rattle.gp_trace.proofs.line.push_edges.Goals as goal

pub returns-in-None : goal.returns-in-None
returns-in-None c = no_edges (texts c.args.words.now) c.loop-word.word-index _ (text_at c.args.words.now c.loop-word.word-index _ c.loop-word-test.true) c.in-None.ensures

pub loop-word-preserved : goal.loop-word-preserved
loop-word-preserved c =
    edges_more (texts c.args.words.now) c.loop-word.word-index _ c.in-Some.edge c.args.found.now c.loop-word.found (text_at c.args.words.now c.loop-word.word-index _ c.loop-word-test.true) c.in-Some.ensures c.loop-word.invariant
    c.push_edge.new.self c.in_ok-push_edge-in-Some.ensures.ok
