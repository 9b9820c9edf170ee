use Rattle.gp_trace.proofs.WordFacts.{texts, text_at, no_nodes, nodes_more}
use Rattle.gp_trace.proofs.line.push_nodes.Goals as goal

pub returns-in-None : goal.returns-in-None
returns-in-None c = no_nodes (texts c.args.words.now) c.loop-word.word-index _ (text_at c.args.words.now c.loop-word.word-index _ c.loop-word-test.true) c.in-None.ensures

pub loop-word-preserved : goal.loop-word-preserved
loop-word-preserved c =
    nodes_more (texts c.args.words.now) c.loop-word.word-index _ c.in-Some.node c.args.found.now c.loop-word.found (text_at c.args.words.now c.loop-word.word-index _ c.loop-word-test.true) c.in-Some.ensures c.loop-word.invariant
    c.push_node.new.self c.in_ok-push_node-in-Some.ensures.ok
