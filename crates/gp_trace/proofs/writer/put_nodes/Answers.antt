use Rattle.std.proofs.Common.{ℕ, List, ◌∷◌, decimal, arith}
use Rattle.std.proofs.lemmas.List.Elements.{All-from_get_or}
use Rattle.gp_trace.specs.Reading.{IsNumber}
use Rattle.gp_trace.proofs.Puts.{nothing, and_then, told}
use Rattle.gp_trace.proofs.Writes.{one_more, all_of}
use Rattle.gp_trace.proofs.writer.put_nodes.Goals as goal

pub loop-node-init : goal.loop-node-init
loop-node-init c = nothing

pub loop-node-preserved : goal.loop-node-preserved
loop-node-preserved c = told (one_more (λ (w : List ℕ). 32 ∷ w) decimal c.args.nodes.now c.loop-node.node-index 0 c.loop-node-test.true) (and_then c.loop-node.invariant (and_then c.put.ensures c.number.ensures.text))

pub returns-clause-text : goal.returns-clause-text
returns-clause-text c = told (all_of (λ (w : List ℕ). 32 ∷ w) decimal c.args.nodes.now c.loop-node.node-index c.loop-node-test.false) c.loop-node.invariant

pub returns-clause-held : goal.returns-clause-held
returns-clause-held c = All-from_get_or IsNumber c.args.nodes.now 0 (λ i b. let fits = c.type_inv.nodes i in omega arith)
