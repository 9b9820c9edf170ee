use Rattle.std.proofs.Common.{ℕ, List, ◌∷◌, subst}
use Rattle.std.proofs.lemmas.List.Elements.{All-nil, All-more}
use Rattle.gp_syntax.specs.Images.{EdgeImage}
use Rattle.gp_trace.specs.TraceText.{image_word}
use Rattle.gp_trace.specs.Reading.{IsNumber}
use Rattle.gp_trace.proofs.Puts.{nothing, and_then, told}
use Rattle.gp_trace.proofs.Writes.{one_more, all_of, all_held}
use Rattle.gp_trace.proofs.writer.put_edges.Goals as goal

pub loop-edge-init : goal.loop-edge-init
loop-edge-init c = record { text = nothing; held = All-nil (λ (i : EdgeImage). IsNumber i.number) }

pub loop-edge-preserved : goal.loop-edge-preserved
loop-edge-preserved c = record {
  text = told (one_more (λ (w : List ℕ). 32 ∷ w) image_word c.args.edges.now c.loop-edge.edge-index _ c.loop-edge-test.true) (and_then c.loop-edge.invariant.text (rw c.edge-item.is at c.put_edge.ensures.text));
  held = All-more (λ (i : EdgeImage). IsNumber i.number) c.args.edges.now c.loop-edge.edge-index _ c.loop-edge-test.true c.loop-edge.invariant.held (let held : IsNumber c.edge-item.result.number = c.put_edge.ensures.held in subst (λ (i : EdgeImage). IsNumber i.number) c.edge-item.is held);
}

pub returns-clause-text : goal.returns-clause-text
returns-clause-text c = told (all_of (λ (w : List ℕ). 32 ∷ w) image_word c.args.edges.now c.loop-edge.edge-index c.loop-edge-test.false) c.loop-edge.invariant.text

pub returns-clause-held : goal.returns-clause-held
returns-clause-held c = all_held (λ (i : EdgeImage). IsNumber i.number) c.args.edges.now c.loop-edge.edge-index c.loop-edge-test.false c.loop-edge.invariant.held
