use Rattle.std.proofs.Common.{map, take}
use Rattle.std.specs.Prelude.{All}
use Rattle.gp_syntax.specs.Images.{EdgeImage}
use Rattle.gp_trace.specs.TraceText.{image_word}
use Rattle.gp_trace.specs.Reading.{IsNumber}
use Rattle.gp_trace.specs.inside.Lines.{spaced}
use Rattle.gp_trace.specs.inside.Puts.{Puts}
use Rattle.gp_trace.proofs.writer.put_edges.Given as goal

abbrev pub invariant-loop-edge : goal.invariant-loop-edge
invariant-loop-edge l = record {
  text : Puts l.initial.sheet l.sheet (spaced (map image_word (take l.edge-index l.edges)));
  held : All (λ (i : EdgeImage). IsNumber i.number) (take l.edge-index l.edges);
}
