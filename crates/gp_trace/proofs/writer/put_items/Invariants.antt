use Rattle.std.proofs.Common.{map, take}
use Rattle.std.specs.Prelude.{All}
use Rattle.gp_syntax.specs.declared.found.Item.{Item}
use Rattle.gp_syntax.specs.Tree.{item_of}
use Rattle.gp_trace.specs.Reading.{CanBeHeld}
use Rattle.gp_trace.specs.inside.Lines.{item_lines}
use Rattle.gp_trace.specs.inside.Puts.{Puts}
use Rattle.gp_trace.proofs.writer.put_items.Given as goal

abbrev pub invariant-loop-item : goal.invariant-loop-item
invariant-loop-item l = record {
  text : Puts l.initial.sheet l.sheet (item_lines (map item_of (take l.item-index l.items)));
  held : All (λ (i : Item). CanBeHeld (item_of i)) (take l.item-index l.items);
}
