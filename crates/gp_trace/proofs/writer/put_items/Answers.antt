use Rattle.std.proofs.Common.{◌++◌, map, take, sym, subst, ap, ◌∙◌}
use Rattle.std.proofs.lemmas.List.Elements.{All-nil, All-more, All-map}
use Rattle.gp_syntax.specs.declared.found.Item.{Item}
use Rattle.gp_syntax.specs.Tree.{item_of}
use Rattle.gp_trace.specs.TraceText.{item_line}
use Rattle.gp_trace.specs.Reading.{CanBeHeld}
use Rattle.gp_trace.specs.inside.Lines.{item_lines}
use Rattle.gp_trace.proofs.Puts.{nothing, and_then, told}
use Rattle.gp_trace.proofs.Writes.{one_more, all_of, all_held}
use Rattle.gp_trace.proofs.writer.put_items.Goals as goal

pub loop-item-init : goal.loop-item-init
loop-item-init c = record { text = nothing; held = All-nil (λ (i : Item). CanBeHeld (item_of i)) }

pub loop-item-preserved : goal.loop-item-preserved
loop-item-preserved c =
    let e = one_more item_line item_of c.args.items.now c.loop-item.item-index c.item-item.result c.loop-item-test.true in
    let same = ap (λ (x : Item). item_lines (map item_of (take c.loop-item.item-index c.args.items.now)) ++ item_line (item_of x)) (sym c.item-item.is) in
    record {
      text = told (e ∙ same) (and_then c.loop-item.invariant.text c.put_item.ensures.text);
      held = All-more (λ (i : Item). CanBeHeld (item_of i)) c.args.items.now c.loop-item.item-index c.item-item.result c.loop-item-test.true c.loop-item.invariant.held
          (subst (λ (i : Item). CanBeHeld (item_of i)) c.item-item.is c.put_item.ensures.held);
    }

pub returns-clause-text : goal.returns-clause-text
returns-clause-text c = told (all_of item_line item_of c.args.items.now c.loop-item.item-index c.loop-item-test.false) c.loop-item.invariant.text

pub returns-clause-held : goal.returns-clause-held
returns-clause-held c =
    All-map CanBeHeld item_of c.args.items.now (all_held (λ (i : Item). CanBeHeld (item_of i)) c.args.items.now c.loop-item.item-index c.loop-item-test.false c.loop-item.invariant.held)
