use Rattle.std.proofs.Common.{sym, ap, ◌∙◌}
use Rattle.std.specs.Prelude.{Some, slice_set}
use Rattle.std.proofs.lemmas.Option.{slice_get-get_or}
use Rattle.gp_graph.proofs.slots.put.Goals as goal

pub returns-clause-items : goal.returns-clause-items
returns-clause-items g c = ap (slice_set c.args.slots.now c.args.place) c.replace.ensures.after

pub returns-clause-was : goal.returns-clause-was
returns-clause-was g c = slice_get-get_or c.args.slots.now c.args.place c.index-slots-place.result c.requires ∙ ap Some (sym c.replace.ensures.value)
