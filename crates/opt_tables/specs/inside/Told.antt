-- How many entries the sender of an event was told of.
use Rattle.std.specs.Prelude.{ℕ}
use Rattle.opt_core.specs.declared.event.Event.{Event}
use Rattle.opt_core.specs.declared.event.Event.TheVariants as event

abbrev pub told_of : {F : Type 0} → Event F → ℕ
told_of (event.Look told from) = told
told_of (event.Offer told f) = told
told_of (event.Batch told fs) = told
told_of (event.Fault told f) = told
told_of (event.Quiet told share) = told
told_of event.Stop = 0
