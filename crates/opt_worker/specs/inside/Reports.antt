-- What a search may report.
use Rattle.opt_gate.specs.declared.ask.Ask.{Ask}
use Rattle.opt_gate.specs.declared.ask.Ask.TheVariants as ask

module _ {F : Type 0} where
  -- it is an Offer, a Batch, a Fault or a Quiet
  abbrev pub IsReport : Ask F → Type 0
  IsReport (ask.Look from) = ⊥
  IsReport (ask.Offer f) = Unit {0}
  IsReport (ask.Batch fs) = Unit {0}
  IsReport (ask.Fault f) = Unit {0}
  IsReport (ask.Quiet share) = Unit {0}
  IsReport ask.Stop = ⊥
