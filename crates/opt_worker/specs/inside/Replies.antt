-- What the answer to a report tells its worker.
use Rattle.std.specs.Prelude.{ℕ, Some}
use Rattle.opt_core.specs.declared.event.Reply.{Reply}
use Rattle.opt_core.specs.declared.event.Reply.TheVariants as reply
use Rattle.opt_core.specs.declared.event.Rest.TheVariants as rest

module _ {F R : Type 0} where
  -- how many matches were committed
  abbrev pub committed_by : Reply F R → ℕ
  committed_by (reply.Committed place) = 1
  committed_by (reply.Batched place n r) = n
  committed_by r = 0

  -- the goal has ended: the answer is Closed, or that is the rest of a batch
  abbrev pub TellsEnding : Reply F R → Type 0
  TellsEnding (reply.Closed x) = Unit {0}
  TellsEnding (reply.Batched place n (Some (rest.Closed x))) = Unit {0}
  TellsEnding r = ⊥

  -- memory was refused to the core, in the same way
  abbrev pub WantsMemory : Reply F R → Type 0
  WantsMemory reply.NoMemory = Unit {0}
  WantsMemory (reply.Batched place n (Some rest.NoMemory)) = Unit {0}
  WantsMemory r = ⊥
