-- What a worker is given and gives back.
use Rattle.std.specs.Prelude.{◌≡◌, ℕ, zero, suc, List, [], ◌∷◌, map}
use Rattle.opt_system.specs.Meaning.{Meaning}
use Rattle.opt_core.specs.Core.{Core, reached}
use Rattle.opt_gate.specs.declared.key.Key.{Key}
use Rattle.opt_gate.specs.Pass.{PassView, GateView, IsPassOf, start_of}
use Rattle.opt_gate.specs.Turn.{entries_told}
use Rattle.opt_worker.specs.Replica.{IsReplica, IsDone}

-- the numbers below this one, the greatest first
abbrev pub counted_down : ℕ → List ℕ
counted_down zero = []
counted_down (suc n) = n ∷ counted_down n

module _ {K F R State : Type 0} where
  -- the numbers of the passes of jobs
  abbrev pub numbers_of : List (PassView K F R × State) → List ℕ
  numbers_of jobs = map (λ (job : PassView K F R × State). job.0.number) jobs

  -- the replicas of jobs
  abbrev pub states_of : List (PassView K F R × State) → List State
  states_of jobs = map (λ (job : PassView K F R × State). job.1) jobs

module _ {System State Found Goal Reason : Type 0} (m : Meaning State Found Goal Reason) where
  -- the replica is where the pass was told that the core is
  abbrev pub IsReady : GateView (Key (Core System State Found Goal Reason)) → PassView (Key (Core System State Found Goal Reason)) Found Reason × State → Type 0
  IsReady gate job = IsPassOf gate job.0 × (job.1 ≡ reached m (start_of gate).base (entries_told job.0))

  -- the pass knows the ending, and the replica follows the entries that it knows
  abbrev pub IsBack : GateView (Key (Core System State Found Goal Reason)) → PassView (Key (Core System State Found Goal Reason)) Found Reason × State → Type 0
  IsBack gate job = IsPassOf gate job.0 × IsDone m gate.key job.0 × IsReplica m (start_of gate).base job.0.knows job.1
