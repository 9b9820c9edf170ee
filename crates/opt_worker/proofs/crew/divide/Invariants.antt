use Rattle.std.proofs.Common.{◌≡◌, ◌+◌, ◌++◌, vec_len, vec_capacity}
use Rattle.std.specs.Prelude.{reverse}
use Rattle.std.specs.List.{All}
use Rattle.opt_gate.specs.Pass.{IsPassOf, start_of}
use Rattle.opt_worker.specs.inside.Jobs.{IsReady, counted_down, numbers_of, states_of}
use Rattle.opt_worker.proofs.crew.divide.Given as goal

abbrev pub invariant-loop-state : goal.invariant-loop-state
invariant-loop-state g l =
    IsPassOf l.gate l.pass × (l.pass.told ≡ 0) × (l.pass.room ≡ vec_len l.replicas + 1)
    × (vec_len l.jobs + vec_len l.replicas ≡ vec_len l.initial.replicas)
    × All (λ at. at ≡ (start_of l.gate).base) l.replicas.items
    × All (λ job. IsReady (g.S.System.means (start_of l.gate).system) l.gate job) l.jobs.items
    × (vec_capacity l.jobs ≡ vec_capacity l.initial.jobs) × (vec_capacity l.replicas ≡ vec_capacity l.initial.replicas)
    × (numbers_of l.jobs.items ++ counted_down (vec_len l.replicas) ≡ counted_down (vec_len l.initial.replicas))
    × (states_of l.jobs.items ++ reverse l.replicas.items ≡ reverse l.initial.replicas.items)

abbrev pub decreases-loop-state : goal.decreases-loop-state
decreases-loop-state g l = vec_len l.replicas
