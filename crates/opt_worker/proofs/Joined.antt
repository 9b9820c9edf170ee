-- Jobs that are made of a pass, and what comes back of them.
use Rattle.std.proofs.Common.{◌≡◌, ℕ, List, [], ◌∷◌, ◌++◌, length, take, sym, ap, ◌∙◌, arith}
use Rattle.std.specs.List.{All}
use Rattle.std.proofs.lemmas.List.{length-append}
use Rattle.std.proofs.lemmas.List.Elements.{All-push, All-weaker, All-same}
use Rattle.opt_system.specs.Meaning.{Meaning}
use Rattle.opt_core.specs.Core.{Core, reached}
use Rattle.opt_gate.specs.declared.key.Key.{Key}
use Rattle.opt_gate.specs.Lists.{StartsWith}
use Rattle.opt_gate.specs.Pass.{PassView, GateView, IsPassOf, start_of, pass_after_split, new_pass, joined_pass}
use Rattle.opt_gate.specs.Turn.{entries_told}
use Rattle.opt_worker.specs.Replica.{IsReplica}
use Rattle.opt_worker.specs.Entries.{AreSteps}
use Rattle.opt_worker.specs.inside.Jobs.{IsReady}
use Rattle.opt_worker.proofs.Replicas.{replica_further}

module _ {K F R : Type 0} where
  -- what is left of a split is of the same gate
  pub left_of : (gate : GateView K) (p q : PassView K F R) → q ≡ pass_after_split p → IsPassOf gate p → IsPassOf gate q
  left_of gate p q is of = (ap (λ (x : PassView K F R). x.table) is ∙ of.0, ap (λ (x : PassView K F R). x.key) is ∙ of.1)

  -- and so is what comes of a join
  pub joined_of : (gate : GateView K) (p o q : PassView K F R) → q ≡ joined_pass p o → IsPassOf gate p → IsPassOf gate q
  joined_of gate p o q is of = (ap (λ (x : PassView K F R). x.table) is ∙ of.0, ap (λ (x : PassView K F R). x.key) is ∙ of.1)

module _ {System State Found Goal Reason : Type 0} (m : Meaning State Found Goal Reason) where
  -- a job of a new pass that was told nothing
  pub ready_one : (gate : GateView (Key (Core System State Found Goal Reason))) (p q : PassView (Key (Core System State Found Goal Reason)) Found Reason) (number : ℕ) (at : State)
      → q ≡ new_pass p number → IsPassOf gate p → p.told ≡ 0 → at ≡ (start_of gate).base → IsReady m gate (q, at)
  ready_one gate p q number at is of told base = (
    (ap (λ (x : PassView _ Found Reason). x.table) is ∙ of.0, ap (λ (x : PassView _ Found Reason). x.key) is ∙ of.1),
    base ∙ sym (ap (λ (x : PassView _ Found Reason). reached m (start_of gate).base (entries_told x)) is ∙ ap (λ (n : ℕ). reached m (start_of gate).base (take n p.knows)) told),
  )

module _ {State Found Goal Reason : Type 0} (m : Meaning State Found Goal Reason) where
  -- one replica more, and what is known grows
  pub follow_more : (base : State) (before other now : List Found) (ats new : List State) (at : State) → StartsWith now before → StartsWith now other
      → new ≡ ats ++ at ∷ [] → All (λ x. IsReplica m base before x) ats → IsReplica m base other at → All (λ x. IsReplica m base now x) new
  follow_more base before other now ats new at s t is all one =
      All-same (λ x. IsReplica m base now x) new (ats ++ at ∷ []) is
      (All-push (λ x. IsReplica m base now x) ats at (All-weaker (λ x. IsReplica m base before x) (λ x. IsReplica m base now x) (λ x r. replica_further m base x before now s r) ats all) (replica_further m base at other now t one))

  -- no entries are steps
  pub no_steps : (goal : Goal) (base : State) (entries : List Found) → entries ≡ [] → AreSteps m goal base entries
  no_steps goal base entries is = λ before f rest h. absurd (let e = ap (λ (l : List Found). length l) (sym is ∙ h) in let n = length-append before (f ∷ rest) in omega arith)
