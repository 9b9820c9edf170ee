-- The offers of a batch.
use Rattle.std.specs.Prelude.{◌≡◌, ℕ, List, Option, Some, None, All}
use Rattle.opt_system.specs.Meaning.{Meaning, applies}
use Rattle.opt_core.specs.declared.event.Rest.{Rest}
use Rattle.opt_core.specs.declared.event.Reply.TheVariants as reply
use Rattle.opt_core.specs.Core.{Core, at_first}
use Rattle.opt_core.specs.Steps.{AnswersAnyOffer, reply_of}

module _ {System State Found Goal Reason : Type 0} (m : Meaning State Found Goal Reason) where
  -- an offer is answered Committed, or by what is told of it
  abbrev pub IsOffered : Core System State Found Goal Reason → ℕ → Found → Option (Rest Reason) → Core System State Found Goal Reason → Type 0
  IsOffered c told f None d = (p : ℕ) × AnswersAnyOffer m c told f (reply.Committed p) d
  IsOffered c told f (Some r) d = AnswersAnyOffer m c told f (reply_of r) d

  -- each of these matches applied at the first `told` entries
  abbrev pub AllAppliedAt : Core System State Found Goal Reason → ℕ → List Found → Type 0
  AllAppliedAt c told fs = All (λ f. m.judged c.goal (at_first m c told) f ≡ applies) fs
