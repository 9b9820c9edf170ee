-- The events that led to a core, and one more.
use Rattle.std.proofs.Common.{◌≡◌, List, [], ◌∷◌, ◌++◌, Option, Some, refl}
use Rattle.opt_system.specs.Meaning.{Meaning}
use Rattle.opt_core.specs.declared.event.Event.{Event}
use Rattle.opt_core.specs.declared.event.Reply.{Reply}
use Rattle.opt_core.specs.Core.{Core}
use Rattle.opt_core.specs.Steps.{Answers, MayCome}
use Rattle.opt_core.specs.Runs.{Answered, Run, EventsLead}

pub one_key : {K : Type 0} (o : Option K) (a b : K) → o ≡ Some a → o ≡ Some b → a ≡ b
one_key o a b e f = cc

module _ {System State Found Goal Reason : Type 0} (m : Meaning State Found Goal Reason) where
  run_on : (c d a : Core System State Found Goal Reason) (es : List (Answered System State Found Goal Reason)) (e : Event Found) (r : Reply Found Reason) → Run m c es d → MayCome m d e → Answers m d e r a
      → Run m c (es ++ record { before = d; event = e; reply = r; after = a } ∷ []) a
  run_on c d a [] e r h came goes = (h, came, goes, refl)
  run_on c d a (t ∷ ts) e r h came goes = (h.0, h.1, h.2, run_on t.after d a ts e r h.3 came goes)

  pub led_on : (c d a : Core System State Found Goal Reason) (e : Event Found) (r : Reply Found Reason) → EventsLead m c d → MayCome m d e → Answers m d e r a → EventsLead m c a
  led_on c d a e r led came goes = (led.0 ++ record { before = d; event = e; reply = r; after = a } ∷ [], run_on c d a led.0 e r led.1 came goes)
