-- A goal is stopped by the event Stop alone.
use Rattle.std.proofs.Common.{◌≡◌, ◌<◌, ◌⊎◌, inl, inr, List, [], ◌∷◌, Option, Some, None, refl, sym, ◌∙◌, ap, arith}
use Rattle.opt_system.specs.Meaning.{Meaning}
use Rattle.opt_core.specs.declared.event.Ending.{Ending}
use Rattle.opt_core.specs.declared.event.Ending.TheVariants as ending
use Rattle.opt_core.specs.declared.event.Event.{Event}
use Rattle.opt_core.specs.declared.event.Event.TheVariants as event
use Rattle.opt_core.specs.declared.event.Reply.{Reply}
use Rattle.opt_core.specs.Core.{Core}
use Rattle.opt_core.specs.Steps.{Answers}
use Rattle.opt_core.specs.Runs.{Answered, Run, EventsLead}
use Rattle.opt_gate.specs.Turn.{stops_of}
use Rattle.opt_gate.proofs.Follows.{follows}
use Rattle.opt_worker.specs.Events.{HasStop, CameByEvents}

is_stop : {Found : Type 0} (e : Event Found) → 0 < stops_of e → e ≡ event.Stop
is_stop (event.Look told from) some = absurd (omega arith)
is_stop (event.Offer told f) some = absurd (omega arith)
is_stop (event.Batch told fs) some = absurd (omega arith)
is_stop (event.Fault told f) some = absurd (omega arith)
is_stop (event.Quiet told share) some = absurd (omega arith)
is_stop event.Stop some = refl

runs_on : {Reason : Type 0} {x : Ending Reason} (o : Option (Ending Reason)) → o ≡ None → o ≡ Some x → ⊥
runs_on o n s = cc

module _ {System State Found Goal Reason : Type 0} (m : Meaning State Found Goal Reason) where
  -- where the first core was not stopped and the last one is, Stop came
  stop_came : (c d : Core System State Found Goal Reason) (ts : List (Answered System State Found Goal Reason)) → Run m c ts d → d.ending ≡ Some ending.Stopped → (c.ending ≡ Some ending.Stopped) ⊎ HasStop ts
  stop_came c d [] run is = inl (ap (λ (x : Core System State Found Goal Reason). x.ending) (sym run) ∙ is)
  stop_came c d (t ∷ ts) run is =
      let f = follows m t.before t.after t.event t.reply t.before.ending refl run.2 in
      elim (stop_came t.after d ts run.3 is) [
        | inl after ↦ elim (f.stopped after) [
          | inl before ↦ inl (ap (λ (x : Core System State Found Goal Reason). x.ending) (sym run.0) ∙ before)
          | inr some ↦ inr (inl (is_stop t.event some))
        ]
        | inr later ↦ inr (inr later)
      ]

  pub came_by : (c d : Core System State Found Goal Reason) → c.ending ≡ None → EventsLead m c d → CameByEvents m c d
  came_by c d running led = record {
    events = led.0;
    run = led.1;
    stopped = λ is. elim (stop_came c d led.0 led.1 is) [
      | inl before ↦ absurd (runs_on c.ending running before)
      | inr among ↦ among
    ];
  }

  -- by one event
  pub stopped_by : (c d : Core System State Found Goal Reason) (r : Reply Found Reason) → Answers m c event.Stop r d → CameByEvents m c d
  stopped_by c d r goes = record {
    events = record { before = c; event = event.Stop; reply = r; after = d } ∷ [];
    run = (refl, tt, goes, refl);
    stopped = λ is. inl refl;
  }
