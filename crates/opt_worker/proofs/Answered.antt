-- What the answer to a report says of the goal and of the entries.
use Rattle.std.proofs.Common.{◌≡◌, ℕ, List, [], ◌++◌, Option, Some, None, IfNone, refl, sym, ap, ◌∙◌, append-nil}
use Rattle.opt_system.specs.Meaning.{Meaning}
use Rattle.opt_core.specs.declared.event.Ending.{Ending}
use Rattle.opt_core.specs.declared.event.Event.{Event}
use Rattle.opt_core.specs.declared.event.Event.TheVariants as event
use Rattle.opt_core.specs.declared.event.Reply.{Reply}
use Rattle.opt_core.specs.declared.event.Reply.TheVariants as reply
use Rattle.opt_core.specs.declared.event.Rest.{Rest}
use Rattle.opt_core.specs.declared.event.Rest.TheVariants as rest
use Rattle.opt_core.specs.Core.{Core}
use Rattle.opt_core.specs.Steps.{AnswersWith, AnswersOfferBy}
use Rattle.opt_gate.specs.declared.ask.Ask.{Ask}
use Rattle.opt_gate.specs.declared.ask.Ask.TheVariants as ask
use Rattle.opt_gate.specs.declared.key.Key.{Key}
use Rattle.opt_gate.specs.Pass.{PassView}
use Rattle.opt_gate.specs.Turn.{IsOneEvent, event_of, news_of, entries_told}
use Rattle.opt_worker.specs.inside.Reports.{IsReport}
use Rattle.opt_worker.specs.inside.Replies.{TellsEnding}

pub none_weaker : {A B X : Type 0} (o : Option X) → (A → B) → IfNone o A → IfNone o B
none_weaker None f h = f h
none_weaker (Some x) f h = tt

module _ {Found Reason : Type 0} where
  closed_same : {x y : Ending Reason} → ◌≡◌ {A = Reply Found Reason} (reply.Closed x) (reply.Closed y) → x ≡ y
  closed_same e = cc

  batched_closed : {p n : ℕ} {r : Option (Rest Reason)} {x : Ending Reason} → ◌≡◌ {A = Reply Found Reason} (reply.Batched p n r) (reply.Closed x) → ⊥
  batched_closed e = cc

  news_closed : {es : List Found} {task : ℕ} {x : Ending Reason} → ◌≡◌ {A = Reply Found Reason} (reply.News es task) (reply.Closed x) → ⊥
  news_closed e = cc

module _ {System State Found Goal Reason : Type 0} (m : Meaning State Found Goal Reason) where
  -- the match of a batch that was answered Closed
  offer_closed : (o : Option (Ending Reason)) (b d : Core System State Found Goal Reason) (told : ℕ) (f : Found) (x : Ending Reason) → b.ending ≡ o → AnswersOfferBy m o b told f (reply.Closed x) d → d.ending ≡ Some x
  offer_closed (Some y) b d told f x is h = ap (λ (c : Core System State Found Goal Reason). c.ending) h.1 ∙ (is ∙ ap (λ (e : Ending Reason). Some e) (sym (closed_same h.0)))
  offer_closed None b d told f x is h = ap (λ (c : Core System State Found Goal Reason). c.ending) h.3 ∙ ap (λ (e : Ending Reason). Some e) (sym h.0)

  rest_closed : (o : Option (Ending Reason)) (c d : Core System State Found Goal Reason) (e : Event Found) (p n : ℕ) (x : Ending Reason) → AnswersWith m o c e (reply.Batched p n (Some (rest.Closed x))) d → d.ending ≡ Some x
  rest_closed (Some y) c d e p n x h = absurd (batched_closed h.0)
  rest_closed None c d (event.Batch told fs) p n x h = offer_closed h.1.3.ending h.1.3 d told h.1.1 x refl h.1.7
  rest_closed None c d (event.Look told from) p n x h = absurd h
  rest_closed None c d (event.Offer told f) p n x h = absurd h
  rest_closed None c d (event.Fault told f) p n x h = absurd h
  rest_closed None c d (event.Quiet told share) p n x h = absurd h
  rest_closed None c d event.Stop p n x h = absurd h

  -- a report is not answered with entries
  no_news : (o : Option (Ending Reason)) (c d : Core System State Found Goal Reason) (told : ℕ) (a : Ask Found) (es : List Found) (task : ℕ) → IsReport a → AnswersWith m o c (event_of told a) (reply.News es task) d → ⊥
  no_news (Some y) c d told a es task report h = news_closed h.0
  no_news None c d told (ask.Look from) es task report h = report
  no_news None c d told (ask.Offer f) es task report h = h
  no_news None c d told (ask.Batch fs) es task report h = h
  no_news None c d told (ask.Fault f) es task report h = h
  no_news None c d told (ask.Quiet share) es task report h = h
  no_news None c d told ask.Stop es task report h = h

  module _ (start : Core System State Found Goal Reason) (p q : PassView (Key (Core System State Found Goal Reason)) Found Reason) (a : Ask Found) where
    -- the pass knows the ending that it was told
    pub ended : (r : Reply Found Reason) → IsOneEvent m start p a r q → ((x : Ending Reason) → r ≡ reply.Closed x → q.ending ≡ Some x) → TellsEnding r → (x : Ending Reason) × (q.ending ≡ Some x)
    ended (reply.Closed x) one closed tells = (x, closed x refl)
    ended (reply.Batched place n (Some (rest.Closed x))) one closed tells = (x, one.ending ∙ rest_closed one.before.ending one.before one.after (event_of p.told a) place n x one.answers)
    ended (reply.Batched place n (Some (rest.Stale k))) one closed tells = absurd tells
    ended (reply.Batched place n (Some rest.NoMemory)) one closed tells = absurd tells
    ended (reply.Batched place n None) one closed tells = absurd tells
    ended (reply.News es task) one closed tells = absurd tells
    ended (reply.Committed place) one closed tells = absurd tells
    ended (reply.Stale n) one closed tells = absurd tells
    ended reply.Noted one closed tells = absurd tells
    ended reply.NoMemory one closed tells = absurd tells

    quiet : (r : Reply Found Reason) → IsReport a → IsOneEvent m start p a r q → news_of r ≡ []
    quiet (reply.News es task) report one = absurd (no_news one.before.ending one.before one.after p.told a es task report one.answers)
    quiet (reply.Batched place n r) report one = refl
    quiet (reply.Closed x) report one = refl
    quiet (reply.Committed place) report one = refl
    quiet (reply.Stale n) report one = refl
    quiet reply.Noted report one = refl
    quiet reply.NoMemory report one = refl

    -- no entries are handed over
    pub told_same : (r : Reply Found Reason) → IsReport a → IsOneEvent m start p a r q → entries_told q ≡ entries_told p ++ news_of r → entries_told q ≡ entries_told p
    told_same r report one told = told ∙ (ap (λ (es : List Found). entries_told p ++ es) (quiet r report one) ∙ append-nil (entries_told p))
