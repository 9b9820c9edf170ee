-- A core that was taken out.
use Rattle.std.proofs.Common.{◌≡◌, ℕ, List, [], ◌∷◌, Bool, Option, Some, None, refl, sym, ◌∙◌, ap, subst}
use Rattle.atomic_table.specs.Table.{Me, rest}
use Rattle.opt_core.specs.declared.event.Ending.{Ending}
use Rattle.opt_gate.specs.declared.view.View.{View}
use Rattle.std.specs.Bool.{if◌then◌else◌}
use Rattle.opt_system.specs.Meaning.{Meaning}
use Rattle.opt_core.specs.declared.event.Event.{Event}
use Rattle.opt_core.specs.declared.event.Event.TheVariants as event
use Rattle.opt_core.specs.declared.event.Reply.{Reply}
use Rattle.opt_core.specs.Core.{Core, Legal}
use Rattle.opt_core.specs.Steps.{Answers, MayCome}
use Rattle.opt_gate.specs.declared.key.Key.{Key}
use Rattle.opt_gate.specs.inside.Plays.{waiting, serving, passed, Takes, Took, Shows}
use Rattle.opt_gate.specs.inside.Cores.{entries_of, ended_of, IsOf, IsOfKey, passes_of}
use Rattle.opt_gate.specs.inside.Follow.{MayFollow}
use Rattle.opt_gate.specs.Turn.{stops_of}
use Rattle.opt_gate.specs.inside.Seats.{Acts, is_stop}
use Rattle.opt_gate.proofs.Follows.{follows}
use Rattle.opt_gate.proofs.Led.{one_key, led_on}

module _ {C : Type 0} where
  value_in : Option C → List (ℕ × Option C) → Option C
  value_in d [] = d
  value_in d ((k, x) ∷ xs) = x

  core_of : C → Option C → C
  core_of d None = d
  core_of d (Some c) = c

  same_value : (r : Option C) (c d : C) (l : List (ℕ × Option C)) → l ≡ (0, r) ∷ rest l → l ≡ (0, Some d) ∷ [] → r ≡ Some c → c ≡ d
  unfolding value_in core_of
  same_value r c d l e f is = ap (core_of c) (sym is ∙ (ap (value_in r) (sym e) ∙ ap (value_in r) f))

module _ {K F R C : Type 0} (entries : C → List F) (ended : C → Option (Ending R)) (Same : K → C → Type 0) (passes : K → ℕ) where
  Sat : Type 0
  Sat = Me (Option C) (View K F R)

  pub took : (v : View K F R) (t : ℕ) (m1 m2 m3 : Me (Option C) (View K F R)) (r : Option C) (c : C) → m1 ≡ (waiting v t, []) → Takes entries ended Same passes m1 m2
      → m2.1 ≡ (0, r) ∷ rest m2.1 → m3 ≡ (m2.0, (0, None) ∷ rest m2.1) → r ≡ Some c → Took entries ended Same passes v c m3
  took v t m1 m2 m3 r c e1 taken e2 e3 is =
      let P : Me (Option C) (View K F R) → Type 0 = λ x. Takes entries ended Same passes x m2 in
      let taken' : Takes entries ended Same passes (waiting v t, []) m2 = subst P e1 taken in
      let d = taken'.0 in
      let same : d ≡ c = sym (same_value r c d m2.1 e2 (ap (λ (x : Me (Option C) (View K F R)). x.1) taken'.1) is) in
      let me : m3 ≡ (serving entries ended (waiting v t) d, (0, None) ∷ []) = e3 ∙ ap (λ (x : Me (Option C) (View K F R)). (x.0, (0, None) ∷ rest x.1)) taken'.1 in
      let l = taken'.2 in
      subst (λ (x : C). Took entries ended Same passes v x m3) same record {
        ticket = t;
        me = me;
        learns = record { same = l.same; further = l.further; stands = l.stands; shows = let w = l.shows in record { own = w.own; once = w.once; other = w.other; other_ended = w.other_ended; narrow = w.narrow; all_own = w.all_own; all_stops = w.all_stops } };
      }

abbrev pub none_out : {C : Type 0} → List (ℕ × Option C)
none_out = []

stop_count : {Found : Type 0} (e : Event Found) → (if is_stop e then 1 else 0) ≡ stops_of e
stop_count (event.Look told from) = refl
stop_count (event.Offer told f) = refl
stop_count (event.Batch told fs) = refl
stop_count (event.Fault told f) = refl
stop_count (event.Quiet told j) = refl
stop_count event.Stop = refl

module _ {System State Found Goal Reason : Type 0} (means : System → Meaning State Found Goal Reason) (s : System) (key : Key (Core System State Found Goal Reason))
    (v : View (Key (Core System State Found Goal Reason)) Found Reason) (keyed : v.key ≡ Some key) (own : s ≡ key.core.value.system) (b a : Core System State Found Goal Reason)
    (e : Event Found) (r : Reply Found Reason) (stop : Bool) (is : stop ≡ is_stop e)
    (n : Me (Option (Core System State Found Goal Reason)) (View (Key (Core System State Found Goal Reason)) Found Reason)) (t : Took entries_of ended_of (IsOfKey means) passes_of v b n)
    (came : MayCome (means s) b e) (goes : Answers (means s) b e r a) where
  seen : View (Key (Core System State Found Goal Reason)) Found Reason
  seen = serving entries_of ended_of (waiting v t.ticket) b

  count : (if stop then 1 else 0) ≡ stops_of e
  count = ap (λ (x : Bool). if x then 1 else 0) is ∙ stop_count e

  sight : n.0 ≡ serving entries_of ended_of (waiting v t.ticket) b
  sight = ap (λ (x : Me (Option (Core System State Found Goal Reason)) (View (Key (Core System State Found Goal Reason)) Found Reason)). x.0) t.me

  -- both cores are of the key, with one event between them
  was_of : (k : Key (Core System State Found Goal Reason)) → v.key ≡ Some k → IsOf (means s) k.core.value b
  was_of k has_it = subst (λ (x : Key (Core System State Found Goal Reason)). IsOf (means s) x.core.value b) (one_key v.key key k keyed has_it)
      (subst (λ (x : System). IsOf (means x) key.core.value b) (sym own) (t.learns.same key keyed))

  is_of : (k : Key (Core System State Found Goal Reason)) → v.key ≡ Some k → IsOfKey means k a
  is_of k has_it =
      let f = follows (means s) b a e r b.ending refl goes in
      let w = was_of key keyed in
      let now : IsOf (means s) key.core.value a = (record { system = f.system ∙ w.0.system; base = f.base ∙ w.0.base; goal = f.goal ∙ w.0.goal; given = f.given ∙ w.0.given }, led_on (means s) key.core.value b a e r w.1 came goes) in
      subst (λ (x : Key (Core System State Found Goal Reason)). IsOfKey means x a) (one_key v.key key k keyed has_it) (subst (λ (x : System). IsOf (means x) key.core.value a) own now)

  pub may_follow : MayFollow entries_of ended_of (IsOfKey means) (if stop then 1 else 0) n.0 a
  may_follow = let f = follows (means s) b a e r b.ending refl goes in
      subst (λ (k : ℕ). MayFollow entries_of ended_of (IsOfKey means) k n.0 a) (sym count)
      (subst (λ (w : View (Key (Core System State Found Goal Reason)) Found Reason). MayFollow entries_of ended_of (IsOfKey means) (stops_of e) w a) (sym sight) record {
        same = is_of;
        further = f.further;
        stands = f.stands;
        stopped = f.stopped;
      })

  module _ (n' : Me (Option (Core System State Found Goal Reason)) (View (Key (Core System State Found Goal Reason)) Found Reason)) where
    pub acted : n' ≡ (passed entries_of ended_of (if stop then 1 else 0) n.0 a, []) → Shows passes_of (passed entries_of ended_of (if stop then 1 else 0) n.0 a) → Legal (means s) b → Legal (means s) a → Acts (means s) v e r n'
    acted me shows legal legal_after = record {
      before = b;
      after = a;
      of_key = was_of;
      may_come = came;
      answers = goes;
      legal = legal;
      legal_after = legal_after;
      knew = t.learns.further;
      stood = t.learns.stands;
      me = me ∙ (ap (λ (k : ℕ). (passed entries_of ended_of k n.0 a, none_out)) count
          ∙ ap (λ (w : View (Key (Core System State Found Goal Reason)) Found Reason). (passed entries_of ended_of (stops_of e) w a, none_out)) sight);
      shows = subst (λ (k : ℕ). Shows passes_of (passed entries_of ended_of k (serving entries_of ended_of v b) a)) count
          (subst (λ (w : View (Key (Core System State Found Goal Reason)) Found Reason). Shows passes_of (passed entries_of ended_of (if stop then 1 else 0) w a)) sight shows);
    }
