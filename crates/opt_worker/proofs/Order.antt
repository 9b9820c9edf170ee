-- Which replica is whose: jobs stand the last place first, and come back so.
use Rattle.std.proofs.Common.{◌≡◌, ℕ, suc, ◌+◌, ◌<◌, List, [], ◌∷◌, ◌++◌, length, sym, ap, subst, ◌∙◌, append_assoc, arith}
use Rattle.std.specs.Prelude.{reverse, slice_index_or}
use Rattle.std.specs.List.{All, AllZip}
use Rattle.std.proofs.lemmas.List.{length-map, length-reverse, reverse-append, reverse-reverse, map-append}
use Rattle.std.proofs.lemmas.List.Elements.{All-head, All-tail}
use Rattle.opt_system.specs.Meaning.{Meaning}
use Rattle.opt_core.specs.Core.{Core, reached}
use Rattle.opt_gate.specs.declared.key.Key.{Key}
use Rattle.opt_gate.specs.Pass.{PassView, GateView, start_of}
use Rattle.opt_gate.specs.Turn.{entries_told}
use Rattle.opt_worker.specs.Replica.{IsReplica, IsLater, IsWorked, AllWorked, ComeBack, worked}
use Rattle.opt_worker.specs.inside.Jobs.{IsReady, IsBack, counted_down, numbers_of, states_of}

module _ {K F R State : Type 0} where
  -- a job more, of the place before
  pub numbers_on : (jobs new : List (PassView K F R × State)) (p : PassView K F R) (at : State) (n k : ℕ) (all : List ℕ) → new ≡ jobs ++ (p, at) ∷ [] → p.number ≡ n → k ≡ suc n →
      numbers_of jobs ++ counted_down k ≡ all → numbers_of new ++ counted_down n ≡ all
  numbers_on jobs new p at n k all is number next so =
      ap (λ (xs : List (PassView K F R × State)). numbers_of xs ++ counted_down n) is
      ∙ ap (λ xs. xs ++ counted_down n) (map-append (λ (job : PassView K F R × State). job.0.number) jobs ((p, at) ∷ []))
      ∙ append_assoc (numbers_of jobs) (p.number ∷ []) (counted_down n)
      ∙ ap (λ i. numbers_of jobs ++ (i ∷ counted_down n)) number
      ∙ ap (λ i. numbers_of jobs ++ counted_down i) (sym next)
      ∙ so

  pub states_on : (jobs new : List (PassView K F R × State)) (p : PassView K F R) (at : State) (before rest all : List State) → new ≡ jobs ++ (p, at) ∷ [] → before ≡ rest ++ at ∷ [] →
      states_of jobs ++ reverse before ≡ all → states_of new ++ reverse rest ≡ all
  states_on jobs new p at before rest all is popped so =
      ap (λ (xs : List (PassView K F R × State)). states_of xs ++ reverse rest) is
      ∙ ap (λ xs. xs ++ reverse rest) (map-append (λ (job : PassView K F R × State). job.1) jobs ((p, at) ∷ []))
      ∙ append_assoc (states_of jobs) (at ∷ []) (reverse rest)
      ∙ ap (λ xs. states_of jobs ++ xs) (sym (reverse-append rest (at ∷ [])))
      ∙ ap (λ xs. states_of jobs ++ reverse xs) (sym popped)
      ∙ so

  -- a replica more comes back
  pub order_on : (jobs rest : List (PassView K F R × State)) (p : PassView K F R) (at : State) (back new all : List State) → jobs ≡ rest ++ (p, at) ∷ [] → new ≡ back ++ at ∷ [] →
      back ++ reverse (states_of jobs) ≡ all → new ++ reverse (states_of rest) ≡ all
  order_on jobs rest p at back new all popped is so =
      ap (λ xs. xs ++ reverse (states_of rest)) is
      ∙ append_assoc back (at ∷ []) (reverse (states_of rest))
      ∙ ap (λ xs. back ++ xs) (sym (reverse-append (states_of rest) (at ∷ [])))
      ∙ ap (λ xs. back ++ reverse xs) (sym (map-append (λ (job : PassView K F R × State). job.1) rest ((p, at) ∷ [])))
      ∙ ap (λ (xs : List (PassView K F R × State)). back ++ reverse (states_of xs)) (sym popped)
      ∙ so

module _ {System State Found Goal Reason : Type 0} (m : Meaning State Found Goal Reason) (core : Core System State Found Goal Reason) where
  worked_more : (place : ℕ) (xs ys : List State) (a b : State) → AllWorked m core place xs ys → IsWorked m core (place + length xs) a b → AllWorked m core place (xs ++ a ∷ []) (ys ++ b ∷ [])
  worked_more place [] [] a b all one = (subst (λ n. IsWorked m core n a b) (omega arith) one, tt)
  worked_more place [] (y ∷ ys) a b all one = absurd all
  worked_more place (x ∷ xs) [] a b all one = absurd all
  worked_more place (x ∷ xs) (y ∷ ys) a b all one =
      (all.0, worked_more (place + 1) xs ys a b all.1 (subst (λ n. IsWorked m core n a b) (omega arith) one))

  reverse_more : (x : State) (xs : List State) → reverse (x ∷ xs) ≡ reverse xs ++ x ∷ []
  reverse_more x xs = reverse-append (x ∷ []) xs

  length-states : (jobs : List (PassView (Key (Core System State Found Goal Reason)) Found Reason × State)) → length (reverse (states_of jobs)) ≡ length jobs
  length-states jobs = length-reverse (states_of jobs) ∙ length-map jobs (λ job. job.1)

  one_worked : (gate : GateView (Key (Core System State Found Goal Reason))) (x y : PassView (Key (Core System State Found Goal Reason)) Found Reason × State) (place : ℕ) → start_of gate ≡ core →
      IsReady m gate x → IsBack m gate y → IsLater x.0 y.0 → x.0.number ≡ place → IsWorked m core place x.1 y.1
  one_worked gate x y place is ready back later number = record {
    pass = x.0;
    last = y.0;
    number = number;
    stood = subst (λ (c : Core System State Found Goal Reason). x.1 ≡ reached m c.base (entries_told x.0)) is ready.1;
    later = later;
    follows = subst (λ (c : Core System State Found Goal Reason). IsReplica m c.base y.0.knows y.1) is back.2;
  }

  -- jobs that were ready, and what came back of them
  in_order : (gate : GateView (Key (Core System State Found Goal Reason))) (before after : List (PassView (Key (Core System State Found Goal Reason)) Found Reason × State)) → start_of gate ≡ core →
      All (λ job. IsReady m gate job) before → All (λ job. IsBack m gate job) after → AllZip (λ x y. IsLater x.0 y.0) before after → numbers_of before ≡ counted_down (length before) →
      AllWorked m core 0 (reverse (states_of before)) (reverse (states_of after))
  in_order gate [] [] is ready back later numbers = tt
  in_order gate [] (y ∷ ys) is ready back later numbers = absurd later
  in_order gate (x ∷ xs) [] is ready back later numbers = absurd later
  in_order gate (x ∷ xs) (y ∷ ys) is ready back later numbers =
      let number : x.0.number ≡ length xs = cc in
      let others : numbers_of xs ≡ counted_down (length xs) = cc in
      let rest = in_order gate xs ys is (All-tail (λ job. IsReady m gate job) x xs ready) (All-tail (λ job. IsBack m gate job) y ys back) later.1 others in
      let one = one_worked gate x y (0 + length (reverse (states_of xs))) is (All-head (λ job. IsReady m gate job) x xs ready) (All-head (λ job. IsBack m gate job) y ys back) later.0 (number ∙ omega (arith, length-states xs)) in
      subst (λ (s : List State). AllWorked m core 0 s (reverse (states_of (y ∷ ys)))) (sym (reverse_more x.1 (states_of xs)))
      (subst (λ (bs : List State). AllWorked m core 0 (reverse (states_of xs) ++ x.1 ∷ []) bs) (sym (reverse_more y.1 (states_of ys)))
      (worked_more 0 (reverse (states_of xs)) (reverse (states_of ys)) x.1 y.1 rest one))

  pub come_back : (gate : GateView (Key (Core System State Found Goal Reason))) (before after : List (PassView (Key (Core System State Found Goal Reason)) Found Reason × State)) (given back : List State) → start_of gate ≡ core →
      All (λ job. IsReady m gate job) before → All (λ job. IsBack m gate job) after → AllZip (λ x y. IsLater x.0 y.0) before after → numbers_of before ≡ counted_down (length before) →
      states_of before ≡ reverse given → back ≡ reverse (states_of after) → ComeBack m core given back
  come_back gate before after given back is ready done later numbers states order =
      worked (subst (λ (s : List State). AllWorked m core 0 s back) (ap reverse states ∙ reverse-reverse given)
      (subst (λ (bs : List State). AllWorked m core 0 (reverse (states_of before)) bs) (sym order) (in_order gate before after is ready done later numbers)))

-- what holds at each place holds of the lists
pub zip_of : {A : Type 0} (R : A → A → Type 0) (xs ys : List A) → length ys ≡ length xs → ((i : ℕ) (d : A) → i < length xs → R (slice_index_or xs i d) (slice_index_or ys i d)) → AllZip R xs ys
zip_of R [] [] long each = tt
zip_of R [] (y ∷ ys) long each = absurd (omega arith)
zip_of R (x ∷ xs) [] long each = absurd (omega arith)
zip_of R (x ∷ xs) (y ∷ ys) long each = (each 0 x (omega arith), zip_of R xs ys (omega arith) (λ i d l. each (suc i) d (omega arith)))
