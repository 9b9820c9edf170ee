-- What a command does along a trace it does along a trace of which each place allows the same.
use Rattle.std.proofs.Common.{◌≡◌, inl, inr, ℕ, ◌+◌, ◌-◌, ◌≤◌, Bool, List, [], ◌∷◌, ◌++◌, length, slice_get, Some, Contains, refl, sym, ap, subst, ◌∙◌, arith, append_assoc, append-nil}
use Rattle.gp_values.specs.Graph.{Graph}
use Rattle.gp_syntax.specs.Rule.{Found}
use Rattle.gp_syntax.specs.Step.{CallsTo, Blocked}
use Rattle.gp_syntax.specs.Run.{Command, Call, Seq, If, Try, Loop, Or, Skip, Fail, Break, Procedure, Program, Item, Stepped, Turned, Back, Ending, Gives, Fails, Breaks, At, AtTurn, graph_at, Stands, at_call, at_turn, live, undone, Run, call_steps, call_fails, call_stands, seq, seq_fails, seq_breaks, seq_stands, if_then, if_else, if_stands, try_then, try_else, try_stands, loop_stands, loop_goes_on, loop_ends, loop_breaks, loop_body_stands, or_first, or_second, skips, fails, breaks, procedure}
use Rattle.gp_syntax.specs.Replay.{Replays}
use Rattle.gp_syntax.proofs.Runs.{traced}
use Rattle.gp_syntax.proofs.Traces.{replays-undone}
use Rattle.gp_certify.specs.declared.end.Outcome.{Outcome}
use Rattle.gp_certify.specs.declared.end.Outcome.TheVariants as outcome
use Rattle.gp_certify.specs.Places.{between, AreGraphsOf, Spans, IsTakenBack}
use Rattle.gp_certify.specs.Parts.{OfParts}
use Rattle.gp_certify.proofs.Places.{length-between, between-append, cut, one_between, front}
use Rattle.gp_certify.proofs.Compose.{lands, seq_row, spans_out, spans_in}

-- what the one trace allows at a place, at its graph there, the other allows, too
pub record AreTwins (program : Program) (t u : List Item) (graphs others : ℕ → Graph) : Type 0 where
  pub count : length u ≡ length t
  pub steps : (set : List ℕ) (i : ℕ) (m : Found) → Contains set m.rule → slice_get t i ≡ Some (Stepped m) → (n : Found) × (slice_get u i ≡ Some (Stepped n)) × CallsTo program.rules set (others i) n (others (i + 1))
  pub blocked : (set : List ℕ) (i : ℕ) → Blocked program.rules set (graphs i) → Blocked program.rules set (others i)
  pub turns : (i : ℕ) → slice_get t i ≡ Some Turned → slice_get u i ≡ Some Turned
  pub backs : (i m : ℕ) → IsTakenBack t i m → IsTakenBack u i m

-- items that are those between two places, from the graph at the first
record Part (t : List Item) (graphs : ℕ → Graph) (g : Graph) (v : List Item) (i j : ℕ) : Type 0 where
  ordered : i ≤ j
  within : j ≤ length t
  graph : g ≡ graphs i
  items : v ≡ between t i j

module _ (program : Program) (t u : List Item) (graphs others : ℕ → Graph) (w : AreGraphsOf program.rules t graphs) (o : AreGraphsOf program.rules u others) (twins : AreTwins program t u graphs others) where
  abbrev S : Command → ℕ → ℕ → Outcome → Type 0
  S = Spans program u others

  abbrev P : Graph → List Item → ℕ → ℕ → Type 0
  P = Part t graphs

  -- ---- parts

  as_items : {g : Graph} {v z : List Item} {i j : ℕ} → v ≡ z → P g v i j → P g z i j
  as_items e b = record { ordered = b.ordered; within = b.within; graph = b.graph; items = sym e ∙ b.items }

  no_item : {g : Graph} {i j : ℕ} → P g [] i j → j ≡ i
  no_item {i = i} {j = j} b = let l = b.ordered in let n : j - i ≡ 0 = sym (length-between t i j b.ordered b.within) ∙ sym (ap length b.items) in omega arith

  one_item : {g : Graph} {x : Item} {i j : ℕ} → P g (x ∷ []) i j → j ≡ i + 1
  one_item {i = i} {j = j} b = let l = b.ordered in let n : j - i ≡ 1 = sym (length-between t i j b.ordered b.within) ∙ sym (ap length b.items) in omega arith

  -- a run, and what follows it
  record Both (g h : Graph) (v z : List Item) (i j : ℕ) : Type 0 where
    place : ℕ
    first : P g v i place
    second : P h z place j

  both : {p : Command} {g : Graph} {a : List Bool} {v : List Item} {y : Ending} → Run program p g a v y → (z : List Item) (i j : ℕ) → P g (v ++ z) i j → Both g (graph_at y) v z i j
  both {v = v} r z i j b =
      let c = cut t v z i j b.ordered b.within (sym b.items) in
      let l : c.place ≤ length t = let m = c.before in let n = b.within in omega arith in
      record {
        place = c.place;
        first = record { ordered = c.after; within = l; graph = b.graph; items = c.first };
        second = record { ordered = c.before; within = b.within; graph = lands program t graphs w r i c.place c.after l b.graph c.first; items = c.second };
      }

  -- a run that is taken back, and what follows
  record Behind (g : Graph) (v z : List Item) (i j : ℕ) : Type 0 where
    place : ℕ
    back : IsTakenBack t i place
    first : P g v i place
    second : P g z (place + 1) j

  behind : {p : Command} {g : Graph} {a : List Bool} {v : List Item} {y : Ending} → Run program p g a v y → (z : List Item) (i j : ℕ) → P g (undone v ++ z) i j → Behind g v z i j
  behind {g = g} {v = v} r z i j b =
      let back = Back (length (live v)) in
      let c = cut t v (back ∷ z) i j b.ordered b.within (sym b.items ∙ append_assoc v (back ∷ []) z) in
      let f = front t z back c.place j c.before b.within (sym c.second) in
      let k = c.place in
      let l : i ≤ k = c.after in
      let n : k + 1 ≤ length t = let x = f.before in let y = b.within in omega arith in
      let one : between t k (k + 1) ≡ back ∷ [] = one_between t k back f.item in
      let e : undone v ≡ between t i (k + 1) = ap (λ l. l ++ back ∷ []) c.first ∙ ap (λ l. between t i k ++ l) (sym one) ∙ sym (between-append t i k (k + 1) l (omega arith)) in
      let replay : Replays program.rules (graphs i) (between t i (k + 1)) g =
      subst (λ (x : Graph). Replays program.rules x (between t i (k + 1)) g) b.graph (subst (λ (x : List Item). Replays program.rules g x g) e (replays-undone program.rules v g _ (traced r).whole))
      in
      record {
        place = k;
        back = subst (λ (x : List Item). slice_get t k ≡ Some (Back (length (live x)))) c.first f.item;
        first = record { ordered = l; within = omega arith; graph = b.graph; items = c.first };
        second = record { ordered = f.before; within = b.within; graph = w.only i (k + 1) g (omega arith) n replay; items = f.rest };
      }

  -- a turn, and what follows it
  record Turn (g : Graph) (v : List Item) (i j : ℕ) : Type 0 where
    item : slice_get t i ≡ Some Turned
    rest : P g v (i + 1) j

  turn : {g : Graph} {v : List Item} {i j : ℕ} → P g (Turned ∷ v) i j → Turn g v i j
  turn {g} {v} {i} {j} b =
      let f = front t v Turned i j b.ordered b.within (sym b.items) in
      let n : i + 1 ≤ length t = let x = f.before in let z = b.within in omega arith in
      let stays : Replays program.rules g (Turned ∷ []) g = record { backs = tt; steps = refl } in
      let replay : Replays program.rules (graphs i) (between t i (i + 1)) g =
      subst (λ (z : Graph). Replays program.rules z (between t i (i + 1)) g) b.graph (subst (λ (z : List Item). Replays program.rules g z g) (sym (one_between t i Turned f.item)) stays)
      in
      record { item = f.item; rest = record { ordered = f.before; within = b.within; graph = w.only i (i + 1) g (omega arith) n replay; items = f.rest } }

  -- ---- runs

  into : {g : Graph} {v : List Item} {i j : ℕ} → P g v i j → (p : Command) (k : ℕ) (x : Outcome) → OfParts program u others S p i k x → S p i k x
  into {i = i} b p k x h = spans_in program u others o p i k x (let e = twins.count in let l = b.ordered in let m = b.within in omega arith) h

  -- what an ending says of the other trace
  abbrev EndsSo : Ending → Command → ℕ → ℕ → Type 0
  EndsSo (Gives h) p i j = S p i j outcome.Gives
  EndsSo (Fails h) p i j = S p i j outcome.Fails
  EndsSo (Breaks h) p i j = S p i j outcome.Breaks
  EndsSo (At c h) p i j = Unit {0}
  EndsSo (AtTurn h) p i j = Unit {0}

  stood : {y : Ending} → Stands y → (p : Command) (i j : ℕ) → EndsSo y p i j
  stood at_call p i j = tt
  stood at_turn p i j = tt

  onto : (y : Ending) (q p : Command) (m i j : ℕ) → ((x : Outcome) → S q m j x → S p i j x) → EndsSo y q m j → EndsSo y p i j
  onto (Gives h) q p m i j f s = f outcome.Gives s
  onto (Fails h) q p m i j f s = f outcome.Fails s
  onto (Breaks h) q p m i j f s = f outcome.Breaks s
  onto (At c h) q p m i j f s = tt
  onto (AtTurn h) q p m i j f s = tt

  loop_on : {g : Graph} {v : List Item} {i j : ℕ} → P g v i j → (p : Command) (m : ℕ) → slice_get t i ≡ Some Turned → S p (i + 1) m outcome.Gives → (x : Outcome) → S (Loop p) m j x → S (Loop p) i j x
  loop_on {i = i} {j = j} b p m e s outcome.Gives z = into b (Loop p) j outcome.Gives (twins.turns i e, inl (m, s, z))
  loop_on {j = j} b p m e s outcome.Fails z = absurd (spans_out program u others o (Loop p) m j outcome.Fails z)
  loop_on {j = j} b p m e s outcome.Breaks z = absurd (spans_out program u others o (Loop p) m j outcome.Breaks z)

  twin : {p : Command} {g : Graph} {a : List Bool} {v : List Item} {y : Ending} → Run program p g a v y → (i j : ℕ) → P g v i j → EndsSo y p i j
  twin (call_steps {c = c} {set = set} {m = m} s k) i j b =
      let f = front t [] (Stepped m) i j b.ordered b.within (sym b.items) in
      let n = twins.steps set i m k.in_set f.item in
      into b (Call c) j outcome.Gives (record { set = set; is_set = s; found = n.0; item = n.1; step = n.2 }, one_item b)
  twin (call_fails {c = c} {set = set} s k) i j b = into b (Call c) j outcome.Fails (record { set = set; is_set = s; blocked = twins.blocked set i (subst (Blocked program.rules set) b.graph k) }, no_item b)
  twin call_stands i j b = tt
  twin (seq {p = p} {q = q} {u = v} {x = y} r s c d) i j b =
      let z = both r v i j (as_items d b) in
      let k = z.place in
      onto y q (Seq p q) k i j (λ x e. into b (Seq p q) j x (seq_row program u others o i k j x (twin r i k z.first) e)) (twin s k j z.second)
  twin (seq_fails {p = p} {q = q} r) i j b = into b (Seq p q) j outcome.Fails (inl (twin r i j b))
  twin (seq_breaks {p = p} {q = q} r) i j b = into b (Seq p q) j outcome.Breaks (inl (twin r i j b))
  twin (seq_stands {p = p} {q = q} r s) i j b = stood s (Seq p q) i j
  twin (if_then {k = k} {p = p} {q = q} {u = v} {x = y} r s c d) i j b =
      let z = behind r v i j (as_items d b) in
      let m = z.place in
      onto y p (If k p q) (m + 1) i j (λ x e. into b (If k p q) j x (m, twins.backs i m z.back, inl (twin r i m z.first, e))) (twin s (m + 1) j z.second)
  twin (if_else {k = k} {p = p} {q = q} {u = v} {x = y} r s c d) i j b =
      let z = behind r v i j (as_items d b) in
      let m = z.place in
      onto y q (If k p q) (m + 1) i j (λ x e. into b (If k p q) j x (m, twins.backs i m z.back, inr (twin r i m z.first, e))) (twin s (m + 1) j z.second)
  twin (if_stands {k = k} {p = p} {q = q} r s) i j b = stood s (If k p q) i j
  twin (try_then {k = k} {p = p} {q = q} {u = v} {x = y} r s c d) i j b =
      let z = both r v i j (as_items d b) in
      let m = z.place in
      onto y p (Try k p q) m i j (λ x e. into b (Try k p q) j x (m, inl (twin r i m z.first, e))) (twin s m j z.second)
  twin (try_else {k = k} {p = p} {q = q} {u = v} {x = y} r s c d) i j b =
      let z = behind r v i j (as_items d b) in
      let m = z.place in
      onto y q (Try k p q) (m + 1) i j (λ x e. into b (Try k p q) j x (m, inr (twins.backs i m z.back, twin r i m z.first, e))) (twin s (m + 1) j z.second)
  twin (try_stands {k = k} {p = p} {q = q} r s) i j b = stood s (Try k p q) i j
  twin loop_stands i j b = tt
  twin (loop_goes_on {p = p} {u = v} {x = y} r s c d) i j b =
      let f = turn (as_items d b) in
      let z = both r v (i + 1) j f.rest in
      let m = z.place in
      onto y (Loop p) (Loop p) m i j (loop_on b p m f.item (twin r (i + 1) m z.first)) (twin s m j z.second)
  twin (loop_ends {p = p} {t = v} r d) i j b =
      let f = turn (as_items d b) in
      let z = behind r [] (i + 1) j (as_items (sym (append-nil (undone v))) f.rest) in
      let m = z.place in
      into b (Loop p) j outcome.Gives (twins.turns i f.item, inr (inl (m, twin r (i + 1) m z.first, twins.backs (i + 1) m z.back, no_item z.second)))
  twin (loop_breaks {p = p} r d) i j b = let f = turn (as_items d b) in into b (Loop p) j outcome.Gives (twins.turns i f.item, inr (inr (twin r (i + 1) j f.rest)))
  twin (loop_body_stands {p = p} r s d) i j b = stood s (Loop p) i j
  twin (or_first {p = p} {q = q} {x = y} r c) i j b = onto y p (Or p q) i i j (λ x e. into b (Or p q) j x (inl e)) (twin r i j b)
  twin (or_second {p = p} {q = q} {x = y} r c) i j b = onto y q (Or p q) i i j (λ x e. into b (Or p q) j x (inr e)) (twin r i j b)
  twin skips i j b = into b Skip j outcome.Gives (no_item b)
  twin fails i j b = into b Fail j outcome.Fails (no_item b)
  twin breaks i j b = into b Break j outcome.Breaks (no_item b)
  twin (procedure {k = k} {body = body} {x = y} s r) i j b = onto y body (Procedure k) i i j (λ x e. into b (Procedure k) j x (body, s, e)) (twin r i j b)

  pub moved : (p : Command) (i j : ℕ) (x : Outcome) → Spans program t graphs p i j x → Spans program u others p i j x
  moved p i j outcome.Gives s = twin s.run i j (record { ordered = s.ordered; within = s.within; graph = refl; items = refl })
  moved p i j outcome.Fails s = twin s.run i j (record { ordered = s.ordered; within = s.within; graph = refl; items = refl })
  moved p i j outcome.Breaks s = twin s.run i j (record { ordered = s.ordered; within = s.within; graph = refl; items = refl })
