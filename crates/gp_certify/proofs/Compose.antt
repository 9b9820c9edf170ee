-- Where a command may end, by its parts.
use Rattle.std.proofs.Common.{◌≡◌, inl, inr, ℕ, ◌+◌, ◌-◌, ◌<◌, ◌≤◌, Bool, List, [], ◌∷◌, ◌++◌, length, slice_get, Some, refl, sym, ap, subst, ◌∙◌, arith, length-append}
use Rattle.gp_values.specs.Graph.{Graph}
use Rattle.gp_syntax.specs.Run.{Command, Call, Seq, If, Try, Loop, Or, Skip, Fail, Break, Procedure, Program, Item, Stepped, Turned, Back, Ending, Gives, graph_at, Stands, at_call, at_turn, live, undone, Run, call_steps, call_fails, call_stands, seq, seq_fails, seq_breaks, seq_stands, if_then, if_else, if_stands, try_then, try_else, try_stands, loop_stands, loop_goes_on, loop_ends, loop_breaks, loop_body_stands, or_first, or_second, skips, fails, breaks, procedure}
use Rattle.gp_syntax.specs.Replay.{Replays}
use Rattle.gp_syntax.specs.Step.{CallsTo, Blocked}
use Rattle.gp_syntax.proofs.Runs.{traced}
use Rattle.gp_syntax.proofs.Traces.{replays-undone}
use Rattle.gp_certify.specs.declared.end.Outcome.{Outcome}
use Rattle.gp_certify.specs.declared.end.Outcome.TheVariants as outcome
use Rattle.gp_certify.specs.Places.{ending, between, AreGraphsOf, Spans, IsTakenBack}
use Rattle.gp_certify.specs.Parts.{OfParts}
use Rattle.gp_certify.proofs.Places.{length-between, between-append, between_nothing, cut, item_within, one_between, front}

-- ---- endings

pub at_ending : (x : Outcome) (h : Graph) → graph_at (ending x h) ≡ h
at_ending outcome.Gives h = refl
at_ending outcome.Fails h = refl
at_ending outcome.Breaks h = refl

no_stand : (x : Outcome) (h : Graph) {y : Ending} → Stands y → y ≡ ending x h → ⊥
no_stand outcome.Gives h at_call e = absurd cc
no_stand outcome.Fails h at_call e = absurd cc
no_stand outcome.Breaks h at_call e = absurd cc
no_stand outcome.Gives h at_turn e = absurd cc
no_stand outcome.Fails h at_turn e = absurd cc
no_stand outcome.Breaks h at_turn e = absurd cc

-- a loop neither fails nor breaks
loop_gives : {program : Program} {p : Command} {g : Graph} {a : List Bool} {v : List Item} {y : Ending} → Run program (Loop p) g a v y → (x : Outcome) (h : Graph) → y ≡ ending x h → x ≡ outcome.Gives
loop_gives r outcome.Gives h e = refl
loop_gives loop_stands outcome.Fails h e = absurd cc
loop_gives (loop_goes_on r s c d) outcome.Fails h e = loop_gives s outcome.Fails h e
loop_gives (loop_ends r d) outcome.Fails h e = absurd cc
loop_gives (loop_breaks r d) outcome.Fails h e = absurd cc
loop_gives (loop_body_stands r z d) outcome.Fails h e = absurd (no_stand outcome.Fails _ z e)
loop_gives loop_stands outcome.Breaks h e = absurd cc
loop_gives (loop_goes_on r s c d) outcome.Breaks h e = loop_gives s outcome.Breaks h e
loop_gives (loop_ends r d) outcome.Breaks h e = absurd cc
loop_gives (loop_breaks r d) outcome.Breaks h e = absurd cc
loop_gives (loop_body_stands r z d) outcome.Breaks h e = absurd (no_stand outcome.Breaks _ z e)

-- a part that is taken back
record Undone (t u : List Item) (i c : ℕ) : Type 0 where
  pub place : ℕ
  pub after : i ≤ place
  pub next : place + 1 ≡ c
  pub trace : u ≡ between t i place
  pub item : slice_get t place ≡ Some (Back (length (live (between t i place))))

undone_part : (t u : List Item) (i c : ℕ) → i ≤ c → c ≤ length t → between t i c ≡ undone u → Undone t u i c
undone_part t u i c a b e =
    let k = cut t u (Back (length (live u)) ∷ []) i c a b e in
    let f = front t [] (Back (length (live u))) k.place c k.before b (sym k.second) in
    let n : length (undone u) ≡ length u + 1 = length-append u (Back (length (live u)) ∷ []) in
    let l : c - i ≡ length u + 1 = sym (length-between t i c a b) ∙ ap length e ∙ n in
    record {
      place = k.place;
      after = k.after;
      next = omega (arith, k.count, l, a);
      trace = k.first;
      item = subst (λ (z : List Item). slice_get t k.place ≡ Some (Back (length (live z)))) k.first f.item;
    }

module _ (program : Program) (t : List Item) (graphs : ℕ → Graph) (w : AreGraphsOf program.rules t graphs) where
  abbrev S : Command → ℕ → ℕ → Outcome → Type 0
  S = Spans program t graphs

  abbrev P : Command → ℕ → ℕ → Outcome → Type 0
  P = OfParts program t graphs S

  -- a run of the items between two places ends at the graph of the second
  pub lands : {p : Command} {g : Graph} {a : List Bool} {u : List Item} {y : Ending} → Run program p g a u y → (i j : ℕ) → i ≤ j → j ≤ length t → g ≡ graphs i → u ≡ between t i j → graph_at y ≡ graphs j
  lands {u = u} {y = y} r i j l m e f =
      w.only i j (graph_at y) l m (subst (λ (z : List Item). Replays program.rules (graphs i) z (graph_at y)) f (subst (λ (z : Graph). Replays program.rules z u (graph_at y)) e (traced r).whole))

  -- it is what a command may do between these places
  ended : {p : Command} {g : Graph} {a : List Bool} {u : List Item} {y : Ending} → Run program p g a u y → (i j : ℕ) (x : Outcome) → i ≤ j → j ≤ length t → g ≡ graphs i → u ≡ between t i j → y ≡ ending x (graphs j) → S p i j x
  ended {p} {g} {a} {u} {y} r i j x l m e f k = record {
    ordered = l;
    within = m;
    picks = a;
    run = subst (λ (z : Ending). Run program p (graphs i) a (between t i j) z) k (subst (λ (z : List Item). Run program p (graphs i) a z y) f (subst (λ (z : Graph). Run program p z a u y) e r));
  }

  span : {p : Command} {g : Graph} {a : List Bool} {u : List Item} (x : Outcome) (h : Graph) → Run program p g a u (ending x h) → (i j : ℕ) → i ≤ j → j ≤ length t → g ≡ graphs i → u ≡ between t i j → S p i j x
  span x h r i j l m e f = ended r i j x l m e f (ap (ending x) (sym (at_ending x h) ∙ lands r i j l m e f))

  -- the graph after what is taken back, and after a turn
  back_same : {p : Command} {x : Outcome} (i m : ℕ) → S p i m x → IsTakenBack t i m → between t i (m + 1) ≡ undone (between t i m) → graphs i ≡ graphs (m + 1)
  back_same i m s b e =
      let l : m < length t = item_within t m _ b in
      let o = s.ordered in
      w.only i (m + 1) (graphs i) (omega arith) (omega arith) (subst (λ (z : List Item). Replays program.rules (graphs i) z (graphs i)) (sym e) (replays-undone program.rules (between t i m) (graphs i) _ (traced s.run).whole))

  undone_between : (i m : ℕ) → i ≤ m → IsTakenBack t i m → between t i (m + 1) ≡ undone (between t i m)
  undone_between i m l b = between-append t i m (m + 1) l (omega arith) ∙ ap (λ z. between t i m ++ z) (one_between t m _ b)

  turn_same : (i : ℕ) → slice_get t i ≡ Some Turned → graphs i ≡ graphs (i + 1)
  turn_same i e =
      let l : i < length t = item_within t i _ e in
      let r : Replays program.rules (graphs i) (Turned ∷ []) (graphs i) = record { backs = tt; steps = refl } in
      w.only i (i + 1) (graphs i) (omega arith) (omega arith) (subst (λ (z : List Item). Replays program.rules (graphs i) z (graphs i)) (sym (one_between t i Turned e)) r)

  -- the places of a part that is of no item, and of one
  no_item : (i j : ℕ) → i ≤ j → j ≤ length t → [] ≡ between t i j → j ≡ i
  no_item i j l m e = let n : j - i ≡ 0 = sym (length-between t i j l m) ∙ sym (ap length e) in omega arith

  one_item : (i j : ℕ) (y : Item) → i ≤ j → j ≤ length t → y ∷ [] ≡ between t i j → j ≡ i + 1
  one_item i j y l m e = let n : j - i ≡ 1 = sym (length-between t i j l m) ∙ sym (ap length e) in omega arith

  -- ---- from runs to parts

  call_out : {c : ℕ} {g : Graph} {a : List Bool} {v : List Item} {y : Ending} → Run program (Call c) g a v y → (i j : ℕ) (x : Outcome) → i ≤ j → j ≤ length t → g ≡ graphs i → v ≡ between t i j → y ≡ ending x (graphs j) → P (Call c) i j x
  call_out {c} (call_steps {set = set} {g = g} {h = h} {m = m} s k) i j outcome.Gives l n e f z =
      let f' = front t [] (Stepped m) i j l n (sym f) in
      let o : j ≡ i + 1 = one_item i j (Stepped m) l n f in
      let q : h ≡ graphs j = cc in (
        record {
          set = set;
          is_set = s;
          found = m;
          item = f'.item;
          step = subst (λ (b : Graph). CallsTo program.rules set (graphs i) m b) (q ∙ ap graphs o) (subst (λ (b : Graph). CallsTo program.rules set b m h) e k);
        },
        o,
      )
  call_out (call_steps s k) i j outcome.Fails l n e f z = absurd cc
  call_out (call_steps s k) i j outcome.Breaks l n e f z = absurd cc
  call_out (call_fails s k) i j outcome.Gives l n e f z = absurd cc
  call_out (call_fails {set = set} s k) i j outcome.Fails l n e f z =
      (record { set = set; is_set = s; blocked = subst (λ (b : Graph). Blocked program.rules set b) e k }, no_item i j l n f)
  call_out (call_fails s k) i j outcome.Breaks l n e f z = absurd cc
  call_out call_stands i j x l n e f z = absurd (no_stand x _ at_call z)

  pub seq_row : {p q : Command} (i m j : ℕ) (x : Outcome) → S p i m outcome.Gives → S q m j x → P (Seq p q) i j x
  seq_row i m j outcome.Gives a b = (m, a, b)
  seq_row i m j outcome.Fails a b = inr (m, a, b)
  seq_row i m j outcome.Breaks a b = inr (m, a, b)

  seq_out : {p q : Command} {g : Graph} {a : List Bool} {v : List Item} {y : Ending} → Run program (Seq p q) g a v y → (i j : ℕ) (x : Outcome) → i ≤ j → j ≤ length t → g ≡ graphs i → v ≡ between t i j → y ≡ ending x (graphs j) → P (Seq p q) i j x
  seq_out (seq {t = u} {u = v} r s c d) i j x l n e f z =
      let k = cut t u v i j l n (sym f ∙ d) in
      let o : k.place ≤ length t = omega (arith, k.before) in
      seq_row i k.place j x (span outcome.Gives _ r i k.place k.after o e k.first) (ended s k.place j x k.before n (lands r i k.place k.after o e k.first) k.second z)
  seq_out (seq_fails r) i j outcome.Gives l n e f z = absurd cc
  seq_out (seq_fails r) i j outcome.Fails l n e f z = inl (span outcome.Fails _ r i j l n e f)
  seq_out (seq_fails r) i j outcome.Breaks l n e f z = absurd cc
  seq_out (seq_breaks r) i j outcome.Gives l n e f z = absurd cc
  seq_out (seq_breaks r) i j outcome.Fails l n e f z = absurd cc
  seq_out (seq_breaks r) i j outcome.Breaks l n e f z = inl (span outcome.Breaks _ r i j l n e f)
  seq_out (seq_stands r s) i j x l n e f z = absurd (no_stand x _ s z)

  -- a first part that is taken back, and what follows it
  record Branch (k p : Command) (y : Outcome) (i j : ℕ) (x : Outcome) : Type 0 where
    pub place : ℕ
    pub back : IsTakenBack t i place
    pub first : S k i place y
    pub second : S p (place + 1) j x

  branch : {k p : Command} {g : Graph} {a b : List Bool} {u v : List Item} {z : Ending} (y : Outcome) (h : Graph) → Run program k g a u (ending y h) → Run program p g b v z → (i j : ℕ) (x : Outcome) → i ≤ j → j ≤ length t → g ≡ graphs i → undone u ++ v ≡ between t i j → z ≡ ending x (graphs j) → Branch k p y i j x
  branch {u = u} {v = v} y h r s i j x l n e f z =
      let c = cut t (undone u) v i j l n (sym f) in
      let o : c.place ≤ length t = omega (arith, c.before) in
      let k = undone_part t u i c.place c.after o (sym c.first) in
      let m : k.place ≤ length t = omega (arith, k.next) in
      let first = span y h r i k.place k.after m e k.trace in
      let same : graphs i ≡ graphs (k.place + 1) = back_same i k.place first k.item (undone_between i k.place k.after k.item) in
      let there : k.place + 1 ≤ j = omega (arith, k.next, c.before) in
      record {
        place = k.place;
        back = k.item;
        first = first;
        second = ended s (k.place + 1) j x there n (e ∙ same) (c.second ∙ ap (λ b. between t b j) (sym k.next)) z;
      }

  if_out : {k p q : Command} {g : Graph} {a : List Bool} {v : List Item} {y : Ending} → Run program (If k p q) g a v y → (i j : ℕ) (x : Outcome) → i ≤ j → j ≤ length t → g ≡ graphs i → v ≡ between t i j → y ≡ ending x (graphs j) → P (If k p q) i j x
  if_out (if_then r s c d) i j x l n e f z = let b = branch outcome.Gives _ r s i j x l n e (sym d ∙ f) z in (b.place, b.back, inl (b.first, b.second))
  if_out (if_else r s c d) i j x l n e f z = let b = branch outcome.Fails _ r s i j x l n e (sym d ∙ f) z in (b.place, b.back, inr (b.first, b.second))
  if_out (if_stands r s) i j x l n e f z = absurd (no_stand x _ s z)

  try_out : {k p q : Command} {g : Graph} {a : List Bool} {v : List Item} {y : Ending} → Run program (Try k p q) g a v y → (i j : ℕ) (x : Outcome) → i ≤ j → j ≤ length t → g ≡ graphs i → v ≡ between t i j → y ≡ ending x (graphs j) → P (Try k p q) i j x
  try_out (try_then {t = u} {u = v} r s c d) i j x l n e f z =
      let k = cut t u v i j l n (sym f ∙ d) in
      let o : k.place ≤ length t = omega (arith, k.before) in
      (k.place, inl (span outcome.Gives _ r i k.place k.after o e k.first, ended s k.place j x k.before n (lands r i k.place k.after o e k.first) k.second z))
  try_out (try_else r s c d) i j x l n e f z = let b = branch outcome.Fails _ r s i j x l n e (sym d ∙ f) z in (b.place, inr (b.back, b.first, b.second))
  try_out (try_stands r s) i j x l n e f z = absurd (no_stand x _ s z)

  loop_out : {p : Command} {g : Graph} {a : List Bool} {v : List Item} {y : Ending} → Run program (Loop p) g a v y → (i j : ℕ) → i ≤ j → j ≤ length t → g ≡ graphs i → v ≡ between t i j → y ≡ Gives (graphs j) → P (Loop p) i j outcome.Gives
  loop_out loop_stands i j l n e f z = absurd cc
  loop_out (loop_goes_on {t = u} {u = v} r s c d) i j l n e f z =
      let h = front t (u ++ v) Turned i j l n (sym f ∙ d) in
      let k = cut t u v (i + 1) j h.before n (sym h.rest) in
      let o : k.place ≤ length t = omega (arith, k.before) in
      let g = e ∙ turn_same i h.item in
      (h.item, inl (k.place, span outcome.Gives _ r (i + 1) k.place k.after o g k.first, ended s k.place j outcome.Gives k.before n (lands r (i + 1) k.place k.after o g k.first) k.second z))
  loop_out (loop_ends {t = u} r d) i j l n e f z =
      let h = front t (undone u) Turned i j l n (sym f ∙ d) in
      let k = undone_part t u (i + 1) j h.before n (sym h.rest) in
      let o : k.place ≤ length t = omega (arith, k.next) in
      (h.item, inr (inl (k.place, span outcome.Fails _ r (i + 1) k.place k.after o (e ∙ turn_same i h.item) k.trace, k.item, sym k.next)))
  loop_out (loop_breaks {t = u} r d) i j l n e f z =
      let h = front t u Turned i j l n (sym f ∙ d) in
      (h.item, inr (inr (span outcome.Breaks _ r (i + 1) j h.before n (e ∙ turn_same i h.item) h.rest)))
  loop_out (loop_body_stands r s d) i j l n e f z = absurd (no_stand outcome.Gives _ s z)

  or_out : {p q : Command} {g : Graph} {a : List Bool} {v : List Item} {y : Ending} → Run program (Or p q) g a v y → (i j : ℕ) (x : Outcome) → i ≤ j → j ≤ length t → g ≡ graphs i → v ≡ between t i j → y ≡ ending x (graphs j) → P (Or p q) i j x
  or_out (or_first r c) i j x l n e f z = inl (ended r i j x l n e f z)
  or_out (or_second r c) i j x l n e f z = inr (ended r i j x l n e f z)

  skip_out : {g : Graph} {a : List Bool} {v : List Item} {y : Ending} → Run program Skip g a v y → (i j : ℕ) (x : Outcome) → i ≤ j → j ≤ length t → v ≡ between t i j → y ≡ ending x (graphs j) → P Skip i j x
  skip_out skips i j outcome.Gives l n f z = no_item i j l n f
  skip_out skips i j outcome.Fails l n f z = absurd cc
  skip_out skips i j outcome.Breaks l n f z = absurd cc

  fail_out : {g : Graph} {a : List Bool} {v : List Item} {y : Ending} → Run program Fail g a v y → (i j : ℕ) (x : Outcome) → i ≤ j → j ≤ length t → v ≡ between t i j → y ≡ ending x (graphs j) → P Fail i j x
  fail_out fails i j outcome.Gives l n f z = absurd cc
  fail_out fails i j outcome.Fails l n f z = no_item i j l n f
  fail_out fails i j outcome.Breaks l n f z = absurd cc

  break_out : {g : Graph} {a : List Bool} {v : List Item} {y : Ending} → Run program Break g a v y → (i j : ℕ) (x : Outcome) → i ≤ j → j ≤ length t → v ≡ between t i j → y ≡ ending x (graphs j) → P Break i j x
  break_out breaks i j outcome.Gives l n f z = absurd cc
  break_out breaks i j outcome.Fails l n f z = absurd cc
  break_out breaks i j outcome.Breaks l n f z = no_item i j l n f

  procedure_out : {k : ℕ} {g : Graph} {a : List Bool} {v : List Item} {y : Ending} → Run program (Procedure k) g a v y → (i j : ℕ) (x : Outcome) → i ≤ j → j ≤ length t → g ≡ graphs i → v ≡ between t i j → y ≡ ending x (graphs j) → P (Procedure k) i j x
  procedure_out (procedure {body = body} s r) i j x l n e f z = (body, s, ended r i j x l n e f z)

  pub spans_out : (p : Command) (i j : ℕ) (x : Outcome) → S p i j x → P p i j x
  spans_out (Call c) i j x s = call_out s.run i j x s.ordered s.within refl refl refl
  spans_out (Seq p q) i j x s = seq_out s.run i j x s.ordered s.within refl refl refl
  spans_out (If k p q) i j x s = if_out s.run i j x s.ordered s.within refl refl refl
  spans_out (Try k p q) i j x s = try_out s.run i j x s.ordered s.within refl refl refl
  spans_out (Loop p) i j outcome.Gives s = loop_out s.run i j s.ordered s.within refl refl refl
  spans_out (Loop p) i j outcome.Fails s = let e : outcome.Fails ≡ outcome.Gives = loop_gives s.run outcome.Fails _ refl in absurd cc
  spans_out (Loop p) i j outcome.Breaks s = let e : outcome.Breaks ≡ outcome.Gives = loop_gives s.run outcome.Breaks _ refl in absurd cc
  spans_out (Or p q) i j x s = or_out s.run i j x s.ordered s.within refl refl refl
  spans_out Skip i j x s = skip_out s.run i j x s.ordered s.within refl refl
  spans_out Fail i j x s = fail_out s.run i j x s.ordered s.within refl refl
  spans_out Break i j x s = break_out s.run i j x s.ordered s.within refl refl
  spans_out (Procedure k) i j x s = procedure_out s.run i j x s.ordered s.within refl refl refl

  -- ---- from parts to runs

  -- what is known of a run, at equal graphs and items
  made : {p : Command} {g : Graph} {a : List Bool} {u : List Item} (x : Outcome) (h : Graph) (i j : ℕ) → i ≤ j → j ≤ length t → Run program p g a u (ending x h) → g ≡ graphs i → between t i j ≡ u → S p i j x
  made x h i j l m r e f = span x h r i j l m e (sym f)

  nothing_made : {p : Command} {a : List Bool} (x : Outcome) (i j : ℕ) → i ≤ length t → j ≡ i → Run program p (graphs i) a [] (ending x (graphs i)) → S p i j x
  nothing_made {p} x i j l e r = subst (λ (n : ℕ). S p i n x) (sym e) (made x _ i i (omega arith) l r refl (between_nothing t i))

  seq_both : {p q : Command} (i m j : ℕ) (x : Outcome) → S p i m outcome.Gives → S q m j x → S (Seq p q) i j x
  seq_both i m j x a b = let k = a.ordered in let l = b.ordered in record { ordered = omega arith; within = b.within; picks = a.picks ++ b.picks; run = seq a.run b.run refl (between-append t i m j k l) }

  -- from graph i on, where the part before is taken back
  behind : {k p : Command} {x y : Outcome} (i m j : ℕ) → S k i m y → IsTakenBack t i m → (s : S p (m + 1) j x) → Run program p (graphs i) s.picks (between t (m + 1) j) (ending x (graphs j))
  behind {p = p} {x = x} i m j a b s =
      subst (λ (g : Graph). Run program p g s.picks (between t (m + 1) j) (ending x (graphs j))) (sym (back_same i m a b (undone_between i m a.ordered b))) s.run

  whole_behind : (i m j : ℕ) → i ≤ m → m + 1 ≤ j → IsTakenBack t i m → between t i j ≡ undone (between t i m) ++ between t (m + 1) j
  whole_behind i m j l n b = between-append t i (m + 1) j (omega arith) n ∙ ap (λ z. z ++ between t (m + 1) j) (undone_between i m l b)

  if_in : {k p q : Command} (i j : ℕ) (x : Outcome) → P (If k p q) i j x → S (If k p q) i j x
  if_in i j x (m, b, inl (a, s)) = let k = a.ordered in let l = s.ordered in
      record { ordered = omega arith; within = s.within; picks = a.picks ++ s.picks; run = if_then a.run (behind i m j a b s) refl (whole_behind i m j k l b) }
  if_in i j x (m, b, inr (a, s)) = let k = a.ordered in let l = s.ordered in
      record { ordered = omega arith; within = s.within; picks = a.picks ++ s.picks; run = if_else a.run (behind i m j a b s) refl (whole_behind i m j k l b) }

  try_in : {k p q : Command} (i j : ℕ) (x : Outcome) → P (Try k p q) i j x → S (Try k p q) i j x
  try_in i j x (m, inl (a, s)) = let k = a.ordered in let l = s.ordered in
      record { ordered = omega arith; within = s.within; picks = a.picks ++ s.picks; run = try_then a.run s.run refl (between-append t i m j k l) }
  try_in i j x (m, inr (b, a, s)) = let k = a.ordered in let l = s.ordered in
      record { ordered = omega arith; within = s.within; picks = a.picks ++ s.picks; run = try_else a.run (behind i m j a b s) refl (whole_behind i m j k l b) }

  -- the body's run, from the graph before the turn
  turned : {p : Command} {x : Outcome} (i j : ℕ) → slice_get t i ≡ Some Turned → (s : S p (i + 1) j x) → Run program p (graphs i) s.picks (between t (i + 1) j) (ending x (graphs j))
  turned {p} {x} i j e s = subst (λ (g : Graph). Run program p g s.picks (between t (i + 1) j) (ending x (graphs j))) (sym (turn_same i e)) s.run

  turn_first : (i j : ℕ) → slice_get t i ≡ Some Turned → i + 1 ≤ j → between t i j ≡ Turned ∷ between t (i + 1) j
  turn_first i j e l = between-append t i (i + 1) j (omega arith) l ∙ ap (λ z. z ++ between t (i + 1) j) (one_between t i Turned e)

  loop_in : {p : Command} (i j : ℕ) → P (Loop p) i j outcome.Gives → S (Loop p) i j outcome.Gives
  loop_in i j (e, inl (m, a, s)) = let k = a.ordered in let l = s.ordered in
      record {
        ordered = omega arith;
        within = s.within;
        picks = a.picks ++ s.picks;
        run = loop_goes_on (turned i m e a) s.run refl (turn_first i j e (omega arith) ∙ ap (λ z. Turned ∷ z) (between-append t (i + 1) m j k l));
      }
  loop_in i j (e, inr (inl (m, a, b, d))) = let k = a.ordered in let n = item_within t m _ b in
      made outcome.Gives _ i j (omega arith) (omega arith) (loop_ends (turned i m e a) refl) refl
      (ap (λ z. between t i z) d ∙ turn_first i (m + 1) e (omega arith) ∙ ap (λ z. Turned ∷ z) (undone_between (i + 1) m k b))
  loop_in i j (e, inr (inr a)) = let k = a.ordered in
      record { ordered = omega arith; within = a.within; picks = a.picks; run = loop_breaks (turned i j e a) (turn_first i j e k) }

  pub spans_in : (p : Command) (i j : ℕ) (x : Outcome) → i ≤ length t → P p i j x → S p i j x
  spans_in (Call c) i j outcome.Gives l (s, e) = let n = item_within t i _ s.item in
      made outcome.Gives _ i j (omega arith) (omega arith) (call_steps s.is_set s.step) refl (ap (λ z. between t i z) e ∙ one_between t i _ s.item)
  spans_in (Call c) i j outcome.Fails l (s, e) = nothing_made outcome.Fails i j l e (call_fails s.is_set s.blocked)
  spans_in (Call c) i j outcome.Breaks l h = absurd h
  spans_in (Seq p q) i j outcome.Gives l (m, a, b) = seq_both i m j outcome.Gives a b
  spans_in (Seq p q) i j outcome.Fails l (inl a) = record { ordered = a.ordered; within = a.within; picks = a.picks; run = seq_fails a.run }
  spans_in (Seq p q) i j outcome.Fails l (inr (m, a, b)) = seq_both i m j outcome.Fails a b
  spans_in (Seq p q) i j outcome.Breaks l (inl a) = record { ordered = a.ordered; within = a.within; picks = a.picks; run = seq_breaks a.run }
  spans_in (Seq p q) i j outcome.Breaks l (inr (m, a, b)) = seq_both i m j outcome.Breaks a b
  spans_in (If k p q) i j x l h = if_in i j x h
  spans_in (Try k p q) i j x l h = try_in i j x h
  spans_in (Loop p) i j outcome.Gives l h = loop_in i j h
  spans_in (Loop p) i j outcome.Fails l h = absurd h
  spans_in (Loop p) i j outcome.Breaks l h = absurd h
  spans_in (Or p q) i j x l (inl a) = record { ordered = a.ordered; within = a.within; picks = _; run = or_first a.run refl }
  spans_in (Or p q) i j x l (inr a) = record { ordered = a.ordered; within = a.within; picks = _; run = or_second a.run refl }
  spans_in Skip i j outcome.Gives l e = nothing_made outcome.Gives i j l e skips
  spans_in Skip i j outcome.Fails l h = absurd h
  spans_in Skip i j outcome.Breaks l h = absurd h
  spans_in Fail i j outcome.Gives l h = absurd h
  spans_in Fail i j outcome.Fails l e = nothing_made outcome.Fails i j l e fails
  spans_in Fail i j outcome.Breaks l h = absurd h
  spans_in Break i j outcome.Gives l h = absurd h
  spans_in Break i j outcome.Fails l h = absurd h
  spans_in Break i j outcome.Breaks l e = nothing_made outcome.Breaks i j l e breaks
  spans_in (Procedure k) i j x l (body, s, a) = record { ordered = a.ordered; within = a.within; picks = a.picks; run = procedure s a.run }
