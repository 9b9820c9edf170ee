-- What a part of a command does is what the command does.
use Rattle.std.proofs.Common.{◌≡◌, ℕ, ◌+◌, ◌-◌, ◌≤◌, ◌<◌, ◌≢◌, Bool, true, false, List, [], ◌∷◌, ◌++◌, length, drop, take, slice_get, Option, Some, None, refl, sym, ap, subst, ◌∙◌, arith, cond, append_assoc, append-nil, length-take-le, length-drop}
use Rattle.std.proofs.lemmas.List.{length_push, drop-drop}
use Rattle.std.proofs.lemmas.List.Sums.{sum_by-append}
use Rattle.gp_values.specs.Graph.{Graph}
use Rattle.gp_syntax.specs.Run.{Command, Call, Seq, If, Try, Loop, Or, Skip, Fail, Break, Procedure, Program, Item, Stepped, Turned, Back, Ending, Gives, Fails, Breaks, At, AtTurn, Stands, at_call, at_turn, live, live_from, undone, counted, is_counted, Run, call_steps, call_fails, call_stands, seq, seq_fails, seq_breaks, seq_stands, if_then, if_else, if_stands, try_then, try_else, try_stands, loop_stands, loop_goes_on, loop_ends, loop_breaks, loop_body_stands, or_first, or_second, skips, fails, breaks, procedure}
use Rattle.gp_syntax.specs.Rule.{Found}
use Rattle.gp_syntax.specs.Replay.{BacksFit}
use Rattle.gp_syntax.proofs.Runs.{traced}
use Rattle.gp_syntax.specs.Scoped.{MayBreak}
use Rattle.gp_syntax.specs.Scoped as can
use Rattle.gp_run.specs.declared.engine.Turned.TheVariants as turned
use Rattle.gp_run.specs.declared.engine.Called.{Called}
use Rattle.gp_run.specs.declared.engine.Called.TheVariants as called
use Rattle.gp_run.specs.declared.engine.Repeated.{Repeated}
use Rattle.gp_run.specs.declared.engine.Repeated.TheVariants as repeated
use Rattle.gp_run.specs.Engine.{MakesCall, HasCalled, HasRepeated, HasTurned, View, graphs, live_with, kept_with, Adds, Keeps, StandsSpent, TurnMade, Stays, HasMarked, HasClosed, CanTakeBack, TakesBack}
use Rattle.gp_run.specs.Finished.{AreAnswers, HasRun}
use Rattle.gp_run.specs.inside.Stopped.{stop_of, stop_of_call, HasStopped}
use Rattle.gp_run.specs.declared.commands.Stop.{Stop}
use Rattle.gp_run.specs.declared.commands.Stop.TheVariants as stop

pub counted-append : (t u : List Item) → counted (t ++ u) ≡ counted t + counted u
counted-append t u = sum_by-append (λ (i : Item). cond (is_counted i) 1 0) t u

-- ---- what is added

-- items, and then further ones
live_with-append : (t u : List Item) (n : ℕ) → live_with n (t ++ u) ≡ live_with (live_with n t) u
live_with-append [] u n = refl
live_with-append (Stepped m ∷ t) u n = live_with-append t u (n + 1)
live_with-append (Turned ∷ t) u n = live_with-append t u n
live_with-append (Back k ∷ t) u n = live_with-append t u (n - k)

kept_with-nothing : (o : Option (List Item)) → kept_with o [] ≡ o
kept_with-nothing None = refl
kept_with-nothing (Some l) = ap Some (append-nil l)

pub kept_with-append : (o : Option (List Item)) (t u : List Item) → kept_with o (t ++ u) ≡ kept_with (kept_with o t) u
kept_with-append None t u = refl
kept_with-append (Some l) t u = ap Some (sym (append_assoc l t u))

pub adds-nothing : (v : View) → Adds v v []
adds-nothing v = record { program = refl; left = omega arith; live = refl; kept = sym (kept_with-nothing v.kept) }

pub adds-append : (v w z : View) (t u : List Item) → Adds v w t → Adds w z u → Adds v z (t ++ u)
adds-append v w z t u a b = record {
  program = b.program ∙ a.program;
  left = omega (arith, a.left, b.left, counted-append t u);
  live = b.live ∙ ap (λ (n : ℕ). live_with n u) a.live ∙ sym (live_with-append t u v.live);
  kept = b.kept ∙ ap (λ (o : Option (List Item)). kept_with o u) a.kept ∙ sym (kept_with-append v.kept t u);
}

-- the number of the live steps is the length of their list
live_with-length : (t : List Item) (ms : List Found) → live_with (length ms) t ≡ length (live_from ms t)
live_with-length [] ms = refl
live_with-length (Stepped m ∷ t) ms = ap (λ (n : ℕ). live_with n t) (sym (length_push ms m)) ∙ live_with-length t (ms ++ m ∷ [])
live_with-length (Turned ∷ t) ms = live_with-length t ms
live_with-length (Back k ∷ t) ms = ap (λ (n : ℕ). live_with n t) (sym (length-take-le (length ms - k) ms (omega arith))) ∙ live_with-length t (take (length ms - k) ms)

-- a trace that takes back what so many of the steps before it allow leaves the others
live_with-more : (t : List Item) (n j : ℕ) → BacksFit j t → live_with (n + j) t ≡ n + live_with j t
live_with-more [] n j b = refl
live_with-more (Stepped m ∷ t) n j b =
    let e : n + j + 1 ≡ n + (j + 1) = omega arith in
    ap (λ (i : ℕ). live_with i t) e ∙ live_with-more t n (j + 1) b
live_with-more (Turned ∷ t) n j b = live_with-more t n j b
live_with-more (Back k ∷ t) n j b =
    let h : k ≤ j = b.0 in
    let e : n + j - k ≡ n + (j - k) = omega arith in
    ap (λ (i : ℕ). live_with i t) e ∙ live_with-more t n (j - k) b.1

-- the live steps of a run are live behind those from before it
pub run_live : {program : Program} {p : Command} {g : Graph} {a : List Bool} {t : List Item} {x : Ending} (n : ℕ) → Run program p g a t x → live_with n t ≡ n + length (live t)
run_live {t = t} n r =
    let e : n ≡ n + 0 = omega arith in
    ap (λ (i : ℕ). live_with i t) e ∙ live_with-more t n 0 (traced r).whole.backs ∙ ap (λ (i : ℕ). n + i) (live_with-length t [])

-- ---- what is kept

-- no step more is live, and what is there to be taken back stays
pub keeps_still : (v w : View) → w.marks ≡ v.marks → w.live ≡ v.live → w.graph ≡ v.graph → (0 < v.marks → w.before ≡ v.before) → Keeps v w
keeps_still v w m l g b =
    let e : w.live - v.live ≡ 0 = omega arith in
    record { marks = m; live = omega arith; graphs = λ h. ap (λ (n : ℕ). drop n (graphs w)) e ∙ (λ i. g i ∷ b h i) }

pub keeps_nothing : (v : View) → Keeps v v
keeps_nothing v = keeps_still v v refl refl refl (λ h. refl)

pub keeps_keeps : (v w z : View) → Keeps v w → Keeps w z → Keeps v z
keeps_keeps v w z a b = record {
  marks = b.marks ∙ a.marks;
  live = omega (arith, a.live, b.live);
  graphs = λ h.
      let d : drop (z.live - w.live) (graphs z) ≡ graphs w = b.graphs (omega (arith, a.marks)) in
      let e : z.live - v.live ≡ (z.live - w.live) + (w.live - v.live) = omega (arith, a.live, b.live) in
      ap (λ (n : ℕ). drop n (graphs z)) e ∙ sym (drop-drop (w.live - v.live) (z.live - w.live) (graphs z)) ∙ ap (λ (l : List Graph). drop (w.live - v.live) l) d ∙ a.graphs h;
}

-- ---- marks

-- what is made before and after a mark is opened or closed
adds_stay : (v w z : View) (t : List Item) → Adds v w t → Stays w z → Adds v z t
adds_stay v w z t a b = record { program = b.program ∙ a.program; left = ap (λ (n : ℕ). n + counted t) b.left ∙ a.left; live = b.live ∙ a.live; kept = b.kept ∙ a.kept }

stay_adds : (v w z : View) (t : List Item) → Stays v w → Adds w z t → Adds v z t
stay_adds v w z t a b = record {
  program = b.program ∙ a.program;
  left = b.left ∙ a.left;
  live = b.live ∙ ap (λ (n : ℕ). live_with n t) a.live;
  kept = b.kept ∙ ap (λ (o : Option (List Item)). kept_with o t) a.kept;
}

stay_graphs : (v w : View) → Stays v w → 0 < v.marks → 0 < w.marks → graphs w ≡ graphs v
stay_graphs v w a h k = λ i. a.graph i ∷ a.before h k i

-- where a mark was opened and is closed again, the marks from before are kept
keeps_closed : (m : ℕ) (v v' w z : View) → HasMarked m v v' → Keeps v' w → HasClosed w z → Keeps v z
keeps_closed m v v' w z a k b = record {
  marks = omega (arith, a.marks, k.marks, b.marks);
  live = omega (arith, a.stays.live, k.live, b.stays.live);
  graphs = λ h.
      let opened : 0 < v'.marks = omega (arith, a.marks) in
      let still : 0 < w.marks = omega (arith, k.marks) in
      let after : 0 < z.marks = omega (arith, a.marks, k.marks, b.marks) in
      let e : z.live - v.live ≡ w.live - v'.live = omega (arith, a.stays.live, k.live, b.stays.live) in
      ap (λ (n : ℕ). drop n (graphs z)) e ∙ ap (λ (l : List Graph). drop (w.live - v'.live) l) (stay_graphs w z b.stays still after) ∙ k.graphs opened ∙ stay_graphs v v' a.stays h opened;
}

-- what was live at a mark that is open can be gone back to
pub marked_back : (m : ℕ) (v v' w : View) → HasMarked m v v' → Keeps v' w → CanTakeBack m w
marked_back m v v' w a k =
    let opened : 0 < v'.marks = omega (arith, a.marks) in
    let d : length (drop (w.live - v'.live) (graphs w)) ≡ length (graphs v') = ap (λ (l : List Graph). length l) (k.graphs opened) in
    record {
      open_mark = omega (arith, k.marks);
      live = omega (arith, a.live_steps, a.stays.live, k.live);
      before = omega (arith, a.live_steps, a.stays.live, k.live, d, length-drop (w.live - v'.live) (graphs w));
    }

stands_spent : (w : View) (x : Ending) → StandsSpent w x → Stands x
stands_spent w (Gives h) a = absurd a.0
stands_spent w (Fails h) a = absurd a.0
stands_spent w (Breaks h) a = absurd a.0
stands_spent w (At c h) a = at_call
stands_spent w (AtTurn h) a = at_turn

-- the items of a trace were made and taken back
pub record TakenBack (v w : View) (t : List Item) : Type 0 where
  pub adds : Adds v w (undone t)
  pub graph : w.graph ≡ v.graph
  pub keeps : Keeps v w

taken_back : (m : ℕ) (v v' w z : View) (p : Command) (picks : List Bool) (t : List Item) (x : Ending) → HasMarked m v v' → Adds v w t → Run v.program p v.graph picks t x → Keeps v' w → TakesBack m w z → TakenBack v z t
taken_back m v v' w z p picks t x e a r k b =
    let opened : 0 < v'.marks = omega (arith, e.marks) in
    let since : w.live - m ≡ length (live t) = omega (arith, e.live_steps, a.live, run_live v.live r) in
    let same : w.live - m ≡ w.live - v'.live = omega (arith, e.live_steps, e.stays.live) in
    let there = b.graph v'.graph v'.before (ap (λ (n : ℕ). drop n (graphs w)) same ∙ k.graphs opened) in
    let graph : z.graph ≡ v.graph = there.0 ∙ e.stays.graph in
    let steps : z.live ≡ w.live - (w.live - m) = b.adds.live in
    let marks : z.marks ≡ v.marks = omega (arith, e.marks, k.marks, b.marks) in
    record {
      adds = subst (λ (i : ℕ). Adds v z (t ++ Back i ∷ [])) since (adds-append v w z t (Back (w.live - m) ∷ []) a b.adds);
      graph = graph;
      keeps = keeps_still v z marks (omega (arith, steps, e.live_steps, e.stays.live, k.live)) graph (λ h. there.1 (omega arith) ∙ e.stays.before h opened);
    }

-- a loop does not break
loop_unbroken : {program : Program} {p : Command} {g h : Graph} {a : List Bool} {t : List Item} {x : Ending} → Run program (Loop p) g a t x → x ≡ Breaks h → ⊥
loop_unbroken loop_stands e = cc
loop_unbroken (loop_goes_on r s c f) e = loop_unbroken s e
loop_unbroken (loop_ends r f) e = cc
loop_unbroken (loop_breaks r f) e = cc
loop_unbroken (loop_body_stands r at_call f) e = cc
loop_unbroken (loop_body_stands r at_turn f) e = cc

-- what breaks may break
pub may_break : {program : Program} {p : Command} {g h : Graph} {a : List Bool} {t : List Item} {x : Ending} → Run program p g a t x → x ≡ Breaks h → MayBreak program p
may_break (call_steps s h) e = absurd cc
may_break (call_fails s h) e = absurd cc
may_break call_stands e = absurd cc
may_break (seq r s c f) e = can.seq_second (may_break s e)
may_break (seq_fails r) e = absurd cc
may_break (seq_breaks r) e = can.seq_first (may_break r e)
may_break (seq_stands r st) e = can.seq_first (may_break r e)
may_break (if_then r s c f) e = can.if_then (may_break s e)
may_break (if_else r s c f) e = can.if_else (may_break s e)
may_break (if_stands r at_call) e = absurd cc
may_break (if_stands r at_turn) e = absurd cc
may_break (try_then r s c f) e = can.try_then (may_break s e)
may_break (try_else r s c f) e = can.try_else (may_break s e)
may_break (try_stands r at_call) e = absurd cc
may_break (try_stands r at_turn) e = absurd cc
may_break loop_stands e = absurd cc
may_break (loop_goes_on r s c f) e = absurd (loop_unbroken s e)
may_break (loop_ends r f) e = absurd cc
may_break (loop_breaks r f) e = absurd cc
may_break (loop_body_stands r at_call f) e = absurd cc
may_break (loop_body_stands r at_turn f) e = absurd cc
may_break (or_first r c) e = can.or_first (may_break r e)
may_break (or_second r c) e = can.or_second (may_break r e)
may_break skips e = absurd cc
may_break fails e = absurd cc
may_break breaks e = can.breaks
may_break (procedure s r) e = can.procedure s (may_break r e)

module _ {S : Type 0} (answer : S → Bool) (next : S → S) where
  pub answers-append : (a b : List Bool) (s u y : S) → AreAnswers answer next a s u → AreAnswers answer next b u y → AreAnswers answer next (a ++ b) s y
  answers-append [] b s u y e f = subst (λ (z : S). AreAnswers answer next b z y) e f
  answers-append (x ∷ a) b s u y e f = (e.0, answers-append a b (next s) u y e.1 f)

  -- what the one command then does, the other does from the beginning
  pub record Leads (p q : Command) (v w : View) (s u : S) : Type 0 where
    pub picks : List Bool
    pub trace : List Item
    pub adds : Adds v w trace
    pub keeps : Keeps v w
    pub answers : AreAnswers answer next picks s u
    pub on : (b : List Bool) (t : List Item) (x : Ending) → Run v.program p w.graph b t x → Run v.program q v.graph (picks ++ b) (trace ++ t) x

  pub leads_nowhere : (p : Command) (v : View) (s : S) → Leads p p v v s s
  leads_nowhere p v s = record { picks = []; trace = []; adds = adds-nothing v; keeps = keeps_nothing v; answers = refl; on = λ b t x r. r }

  pub leads_leads : (p q r : Command) (v w z : View) (s u y : S) → Leads q r v w s u → Leads p q w z u y → Leads p r v z s y
  leads_leads p q r v w z s u y a b = record {
    picks = a.picks ++ b.picks;
    trace = a.trace ++ b.trace;
    adds = adds-append v w z a.trace b.trace a.adds b.adds;
    keeps = keeps_keeps v w z a.keeps b.keeps;
    answers = answers-append a.picks b.picks s u y a.answers b.answers;
    on = λ c t x h.
        let h' : Run w.program p z.graph c t x = subst (λ (k : Program). Run k p z.graph c t x) (sym a.adds.program) h in
        let i : Run v.program q w.graph (b.picks ++ c) (b.trace ++ t) x = subst (λ (k : Program). Run k q w.graph (b.picks ++ c) (b.trace ++ t) x) a.adds.program (b.on c t x h') in
        rw (append_assoc a.picks b.picks c, append_assoc a.trace b.trace t) (a.on (b.picks ++ c) (b.trace ++ t) x i);
  }

  pub leads_run : (p q : Command) (v w z : View) (s u y : S) (x : Ending) → Leads p q v w s u → HasRun answer next p w z u y x → HasRun answer next q v z s y x
  leads_run p q v w z s u y x a b = record {
    picks = a.picks ++ b.picks;
    trace = a.trace ++ b.trace;
    makes = record {
      run = a.on b.picks b.trace x (subst (λ (k : Program). Run k p w.graph b.picks b.trace x) a.adds.program b.makes.run);
      adds = adds-append v w z a.trace b.trace a.adds b.makes.adds;
    };
    answers = answers-append a.picks b.picks s u y a.answers b.answers;
  }

  pub leads_stopped : (r : Stop) (p q : Command) (v w z : View) (s u y : S) → Leads p q v w s u → HasStopped answer next r p w z u y → HasStopped answer next r q v z s y
  leads_stopped stop.Graph p q v w z s u y a b = (leads_run p q v w z s u y _ a b.0, keeps_keeps v w z a.keeps b.1)
  leads_stopped stop.Fail p q v w z s u y a b = (leads_run p q v w z s u y _ a b.0, keeps_keeps v w z a.keeps b.1)
  leads_stopped stop.Break p q v w z s u y a b = (leads_run p q v w z s u y _ a b.0, keeps_keeps v w z a.keeps b.1)
  leads_stopped stop.Bound p q v w z s u y a b = (b.0, leads_run p q v w z s u y _ a b.1, b.2)
  leads_stopped (stop.Fault i k) p q v w z s u y a b = (b.0, leads_run p q v w z s u y _ a b.1, b.2)
  leads_stopped stop.NoMemory p q v w z s u y a b = tt

  -- ---- the rows

  -- a run of the one is one of the other
  pub through : (p q : Command) (v w : View) (s u : S) (x : Ending) → ((a : List Bool) (t : List Item) → Run v.program p v.graph a t x → Run v.program q v.graph a t x) → HasRun answer next p v w s u x → HasRun answer next q v w s u x
  through p q v w s u x f h = record { picks = h.picks; trace = h.trace; makes = record { run = f h.picks h.trace h.makes.run; adds = h.makes.adds }; answers = h.answers }

  -- also where what stands, stands in the other
  pub stops_through : (r : Stop) → r ≢ stop.Graph → r ≢ stop.Fail → r ≢ stop.Break → (p q : Command) (v w : View) (s u : S) → ((a : List Bool) (t : List Item) (x : Ending) → Stands x → Run v.program p v.graph a t x → Run v.program q v.graph a t x) → HasStopped answer next r p v w s u → HasStopped answer next r q v w s u
  stops_through stop.Graph d e n p q v w s u f h = absurd (d refl)
  stops_through stop.Fail d e n p q v w s u f h = absurd (e refl)
  stops_through stop.Break d e n p q v w s u f h = absurd (n refl)
  stops_through stop.Bound d e n p q v w s u f h = (h.0, through p q v w s u h.0 (λ a t r. f a t h.0 (stands_spent w h.0 h.2) r) h.1, h.2)
  stops_through (stop.Fault i k) d e n p q v w s u f h = (h.0, through p q v w s u (At h.0 w.graph) (λ a t r. f a t (At h.0 w.graph) at_call r) h.1, h.2)
  stops_through stop.NoMemory d e n p q v w s u f h = tt

  pub seq_leads : (p q : Command) (v w : View) (s u : S) → HasStopped answer next stop.Graph p v w s u → Leads q (Seq p q) v w s u
  seq_leads p q v w s u a = record { picks = a.0.picks; trace = a.0.trace; adds = a.0.makes.adds; keeps = a.1; answers = a.0.answers; on = λ b t x r. seq a.0.makes.run r refl refl }

  pub seq_stops : (r : Stop) → r ≢ stop.Graph → (p q : Command) (v w : View) (s u : S) → HasStopped answer next r p v w s u → HasStopped answer next r (Seq p q) v w s u
  seq_stops stop.Graph d p q v w s u h = absurd (d refl)
  seq_stops stop.Fail d p q v w s u h = (through p (Seq p q) v w s u _ (λ a t r. seq_fails r) h.0, h.1)
  seq_stops stop.Break d p q v w s u h = (through p (Seq p q) v w s u _ (λ a t r. seq_breaks r) h.0, h.1)
  seq_stops stop.Bound d p q v w s u h = stops_through stop.Bound (λ e. cc) (λ e. cc) (λ e. cc) p (Seq p q) v w s u (λ a t x st r. seq_stands r st) h
  seq_stops (stop.Fault i k) d p q v w s u h = stops_through (stop.Fault i k) (λ e. cc) (λ e. cc) (λ e. cc) p (Seq p q) v w s u (λ a t x st r. seq_stands r st) h
  seq_stops stop.NoMemory d p q v w s u h = tt

  -- a mark is no part of a run
  from_mark : (m : ℕ) (p : Command) (v v' w : View) (s u : S) (x : Ending) → HasMarked m v v' → HasRun answer next p v' w s u x → HasRun answer next p v w s u x
  from_mark m p v v' w s u x e h =
      let r : Run v.program p v'.graph h.picks h.trace x = subst (λ (k : Program). Run k p v'.graph h.picks h.trace x) e.stays.program h.makes.run in
      record {
        picks = h.picks;
        trace = h.trace;
        makes = record {
          run = subst (λ (g : Graph). Run v.program p g h.picks h.trace x) e.stays.graph r;
          adds = stay_adds v v' w h.trace e.stays h.makes.adds;
        };
        answers = h.answers;
      }

  to_closed : (f : Graph → Ending) (p : Command) (v w z : View) (s u : S) → HasClosed w z → HasRun answer next p v w s u (f w.graph) → HasRun answer next p v z s u (f z.graph)
  to_closed f p v w z s u e h = record {
    picks = h.picks;
    trace = h.trace;
    makes = record {
      run = subst (λ (g : Graph). Run v.program p v.graph h.picks h.trace (f g)) (sym e.stays.graph) h.makes.run;
      adds = adds_stay v w z h.trace h.makes.adds e.stays;
    };
    answers = h.answers;
  }

  stopped_from_mark : (m : ℕ) (r : Stop) → r ≢ stop.Graph → r ≢ stop.Fail → r ≢ stop.Break → (p : Command) (v v' w : View) (s u : S) → HasMarked m v v' → HasStopped answer next r p v' w s u → HasStopped answer next r p v w s u
  stopped_from_mark m stop.Graph d e n p v v' w s u mk h = absurd (d refl)
  stopped_from_mark m stop.Fail d e n p v v' w s u mk h = absurd (e refl)
  stopped_from_mark m stop.Break d e n p v v' w s u mk h = absurd (n refl)
  stopped_from_mark m stop.Bound d e n p v v' w s u mk h = (h.0, from_mark m p v v' w s u h.0 mk h.1, h.2)
  stopped_from_mark m (stop.Fault i k) d e n p v v' w s u mk h = (h.0, from_mark m p v v' w s u (At h.0 w.graph) mk h.1, h.2)
  stopped_from_mark m stop.NoMemory d e n p v v' w s u mk h = tt

  -- what was run since a mark is taken back, and another part goes on from there
  back_leads : (m : ℕ) (k p q : Command) (v v' w z : View) (s u : S) (x : Ending) → HasMarked m v v' → HasRun answer next k v' w s u x → Keeps v' w → TakesBack m w z → ((a b : List Bool) (t r : List Item) (y : Ending) → Run v.program k v.graph a t x → Run v.program p v.graph b r y → Run v.program q v.graph (a ++ b) (undone t ++ r) y) → Leads p q v z s u
  back_leads m k p q v v' w z s u x e h l b row =
      let j : HasRun answer next k v w s u x = from_mark m k v v' w s u x e h in
      let back : TakenBack v z j.trace = taken_back m v v' w z k j.picks j.trace x e j.makes.adds j.makes.run l b in
      record {
        picks = j.picks;
        trace = undone j.trace;
        adds = back.adds;
        keeps = back.keeps;
        answers = j.answers;
        on = λ c t y r. row j.picks c j.trace t y j.makes.run (subst (λ (g : Graph). Run v.program p g c t y) back.graph r);
      }

  pub if_then_leads : (m : ℕ) (k p q : Command) (v v' w z : View) (s u : S) → HasMarked m v v' → HasStopped answer next stop.Graph k v' w s u → TakesBack m w z → Leads p (If k p q) v z s u
  if_then_leads m k p q v v' w z s u e h b = back_leads m k p (If k p q) v v' w z s u (Gives w.graph) e h.0 h.1 b (λ a c t r y f g. if_then f g refl refl)

  pub if_else_leads : (m : ℕ) (k p q : Command) (v v' w z : View) (s u : S) → HasMarked m v v' → HasStopped answer next stop.Fail k v' w s u → TakesBack m w z → Leads q (If k p q) v z s u
  if_else_leads m k p q v v' w z s u e h b = back_leads m k q (If k p q) v v' w z s u (Fails w.graph) e h.0 h.1 b (λ a c t r y f g. if_else f g refl refl)

  pub try_else_leads : (m : ℕ) (k p q : Command) (v v' w z : View) (s u : S) → HasMarked m v v' → HasStopped answer next stop.Fail k v' w s u → TakesBack m w z → Leads q (Try k p q) v z s u
  try_else_leads m k p q v v' w z s u e h b = back_leads m k q (Try k p q) v v' w z s u (Fails w.graph) e h.0 h.1 b (λ a c t r y f g. try_else f g refl refl)

  pub try_then_leads : (m : ℕ) (k p q : Command) (v v' w z : View) (s u : S) → HasMarked m v v' → HasStopped answer next stop.Graph k v' w s u → HasClosed w z → Leads p (Try k p q) v z s u
  try_then_leads m k p q v v' w z s u e h b =
      let j = to_closed Gives k v w z s u b (from_mark m k v v' w s u (Gives w.graph) e h.0) in
      record { picks = j.picks; trace = j.trace; adds = j.makes.adds; keeps = keeps_closed m v v' w z e h.1 b; answers = j.answers; on = λ c t y r. try_then j.makes.run r refl refl }

  -- a condition does not break
  no_break : (r : Stop) (k : Command) (v w : View) (s u : S) → (MayBreak v.program k → ⊥) → HasStopped answer next r k v w s u → r ≢ stop.Break
  no_break stop.Graph k v w s u n h = λ e. cc
  no_break stop.Fail k v w s u n h = λ e. cc
  no_break stop.Break k v w s u n h = λ e. n (may_break h.0.makes.run refl)
  no_break stop.Bound k v w s u n h = λ e. cc
  no_break (stop.Fault i j) k v w s u n h = λ e. cc
  no_break stop.NoMemory k v w s u n h = λ e. cc

  pub if_stops : (r : Stop) (m : ℕ) (k p q : Command) (v v' w : View) (s u : S) → r ≢ stop.Graph → r ≢ stop.Fail → (MayBreak v.program k → ⊥) → HasMarked m v v' → HasStopped answer next r k v' w s u → HasStopped answer next r (If k p q) v w s u
  if_stops r m k p q v v' w s u d e n mk h =
      let b = no_break r k v' w s u (subst (λ (z : Program). MayBreak z k → ⊥) (sym mk.stays.program) n) h in
      stops_through r d e b k (If k p q) v w s u (λ a t x st f. if_stands f st) (stopped_from_mark m r d e b k v v' w s u mk h)

  pub try_stops : (r : Stop) (m : ℕ) (k p q : Command) (v v' w : View) (s u : S) → r ≢ stop.Graph → r ≢ stop.Fail → (MayBreak v.program k → ⊥) → HasMarked m v v' → HasStopped answer next r k v' w s u → HasStopped answer next r (Try k p q) v w s u
  try_stops r m k p q v v' w s u d e n mk h =
      let b = no_break r k v' w s u (subst (λ (z : Program). MayBreak z k → ⊥) (sym mk.stays.program) n) h in
      stops_through r d e b k (Try k p q) v w s u (λ a t x st f. try_stands f st) (stopped_from_mark m r d e b k v v' w s u mk h)

  -- ---- loops

  pub turn_bound : (p : Command) (v w : View) (s u : S) → HasTurned turned.Bound v w → u ≡ s → HasStopped answer next stop.Bound (Loop p) v w s u
  turn_bound p v w s u h e = (AtTurn w.graph, from_same w h.0, (refl, subst (λ (z : View). z.left ≡ 0) (sym h.0) h.1))
    where
      from_same : (w : View) → w ≡ v → HasRun answer next (Loop p) v w s u (AtTurn w.graph)
      from_same w e' = subst (λ (z : View). HasRun answer next (Loop p) v z s u (AtTurn z.graph)) (sym e') (record { picks = []; trace = []; makes = record { run = loop_stands; adds = adds-nothing v }; answers = e })

  -- a run of a body, from before the turn
  turn_run : (p : Command) (v v' w : View) (s u : S) (x : Ending) → TurnMade v v' → (h : HasRun answer next p v' w s u x) → Run v.program p v.graph h.picks h.trace x
  turn_run p v v' w s u x a h =
      let r : Run v.program p v'.graph h.picks h.trace x = subst (λ (k : Program). Run k p v'.graph h.picks h.trace x) a.adds.program h.makes.run in
      subst (λ (g : Graph). Run v.program p g h.picks h.trace x) a.graph r

  turn_adds : (v v' w : View) (t : List Item) → TurnMade v v' → Adds v' w t → Adds v w (Turned ∷ t)
  turn_adds v v' w t a b = adds-append v v' w (Turned ∷ []) t a.adds b

  pub loop_leads : (m : ℕ) (p : Command) (v v' v'' w z : View) (s u : S) → TurnMade v v' → HasMarked m v' v'' → HasStopped answer next stop.Graph p v'' w s u → HasClosed w z → Leads (Loop p) (Loop p) v z s u
  loop_leads m p v v' v'' w z s u a mk h b =
      let j = to_closed Gives p v' w z s u b (from_mark m p v' v'' w s u (Gives w.graph) mk h.0) in
      record { picks = j.picks; trace = Turned ∷ j.trace; adds = turn_adds v v' z j.trace a j.makes.adds; keeps = keeps_keeps v v' z a.keeps (keeps_closed m v' v'' w z mk h.1 b); answers = j.answers; on = λ c t y r. loop_goes_on (turn_run p v v' z s u _ a j) r refl refl }

  pub loop_broken : (m : ℕ) (p : Command) (v v' v'' w z : View) (s u : S) → TurnMade v v' → HasMarked m v' v'' → HasStopped answer next stop.Break p v'' w s u → HasClosed w z → HasStopped answer next stop.Graph (Loop p) v z s u
  loop_broken m p v v' v'' w z s u a mk h b =
      let j = to_closed Breaks p v' w z s u b (from_mark m p v' v'' w s u (Breaks w.graph) mk h.0) in
      (record { picks = j.picks; trace = Turned ∷ j.trace; makes = record { run = loop_breaks (turn_run p v v' z s u _ a j) refl; adds = turn_adds v v' z j.trace a j.makes.adds }; answers = j.answers }, keeps_keeps v v' z a.keeps (keeps_closed m v' v'' w z mk h.1 b))

  pub loop_ended : (m : ℕ) (p : Command) (v v' v'' w z : View) (s u : S) → TurnMade v v' → HasMarked m v' v'' → HasStopped answer next stop.Fail p v'' w s u → TakesBack m w z → HasStopped answer next stop.Graph (Loop p) v z s u
  loop_ended m p v v' v'' w z s u a mk h b =
      let j = from_mark m p v' v'' w s u (Fails w.graph) mk h.0 in
      let back : TakenBack v' z j.trace = taken_back m v' v'' w z p j.picks j.trace (Fails w.graph) mk j.makes.adds j.makes.run h.1 b in
      let run : Run v.program (Loop p) v.graph j.picks (Turned ∷ undone j.trace) (Gives v.graph) = loop_ends (turn_run p v v' w s u _ a j) refl in
      let same : v.graph ≡ z.graph = sym (back.graph ∙ a.graph) in
      (record { picks = j.picks; trace = Turned ∷ undone j.trace; makes = record { run = subst (λ (g : Graph). Run v.program (Loop p) v.graph j.picks (Turned ∷ undone j.trace) (Gives g)) same run; adds = turn_adds v v' z (undone j.trace) a back.adds }; answers = j.answers }, keeps_keeps v v' z a.keeps back.keeps)

  loop_run_stands : (p : Command) (v v' w : View) (s u : S) (x : Ending) → TurnMade v v' → Stands x → HasRun answer next p v' w s u x → HasRun answer next (Loop p) v w s u x
  loop_run_stands p v v' w s u x a st j = record { picks = j.picks; trace = Turned ∷ j.trace; makes = record { run = loop_body_stands (turn_run p v v' w s u _ a j) st refl; adds = turn_adds v v' w j.trace a j.makes.adds }; answers = j.answers }

  loop_stands_so : (r : Stop) (p : Command) (v v' w : View) (s u : S) → r ≢ stop.Graph → r ≢ stop.Fail → r ≢ stop.Break → TurnMade v v' → HasStopped answer next r p v' w s u → HasStopped answer next r (Loop p) v w s u
  loop_stands_so stop.Graph p v v' w s u d e n a h = absurd (d refl)
  loop_stands_so stop.Fail p v v' w s u d e n a h = absurd (e refl)
  loop_stands_so stop.Break p v v' w s u d e n a h = absurd (n refl)
  loop_stands_so stop.Bound p v v' w s u d e n a h = (h.0, loop_run_stands p v v' w s u h.0 a (stands_spent w h.0 h.2) h.1, h.2)
  loop_stands_so (stop.Fault i k) p v v' w s u d e n a h = (h.0, loop_run_stands p v v' w s u (At h.0 w.graph) a at_call h.1, h.2)
  loop_stands_so stop.NoMemory p v v' w s u d e n a h = tt

  pub loop_stops : (r : Stop) (m : ℕ) (p : Command) (v v' v'' w : View) (s u : S) → r ≢ stop.Graph → r ≢ stop.Fail → r ≢ stop.Break → TurnMade v v' → HasMarked m v' v'' → HasStopped answer next r p v'' w s u → HasStopped answer next r (Loop p) v w s u
  loop_stops r m p v v' v'' w s u d e n a mk h = loop_stands_so r p v v' w s u d e n a (stopped_from_mark m r d e n p v' v'' w s u mk h)

  -- ---- choices and procedures

  pub first_leads : (p q : Command) (v : View) (s y : S) → false ≡ answer s → y ≡ next s → Leads p (Or p q) v v s y
  first_leads p q v s y e f = record { picks = false ∷ []; trace = []; adds = adds-nothing v; keeps = keeps_nothing v; answers = (e, f); on = λ c t x r. or_first r refl }

  pub second_leads : (p q : Command) (v : View) (s y : S) → true ≡ answer s → y ≡ next s → Leads q (Or p q) v v s y
  second_leads p q v s y e f = record { picks = true ∷ []; trace = []; adds = adds-nothing v; keeps = keeps_nothing v; answers = (e, f); on = λ c t x r. or_second r refl }

  pub procedure_leads : (k : ℕ) (body : Command) (v : View) (s : S) → slice_get v.program.procedures k ≡ Some body → Leads body (Procedure k) v v s s
  procedure_leads k body v s e = record { picks = []; trace = []; adds = adds-nothing v; keeps = keeps_nothing v; answers = refl; on = λ c t x r. procedure e r }

  -- ---- commands that stop at once, and calls

  pub skip_stops : (v : View) (s : S) → HasStopped answer next stop.Graph Skip v v s s
  skip_stops v s = (record { picks = []; trace = []; makes = record { run = skips; adds = adds-nothing v }; answers = refl }, keeps_nothing v)

  pub fail_stops : (v : View) (s : S) → HasStopped answer next stop.Fail Fail v v s s
  fail_stops v s = (record { picks = []; trace = []; makes = record { run = fails; adds = adds-nothing v }; answers = refl }, keeps_nothing v)

  pub break_stops : (v : View) (s : S) → HasStopped answer next stop.Break Break v v s s
  break_stops v s = (record { picks = []; trace = []; makes = record { run = breaks; adds = adds-nothing v }; answers = refl }, keeps_nothing v)

  called_so : (c : ℕ) (v w : View) (s : S) (x : Ending) → MakesCall (Call c) v w x → HasRun answer next (Call c) v w s s x
  called_so c v w s x h = record { picks = []; trace = h.trace; makes = h.makes; answers = refl }

  pub call_stops : (c : ℕ) (r : Called) (v w : View) (s : S) → HasCalled c r v w → HasStopped answer next (stop_of_call r) (Call c) v w s s
  call_stops c called.Stepped v w s h = (called_so c v w s _ h.0, h.1)
  call_stops c called.Blocked v w s h = (called_so c v w s _ h.0, h.1)
  call_stops c called.Bound v w s h = (At c w.graph, called_so c v w s _ h.0, ((refl, h.1.0), h.1.1))
  call_stops c (called.Fault r k) v w s h = (c, called_so c v w s _ h.0, h.1)
  call_stops c called.NoMemory v w s h = tt

  repeated_so : (c : ℕ) (v w : View) (s : S) (x : Ending) → MakesCall (Loop (Call c)) v w x → HasRun answer next (Loop (Call c)) v w s s x
  repeated_so c v w s x h = record { picks = []; trace = h.trace; makes = h.makes; answers = refl }

  pub repeat_stops : (c : ℕ) (r : Repeated) (v w : View) (s : S) → HasRepeated c r v w → HasStopped answer next (stop_of r) (Loop (Call c)) v w s s
  repeat_stops c repeated.Ended v w s h = (repeated_so c v w s _ h.0, h.1)
  repeat_stops c repeated.Bound v w s h = (h.0, repeated_so c v w s _ h.1, h.2)
  repeat_stops c (repeated.Fault r k) v w s h = (c, repeated_so c v w s _ h.0, h.1)
  repeat_stops c repeated.NoMemory v w s h = tt

module _ {S : Type 0} (answer : S → Bool) (next : S → S) where
  pub bound_after : (p q : Command) (v w z : View) (s u : S) → Leads answer next p q v w s u → HasStopped answer next stop.Bound p w z u u → HasStopped answer next stop.Bound q v z s u
  bound_after p q v w z s u a b = leads_stopped answer next stop.Bound p q v w z s u u a b
