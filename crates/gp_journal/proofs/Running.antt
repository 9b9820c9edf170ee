-- The trace of a run leads a trail from where the run begins to where it ends.
use Rattle.std.proofs.Common.{◌≡◌, ℕ, zero, suc, ◌+◌, ◌-◌, ◌≤◌, Bool, List, [], ◌∷◌, ◌++◌, length, Some, slice_get, refl, sym, ap, subst, ◌∙◌, arith, length-append}
use Rattle.gp_values.specs.Graph.{Graph}
use Rattle.gp_syntax.specs.Rule.{Rule, Found}
use Rattle.gp_syntax.specs.Step.{Step}
use Rattle.gp_syntax.specs.Run.{Command, Program, Item, Stepped, Turned, Back, Ending, graph_at, live, undone, Run, call_steps, call_fails, call_stands, seq, seq_fails, seq_breaks, seq_stands, if_then, if_else, if_stands, try_then, try_else, try_stands, loop_stands, loop_goes_on, loop_ends, loop_breaks, loop_body_stands, or_first, or_second, skips, fails, breaks, procedure}
use Rattle.gp_syntax.specs.Replay.{BacksFit}
use Rattle.gp_syntax.proofs.Traces.{live-append, live-undone, fits-append, fits-undone}
use Rattle.gp_journal.specs.Trail.{Trail, fresh, led, back_by}
use Rattle.gp_journal.specs.Trail as trail
use Rattle.gp_journal.specs.Leads.{StepsBy, Leads}
use Rattle.gp_journal.specs.Laws.{RunsLead}

-- the items lead the trail to one at this graph, from which taking back its live steps leads here again
pub record Goes (rules : List Rule) (t : List Item) (v : Trail) (h : Graph) : Type 0 where
  pub end : Trail
  pub leads : Leads rules t v end
  pub graph : end.graph ≡ h
  pub deep : length end.before ≡ length v.before + length (live t)
  pub back : back_by (length (live t)) end ≡ v

-- from wherever a trail is at this graph
pub record Led (rules : List Rule) (g : Graph) (t : List Item) (h : Graph) : Type 0 where
  pub fits : BacksFit 0 t
  pub from : (v : Trail) → v.graph ≡ g → Goes rules t v h

join : (rules : List Rule) (is js : List Item) (t v u : Trail) → Leads rules is t v → Leads rules js v u → Leads rules (is ++ js) t u
join rules [] js t v u a b = subst (λ (x : Trail). Leads rules js x u) a b
join rules (i ∷ is) js t v u a b = (a.0, a.1, join rules is js a.0 v u a.2 b)

back_more : (m n : ℕ) (t : Trail) → back_by (m + n) t ≡ back_by n (back_by m t)
back_more zero n t = ap (λ (k : ℕ). back_by k t) (let e : zero + n ≡ n = omega arith in e)
back_more (suc m) n t = ap (λ (k : ℕ). back_by k t) (let e : suc m + n ≡ suc (m + n) = omega arith in e) ∙ back_more m n (trail.undone t)

led-nothing : {rules : List Rule} {g : Graph} → Led rules g [] g
led-nothing {rules} {g} = record { fits = tt; from = λ v e. record { end = v; leads = refl; graph = e; deep = omega arith; back = refl } }

led-step : {rules : List Rule} {g h : Graph} {m : Found} {r : Rule} → slice_get rules m.rule ≡ Some r → Step r g m h → Led rules g (Stepped m ∷ []) h
led-step {rules} {g} {h} {m} {r} e s = record {
  fits = tt;
  from = λ v at.
      let by : StepsBy rules v.graph m h = record { rule = r; is_rule = e; step = subst (λ (x : Graph). Step r x m h) (sym at) s } in
      record { end = led v h; leads = (led v h, (h, by, refl), refl); graph = refl; deep = omega arith; back = refl };
}

-- a trace, and then a further one
led-append : {rules : List Rule} {g h k : Graph} {t u : List Item} → Led rules g t h → Led rules h u k → Led rules g (t ++ u) k
led-append {rules} {g} {h} {k} {t} {u} a b = record {
  fits = fits-append t u a.fits b.fits;
  from = λ v at.
      let x = a.from v at in
      let y = b.from x.end x.graph in
      let long : length (live (t ++ u)) ≡ length (live u) + length (live t) = let e = ap (λ (ms : List Found). length ms) (live-append t u b.fits) ∙ length-append (live t) (live u) in omega arith in
      record {
        end = y.end;
        leads = join rules t u v x.end y.end x.leads y.leads;
        graph = y.graph;
        deep = omega (arith, x.deep, y.deep);
        back = ap (λ (n : ℕ). back_by n y.end) long ∙ back_more (length (live u)) (length (live t)) y.end ∙ ap (back_by (length (live t))) y.back ∙ x.back;
      };
}

-- a trace, and then what takes it back
led-undone : {rules : List Rule} {g h : Graph} {t : List Item} → Led rules g t h → Led rules g (undone t) g
led-undone {rules} {g} {h} {t} a = record {
  fits = fits-undone t a.fits;
  from = λ v at.
      let x = a.from v at in
      let none : length (live (undone t)) ≡ 0 = ap (λ (ms : List Found). length ms) (live-undone t) in
      let within : length (live t) ≤ length x.end.before = omega (arith, x.deep) in
      record {
        end = v;
        leads = join rules t (Back (length (live t)) ∷ []) v x.end v x.leads (v, (within, sym x.back), refl);
        graph = at;
        deep = omega (arith, none);
        back = ap (λ (n : ℕ). back_by n v) none;
      };
}

-- a turn, and then a trace
led-turned : {rules : List Rule} {g h : Graph} {t : List Item} → Led rules g t h → Led rules g (Turned ∷ t) h
led-turned {rules} {g} {h} {t} a = record {
  fits = a.fits;
  from = λ v at. let x = a.from v at in record { end = x.end; leads = (v, refl, x.leads); graph = x.graph; deep = x.deep; back = x.back };
}

led_as : {rules : List Rule} {g h : Graph} {t u : List Item} → u ≡ t → Led rules g t h → Led rules g u h
led_as {rules} {g} {h} e a = subst (λ (x : List Item). Led rules g x h) (sym e) a

-- by the rows of the relation, one clause each
run_led : {program : Program} {p : Command} {g : Graph} {a : List Bool} {t : List Item} {x : Ending} → Run program p g a t x → Led program.rules g t (graph_at x)
run_led (call_steps s h) = led-step h.is_rule h.step
run_led (call_fails s h) = led-nothing
run_led call_stands = led-nothing
run_led (seq r s c e) = led_as e (led-append (run_led r) (run_led s))
run_led (seq_fails r) = run_led r
run_led (seq_breaks r) = run_led r
run_led (seq_stands r s) = run_led r
run_led (if_then r s c e) = led_as e (led-append (led-undone (run_led r)) (run_led s))
run_led (if_else r s c e) = led_as e (led-append (led-undone (run_led r)) (run_led s))
run_led (if_stands r s) = run_led r
run_led (try_then r s c e) = led_as e (led-append (run_led r) (run_led s))
run_led (try_else r s c e) = led_as e (led-append (led-undone (run_led r)) (run_led s))
run_led (try_stands r s) = run_led r
run_led loop_stands = led-nothing
run_led (loop_goes_on r s c e) = led_as e (led-turned (led-append (run_led r) (run_led s)))
run_led (loop_ends r e) = led_as e (led-turned (led-undone (run_led r)))
run_led (loop_breaks r e) = led_as e (led-turned (run_led r))
run_led (loop_body_stands r s e) = led_as e (led-turned (run_led r))
run_led (or_first r c) = run_led r
run_led (or_second r c) = run_led r
run_led skips = led-nothing
run_led fails = led-nothing
run_led breaks = led-nothing
run_led (procedure s r) = run_led r

pub all_lead : RunsLead
all_lead program p g picks t x r = let a = (run_led r).from (fresh g) refl in record { end = a.end; leads = a.leads; graph = a.graph }
