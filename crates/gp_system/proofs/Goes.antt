-- A loop over a call that goes on behind some turns.
use Rattle.std.proofs.Common.{◌≡◌, ℕ, ◌<◌, ◌≤◌, [], ◌++◌, refl, subst, ◌∙◌, arith}
use Rattle.gp_syntax.specs.Run.{Call, Loop, Program, Ending, Run}
use Rattle.gp_run.specs.declared.engine.Repeated.{Repeated}
use Rattle.gp_run.specs.declared.engine.Repeated.TheVariants as repeated
use Rattle.gp_run.specs.declared.engine.Called.TheVariants as called
use Rattle.gp_run.specs.declared.engine.Turned.TheVariants as turned
use Rattle.gp_run.specs.Engine.{View, MakesCall, HasCalled, HasTurned, HasRepeated}
use Rattle.gp_run.proofs.Leads.{adds-append, keeps_keeps}
use Rattle.gp_run.proofs.Turns.{Turns, turns_none, turns_more, turns_bound}
use Rattle.gp_system.specs.declared.session.AfterTurn.{AfterTurn}
use Rattle.gp_system.specs.declared.session.AfterTurn.TheVariants.{On, Dear, Came}
use Rattle.gp_system.specs.inside.Viewed.{Shown, view_of}
use Rattle.gp_system.specs.inside.AfterTurn.{GoesOn, IsInTurn, HasGone, still}

module _ (c : ℕ) (v w x : View) (t : Turns c v w) where
  -- the rest of the loop, seen from its beginning
  rest_of_loop : (e : Ending) → MakesCall (Loop (Call c)) w x e → MakesCall (Loop (Call c)) v x e
  rest_of_loop e m =
      let r : Run v.program (Loop (Call c)) w.graph [] m.trace e = subst (λ (p : Program). Run p (Loop (Call c)) w.graph [] m.trace e) t.adds.program m.makes.run in
      record {
        trace = t.trace ++ m.trace;
        makes = record { run = t.so_far.onward [] _ m.trace _ _ refl refl r; adds = adds-append v w x t.trace m.trace t.adds m.makes.adds };
      }

  repeated_on : (r : Repeated) → HasRepeated c r w x → HasRepeated c r v x
  repeated_on repeated.Ended m = (rest_of_loop _ m.0, keeps_keeps v w x t.keeps m.1)
  repeated_on repeated.Bound m = (m.0, rest_of_loop m.0 m.1, m.2)
  repeated_on (repeated.Fault r k) m = (rest_of_loop _ m.0, m.1)
  repeated_on repeated.NoMemory m = tt

pub goes_by : (c : ℕ) (v w : View) → Turns c v w → GoesOn c v w
goes_by c v w t = record { onward = λ r x h. repeated_on c v w x t r h; program = t.adds.program }

pub goes_not : (c : ℕ) (v : View) → GoesOn c v v
goes_not c v = record { onward = λ r x h. h; program = refl }

-- behind a turn with a step, and in a turn
pub goes_on : (c : ℕ) (v w x : View) → HasTurned turned.Made v w → HasCalled c called.Stepped w x → GoesOn c v x
goes_on c v w x a m = goes_by c v x (turns_more c v v w x (turns_none c v) a m)

pub in_turn : (c : ℕ) (v w : View) → HasTurned turned.Made v w → IsInTurn c v w
in_turn c v w a = record { before = v; goes_on = goes_not c v; made = a }

-- the same as a body has it: s is what the session shows as it begins
pub begun_so : (c : ℕ) (s u w : Shown) → s ≡ u → HasTurned turned.Made (view_of s) (view_of w) → IsInTurn c (view_of u) (view_of w)
begun_so c s u w e t = subst (λ (z : Shown). IsInTurn c (view_of z) (view_of w)) e (in_turn c (view_of s) (view_of w) t)

pub bound_so : (c : ℕ) (s u w : Shown) → s ≡ u → HasTurned turned.Bound (view_of s) (view_of w) → HasRepeated c repeated.Bound (view_of u) (view_of w)
bound_so c s u w e t = subst (λ (z : Shown). HasRepeated c repeated.Bound (view_of z) (view_of w)) e (turns_bound c (view_of s) (view_of s) (view_of w) (turns_none c (view_of s)) t)

pub goes_on_all : (c : ℕ) (v w x : View) → GoesOn c v w → GoesOn c w x → GoesOn c v x
goes_on_all c v w x f g = record { onward = λ r y h. f.onward r y (g.onward r y h); program = g.program ∙ f.program }

pub gone_on : (c : ℕ) (s : AfterTurn) (v w x : View) → GoesOn c v w → HasGone c s w x → HasGone c s v x
gone_on c On v w x f g = goes_on_all c v w x f g
gone_on c Dear v w x f g = record { before = g.before; goes_on = goes_on_all c v w g.before f g.goes_on; made = g.made }
gone_on c (Came r) v w x f g = f.onward r x g

-- where it is to go on by the session alone, and by the crew from within a turn
pub alone_on : (c : ℕ) (s t : AfterTurn) (v w x : View) → s ≡ On → HasGone c s v w → HasGone c t w x → HasGone c t v x
alone_on c On t v w x e h f = gone_on c t v w x h f
alone_on c Dear t v w x e h f = absurd cc
alone_on c (Came r) t v w x e h f = absurd cc

pub crew_on : (c : ℕ) (s t : AfterTurn) (v w x : View) → s ≡ Dear → HasGone c s v w → ((u : View) → HasTurned turned.Made u w → HasGone c t u x) → HasGone c t v x
crew_on c On t v w x e h f = absurd cc
crew_on c Dear t v w x e h f = gone_on c t v h.before x h.goes_on (f h.before h.made)
crew_on c (Came r) t v w x e h f = absurd cc

pub still_less : (s : AfterTurn) (k l : ℕ) → s ≡ Dear → k ≤ l → k < still s l
still_less On k l e h = absurd cc
still_less Dear k l e h = omega arith
still_less (Came r) k l e h = absurd cc
