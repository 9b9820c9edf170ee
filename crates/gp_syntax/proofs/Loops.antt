-- A loop's run, turn by turn from the front: what code that runs a loop knows at each turn, and how it ends.
use Rattle.std.proofs.Common.{◌≡◌, ℕ, Bool, List, [], ◌∷◌, ◌++◌, Some, slice_get, refl, sym, subst, ◌∙◌, append_assoc, append-nil}
use Rattle.gp_values.specs.Graph.{Graph}
use Rattle.gp_syntax.specs.Rule.{Found}
use Rattle.gp_syntax.specs.Step.{CallsTo, Blocked}
use Rattle.gp_syntax.specs.Run.{Command, Call, Loop, Program, Item, Stepped, Turned, Back, Ending, Gives, AtTurn, Run, call_steps, call_fails, loop_stands, loop_goes_on, loop_ends}

-- After these picks and items of the loop `p!` it stands at a turn with the graph h: whatever it does from there, it
-- does from g.
pub record SoFar (program : Program) (p : Command) (g : Graph) (picks : List Bool) (t : List Item) (h : Graph) : Type 0 where
  pub onward : (b c : List Bool) (u v : List Item) (x : Ending) → c ≡ picks ++ b → v ≡ t ++ u → Run program (Loop p) h b u x → Run program (Loop p) g c v x

-- before the first turn
pub at_first : {program : Program} {p : Command} {g : Graph} → SoFar program p g [] [] g
at_first {program} {p} {g} = record {
  onward = λ b c u v x d e r. subst (λ (z : List Item). Run program (Loop p) g c z x) (sym e) (subst (λ (z : List Bool). Run program (Loop p) g z u x) (sym d) r);
}

-- one turn more
pub one_turn : {program : Program} {p : Command} {g h k : Graph} {a b : List Bool} {t s : List Item} → SoFar program p g a t h → Run program p h b s (Gives k) → SoFar program p g (a ++ b) (t ++ Turned ∷ s) k
one_turn {program} {p} {g} {h} {k} {a} {b} {t} {s} f r = record {
  onward = λ e c u v x d i o. f.onward (b ++ e) c (Turned ∷ (s ++ u)) v x (d ∙ append_assoc a b e) (i ∙ append_assoc t (Turned ∷ s) u) (loop_goes_on r o refl refl);
}

-- one turn more of a call
pub one_step : {program : Program} {c : ℕ} {set : List ℕ} {g h k : Graph} {m : Found} {a : List Bool} {t : List Item} → SoFar program (Call c) g a t h → slice_get program.sets c ≡ Some set → CallsTo program.rules set h m k →
    SoFar program (Call c) g a (t ++ Turned ∷ Stepped m ∷ []) k
one_step {program} {c} {g = g} {k = k} {m = m} {a = a} {t = t} f s h = subst (λ (z : List Bool). SoFar program (Call c) g z (t ++ Turned ∷ Stepped m ∷ []) k) (append-nil a) (one_turn f (call_steps s h))

-- the loop stands before its next turn
pub at_turn_now : {program : Program} {p : Command} {g h : Graph} {a : List Bool} {t : List Item} → SoFar program p g a t h → Run program (Loop p) g a t (AtTurn h)
at_turn_now {a = a} {t = t} f = f.onward [] a [] t _ (sym (append-nil a)) (sym (append-nil t)) loop_stands

-- the loop over a call ends, where its set is blocked
pub ended : {program : Program} {c : ℕ} {set : List ℕ} {g h : Graph} {a : List Bool} {t : List Item} → SoFar program (Call c) g a t h → slice_get program.sets c ≡ Some set → Blocked program.rules set h →
    Run program (Loop (Call c)) g a (t ++ Turned ∷ Back 0 ∷ []) (Gives h)
ended {a = a} f s b = f.onward [] a (Turned ∷ Back 0 ∷ []) _ _ (sym (append-nil a)) refl (loop_ends (call_fails s b) refl)
