-- Runs of a whole program.
use Rattle.std.proofs.Common.{◌≡◌, ℕ, ◌+◌, Bool, true, false, List, length, Option, Some, None, refl, sym, ap, subst, ◌∙◌, arith}
use Rattle.std.specs.Option.{option_map}
use Rattle.gp_values.specs.Graph.{Graph}
use Rattle.gp_syntax.specs.declared.command.ProgramParts.{ProgramParts}
use Rattle.gp_syntax.specs.declared.kinds.NumberKind.{NumberKind}
use Rattle.gp_syntax.specs.Run.{Program, Item, Ending, Gives, Fails, At, live, counted, HasFaultyCall, MayGoOn}
use Rattle.gp_syntax.specs.Tree.{program_of_tree}
use Rattle.gp_journal.specs.Journal.{Kept, items_of}
use Rattle.gp_run.specs.Engine.{View, kept_with}
use Rattle.gp_run.proofs.Leads.{run_live}
use Rattle.gp_run.specs.Finished as finished
use Rattle.gp_run.specs.Finished.{HasFinished}
use Rattle.gp_run.specs.declared.interpreter.Finish.{Finish}
use Rattle.gp_run.specs.declared.interpreter.Finish.TheVariants as finish
use Rattle.gp_system.specs.declared.outcome.Ran.{Ran}
use Rattle.gp_system.specs.declared.outcome.Outcome.TheVariants as outcome
use Rattle.gp_system.specs.Ended.{kept_if, HasRun, HasSpent, HasEnded}
use Rattle.gp_system.specs.inside.Finishing.{outcome_of}
use Rattle.gp_system.specs.inside.Viewed.{Shown, view_of, begun, none_if, items_in}

-- what a run leaves, and what it shows at its end
record Leaves (r : Ran) (n : Shown) : Type 0 where
  graph : r.graph.graph ≡ n.trail.graph
  live_steps : r.live ≡ n.live
  items : items_in r.items ≡ n.kept

left_items : (o : Option Kept) → option_map (λ (k : Kept). items_of k.items) o ≡ option_map items_of (items_in o)
left_items None = refl
left_items (Some k) = refl

-- where items are kept from the beginning, they are the trace
kept_now : (keeps : Bool) (t : List Item) → kept_with (option_map items_of (none_if keeps)) t ≡ kept_if keeps t
kept_now true t = refl
kept_now false t = refl

module _ {S : Type 0} (answer : S → Bool) (next : S → S) (p : ProgramParts) (host : Graph) (bound : ℕ) (keeps : Bool) (s u : S) where
  abbrev at_first : View
  at_first = view_of (begun p host bound (none_if keeps))

  abbrev Made : Shown → Ending → Type 0
  Made n x = finished.HasRun answer next (program_of_tree p).main at_first (view_of n) s u x

  module _ (n : Shown) (r : Ran) (l : Leaves r n) where
    abbrev has_run : (x : Ending) → Made n x → HasRun answer next (program_of_tree p) host bound keeps s u r x
    has_run x a = record {
      picks = a.picks;
      trace = a.trace;
      run = a.makes.run;
      answers = a.answers;
      within = let e = a.makes.adds.left in omega arith;
      live_steps = l.live_steps ∙ a.makes.adds.live ∙ run_live 0 a.makes.run ∙ (let e : 0 + length (live a.trace) ≡ length (live a.trace) = omega arith in e);
      kept = left_items r.items ∙ ap (option_map items_of) l.items ∙ a.makes.adds.kept ∙ kept_now keeps a.trace;
    }

    run_at : (f : Graph → Ending) → Made n (f n.trail.graph) → HasRun answer next (program_of_tree p) host bound keeps s u r (f r.graph.graph)
    run_at f a = subst (λ (g : Graph). HasRun answer next (program_of_tree p) host bound keeps s u r (f g)) (sym l.graph) (has_run (f n.trail.graph) a)

    at_bound : HasFinished answer next finish.Bound (program_of_tree p).main at_first (view_of n) s u → HasSpent answer next (program_of_tree p) host bound keeps s u r
    at_bound a = record {
      ending = a.0;
      has_run = has_run a.0 a.1;
      may_go_on = subst (λ (g : Graph). MayGoOn (program_of_tree p) g a.0) (sym l.graph) (subst (λ (q : Program). MayGoOn q n.trail.graph a.0) a.1.makes.adds.program a.2.0);
      spent = let e = a.1.makes.adds.left in let z = a.2.1 in (let f : counted a.1.trace ≡ bound = omega arith in f);
    }

    at_fault : (rule : ℕ) (kind : NumberKind) → HasFinished answer next (finish.Fault rule kind) (program_of_tree p).main at_first (view_of n) s u → HasEnded answer next (program_of_tree p) host bound keeps s u (outcome.Fault r rule kind)
    at_fault rule kind a = (a.0, run_at (At a.0) a.1, subst (λ (g : Graph). HasFaultyCall (program_of_tree p) a.0 rule kind g) (sym l.graph) (subst (λ (q : Program). HasFaultyCall q a.0 rule kind n.trail.graph) a.1.makes.adds.program a.2))

    ends : (x : Finish) → HasFinished answer next x (program_of_tree p).main at_first (view_of n) s u → HasEnded answer next (program_of_tree p) host bound keeps s u (outcome_of x r)
    ends finish.Graph a = run_at Gives a
    ends finish.Fail a = run_at Fails a
    ends finish.Bound a = at_bound a
    ends (finish.Fault rule kind) a = at_fault rule kind a
    ends finish.NoMemory a = a

  pub ends_so : (x : Finish) (b n : Shown) (r : Ran) → b ≡ begun p host bound (none_if keeps) → r.graph.graph ≡ n.trail.graph → r.live ≡ n.live → items_in r.items ≡ n.kept → HasFinished answer next x (view_of b).program.main (view_of b) (view_of n) s u
      → HasEnded answer next (program_of_tree p) host bound keeps s u (outcome_of x r)
  ends_so x b n r e g v i a = ends n r (record { graph = g; live_steps = v; items = i }) x (subst (λ (y : Shown). HasFinished answer next x (view_of y).program.main (view_of y) (view_of n) s u) e a)
