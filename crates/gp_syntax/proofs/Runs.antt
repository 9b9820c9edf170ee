-- A run's trace leads to the graph at which it ends.
use Rattle.std.proofs.Common.{Bool, List}
use Rattle.gp_values.specs.Graph.{Graph}
use Rattle.gp_syntax.specs.Run.{Command, Program, Item, Ending, graph_at, Run, call_steps, call_fails, call_stands, seq, seq_fails, seq_breaks, seq_stands, if_then, if_else, if_stands, try_then, try_else, try_stands, loop_stands, loop_goes_on, loop_ends, loop_breaks, loop_body_stands, or_first, or_second, skips, fails, breaks, procedure}
use Rattle.gp_syntax.specs.Laws.{TraceReplays}
use Rattle.gp_syntax.proofs.Traces.{Traced, traced-nothing, traced-step, traced-append, traced-undone, traced-turned, traced_as}

-- by the rows of the relation, one clause each
pub traced : {program : Program} {p : Command} {g : Graph} {a : List Bool} {t : List Item} {x : Ending} → Run program p g a t x → Traced program.rules g t (graph_at x)
traced (call_steps s h) = traced-step h.is_rule h.step
traced (call_fails s h) = traced-nothing
traced call_stands = traced-nothing
traced (seq r s c e) = traced_as e (traced-append (traced r) (traced s))
traced (seq_fails r) = traced r
traced (seq_breaks r) = traced r
traced (seq_stands r s) = traced r
traced (if_then r s c e) = traced_as e (traced-append (traced-undone (traced r)) (traced s))
traced (if_else r s c e) = traced_as e (traced-append (traced-undone (traced r)) (traced s))
traced (if_stands r s) = traced r
traced (try_then r s c e) = traced_as e (traced-append (traced r) (traced s))
traced (try_else r s c e) = traced_as e (traced-append (traced-undone (traced r)) (traced s))
traced (try_stands r s) = traced r
traced loop_stands = traced-nothing
traced (loop_goes_on r s c e) = traced_as e (traced-turned (traced-append (traced r) (traced s)))
traced (loop_ends r e) = traced_as e (traced-turned (traced-undone (traced r)))
traced (loop_breaks r e) = traced_as e (traced-turned (traced r))
traced (loop_body_stands r s e) = traced_as e (traced-turned (traced r))
traced (or_first r c) = traced r
traced (or_second r c) = traced r
traced skips = traced-nothing
traced fails = traced-nothing
traced breaks = traced-nothing
traced (procedure s r) = traced r

-- the law, from what holds of the trace
pub replays : (program : Program) (p : Command) (g : Graph) (picks : List Bool) (t : List Item) (x : Ending) → Run program p g picks t x → TraceReplays program g t x
replays program p g picks t x r = record { whole = (traced r).whole; beginnings = (traced r).beginnings }
