-- What small commands do, one example each.
use Rattle.std.proofs.Common.{◌<◌, false, [], ◌∷◌, refl, arith}
use Rattle.std.specs.Prelude.{pos}
use Rattle.gp_values.specs.declared.marks.NodeMark.TheVariants as node_marks
use Rattle.gp_syntax.specs.declared.kinds.VariableType.TheVariants as types
use Rattle.gp_syntax.specs.Expression.{Marked, Variable, Number, Plus}
use Rattle.gp_syntax.specs.Step.{Step}
use Rattle.gp_syntax.specs.Run.{Run, Call, Stepped, Gives, Fails, call_steps, call_fails, seq, seq_fails, seq_breaks, if_then, if_else, try_then, try_else, or_first, or_second, procedure, loop_stands, loop_goes_on, loop_ends, loop_breaks, skips, fails, breaks}
use Rattle.gp_syntax.specs.Rows.{plain, del, inc, program, start, raised, no_nodes, at_first, IfTakesBack, TryTakesBack, FailedBodyIsTakenBack, BreakKeepsBody, EmptySetEndsLoop, SkipLoopStands, raised_twice, ThenBegins, ElseBegins, FirstPartEnds, OrTakesEither, ProceduresRun}
use Rattle.gp_syntax.proofs.Small.{step_deleted, step_kept, blocked_nothing}
use Rattle.gp_syntax.proofs.Blocked.{red_blocked}

-- `del` at node 0
deletes : Step del start (at_first 0) no_nodes
deletes = step_deleted types.List (Marked node_marks.None) false (plain (pos 1)) 0 refl refl refl

-- `inc` at node 0
raises : Step inc start (at_first 1) raised
raises = step_kept types.Int (Marked node_marks.None) false (Plus (Variable 0) (Number (pos 1))) (Marked node_marks.None) false (plain (pos 1)) (plain (pos 2)) 1 refl refl refl refl refl refl

-- a call of `del`
del_call : Run program (Call 0) start [] (Stepped (at_first 0) ∷ []) (Gives no_nodes)
del_call = call_steps refl (record { in_set = (0, let l : 0 < 1 = omega arith in l, refl); rule = del; is_rule = refl; step = deletes })

-- a call of `inc`
inc_call : Run program (Call 1) start [] (Stepped (at_first 1) ∷ []) (Gives raised)
inc_call = call_steps refl (record { in_set = (0, let l : 0 < 1 = omega arith in l, refl); rule = inc; is_rule = refl; step = raises })

-- a call of `red`
red_call : Run program (Call 2) raised [] [] (Fails raised)
red_call = call_fails refl red_blocked

-- the condition is taken back, and `then` begins at the first graph
pub if_takes_back : IfTakesBack
if_takes_back = if_then del_call skips refl refl

-- a condition that failed is taken back
pub try_takes_back : TryTakesBack
try_takes_back = try_else (seq del_call fails refl refl) skips refl refl

-- a body that failed is taken back, and the loop ends
pub failed_body_is_taken_back : FailedBodyIsTakenBack
failed_body_is_taken_back = loop_ends (seq inc_call red_call refl refl) refl

-- a body that breaks is kept
pub break_keeps_body : BreakKeepsBody
break_keeps_body = loop_breaks (seq inc_call breaks refl refl) refl

-- a call of no rule fails, with nothing to take back
pub empty_set_ends_loop : EmptySetEndsLoop
empty_set_ends_loop = loop_ends (call_fails refl (blocked_nothing program.rules start)) refl

-- after a turn that does nothing the next one is due
pub skip_loop_stands : SkipLoopStands
skip_loop_stands = loop_goes_on skips loop_stands refl refl

-- `inc` once more
raises_again : Step inc raised (at_first 1) raised_twice
raises_again = step_kept types.Int (Marked node_marks.None) false (Plus (Variable 0) (Number (pos 1))) (Marked node_marks.None) false (plain (pos 2)) (plain (pos 3)) 1 refl refl refl refl refl refl

second_call : Run program (Call 1) raised [] (Stepped (at_first 1) ∷ []) (Gives raised_twice)
second_call = call_steps refl (record { in_set = (0, let l : 0 < 1 = omega arith in l, refl); rule = inc; is_rule = refl; step = raises_again })

pub then_begins : ThenBegins
then_begins = record { of_try = try_then inc_call second_call refl refl; of_if = if_then inc_call inc_call refl refl }

pub else_begins : ElseBegins
else_begins = if_else (seq del_call fails refl refl) inc_call refl refl

pub first_part_ends : FirstPartEnds
first_part_ends = record { by_fail = seq_fails fails; by_break = loop_breaks (seq_breaks breaks) refl }

pub or_takes_either : OrTakesEither
or_takes_either = record { first = or_first skips refl; second = or_second fails refl }

pub procedures_run : ProceduresRun
procedures_run = record { called = procedure refl inc_call; breaks = loop_breaks (procedure refl (seq skips breaks refl refl)) refl }
