use Rattle.std.proofs.Common.{◌≡◌, ◌++◌, take}
use Rattle.std.specs.Prelude.{flat_map}
use Rattle.gp_reader.proofs.Trees.{calls_by}
use Rattle.gp_reader.proofs.calls.+push_calls.Given as goal

abbrev pub invariant-push_all_calls-loop-command : goal.invariant-push_all_calls-loop-command
invariant-push_all_calls-loop-command l = l.called.items ≡ l.fn.called.items ++ flat_map calls_by (take l.command-index l.commands)
