-- The numbers that the process may end with.
use Rattle.std.specs.Prelude.{ℕ}
use Rattle.gp_cli.specs.declared.status.Status.{Status}
use Rattle.gp_cli.specs.declared.status.Status.TheVariants as statuses

abbrev pub status_code : Status → ℕ
status_code statuses.Graph = 0
status_code statuses.Fail = 1
status_code statuses.Derivation = 0
status_code statuses.NoDerivation = 1
status_code statuses.Formatted = 0
status_code statuses.Walked = 0
status_code statuses.Words = 2
status_code statuses.Program = 3
status_code statuses.Host = 4
status_code statuses.Bound = 5
status_code statuses.Number = 6
status_code statuses.NoMemory = 7
status_code statuses.Read = 8
status_code statuses.Write = 9
status_code statuses.Trace = 10
status_code statuses.Script = 11
