use Rattle.std.proofs.Common.{◌≤◌, ◌<◌, ◌-◌, vec_len}
use Rattle.std.specs.Io.KnownBytes.{Consumes}
use Rattle.gp_io.proofs.disk_files.read_all.Given as goal

-- what was read is within the limit, and is the front of what the reader had
abbrev pub invariant-each : goal.invariant-each
invariant-each g l = record {
  room : 0 < vec_len l.chunk;
  within : vec_len l.bytes ≤ l.limit;
  front : Consumes (g.R.Read.remaining l.initial.reader) (g.R.Read.remaining l.reader) l.bytes.items;
}

abbrev pub decreases-each : goal.decreases-each
decreases-each g l = l.limit - vec_len l.bytes
