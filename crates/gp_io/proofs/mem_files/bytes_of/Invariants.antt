use Rattle.std.proofs.Common.{◌≡◌, drop}
use Rattle.std.specs.FinMap as map
use Rattle.gp_io.specs.Stored.{content_of}
use Rattle.gp_io.proofs.mem_files.bytes_of.Given as goal

-- the files that are left have under the name what all have
abbrev pub invariant-loop-known : goal.invariant-loop-known
invariant-loop-known l = map.get (content_of (drop l.known-index l.files)) l.name ≡ map.get (content_of l.files) l.name
