use Rattle.std.proofs.Common.{refl}
use Rattle.gp_io.proofs.Streams.{longer_bytes}
use Rattle.gp_io.proofs.disk_files.DiskFilesFiles.read.Goals as goal

pub returns-in-Err-TooLong-clause-answer : goal.returns-in-Err-TooLong-clause-answer
returns-in-Err-TooLong-clause-answer g c = let long = longer_bytes c.args.limit in (long.0, tt, long.1, refl)
