use Rattle.gp_cli.specs.Loads.{too_long, unread}
use Rattle.gp_cli.proofs.Loads.{read_cause}
use Rattle.gp_cli.proofs.files.read_file.Goals as goal

pub returns-in-Err-TooLong-clause-reads : goal.returns-in-Err-TooLong-clause-reads
returns-in-Err-TooLong-clause-reads g c =
    let a = rw c.in-Err-TooLong.field-0-is at c.in-Err-TooLong.ensures.answer in
    too_long (record { bytes = a.0; file = a.1; long = a.2 })

pub returns-in-Err-Failed-clause-reads : goal.returns-in-Err-Failed-clause-reads
returns-in-Err-Failed-clause-reads g c =
    let a = rw c.in-Err-Failed.field-0-is at c.in-Err-Failed.ensures.answer in
    unread (read_cause _ _ _ a)
