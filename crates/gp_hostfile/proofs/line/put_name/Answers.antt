use Rattle.std.proofs.Common.{◌≡◌, ◌++◌, refl}
use Rattle.gp_hostfile.proofs.Puts.{and_then, told}
use Rattle.gp_hostfile.proofs.line.put_name.Goals as goal

pub returns : goal.returns
returns c =
    let e : c.args.kind.now ++ c.args.name.now ≡ c.args.kind.now ++ c.as_bytes.result.now = rw c.as_bytes.ensures refl in
    told e (and_then c.put.ensures c.put-2.ensures)
