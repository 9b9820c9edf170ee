use Rattle.std.proofs.Common.{rules}
use Rattle.gp_cli.proofs.Pieces.{writes_one}
use Rattle.gp_cli.proofs.deliver.write_piece.Goals as goal

pub returns-in-len1-up : goal.returns-in-len1-up
returns-in-len1-up g c = search (rules, writes_one)
