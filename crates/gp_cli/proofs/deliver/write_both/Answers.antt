use Rattle.gp_io.specs.Outside.{piece_of}
use Rattle.gp_cli.proofs.Pieces.{writes_less, writes_more}
use Rattle.gp_cli.proofs.deliver.write_both.Goals as goal

pub returns-in-Err : goal.returns-in-Err
returns-in-Err g c = writes_less _ _ (piece_of c.args.first.now) (piece_of c.args.second.now) _ c.in-Err.ensures

pub returns-in-Ok : goal.returns-in-Ok
returns-in-Ok g c = writes_more _ _ _ (piece_of c.args.first.now) (piece_of c.args.second.now) _ _ c.in-Ok.ensures c.write_piece-in-Ok.ensures
