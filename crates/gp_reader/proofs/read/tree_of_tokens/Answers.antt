use Rattle.gp_reader.proofs.Texts.{tree_read, tree_refused}
use Rattle.gp_reader.proofs.read.tree_of_tokens.Goals as goal

pub returns-in-Ok : goal.returns-in-Ok
returns-in-Ok c = λ lexed. tree_read _ _ lexed _ c.in-Ok.ensures

pub returns-in-Err : goal.returns-in-Err
returns-in-Err c = λ lexed. rw c.fault_of_text.ensures (tree_refused _ _ lexed c.in-Err.fault c.in-Err.ensures)
