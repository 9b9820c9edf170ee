use Rattle.std.proofs.lemmas.Result.{err_from_is_err_and}
use Rattle.gp_reader.proofs.Texts.{tree_fault, scope_refused}
use Rattle.gp_reader.proofs.read.scoped_text.Goals as goal

pub returns-in_err-tree : goal.returns-in_err-tree
returns-in_err-tree c =
    let p = err_from_is_err_and c.from_residual.result c.from_residual.ensures.1 in
    rw (p.1, p.2) (tree_fault c.args.bytes.now c.in_err-tree.field-0.0 c.in_err-tree.ensures)

pub returns-in_err-resolve : goal.returns-in_err-resolve
returns-in_err-resolve c =
    let p = err_from_is_err_and c.from_residual-in_err-resolve.result c.from_residual-in_err-resolve.ensures.1 in
    rw (p.1, p.2) (scope_refused c.args.bytes.now c.in_ok-tree.tree c.in_ok-tree.ensures c.in_err-resolve.field-0.0 c.in_err-resolve.ensures.err)
