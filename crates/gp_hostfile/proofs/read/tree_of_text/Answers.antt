use Rattle.std.proofs.lemmas.Result.{err_from_is_err_and}
use Rattle.gp_hostfile.proofs.Hosts.{lex_refused, tree_answered}
use Rattle.gp_hostfile.proofs.read.tree_of_text.Goals as goal

pub returns-in_err-tokens : goal.returns-in_err-tokens
returns-in_err-tokens c =
    let p = err_from_is_err_and c.from_residual.result c.from_residual.ensures.1 in
    rw (p.1, p.2) (lex_refused c.args.text.now c.in_err-tokens.field-0.0 c.in_err-tokens.ensures)

pub returns : goal.returns
returns c = tree_answered c.args.text.now c.in_ok-tokens.tokens c.in_ok-tokens.ensures c.tree_of_tokens.result c.tree_of_tokens.ensures
