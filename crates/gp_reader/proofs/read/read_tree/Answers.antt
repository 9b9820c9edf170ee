use Rattle.std.proofs.Common.{List, subst}
use Rattle.std.proofs.lemmas.Result.{err_from_is_err_and}
use Rattle.gp_tokens.specs.declared.token.Token.{Token}
use Rattle.gp_reader.specs.inside.Stages.{IsParsed}
use Rattle.gp_reader.proofs.Texts.{lex_refused}
use Rattle.gp_reader.proofs.read.read_tree.Goals as goal

pub returns-in_err-tokens : goal.returns-in_err-tokens
returns-in_err-tokens c =
    let p = err_from_is_err_and c.from_residual.result c.from_residual.ensures.1 in
    rw (p.1, p.2) (lex_refused c.args.bytes.now c.in_err-tokens.field-0.0 c.in_err-tokens.ensures.gives)

pub returns : goal.returns
returns c =
    subst (λ (ts : List Token). IsParsed c.args.bytes.now ts c.tree_of_tokens.result) c.deref.ensures.value c.tree_of_tokens.ensures c.in_ok-tokens.ensures.gives
