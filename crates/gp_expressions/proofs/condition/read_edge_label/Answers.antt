use Rattle.std.proofs.Common.{rules, ◌≡◌, true, Some}
use Rattle.std.proofs.lemmas.Result.{err_from_is_err_and}
use Rattle.gp_tokens.specs.Reading.{reader_of, token, begins, made, ◌and◌}
use Rattle.gp_tokens.specs.Shape.{second_of}
use Rattle.gp_tokens.specs.SignWants.{comma}
use Rattle.gp_expressions.specs.Expressions.{list}
use Rattle.gp_expressions.specs.Conditions.{label, edge_label}
use Rattle.gp_expressions.proofs.Readings.{part_fails, sign_fails}
use Rattle.gp_expressions.proofs.condition.read_edge_label.Goals as goal

pub returns-in_err-label : goal.returns-in_err-label
unfolding edge_label
returns-in_err-label c =
    let p = err_from_is_err_and c.from_residual.result c.from_residual.ensures.1 in
    let b : begins comma c.args.tokens.now ≡ true = search rules in
    let marked = reader_of (label (list c.args.lists)) in
    let e = c.in_err-label.field-0.0 in
    let h = part_fails second_of (token comma and marked) c.args.tokens.now e (sign_fails comma marked c.args.tokens.now c.eat.new.self e b c.eat.ensures.left c.in_err-label.ensures) in
    rw (p.1, p.2) (rw b (part_fails Some (made second_of (token comma and marked)) c.args.tokens.now e h))
