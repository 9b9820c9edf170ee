use Rattle.std.proofs.Common.{rules, ◌≡◌, true}
use Rattle.std.proofs.lemmas.Result.{err_from_is_err_and}
use Rattle.gp_tokens.specs.declared.want.Want.TheVariants as wants
use Rattle.gp_tokens.specs.Reading.{reader_of, token, begins, ◌and◌}
use Rattle.gp_tokens.specs.SignWants.{close_sign, comma}
use Rattle.gp_expressions.specs.Expressions.{list, name}
use Rattle.gp_expressions.specs.Conditions.{label}
use Rattle.gp_expressions.proofs.Readings.{part_fails, first_fails, later_fails, sign_fails}
use Rattle.gp_program.specs.inside.EdgeParts.{ends_of, edge_ends}
use Rattle.gp_program.proofs.graph.read_ends.Goals as goal

pub returns-in_err-label : goal.returns-in_err-label
unfolding edge_ends
returns-in_err-label c =
    let p = err_from_is_err_and c.from_residual-in_err-label.result c.from_residual-in_err-label.ensures.1 in
    let b : begins comma c.read_name.new.tokens ≡ true = search rules in
    let d : begins comma c.read_name-2.new.tokens ≡ true = search rules in
    let item = reader_of (name wants.Item) in
    let marked = reader_of (label (list c.args.lists)) in
    let e = c.in_err-label.field-0.0 in
    let h = first_fails marked (token close_sign) c.eat-2.new.self e c.in_err-label.ensures in
    let i = sign_fails comma (marked and token close_sign) c.read_name-2.new.tokens c.eat-2.new.self e d c.eat-2.ensures.left h in
    let j = later_fails item (token comma and marked and token close_sign) c.eat.new.self c.read_name-2.new.tokens c.in_ok-target.target e c.in_ok-target.ensures i in
    let k = sign_fails comma (item and token comma and marked and token close_sign) c.read_name.new.tokens c.eat.new.self e b c.eat.ensures.left j in
    let l = later_fails item (token comma and item and token comma and marked and token close_sign) c.args.tokens.now c.read_name.new.tokens c.in_ok-source.source e c.in_ok-source.ensures k in
    rw (p.1, p.2) (part_fails (ends_of c.args.name c.args.bidirectional) (item and token comma and item and token comma and marked and token close_sign) c.args.tokens.now e l)
