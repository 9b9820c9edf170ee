use Rattle.std.proofs.Common.{rules, ◌≡◌, true}
use Rattle.std.proofs.lemmas.Result.{err_from_is_err_and}
use Rattle.gp_tokens.specs.declared.want.Want.TheVariants as wants
use Rattle.gp_tokens.specs.Reading.{reader_of, token, begins, ◌and◌}
use Rattle.gp_tokens.specs.SignWants.{open_sign, close_sign, comma, root_word}
use Rattle.gp_expressions.specs.Expressions.{list, name}
use Rattle.gp_expressions.specs.Conditions.{label}
use Rattle.gp_expressions.proofs.Readings.{part_fails, first_fails, later_fails, sign_fails}
use Rattle.gp_program.specs.Rules.{flag, node, node_of, place}
use Rattle.gp_program.proofs.graph.read_node.Goals as goal

pub returns-in_err-label : goal.returns-in_err-label
unfolding node
returns-in_err-label c =
    let p = err_from_is_err_and c.from_residual-in_err-label.result c.from_residual-in_err-label.ensures.1 in
    let b : begins open_sign c.args.tokens.now ≡ true = search rules in
    let d : begins comma c.read_flag.new.tokens ≡ true = search rules in
    let item = reader_of (name wants.Item) in
    let root = reader_of (flag root_word) in
    let marked = reader_of (label (list c.args.lists)) in
    let end = reader_of place and token close_sign in
    let e = c.in_err-label.field-0.0 in
    let h = first_fails marked end c.eat-2.new.self e c.in_err-label.ensures in
    let i = sign_fails comma (marked and end) c.read_flag.new.tokens c.eat-2.new.self e d c.eat-2.ensures.left h in
    let j = later_fails root (token comma and marked and end) c.read_name.new.tokens c.read_flag.new.tokens c.in_ok-root.root e c.in_ok-root.ensures i in
    let k = later_fails item (root and token comma and marked and end) c.eat.new.self c.read_name.new.tokens c.in_ok-name.name e c.in_ok-name.ensures j in
    let l = sign_fails open_sign (item and root and token comma and marked and end) c.args.tokens.now c.eat.new.self e b c.eat.ensures.left k in
    rw (p.1, p.2) (part_fails node_of (token open_sign and item and root and token comma and marked and end) c.args.tokens.now e l)
