use Rattle.std.proofs.lemmas.Result.{err_from_is_err_and}
use Rattle.gp_program.proofs.Parsing.{refused, shallow, past_range, whole_tree}
use Rattle.gp_program.proofs.parse.parse_program.Goals as goal

pub returns-in_err-read : goal.returns-in_err-read
returns-in_err-read c =
    let p = err_from_is_err_and c.from_residual-in_err-read.result c.from_residual-in_err-read.ensures.1 in
    let s = shallow c.args.tokens.now c.in_ok-place.field-0 c.in_ok-place.ensures c.in_default.is in
    rw (p.1, p.2) (refused c.args.tokens.now c.in_err-read.field-0.0 s c.in_err-read.ensures)

pub returns-in-Some-past : goal.returns-in-Some-past
returns-in-Some-past c = (
  shallow c.args.tokens.now c.in_ok-place.field-0 c.in_ok-place.ensures c.in_default.is,
  past_range c.args.tokens.now c.in_ok-read.read c.in-Some-past.start c.place_of_start.result c.in_ok-read.ensures c.in-Some-past.is c.place_of_start.ensures,
)

pub returns-in-None : goal.returns-in-None
returns-in-None c = (
  shallow c.args.tokens.now c.in_ok-place.field-0 c.in_ok-place.ensures c.in_default.is,
  whole_tree c.args.tokens.now c.in_ok-read.read c.in_ok-read.ensures c.in-None.is,
)
