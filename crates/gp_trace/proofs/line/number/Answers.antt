use Rattle.std.proofs.Common.{subst}
use Rattle.std.specs.Str.{IsUtf8}
use Rattle.std.proofs.lemmas.Str.{IsUtf8-from_ascii}
use Rattle.std.proofs.lemmas.Fmt.{IsAscii-decimal}
use Rattle.gp_trace.proofs.WordFacts.{number_refused, number_other}
use Rattle.gp_trace.proofs.line.number.Goals as goal

pub returns-in_default : goal.returns-in_default
returns-in_default c n h = c.in_default.ensures.cases.0 (subst IsUtf8 h.word (IsUtf8-from_ascii _ (IsAscii-decimal n h.number)))

pub returns-in_default-parse : goal.returns-in_default-parse
returns-in_default-parse c n h = number_refused c.args.word.now _ n h c.in-Ok.ensures.cases.0 c.in_default-parse.ensures.value.0

pub returns-else-eq : goal.returns-else-eq
returns-else-eq c n h = number_other c.args.word.now _ n c.in-Ok-parse.number _ _ h c.in-Ok.ensures.cases.0 c.in-Ok-parse.ensures.value.0 c.format.ensures.text c.if-eq.false c.eq.ensures
