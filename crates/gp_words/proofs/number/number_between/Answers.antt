use Rattle.std.proofs.Common.{arith, sym}
use Rattle.gp_words.proofs.Numerals.{too_great}
use Rattle.gp_words.proofs.number.number_between.Goals as goal

pub returns-in-Err-clause-number : goal.returns-in-Err-clause-number
returns-in-Err-clause-number c = sym (too_great c.args.least c.args.most c.args.word.now (omega (arith, c.ranges.most)) c.in-Err.ensures.value.0)
