use Rattle.gp_trace.proofs.WordFacts.{rule_too_large}
use Rattle.gp_trace.proofs.line.rule_number.Goals as goal

pub returns-else-number : goal.returns-else-number
returns-else-number c n small e = rule_too_large c.args.word.now n c.in_ok-number.number _ small e c.in_ok-number.ensures c.if-number.false
