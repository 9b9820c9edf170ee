use Rattle.gp_reader.proofs.Texts.{rules_read}
use Rattle.gp_reader.proofs.read.read_rules.Goals as goal

pub returns : goal.returns
returns c = rules_read c.args.bytes.now c.in_ok-scoped.scoped c.in_ok-scoped.ensures c.rules.result.now c.rules.ensures c.checked_rules.result c.checked_rules.ensures
