use Rattle.gp_syntax.proofs.Patterns.{string_patterns}
use Rattle.gp_syntax.proofs.laws.string_pattern_examples.Goals as goal

pub returns : goal.returns
returns c = string_patterns
