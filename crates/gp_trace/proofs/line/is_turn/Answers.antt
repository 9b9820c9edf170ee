use Rattle.std.proofs.Common.{◌∙◌}
use Rattle.std.specs.Prelude.{codes}
use Rattle.std.proofs.lemmas.List.{length-map}
use Rattle.gp_trace.proofs.WordFacts.{texts, turn_is}
use Rattle.gp_trace.proofs.line.is_turn.Goals as goal

pub returns-then-words-eq1 : goal.returns-then-words-eq1
returns-then-words-eq1 c = turn_is (texts c.args.words.now) (codes "turn") c.word_is.result (length-map c.args.words.now _ ∙ c.if-words-eq1.true) c.word_is.ensures.0 c.word_is.ensures.1
