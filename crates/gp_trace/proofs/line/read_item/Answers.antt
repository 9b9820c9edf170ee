use Rattle.std.proofs.Common.{◌∙◌, ap}
use Rattle.gp_trace.proofs.WordFacts.{texts, spelled_ok}
use Rattle.gp_trace.proofs.line.read_item.Goals as goal

pub returns : goal.returns
returns c = spelled_ok c.item_of_words.result c.args.line.now (texts c.deref.result.now) (ap texts c.deref.ensures.value ∙ c.in_ok-words.ensures) c.item_of_words.ensures
