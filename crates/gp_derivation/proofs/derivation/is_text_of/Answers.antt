use Rattle.std.proofs.Common.{rules}
use Rattle.gp_derivation.proofs.Decided.{same_bytes, text_decided}
use Rattle.gp_derivation.proofs.derivation.is_text_of.Goals as goal

pub returns : goal.returns
returns c = text_decided c.args.graph.now.graph c.new-whole.result.items c.write_graph.new.text.items c.args.text.now _ c.new-whole.ensures.items c.in_ok-write_graph.ensures.ok (search (rules, same_bytes))
