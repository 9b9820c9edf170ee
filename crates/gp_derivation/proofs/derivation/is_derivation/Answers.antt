use Rattle.std.proofs.Common.{map}
use Rattle.std.proofs.lemmas.Result.{IfOk-weaker}
use Rattle.gp_syntax.specs.Tree.{program_of_tree, item_of}
use Rattle.gp_derivation.proofs.Decided.{of_today}
use Rattle.gp_derivation.proofs.derivation.is_derivation.Goals as goal

pub returns-in-Two : goal.returns-in-Two
returns-in-Two c = rw c.in-Two.is (IfOk-weaker c.ends_with.result _ _ (λ b. of_today (program_of_tree c.args.program.now) c.args.host.now.graph (map item_of c.args.items.now) c.args.text.now b) c.ends_with.ensures)
