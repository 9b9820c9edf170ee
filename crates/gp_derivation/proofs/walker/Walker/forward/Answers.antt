use Rattle.std.proofs.Common.{map}
use Rattle.gp_syntax.specs.Tree.{rule_of_tree}
use Rattle.gp_derivation.proofs.Told.{goes_forward}
use Rattle.gp_derivation.proofs.walker.Walker.forward.Goals as goal

pub returns-in-Made : goal.returns-in-Made
returns-in-Made c =
    goes_forward (map rule_of_tree c.args.rules.now) c.args.self.now _ c.forward-moved.result c.in-Made.is c.requires (c.in_ok-tell_item.ensures {u = tt}) c.forward-moved.ensures.made c.forward-moved.ensures.end c.forward-moved.ensures.stays
