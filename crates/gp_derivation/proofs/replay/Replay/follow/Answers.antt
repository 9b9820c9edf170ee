use Rattle.std.proofs.Common.{map, refl}
use Rattle.gp_syntax.specs.Tree.{rule_of_tree}
use Rattle.gp_derivation.proofs.Standings.{stands_turn}
use Rattle.gp_derivation.proofs.replay.Replay.follow.Goals as goal

pub returns-in_ok-push-in-Turn : goal.returns-in_ok-push-in-Turn
returns-in_ok-push-in-Turn c = record {
  follows = λ host s st.
      rw c.in-Turn.is
      (stands_turn (map rule_of_tree c.args.rules.now) host s c.args.self.now (record { trail = c.args.self.now.trail; table = c.args.self.now.table; items = c.push.new.self; alloc = c.args.self.now.alloc }) refl refl c.in_ok-push-in-Turn.ensures.items st);
}
