use Rattle.std.proofs.Common.{arith}
use Rattle.gp_derivation.proofs.Standings.{stands_back, none_back}
use Rattle.gp_derivation.proofs.replay.Replay.back.Goals as goal

pub returns-then-count-depth : goal.returns-then-count-depth
returns-then-count-depth c = λ rules host s st. none_back rules host s c.args.count c.args.self.now (omega arith) st

pub returns : goal.returns
returns c = λ rules host s st.
    stands_back rules host s c.args.count c.args.self.now (record { trail = c.back.new.self; table = c.back-2.new.self; items = c.push.new.self; alloc = c.args.self.now.alloc }) (omega arith) c.back.ensures.back c.back-2.ensures c.in_ok-push.ensures.items st
