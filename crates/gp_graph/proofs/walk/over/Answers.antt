use Rattle.std.proofs.Common.{arith}
use Rattle.gp_rings.specs.Chains.{follow}
use Rattle.gp_graph.specs.inside.Sought.{is_given, behind}
use Rattle.gp_rings.proofs.Rounds.{length-follow}
use Rattle.gp_rings.proofs.Those.{length-those}
use Rattle.gp_graph.proofs.walk.over.Goals as goal

pub returns-clause-most : goal.returns-clause-most
returns-clause-most c =
    omega (
      arith,
      length-follow (behind c.args.sought) c.args.ring.count c.args.ring.first,
      length-those (is_given c.args.sought) (follow (behind c.args.sought) c.args.ring.count c.args.ring.first),
    )

pub returns-clause-fits : goal.returns-clause-fits
returns-clause-fits c =
    omega (
      arith,
      length-follow (behind c.args.sought) c.args.ring.count c.args.ring.first,
      length-those (is_given c.args.sought) (follow (behind c.args.sought) c.args.ring.count c.args.ring.first),
    )
