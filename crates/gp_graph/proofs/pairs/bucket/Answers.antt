use Rattle.std.proofs.Common.{refl}
use Rattle.gp_graph.specs.inside.Pairs.{bucket_of}
use Rattle.gp_graph.proofs.pairs.bucket.Goals as goal

pub returns-clause-is : goal.returns-clause-is
unfolding bucket_of
returns-clause-is c = refl
