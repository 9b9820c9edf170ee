use Rattle.std.proofs.Common.{◌≡◌, drop}
use Rattle.gp_match.specs.Stands.{is_kept_by}
use Rattle.gp_match.proofs.dangling.is_kept.Given as goal

abbrev pub invariant-origins : goal.invariant-origins
invariant-origins l = is_kept_by (drop l.node-index l.right) l.i ≡ is_kept_by l.right l.i
