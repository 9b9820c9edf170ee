use Rattle.std.proofs.Common.{◌≡◌, drop, length}
use Rattle.gp_derivation.specs.inside.Held.{all_put_back}
use Rattle.gp_derivation.proofs.table.put_back.Given as goal

abbrev pub invariant-loop-taken : goal.invariant-loop-taken
invariant-loop-taken l = record {
  items : all_put_back (drop l.taken-index l.taken-items) l.today.items ≡ all_put_back l.taken-items l.initial.today.items;
  same : length l.today.items ≡ length l.initial.today.items;
}
