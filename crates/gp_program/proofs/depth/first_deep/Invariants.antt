use Rattle.std.proofs.Common.{◌≡◌, ◌+◌, ◌≤◌, length, reverse, sum}
use Rattle.std.specs.Prelude.{option_map}
use Rattle.gp_program.specs.Depth.{outside}
use Rattle.gp_program.specs.inside.Deep.{too_deep_from}
use Rattle.gp_program.proofs.depth.first_deep.Given as goal

abbrev pub invariant-each : goal.invariant-each
invariant-each l = record {
  same : option_map (λ k. l.at + k) (too_deep_from (record { still = reverse l.added.items; run = l.run }) l.rest) ≡ too_deep_from outside l.tokens;
  count : l.count ≡ sum (reverse l.added.items);
  place : l.at + length l.rest ≡ length l.tokens;
  bound : l.count + l.run.len ≤ 64;
}

abbrev pub decreases-each : goal.decreases-each
decreases-each l = length l.rest
