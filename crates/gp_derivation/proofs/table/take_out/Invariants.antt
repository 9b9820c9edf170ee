use Rattle.std.proofs.Common.{◌≡◌, map, drop, length, vec_len, vec_capacity}
use Rattle.gp_syntax.specs.Images.{EdgeImage}
use Rattle.gp_derivation.specs.inside.Table.{all_emptied}
use Rattle.gp_derivation.proofs.table.take_out.Given as goal

abbrev pub invariant-loop-image : goal.invariant-loop-image
invariant-loop-image l = record {
  items : all_emptied (map (λ (i : EdgeImage). i.number) (drop l.image-index l.was)) l.today.items ≡ all_emptied (map (λ (i : EdgeImage). i.number) l.was) l.initial.today.items;
  same : length l.today.items ≡ length l.initial.today.items;
  len : vec_len l.today ≡ vec_len l.initial.today;
  room : vec_capacity l.today ≡ vec_capacity l.initial.today;
}
