use Rattle.std.proofs.Common.{◌≡◌, ◌+◌, ◌≤◌, ◌++◌, Some, map, take, vec_len, vec_capacity}
use Rattle.gp_derivation.proofs.table.put.Given as goal

abbrev pub invariant-loop-number : goal.invariant-loop-number
invariant-loop-number l = record {
  items : l.today.items ≡ l.initial.today.items ++ map Some (take l.number-index l.made);
  len : vec_len l.today ≡ vec_len l.initial.today + l.number-index;
  room : vec_capacity l.initial.today ≤ vec_capacity l.today;
}
