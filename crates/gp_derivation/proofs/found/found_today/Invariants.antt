use Rattle.std.proofs.Common.{◌≡◌, [], take, drop}
use Rattle.gp_derivation.proofs.Rights.{IsBegun}
use Rattle.gp_derivation.proofs.found.found_today.Given as goal

abbrev pub invariant-loop-node : goal.invariant-loop-node
invariant-loop-node l = l.found ≡ record { rule = l.was.rule; reversed = []; nodes = take l.node-index l.node-items; edges = [] }

abbrev pub invariant-loop-image : goal.invariant-loop-image
invariant-loop-image l = IsBegun l.table.now l.was l.image-items (drop l.image-index l.image-items) l.found
