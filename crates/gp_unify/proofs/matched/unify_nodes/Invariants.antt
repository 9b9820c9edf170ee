use Rattle.std.proofs.Common.{◌≡◌, drop, map, length}
use Rattle.gp_syntax.specs.Tree.{label_of}
use Rattle.gp_syntax.specs.Typing.{type_in}
use Rattle.gp_unify.specs.Extension.{known_of}
use Rattle.gp_unify.specs.Candidate.{node_labels}
use Rattle.gp_unify.specs.Unify.{unify_all}
use Rattle.gp_unify.proofs.matched.unify_nodes.Given as goal

abbrev pub invariant-nodes : goal.invariant-nodes
invariant-nodes l = let ts = type_in l.fn.assignment.types in let es = map (λ p. label_of p.label) l.nodes in let vs = node_labels l.graph.graph l.images in record {
  on : unify_all ts (drop l.i es) (drop l.i vs) (known_of l.assignment) ≡ unify_all ts es vs (known_of l.fn.assignment);
  types : l.assignment.types ≡ l.fn.assignment.types;
  count : length l.assignment.values ≡ length l.fn.assignment.values;
}
