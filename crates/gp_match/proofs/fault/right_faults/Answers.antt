use Rattle.std.proofs.Common.{◌≡◌, length, map, Some, None, sym, ap, subst, ◌∙◌}
use Rattle.gp_syntax.specs.Step.{first_fault}
use Rattle.gp_syntax.specs.Tree.{expression_of}
use Rattle.gp_syntax.specs.declared.rule.RightNode.{RightNode}
use Rattle.gp_syntax.specs.declared.rule.RightEdge.{RightEdge}
use Rattle.gp_syntax.specs.WellFormed.{IsWithin}
use Rattle.gp_eval.specs.Answer.{setting}
use Rattle.gp_match.specs.inside.Faults.{Faults}
use Rattle.gp_match.proofs.Loops.{node_labels, edge_labels, right_is, right_all, no_fault_first, fault_first}
use Rattle.gp_match.proofs.fault.right_faults.Goals as goal

pub node_faults-requires-clause-within : goal.node_faults-requires-clause-within
node_faults-requires-clause-within c =
    rw c.as_slice.ensures (right_all (IsWithin (length c.args.assignment.now.types) (length c.args.nodes.now)) c.args.parts.now c.requires.within).0

pub edge_faults-requires-clause-within : goal.edge_faults-requires-clause-within
edge_faults-requires-clause-within c =
    rw c.as_slice-in-Value.ensures (right_all (IsWithin (length c.args.assignment.now.types) (length c.args.nodes.now)) c.args.parts.now c.requires.within).1

pub returns-in-Value : goal.returns-in-Value
returns-in-Value c =
    let s = setting c.args.assignment.now c.args.nodes.now c.args.graph.now.graph in
    let r = c.args.parts.now in
    let none : first_fault (node_labels r) s ≡ None = ap (λ ps. first_fault (map (λ (q : RightNode). expression_of q.label) ps) s) (sym c.as_slice.ensures) ∙ c.in-Value.ensures in
    let e : first_fault (map (λ (q : RightEdge). expression_of q.label) c.as_slice-in-Value.result.now) s ≡ first_fault (edge_labels r) s = ap (λ ps. first_fault (map (λ (q : RightEdge). expression_of q.label) ps) s) c.as_slice-in-Value.ensures in
    rw (right_is r, no_fault_first (node_labels r) (edge_labels r) s none) (subst (λ f. Faults c.edge_faults.result f) e c.edge_faults.ensures)

pub returns-in-NoValue : goal.returns-in-NoValue
returns-in-NoValue c =
    let s = setting c.args.assignment.now c.args.nodes.now c.args.graph.now.graph in
    let r = c.args.parts.now in
    let some : first_fault (node_labels r) s ≡ Some c.in-NoValue.kind = ap (λ ps. first_fault (map (λ (q : RightNode). expression_of q.label) ps) s) (sym c.as_slice.ensures) ∙ c.in-NoValue.ensures in
    rw (right_is r) (fault_first (node_labels r) (edge_labels r) s c.in-NoValue.kind some)
