use Rattle.std.proofs.Common.{◌≡◌, ◌∷◌, [], length, map, ◌<◌, List, Some, None, sym, subst, ◌∙◌, arith, get_or}
use Rattle.std.specs.Option.{option_copied, option_map}
use Rattle.gp_values.specs.Graph.{Node, node_at}
use Rattle.gp_syntax.specs.declared.kinds.VariableType.{VariableType}
use Rattle.gp_syntax.specs.declared.rule.LeftNode.{LeftNode}
use Rattle.gp_syntax.specs.Tree.{label_of}
use Rattle.gp_syntax.specs.Typing.{type_in}
use Rattle.gp_unify.specs.Extension.{AreKnown, known_of}
use Rattle.gp_unify.specs.Candidate.{node_labels}
use Rattle.gp_unify.specs.Unify.{unify_all}
use Rattle.gp_unify.proofs.Unifies.{unify_on, unify_stops}
use Rattle.gp_unify.proofs.Matches.{told_yes, told_no, asked_at, found_at}
use Rattle.gp_unify.proofs.matched.unify_nodes.Goals as goal

pub unify_image-requires-clause-known : goal.unify_image-requires-clause-known
unify_image-requires-clause-known c =
    let p = c.index-nodes-i.result in
    subst (λ (ts : List VariableType). AreKnown (length ts) (label_of (get_or c.args.nodes.now c.nodes.i p).label)) (sym c.nodes.invariant.types) (c.requires.known c.nodes.i p c.nodes-test.true)

pub returns-then-not-branch : goal.returns-then-not-branch
returns-then-not-branch c =
    let ts = type_in c.args.assignment.now.types in
    let g = c.args.graph.now.graph in
    let i = c.nodes.i in
    let p = c.index-nodes-i.result in
    let l : i < length c.args.nodes.now = c.nodes-test.true in
    let n : i < length c.args.images.now = omega (arith, c.requires.count) in
    let es = map (λ (p : LeftNode). label_of p.label) c.args.nodes.now in
    let vs = node_labels g c.args.images.now in
    let e = asked_at (λ (p : LeftNode). label_of p.label) c.args.nodes.now i p l in
    let f = found_at (λ n. option_map (λ (x : Node). x.label) (node_at g n)) c.args.images.now i 0 _ n c.node_label-image.ensures in
    let h = told_no _ _ _ _ c.if-not-branch.true c.in_ok-unify_image.ensures in
    record {
      told = unify_stops ts es vs i _ _ (known_of c.nodes.assignment) _ e f c.nodes.invariant.on
          (subst (λ (z : List VariableType). unify_all (type_in z) (label_of (get_or c.args.nodes.now i p).label ∷ []) (option_copied c.node_label-image.result ∷ []) (known_of c.nodes.assignment) ≡ None) c.nodes.invariant.types h);
    }

pub nodes-preserved : goal.nodes-preserved
nodes-preserved c =
    let ts = type_in c.args.assignment.now.types in
    let g = c.args.graph.now.graph in
    let i = c.nodes.i in
    let p = c.index-nodes-i.result in
    let l : i < length c.args.nodes.now = c.nodes-test.true in
    let n : i < length c.args.images.now = omega (arith, c.requires.count) in
    let es = map (λ (p : LeftNode). label_of p.label) c.args.nodes.now in
    let vs = node_labels g c.args.images.now in
    let e = asked_at (λ (p : LeftNode). label_of p.label) c.args.nodes.now i p l in
    let f = found_at (λ n. option_map (λ (x : Node). x.label) (node_at g n)) c.args.images.now i 0 _ n c.node_label-image.ensures in
    let h = told_yes _ _ _ _ c.if-not-branch.false c.in_ok-unify_image.ensures in
    record {
      on = unify_on ts es vs i _ _ (known_of c.nodes.assignment) (known_of c.unify_image.new.assignment) _ e f c.nodes.invariant.on
          (subst (λ (z : List VariableType). unify_all (type_in z) (label_of (get_or c.args.nodes.now i p).label ∷ []) (option_copied c.node_label-image.result ∷ []) (known_of c.nodes.assignment) ≡ Some (known_of c.unify_image.new.assignment)) c.nodes.invariant.types h.told);
      types = h.types ∙ c.nodes.invariant.types;
      count = h.count ∙ c.nodes.invariant.count;
    }
