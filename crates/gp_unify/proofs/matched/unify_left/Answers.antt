use Rattle.std.proofs.Common.{◌≡◌, map, Option, option_and_then, refl, sym, ap, ◌∙◌}
use Rattle.gp_syntax.specs.declared.rule.LeftNode.{LeftNode}
use Rattle.gp_syntax.specs.declared.rule.LeftEdge.{LeftEdge}
use Rattle.gp_syntax.specs.Images.{EdgeImage}
use Rattle.gp_syntax.specs.Simple.{IsSimple}
use Rattle.gp_syntax.specs.Tree.{label_of}
use Rattle.gp_syntax.specs.Typing.{type_in}
use Rattle.gp_unify.specs.Known.{Known}
use Rattle.gp_unify.specs.Extension.{known_of}
use Rattle.gp_unify.specs.Candidate.{node_labels, edge_labels}
use Rattle.gp_unify.specs.Unify.{unify_all}
use Rattle.gp_unify.proofs.Matches.{labels_all, labels_known, unify_sides, tells_edges, told_yes, told_no}
use Rattle.gp_unify.proofs.matched.unify_left.Goals as goal

pub unify_nodes-requires-clause-known : goal.unify_nodes-requires-clause-known
unify_nodes-requires-clause-known c = rw (c.as_slice.ensures, c.requires.types) (labels_known c.args.parts.now c.requires.well_formed).0

pub unify_nodes-requires-clause-simple : goal.unify_nodes-requires-clause-simple
unify_nodes-requires-clause-simple c = rw (c.as_slice.ensures, c.requires.types) (labels_all (IsSimple (type_in c.args.parts.now.types)) c.args.parts.now c.requires.well_formed.left_labels_simple).0

pub returns-then-not-branch : goal.returns-then-not-branch
returns-then-not-branch c =
    let ts = type_in c.args.parts.now.types in
    let g = c.args.graph.now.graph in
    let f : Known → Option Known = λ q. unify_all ts (map (λ (e : LeftEdge). label_of e.label) c.args.parts.now.left_edges) (edge_labels g c.args.found.now.edges) q in
    let h = told_no _ _ _ _ c.if-not-branch.true c.in_ok-unify_nodes.ensures.told in
    let same : unify_all (type_in c.args.assignment.now.types) (map (λ (n : LeftNode). label_of n.label) c.as_slice.result.now) (node_labels g c.nodes.result.now) (known_of c.args.assignment.now) ≡ unify_all ts (map (λ (n : LeftNode). label_of n.label) c.args.parts.now.left_nodes) (node_labels g c.args.found.now.nodes) (known_of c.args.assignment.now) = rw (c.requires.types, c.as_slice.ensures, c.nodes.ensures) refl in
    unify_sides ts c.args.parts.now g c.args.found.now (known_of c.args.assignment.now) c.requires.node_count ∙ ap (λ z. option_and_then f z) (sym same ∙ h)

pub unify_edges-requires-clause-known : goal.unify_edges-requires-clause-known
unify_edges-requires-clause-known c =
    let h = told_yes _ _ _ _ c.if-not-branch.false c.in_ok-unify_nodes.ensures.told in
    rw (c.as_slice-2.ensures, h.types, c.requires.types) (labels_known c.args.parts.now c.requires.well_formed).1

pub unify_edges-requires-clause-simple : goal.unify_edges-requires-clause-simple
unify_edges-requires-clause-simple c =
    let h = told_yes _ _ _ _ c.if-not-branch.false c.in_ok-unify_nodes.ensures.told in
    rw (c.as_slice-2.ensures, h.types, c.requires.types) (labels_all (IsSimple (type_in c.args.parts.now.types)) c.args.parts.now c.requires.well_formed.left_labels_simple).1

pub returns : goal.returns
returns c =
    let ts = type_in c.args.parts.now.types in
    let g = c.args.graph.now.graph in
    let a = c.args.assignment.now in
    let b = c.unify_nodes.new.assignment in
    let f : Known → Option Known = λ q. unify_all ts (map (λ (e : LeftEdge). label_of e.label) c.args.parts.now.left_edges) (edge_labels g c.args.found.now.edges) q in
    let h = told_yes _ _ _ _ c.if-not-branch.false c.in_ok-unify_nodes.ensures.told in
    let same : unify_all (type_in a.types) (map (λ (n : LeftNode). label_of n.label) c.as_slice.result.now) (node_labels g c.nodes.result.now) (known_of a) ≡ unify_all ts (map (λ (n : LeftNode). label_of n.label) c.args.parts.now.left_nodes) (node_labels g c.args.found.now.nodes) (known_of a) = rw (c.requires.types, c.as_slice.ensures, c.nodes.ensures) refl in
    let edges : unify_all (type_in b.types) (map (λ (e : LeftEdge). label_of e.label) c.as_slice-2.result.now) (edge_labels g (map (λ (i : EdgeImage). i.number) c.edges.result.now)) (known_of b) ≡ f (known_of b) = rw (h.types, c.requires.types, c.as_slice-2.ensures, c.edges.ensures.numbers) refl in
    tells_edges c.unify_edges.result _ _ _ a b c.unify_edges.new.assignment f (unify_sides ts c.args.parts.now g c.args.found.now (known_of a) c.requires.node_count ∙ ap (λ z. option_and_then f z) (sym same)) h.told h edges c.unify_edges.ensures.told
