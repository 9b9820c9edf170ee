use Rattle.std.proofs.Common.{◌≡◌, ◌∷◌, [], length, map, ◌<◌, List, Some, None, sym, subst, ap, ◌∙◌, arith, get_or}
use Rattle.std.specs.Option.{option_copied, option_map}
use Rattle.gp_values.specs.Graph.{Edge, edge_at}
use Rattle.gp_syntax.specs.declared.kinds.VariableType.{VariableType}
use Rattle.gp_syntax.specs.declared.rule.LeftEdge.{LeftEdge}
use Rattle.gp_syntax.specs.Images.{EdgeImage}
use Rattle.gp_syntax.specs.Tree.{label_of}
use Rattle.gp_syntax.specs.Typing.{type_in}
use Rattle.gp_unify.specs.Extension.{AreKnown, known_of}
use Rattle.gp_unify.specs.Candidate.{edge_labels}
use Rattle.gp_unify.specs.Unify.{unify_all}
use Rattle.gp_unify.proofs.Unifies.{unify_on, unify_stops}
use Rattle.gp_unify.proofs.Matches.{told_yes, told_no, asked_at, edge_found_at}
use Rattle.gp_unify.proofs.matched.unify_edges.Goals as goal

pub unify_image-requires-clause-known : goal.unify_image-requires-clause-known
unify_image-requires-clause-known c =
    let p = c.index-edges-i.result in
    subst (λ (ts : List VariableType). AreKnown (length ts) (label_of (get_or c.args.edges.now c.edges.i p).label)) (sym c.edges.invariant.types) (c.requires.known c.edges.i p c.edges-test.true)

pub returns-then-not-branch : goal.returns-then-not-branch
returns-then-not-branch c =
    let ts = type_in c.args.assignment.now.types in
    let g = c.args.graph.now.graph in
    let i = c.edges.i in
    let p = c.index-edges-i.result in
    let l : i < length c.args.edges.now = c.edges-test.true in
    let n : i < length c.args.images.now = omega (arith, c.requires.count) in
    let es = map (λ (p : LeftEdge). label_of p.label) c.args.edges.now in
    let vs = edge_labels g (map (λ (j : EdgeImage). j.number) c.args.images.now) in
    let e = asked_at (λ (p : LeftEdge). label_of p.label) c.args.edges.now i p l in
    let f = edge_found_at g c.args.images.now i _ _ n (c.edge_label-image.ensures ∙ ap (λ k. option_map (λ (x : Edge). x.label) (edge_at g k)) (c.number.ensures ∙ ap (λ (j : EdgeImage). j.number) c.index-images-i.is)) in
    let h = told_no _ _ _ _ c.if-not-branch.true c.in_ok-unify_image.ensures in
    record {
      told = unify_stops ts es vs i _ _ (known_of c.edges.assignment) _ e f c.edges.invariant.on
          (subst (λ (z : List VariableType). unify_all (type_in z) (label_of (get_or c.args.edges.now i p).label ∷ []) (option_copied c.edge_label-image.result ∷ []) (known_of c.edges.assignment) ≡ None) c.edges.invariant.types h);
    }

pub edges-preserved : goal.edges-preserved
edges-preserved c =
    let ts = type_in c.args.assignment.now.types in
    let g = c.args.graph.now.graph in
    let i = c.edges.i in
    let p = c.index-edges-i.result in
    let l : i < length c.args.edges.now = c.edges-test.true in
    let n : i < length c.args.images.now = omega (arith, c.requires.count) in
    let es = map (λ (p : LeftEdge). label_of p.label) c.args.edges.now in
    let vs = edge_labels g (map (λ (j : EdgeImage). j.number) c.args.images.now) in
    let e = asked_at (λ (p : LeftEdge). label_of p.label) c.args.edges.now i p l in
    let f = edge_found_at g c.args.images.now i _ _ n (c.edge_label-image.ensures ∙ ap (λ k. option_map (λ (x : Edge). x.label) (edge_at g k)) (c.number.ensures ∙ ap (λ (j : EdgeImage). j.number) c.index-images-i.is)) in
    let h = told_yes _ _ _ _ c.if-not-branch.false c.in_ok-unify_image.ensures in
    record {
      on = unify_on ts es vs i _ _ (known_of c.edges.assignment) (known_of c.unify_image.new.assignment) _ e f c.edges.invariant.on
          (subst (λ (z : List VariableType). unify_all (type_in z) (label_of (get_or c.args.edges.now i p).label ∷ []) (option_copied c.edge_label-image.result ∷ []) (known_of c.edges.assignment) ≡ Some (known_of c.unify_image.new.assignment)) c.edges.invariant.types h.told);
      types = h.types ∙ c.edges.invariant.types;
      count = h.count ∙ c.edges.invariant.count;
    }
