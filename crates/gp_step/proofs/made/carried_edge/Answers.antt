use Rattle.std.proofs.Common.{◌≡◌, ◌<◌, false, [], map, length, slice_index, slice_index_or, sym, ap, refl, subst, ◌∙◌, arith}
use Rattle.std.proofs.lemmas.List.{get_or-map, length-map}
use Rattle.gp_step.specs.inside.Made.{number_of, carried_at}
use Rattle.gp_step.specs.inside.Scene.{SceneView, IsReady}
use Rattle.gp_step.specs.inside.Same.{IsUnchanged}
use Rattle.gp_step.proofs.Labels.{carries_found}
use Rattle.gp_step.proofs.made.carried_edge.Goals as goal

pub returns-then-is_unchanged : goal.returns-then-is_unchanged
returns-then-is_unchanged c =
    let images = c.edges.result.now in
    let found = c.args.scene.now.found in
    let place = c.args.place in
    let d = c.index-edges-place.result in
    let n : length (map number_of images) ≡ length images = length-map images number_of in
    let numbers : map number_of images ≡ found.edges = c.edges.ensures.numbers ∙ ap (λ (s : SceneView). s.found.edges) c.scene.view_is in
    let count = ap length numbers in
    let l : place < length images = let w : place < length found.edges = c.requires.within in omega arith in
    let number : number_of (slice_index_or images place d) ≡ slice_index found.edges place = sym (get_or-map number_of images place d 0 l) ∙ ap (λ ns. slice_index ns place) numbers in
    let same = carries_found c.args.scene.now (subst IsReady c.scene.view_is c.scene.invariant) place c.args.q.now [] c.requires.keeps (subst (λ (s : SceneView). IsUnchanged s.parts place c.args.q.now) c.scene.view_is (c.if-is_unchanged.ensures refl)) in
    let read : c.number-number.result ≡ number_of (slice_index_or images place d) = c.number-number.ensures ∙ ap number_of c.index-edges-place.is in
    ap (λ k. (k, carried_at c.args.scene.now.graph k)) (read ∙ number) ∙ ap (λ z. (slice_index found.edges place, z)) same
