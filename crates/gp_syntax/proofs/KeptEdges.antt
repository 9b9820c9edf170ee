-- A kept edge lies where it lay, between the same nodes.
use Rattle.std.proofs.Common.{◌≡◌, ℕ, Bool, true, false, ◌&&◌, ◌||◌, not, if◌then◌else◌, List, Option, Some, None, IsSomeAnd, slice_get, slice_index, slice_index_or, refl, sym, ap, subst, ◌∙◌}
use Rattle.std.specs.Prelude.{option_and_then}
use Rattle.std.specs.Option.{option_map, option_map_or}
use Rattle.std.proofs.lemmas.Bool.{false≢true}
use Rattle.std.proofs.lemmas.Option.{none-some, slice_get-map}
use Rattle.gp_memory.proofs.Basics.{both, some_same}
use Rattle.gp_values.specs.Graph.{Graph, Edge, edge_at}
use Rattle.gp_syntax.specs.Value.{Assignment}
use Rattle.gp_syntax.specs.Rule.{Rule, LeftEdge, RightNode, RightEdge, Found, is_origin, differ, keeps_node, is_same_edge, kept_edge, kept_nodes}
use Rattle.gp_syntax.specs.Match.{MatchBy, FitsEdge, setting_of}
use Rattle.gp_syntax.specs.Step.{Places, is_exchanged}
use Rattle.gp_syntax.specs.Laws.{KeptEdgesStay}
use Rattle.gp_syntax.proofs.Kept.{Decides-origin}

-- ---- the left edge that is kept

abbrev pub KeepsEdge : Rule → RightEdge → ℕ → Type 0
KeepsEdge r q i = (p : LeftEdge) × (slice_get r.left_edges i ≡ Some p) × (is_same_edge r q p ≡ true) × (q.origin ≡ Some i)

at_origin : (r : Rule) (q : RightEdge) (i k : ℕ) (o : Option LeftEdge) → q.origin ≡ Some k → slice_get r.left_edges k ≡ o → (if option_map_or (is_same_edge r q) o false then Some k else None) ≡ Some i → KeepsEdge r q i
at_origin r q i k None e s h = absurd (none-some i h)
at_origin r q i k (Some p) e s h = by (is_same_edge r q p) refl h
  where
    by : (b : Bool) → is_same_edge r q p ≡ b → (if b then Some k else None) ≡ Some i → KeepsEdge r q i
    by false t h = absurd (none-some i h)
    by true t h = let z : k ≡ i = some_same h in (p, subst (λ n. slice_get r.left_edges n ≡ Some p) z s, t, e ∙ h)

pub kept_edge_at : (r : Rule) (q : RightEdge) (i : ℕ) → kept_edge r q ≡ Some i → KeepsEdge r q i
kept_edge_at r q i h = by q.origin refl h
  where
    by : (o : Option ℕ) → q.origin ≡ o → (if option_map_or (is_same_edge r q) (option_and_then (slice_get r.left_edges) o) false then o else None) ≡ Some i → KeepsEdge r q i
    by None e h = absurd (none-some i h)
    by (Some k) e h = at_origin r q i k (slice_get r.left_edges k) e refl h

-- ---- the ends

-- a right node that is a left one lies at its image
kept_lies : (r : Rule) (m : Found) (next : ℕ) (images : List ℕ) → Places (kept_nodes r) m.nodes next images → (j i : ℕ) → keeps_node r j i ≡ true → slice_index images j ≡ slice_index m.nodes i
kept_lies r m next images w j i h = by (slice_get r.right_nodes j) refl h
  where
    by : (o : Option RightNode) → slice_get r.right_nodes j ≡ o → option_map_or (λ (q : RightNode). is_origin i q.origin) o false ≡ true → slice_index images j ≡ slice_index m.nodes i
    by None e h = absurd cc
    by (Some q) e h = w.old j i (slice_get-map (λ (z : RightNode). z.origin) r.right_nodes j ∙ ap (option_map (λ (z : RightNode). z.origin)) e ∙ ap (λ z. Some z) ((Decides-origin q.origin i).0 h))

-- an edge that is matched in either direction, and written in either order
either_way : (bp bq turned reversed : Bool) (f g : ℕ → ℕ) (s u a b : ℕ) → not (differ bp bq) ≡ true → (bq || not turned) ≡ true → (reversed ≡ true → bp ≡ true)
    → f s ≡ g (if turned then b else a) → f u ≡ g (if turned then a else b)
    → (g (if reversed then b else a) ≡ f (if bq && differ reversed turned then u else s)) × (g (if reversed then a else b) ≡ f (if bq && differ reversed turned then s else u))
either_way true true false false f g s u a b h k l c d = (sym c, sym d)
either_way true true false true f g s u a b h k l c d = (sym d, sym c)
either_way true true true false f g s u a b h k l c d = (sym d, sym c)
either_way true true true true f g s u a b h k l c d = (sym c, sym d)
either_way false false false false f g s u a b h k l c d = (sym c, sym d)
either_way false false false true f g s u a b h k l c d = absurd (false≢true (l refl))
either_way false false true reversed f g s u a b h k l c d = absurd (false≢true k)
either_way true false turned reversed f g s u a b h k l c d = absurd (false≢true h)
either_way false true turned reversed f g s u a b h k l c d = absurd (false≢true h)

-- between images of its ends
abbrev pub LiesBetween : List ℕ → Bool → RightEdge → Edge → Type 0
LiesBetween images exchanged q d = (d.source ≡ slice_index images (if exchanged then q.target else q.source)) × (d.target ≡ slice_index images (if exchanged then q.source else q.target))

pub kept_ends : (r : Rule) (g : Graph) (m : Found) (a : Assignment) (next : ℕ) (images : List ℕ) → MatchBy r g m a → Places (kept_nodes r) m.nodes next images → (q : RightEdge) (i : ℕ) (d : Edge)
    → kept_edge r q ≡ Some i → edge_at g (slice_index m.edges i) ≡ Some d → LiesBetween images (is_exchanged m q) q d
kept_ends r g m a next images w places q i d h s =
    let k = kept_edge_at r q i h in
    let p : LeftEdge = k.0 in
    let reversed : Bool = slice_index_or m.reversed i false in
    let fits : FitsEdge (setting_of r g m a) p reversed d = subst (λ o. IsSomeAnd o (FitsEdge (setting_of r g m a) p reversed)) s (w.edges i p k.1) in
    let first = both (not (differ p.bidirectional q.bidirectional) && (q.bidirectional || not q.turned)) (keeps_node r q.source (if q.turned then p.target else p.source) && keeps_node r q.target (if q.turned then p.source else p.target)) k.2 in
    let kinds = both (not (differ p.bidirectional q.bidirectional)) (q.bidirectional || not q.turned) first.0 in
    let ends = both (keeps_node r q.source (if q.turned then p.target else p.source)) (keeps_node r q.target (if q.turned then p.source else p.target)) first.1 in
    let way = either_way p.bidirectional q.bidirectional q.turned reversed (slice_index images) (slice_index m.nodes) q.source q.target p.source p.target kinds.0 kinds.1 fits.direction
    (kept_lies r m next images places q.source (if q.turned then p.target else p.source) ends.0) (kept_lies r m next images places q.target (if q.turned then p.source else p.target) ends.1) in
    subst (λ o. LiesBetween images (q.bidirectional && differ (option_map_or (λ i. slice_index_or m.reversed i false) o false) q.turned) q d) (sym k.3)
    (fits.source ∙ way.0, fits.target ∙ way.1)

-- ---- after a step

-- of one edge that is made between the images of its ends, another that lies between them has the ends
same_ends : (images : List ℕ) (exchanged : Bool) (q : RightEdge) (d e : Edge) → LiesBetween images exchanged q d → LiesBetween images exchanged q e → (e.source ≡ d.source) × (e.target ≡ d.target)
same_ends images exchanged q d e b c = (c.0 ∙ sym b.0, c.1 ∙ sym b.1)

pub kept_edges_stay : KeptEdgesStay
kept_edges_stay r g m a h w s k i q at keeps d there =
    let made = s.right_edges k q at in
    let place : slice_index s.edge_images k ≡ slice_index m.edges i = s.edge_places.old k i (slice_get-map (kept_edge r) r.right_edges k ∙ ap (option_map (kept_edge r)) at ∙ ap (λ o. Some o) keeps) in
    let stands : edge_at h (slice_index m.edges i) ≡ Some made.0 = subst (λ n. edge_at h n ≡ Some made.0) place made.1 in
    let ends = same_ends s.images (is_exchanged m q) q d made.0 (kept_ends r g m a g.next_node s.images w s.places q i d keeps there) (made.2.source, made.2.target) in
    subst (λ o. IsSomeAnd o (λ (e : Edge). (e.source ≡ d.source) × (e.target ≡ d.target))) (sym stands) ends
