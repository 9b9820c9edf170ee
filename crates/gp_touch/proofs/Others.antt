-- A match whose left nodes lie where two graphs are the same is one of both or of neither.
use Rattle.std.proofs.Common.{inl, inr, ◌≡◌, ℕ, ◌<◌, Bool, true, false, if◌then◌else◌, List, map, length, refl, sym, ap, subst, ◌∙◌, arith}
use Rattle.std.specs.Prelude.{◌⊎◌, Some, IsSomeAnd, Contains, slice_get, slice_index, slice_index_or}
use Rattle.std.specs.Option.{option_map}
use Rattle.std.proofs.lemmas.Option.{slice_get-map, slice_get_within}
use Rattle.gp_memory.proofs.Basics.{stands_in}
use Rattle.gp_values.specs.Graph.{Graph, Edge, node_at, edge_at}
use Rattle.gp_syntax.specs.declared.kinds.NumberKind.{NumberKind}
use Rattle.gp_syntax.specs.Expression.{Expression}
use Rattle.gp_syntax.specs.Value.{Assignment, value_of}
use Rattle.gp_syntax.specs.Truth.{truth_of}
use Rattle.gp_syntax.specs.Rule.{Rule, LeftNode, LeftEdge, Found, IsKept}
use Rattle.gp_syntax.specs.Match.{FitsNode, FitsEdge, MatchBy, setting_of}
use Rattle.gp_syntax.specs.Step.{right_labels, first_fault, AppliesBy, FaultyBy}
use Rattle.gp_syntax.specs.WellFormed.{IsWithin, IsWellFormed}
use Rattle.gp_match.specs.Judge.{Judged, applies, faulty, neither, judged}
use Rattle.gp_match.proofs.Judges.{judged_match}
use Rattle.gp_step.proofs.Wholes.{at_label, all_left, all_right}
use Rattle.gp_independence.proofs.Frames.{some_at, at_some}
use Rattle.gp_independence.proofs.Values.{AlikeAround, value_same, truth_same, faults_same}
use Rattle.gp_touch.specs.Touch.{AreSameAt, AreSameFor, ImagesTell, BareSeeNothing, SameAreJudgedAlike, OthersStay}
use Rattle.gp_touch.proofs.Around.{same_back, untouched_stays}

abbrev pub node_label : LeftNode → Expression ℕ
node_label p = p.label

abbrev pub edge_label : LeftEdge → Expression ℕ
edge_label p = p.label

abbrev pub Within : Rule → Expression ℕ → Type 0
Within s e = IsWithin (length s.types) (length s.left_nodes) e

pub in_map : {X : Type 0} (f : X → Expression ℕ) (xs : List X) (j : ℕ) (x : X) → slice_get xs j ≡ Some x → slice_get (map f xs) j ≡ Some (f x)
in_map f xs j x e = slice_get-map f xs j ∙ ap (option_map f) e

pub either_one : (P : ℕ → Type 0) (ns : List ℕ) (b : Bool) (j k : ℕ) → P (slice_index ns j) → P (slice_index ns k) → P (slice_index ns (if b then j else k))
either_one P ns true j k p q = p
either_one P ns false j k p q = q

module _ {s : Rule} {g h : Graph} {n : Found} (ws : IsWellFormed s) (same : (k : ℕ) → Contains n.nodes k → AreSameAt g h k) (b : Assignment) (w : MatchBy s g n b) where
  at_image : (j : ℕ) → j < length s.left_nodes → AreSameAt g h (slice_index n.nodes j)
  at_image j l =
      let k : length n.nodes ≡ length s.left_nodes = w.node_count in
      same (slice_index n.nodes j) (stands_in n.nodes j (slice_index n.nodes j) (omega arith) refl)

  alike : AlikeAround g h n.nodes (length s.left_nodes)
  alike = record {
    into = λ j l. (at_image j l).into;
    out_of = λ j l. (at_image j l).out_of;
    between = λ j k l. (at_image j l).edge_from (slice_index n.nodes k);
    between_with = λ j k v mark l. (at_image j l).edge_from_with (slice_index n.nodes k) v mark;
  }

  value : (e : Expression ℕ) → Within s e → value_of e (setting_of s h n b) ≡ value_of e (setting_of s g n b)
  value e within = value_same s.types b n.nodes g h (length s.types) (length s.left_nodes) e within (λ d. alike)

  truth : truth_of s.condition (setting_of s h n b) ≡ truth_of s.condition (setting_of s g n b)
  truth = truth_same s.types b n.nodes g h (length s.types) (length s.left_nodes) s.condition ws.condition_within (λ d. alike)

  faults : first_fault (right_labels s) (setting_of s h n b) ≡ first_fault (right_labels s) (setting_of s g n b)
  faults = faults_same s.types b n.nodes g h (length s.types) (length s.left_nodes) (right_labels s) ws.right_labels_within (λ d. alike)

  node_fits : (j : ℕ) (p : LeftNode) → slice_get s.left_nodes j ≡ Some p → IsSomeAnd (node_at h (slice_index n.nodes j)) (FitsNode (setting_of s h n b) p)
  node_fits j p e =
      let x = some_at _ _ (w.nodes j p e) in
      let v = value p.label (all_left (Within s) (map node_label s.left_nodes) (map edge_label s.left_edges) ws.left_labels_within j p.label (in_map node_label s.left_nodes j p e)) in
      at_some (FitsNode (setting_of s h n b) p) (node_at h (slice_index n.nodes j)) x.0 ((at_image j (slice_get_within s.left_nodes j p e)).node ∙ x.1)
      (record { label = v ∙ x.2.label; mark = x.2.mark; root = x.2.root })

  edge_fits : (j : ℕ) (p : LeftEdge) → slice_get s.left_edges j ≡ Some p → IsSomeAnd (edge_at h (slice_index n.edges j)) (FitsEdge (setting_of s h n b) p (slice_index_or n.reversed j false))
  edge_fits j p e =
      let reversed : Bool = slice_index_or n.reversed j false in
      let x = some_at _ _ (w.edges j p e) in
      let v = value p.label (at_label (Within s) (map edge_label s.left_edges) (all_right (Within s) (map node_label s.left_nodes) (map edge_label s.left_edges) ws.left_labels_within) j p.label (in_map edge_label s.left_edges j p e)) in
      let ends = ws.left_ends j p e in
      let at : AreSameAt g h x.0.source = subst (AreSameAt g h) (sym x.2.source) (either_one (AreSameAt g h) n.nodes reversed p.target p.source (at_image p.target ends.1) (at_image p.source ends.0)) in
      at_some (FitsEdge (setting_of s h n b) p reversed) (edge_at h (slice_index n.edges j)) x.0 ((at.edges (slice_index n.edges j) x.0 (inl refl)).0 x.1)
      (record { source = x.2.source; target = x.2.target; label = v ∙ x.2.label; mark = x.2.mark; direction = x.2.direction })

  none_hangs : (j e : ℕ) (d : Edge) → j < length s.left_nodes → (IsKept s j → ⊥) → edge_at h e ≡ Some d → (d.source ≡ slice_index n.nodes j) ⊎ (d.target ≡ slice_index n.nodes j) → Contains n.edges e
  none_hangs j e d l gone there touch = w.dangling j e d l gone (((at_image j l).edges e d touch).1 there) touch

  match_there : MatchBy s h n b
  match_there = record {
    node_count = w.node_count;
    edge_count = w.edge_count;
    direction_count = w.direction_count;
    nodes_apart = w.nodes_apart;
    edges_apart = w.edges_apart;
    variable_count = w.variable_count;
    in_types = w.in_types;
    nodes = node_fits;
    edges = edge_fits;
    dangling = none_hangs;
  }

applies_there : {s : Rule} {g h : Graph} {n : Found} → IsWellFormed s → ((k : ℕ) → Contains n.nodes k → AreSameAt g h k) → (b : Assignment) → AppliesBy s g n b → AppliesBy s h n b
applies_there ws same b k = record {
  is_match = match_there ws same b k.is_match;
  condition = truth ws same b k.is_match ∙ k.condition;
  values = faults ws same b k.is_match ∙ k.values;
}

faulty_there : {s : Rule} {g h : Graph} {n : Found} → IsWellFormed s → ((k : ℕ) → Contains n.nodes k → AreSameAt g h k) → (kind : NumberKind) (b : Assignment) → FaultyBy s g n kind b → FaultyBy s h n kind b
faulty_there ws same kind b k =
    let c = truth ws same b k.is_match in
    record {
      is_match = match_there ws same b k.is_match;
      cause = elim k.cause [ inl x ↦ inl (c ∙ x) | inr x ↦ inr (c ∙ x.0, faults ws same b k.is_match ∙ x.1) ];
    }

pub same_for : {s : Rule} {g h : Graph} {n : Found} → IsWellFormed s → ((k : ℕ) → Contains n.nodes k → AreSameAt g h k) → AreSameFor s n g h
same_for ws same =
    let back = λ (k : ℕ) (c : Contains _ k). same_back (same k c) in
    record {
      is_match = λ a. (match_there ws same a, match_there ws back a);
      applies = λ a. (applies_there ws same a, applies_there ws back a);
      faulty = λ kind a. (faulty_there ws same kind a, faulty_there ws back kind a);
    }

pub images_tell : ImagesTell
images_tell r g h m ws same = same_for ws same

pub others_stays : OthersStay
others_stays r s g h m n wr ws whole t out = same_for ws (λ k c. untouched_stays r g h m wr whole t k (out k c))

-- ---- rules without left nodes

none_there : {r : Rule} {g : Graph} {m : Found} {a : Assignment} → length r.left_nodes ≡ 0 → MatchBy r g m a → (h : Graph) (k : ℕ) → Contains m.nodes k → AreSameAt g h k
none_there none w h k c =
    let n = w.node_count in
    let l = c.1 in absurd (omega arith)

bare_match : {r : Rule} {g : Graph} {m : Found} (h : Graph) (a : Assignment) → IsWellFormed r → length r.left_nodes ≡ 0 → MatchBy r g m a → MatchBy r h m a
bare_match h a wr none w = match_there wr (none_there none w h) a w

bare_applies : {r : Rule} {g : Graph} {m : Found} (h : Graph) (a : Assignment) → IsWellFormed r → length r.left_nodes ≡ 0 → AppliesBy r g m a → AppliesBy r h m a
bare_applies h a wr none w = applies_there wr (none_there none w.is_match h) a w

bare_faulty : {r : Rule} {g : Graph} {m : Found} (h : Graph) (kind : NumberKind) (a : Assignment) → IsWellFormed r → length r.left_nodes ≡ 0 → FaultyBy r g m kind a → FaultyBy r h m kind a
bare_faulty h kind a wr none w = faulty_there wr (none_there none w.is_match h) kind a w

pub bare_same : BareSeeNothing
bare_same r g h m wr none = record {
  is_match = λ a. (bare_match h a wr none, bare_match g a wr none);
  applies = λ a. (bare_applies h a wr none, bare_applies g a wr none);
  faulty = λ kind a. (bare_faulty h kind a wr none, bare_faulty g kind a wr none);
}

-- ---- verdicts

still_judged : {r : Rule} {g h : Graph} {m : Found} → IsWellFormed r → AreSameFor r m g h → (x : Judged) → judged r g m ≡ x → judged r h m ≡ x
still_judged {r} {g} {h} {m} wr same applies e =
    let k = (judged_match r g m wr).to_apply.0 e in (judged_match r h m wr).to_apply.1 (k.0, (same.applies k.0).0 k.1)
still_judged {r} {g} {h} {m} wr same (faulty kind) e =
    let k = ((judged_match r g m wr).to_be_faulty kind).0 e in ((judged_match r h m wr).to_be_faulty kind).1 (k.0, (same.faulty kind k.0).0 k.1)
still_judged {r} {g} {h} {m} wr same neither e =
    let k = (judged_match r g m wr).to_be_neither.0 e in
    (judged_match r h m wr).to_be_neither.1 (λ x. k.0 (x.0, (same.applies x.0).1 x.1), λ kind x. k.1 kind (x.0, (same.faulty kind x.0).1 x.1))

pub judged_alike : SameAreJudgedAlike
judged_alike r g h m wr same = still_judged wr same (judged r g m) refl
