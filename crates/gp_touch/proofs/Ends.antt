-- Matches that come up, by what a rule looks at.
use Rattle.std.proofs.Common.{inl, inr, ◌≡◌, ℕ, ◌<◌, ◌==◌, Bool, true, false, map, length, Option, Some, None, refl, sym, subst, ◌∙◌, arith}
use Rattle.std.specs.Prelude.{◌⊎◌, ◌↔◌, ◌&&◌, ◌||◌, IsSomeAnd, Contains, slice_get, slice_index, slice_index_or}
use Rattle.std.proofs.lemmas.Option.{slice_get_within}
use Rattle.gp_memory.proofs.Basics.{stands_in}
use Rattle.gp_values.specs.Atoms.{same_list}
use Rattle.gp_values.specs.Graph.{Graph, Edge, node_at, edge_at}
use Rattle.gp_syntax.specs.declared.kinds.NumberKind.{NumberKind}
use Rattle.gp_syntax.specs.Expression.{Expression}
use Rattle.gp_syntax.specs.Value.{Assignment, Value, value_of}
use Rattle.gp_syntax.specs.Truth.{truth_of, has_mark}
use Rattle.gp_syntax.specs.Rule.{Rule, LeftNode, LeftEdge, Found, IsKept}
use Rattle.gp_syntax.specs.Match.{FitsNode, FitsEdge, MatchBy, setting_of}
use Rattle.gp_syntax.specs.Simple.{IsSimple}
use Rattle.gp_syntax.specs.Step.{right_labels, first_fault}
use Rattle.gp_syntax.specs.Typing.{type_in}
use Rattle.gp_syntax.specs.WellFormed.{IsWellFormed}
use Rattle.gp_step.proofs.Wholes.{at_label, all_left, all_right}
use Rattle.gp_independence.specs.Independent.{has_degree, asks_edges}
use Rattle.gp_independence.proofs.Frames.{some_at, at_some}
use Rattle.gp_independence.proofs.Values.{truth_same}
use Rattle.gp_touch.specs.Touch.{AppliesOrFails, ComesUp, LiesAt}
use Rattle.gp_touch.specs.Ends.{asks_degrees, IsUnnoted, AddsNoted, DiffersAtNoted, HasSameEnds, DiffersAtEnds, AddedAloneBringUp, OneEndBringsUp, BothEndsBringUp, NotedAloneUnblock, SameNeedNoNote, NotesAreJoined}
use Rattle.gp_touch.proofs.Around.{ends, ends_with, any_same, in_same, out_same, same_edges}
use Rattle.gp_touch.proofs.Others.{node_label, edge_label, Within, in_map, either_one}
use Rattle.gp_touch.proofs.Long.{rule_at, lies_at, true_or, not_true, none_of}
use Rattle.gp_touch.proofs.Near.{plain, HaveSameDegrees, HaveSameBetween, value_near, truth_near}

not_both : (b : Bool) → b ≡ false → b ≡ true → ⊥
not_both true p t = absurd cc
not_both false p t = absurd cc

-- ---- a match on the second graph, at nodes that are not noted

-- each edge of the first graph at an image that is deleted is an image
abbrev NoneHangs : Rule → Graph → Found → Type 0
NoneHangs s g n = (i e : ℕ) (d : Edge) → i < length s.left_nodes → (IsKept s i → ⊥) → edge_at g e ≡ Some d → (d.source ≡ slice_index n.nodes i) ⊎ (d.target ≡ slice_index n.nodes i) → Contains n.edges e

abbrev SameTruth : Rule → Graph → Graph → Found → Assignment → Type 0
SameTruth s g h n b = truth_of s.condition (setting_of s g n b) ≡ truth_of s.condition (setting_of s h n b)

module _ {s : Rule} (g : Graph) {h : Graph} {n : Found} (noted : ℕ → Bool) (ws : IsWellFormed s) (out : (k : ℕ) → Contains n.nodes k → noted k ≡ false) (b : Assignment) (w : MatchBy s h n b) where
  unnoted : (j : ℕ) → j < length s.left_nodes → noted (slice_index n.nodes j) ≡ false
  unnoted j l =
      let k : length n.nodes ≡ length s.left_nodes = w.node_count in
      out (slice_index n.nodes j) (stands_in n.nodes j (slice_index n.nodes j) (omega arith) refl)

  between : (i j : ℕ) (d : Edge) → i < length s.left_nodes → j < length s.left_nodes → (d.source ≡ slice_index n.nodes i) × (d.target ≡ slice_index n.nodes j) → IsUnnoted noted d
  between i j d li lj e = (subst (λ z. noted z ≡ false) (sym e.0) (unnoted i li), subst (λ z. noted z ≡ false) (sym e.1) (unnoted j lj))

  label_there : (e : Expression ℕ) → Within s e → IsSimple (type_in s.types) e → value_of e (setting_of s g n b) ≡ value_of e (setting_of s h n b)
  label_there e within simple = value_near s.types b n.nodes h g (length s.types) (length s.left_nodes) e within (λ t. absurd (not_both (has_degree e) (plain (type_in s.types) e simple) t))

  node_there : AddsNoted noted g h → (j : ℕ) (p : LeftNode) → slice_get s.left_nodes j ≡ Some p → IsSomeAnd (node_at g (slice_index n.nodes j)) (FitsNode (setting_of s g n b) p)
  node_there adds j p e =
      let x = some_at _ _ (w.nodes j p e) in
      let i = in_map node_label s.left_nodes j p e in
      let within = all_left (Within s) (map node_label s.left_nodes) (map edge_label s.left_edges) ws.left_labels_within j p.label i in
      let v = label_there p.label within (all_left (IsSimple (type_in s.types)) (map node_label s.left_nodes) (map edge_label s.left_edges) ws.left_labels_simple j p.label i) in
      at_some (FitsNode (setting_of s g n b) p) (node_at g (slice_index n.nodes j)) x.0 (adds.node (slice_index n.nodes j) x.0 (unnoted j (slice_get_within s.left_nodes j p e)) x.1)
      (record { label = v ∙ x.2.label; mark = x.2.mark; root = x.2.root })

  edge_there : AddsNoted noted g h → (j : ℕ) (p : LeftEdge) → slice_get s.left_edges j ≡ Some p → IsSomeAnd (edge_at g (slice_index n.edges j)) (FitsEdge (setting_of s g n b) p (slice_index_or n.reversed j false))
  edge_there adds j p e =
      let reversed : Bool = slice_index_or n.reversed j false in
      let x = some_at _ _ (w.edges j p e) in
      let i = in_map edge_label s.left_edges j p e in
      let within = at_label (Within s) (map edge_label s.left_edges) (all_right (Within s) (map node_label s.left_nodes) (map edge_label s.left_edges) ws.left_labels_within) j p.label i in
      let v = label_there p.label within (at_label (IsSimple (type_in s.types)) (map edge_label s.left_edges) (all_right (IsSimple (type_in s.types)) (map node_label s.left_nodes) (map edge_label s.left_edges) ws.left_labels_simple) j p.label i) in
      let places = ws.left_ends j p e in
      let us : noted x.0.source ≡ false = subst (λ z. noted z ≡ false) (sym x.2.source) (either_one (λ z. noted z ≡ false) n.nodes reversed p.target p.source (unnoted p.target places.1) (unnoted p.source places.0)) in
      let ut : noted x.0.target ≡ false = subst (λ z. noted z ≡ false) (sym x.2.target) (either_one (λ z. noted z ≡ false) n.nodes reversed p.source p.target (unnoted p.source places.0) (unnoted p.target places.1)) in
      at_some (FitsEdge (setting_of s g n b) p reversed) (edge_at g (slice_index n.edges j)) x.0 (adds.edge (slice_index n.edges j) x.0 (us, ut) x.1)
      (record { source = x.2.source; target = x.2.target; label = v ∙ x.2.label; mark = x.2.mark; direction = x.2.direction })

  pub match_there : AddsNoted noted g h → NoneHangs s g n → MatchBy s g n b
  match_there adds none_hangs = record {
    node_count = w.node_count;
    edge_count = w.edge_count;
    direction_count = w.direction_count;
    nodes_apart = w.nodes_apart;
    edges_apart = w.edges_apart;
    variable_count = w.variable_count;
    in_types = w.in_types;
    nodes = node_there adds;
    edges = edge_there adds;
    dangling = none_hangs;
  }

  pub same_between : DiffersAtNoted noted g h → HaveSameBetween h g n.nodes (length s.left_nodes)
  same_between differs =
      let both : (e : ℕ) (d : Edge) → IsUnnoted noted d → (edge_at h e ≡ Some d) ↔ (edge_at g e ≡ Some d) = λ e d u. (differs.adds.edge e d u, differs.takes.edge e d u) in
      record {
        edge = λ i j li lj. any_same h g (λ (d : Edge). d.source == slice_index n.nodes i && d.target == slice_index n.nodes j) (λ e d t. both e d (between i j d li lj (ends (slice_index n.nodes i) (slice_index n.nodes j) d t)));
        edge_with = λ i j v mark li lj. any_same h g (λ (d : Edge). (d.source == slice_index n.nodes i && d.target == slice_index n.nodes j) && (same_list d.label v && has_mark mark d.mark)) (λ e d t. both e d (between i j d li lj (ends_with (slice_index n.nodes i) (slice_index n.nodes j) v mark d t)));
      }

  pub same_degrees : ((k : ℕ) → noted k ≡ false → HasSameEnds g h k) → HaveSameDegrees h g n.nodes (length s.left_nodes)
  same_degrees same = record {
    into = λ i l. sym (in_same g h (slice_index n.nodes i) (same (slice_index n.nodes i) (unnoted i l)).ending);
    out_of = λ i l. sym (out_same g h (slice_index n.nodes i) (same (slice_index n.nodes i) (unnoted i l)).beginning);
  }

  pub none_hangs_there : ((k : ℕ) → noted k ≡ false → HasSameEnds g h k) → NoneHangs s g n
  none_hangs_there same i e d l gone there (inl a) =
      let k = slice_index n.nodes i in
      let x = some_at (λ c. c.source ≡ k) (edge_at h e) (((same k (unnoted i l)).beginning e).0 (at_some (λ c. c.source ≡ k) (edge_at g e) d there a)) in
      w.dangling i e x.0 l gone x.1 (inl x.2)
  none_hangs_there same i e d l gone there (inr a) =
      let k = slice_index n.nodes i in
      let x = some_at (λ c. c.target ≡ k) (edge_at h e) (((same k (unnoted i l)).ending e).0 (at_some (λ c. c.target ≡ k) (edge_at g e) d there a)) in
      w.dangling i e x.0 l gone x.1 (inr x.2)

-- ---- so it comes up on neither alone

-- each match on the second graph is one on the first, with the same truth of the condition
abbrev IsBack : Rule → Graph → Graph → Found → Type 0
IsBack s g h n = (b : Assignment) → MatchBy s h n b → MatchBy s g n b × SameTruth s g h n b

-- whatever the right labels come to
holds : {s : Rule} {g : Graph} {n : Found} {b : Assignment} → MatchBy s g n b → truth_of s.condition (setting_of s g n b) ≡ Value true → (o : Option NumberKind) → first_fault (right_labels s) (setting_of s g n b) ≡ o → AppliesOrFails s g n
holds {b = b} w c None e = inl (b, record { is_match = w; condition = c; values = e })
holds {b = b} w c (Some kind) e = inr (kind, (b, record { is_match = w; cause = inr (c, e) }))

back_up : {s : Rule} {g h : Graph} {n : Found} → IsBack s g h n → AppliesOrFails s h n → AppliesOrFails s g n
back_up back (inl x) = let y = back x.0 x.1.is_match in holds y.0 (y.1 ∙ x.1.condition) _ refl
back_up back (inr x) =
    let y = back x.1.0 x.1.1.is_match in
    elim x.1.1.cause [
      | inl c ↦ inr (x.0, (x.1.0, record { is_match = y.0; cause = inl (y.1 ∙ c) }))
      | inr c ↦ holds y.0 (y.1 ∙ c.0) _ refl
    ]

lies_at_noted : (noted : ℕ → Bool) (r : Rule) (g h : Graph) (n : Found) → (((k : ℕ) → Contains n.nodes k → noted k ≡ false) → IsBack r g h n) → ComesUp r g h n → LiesAt r n (λ k. noted k ≡ true)
lies_at_noted noted r g h n back up =
    lies_at (λ k. noted k ≡ true) (λ k. true_or (noted k)) r g h n (λ out. back_up (back (λ k c. not_true (noted k) (out k c)))) up

pub added_bring_up : AddedAloneBringUp
added_bring_up r g h m noted wr sees adds up =
    lies_at_noted noted r g h m (λ out b w. (
      match_there g noted wr out b w adds (λ i e d l gone. absurd (gone (sees.keeps i l))),
      truth_same r.types b m.nodes h g (length r.types) (length r.left_nodes) r.condition wr.condition_within (λ t. absurd (not_both (asks_edges r.condition) sees.asks t)),
    )) up

pub one_end_brings_up : OneEndBringsUp
one_end_brings_up r g h m noted wr sees differs up =
    lies_at_noted noted r g h m (λ out b w. (
      match_there g noted wr out b w differs.adds (λ i e d l gone. absurd (gone (sees.keeps i l))),
      truth_near r.types b m.nodes h g (length r.types) (length r.left_nodes) r.condition wr.condition_within (same_between g noted wr out b w differs) (λ t. absurd (not_both (asks_degrees r.condition) sees.asks t)),
    )) up

pub both_ends_bring_up : BothEndsBringUp
both_ends_bring_up r g h m noted wr differs up =
    lies_at_noted noted r g h m (λ out b w. (
      match_there g noted wr out b w differs.differs.adds (none_hangs_there g noted wr out b w differs.ends),
      truth_near r.types b m.nodes h g (length r.types) (length r.left_nodes) r.condition wr.condition_within (same_between g noted wr out b w differs.differs) (λ t. same_degrees g noted wr out b w differs.ends),
    )) up

pub noted_unblock : NotedAloneUnblock
noted_unblock rules set g h noted each blocked i r n c e enough some =
    let wr = rule_at rules each i r e in
    let up : ComesUp r g h n = (none_of rules set g i r n blocked c e, some) in
    elim enough [
      | inl x ↦ added_bring_up r g h n noted wr x.0 x.1 up
      | inr y ↦ elim y [
        | inl x ↦ one_end_brings_up r g h n noted wr x.0 x.1 up
        | inr x ↦ both_ends_bring_up r g h n noted wr x up
      ]
    ]

-- ---- what is noted

pub same_needs_no_note : SameNeedNoNote
same_needs_no_note g h noted same = record {
  differs = record {
    adds = record {
      node = λ n x u there. sym (same n u).node ∙ there;
      edge = λ e d u there. ((same d.source u.0).edges e d (inl refl)).1 there;
    };
    takes = record {
      node = λ n x u there. (same n u).node ∙ there;
      edge = λ e d u there. ((same d.source u.0).edges e d (inl refl)).0 there;
    };
  };
  ends = λ n u. record {
    beginning = same_edges g h n (same n u).edges (λ d. d.source ≡ n) (λ d e. inl e);
    ending = same_edges g h n (same n u).edges (λ d. d.target ≡ n) (λ d e. inr e);
  };
}

neither : (a b : Bool) → (a || b) ≡ false → (a ≡ false) × (b ≡ false)
neither true b e = absurd cc
neither false b e = (refl, e)

pub adds_joined : NotesAreJoined AddsNoted
adds_joined g h k first second a b = record {
  node = λ n x u there. let p = neither (first n) (second n) u in a.node n x p.0 (b.node n x p.1 there);
  edge = λ e d u there.
      let s = neither (first d.source) (second d.source) u.0 in
      let t = neither (first d.target) (second d.target) u.1 in
      a.edge e d (s.0, t.0) (b.edge e d (s.1, t.1) there);
}

takes_joined : (g h k : Graph) (first second : ℕ → Bool) → AddsNoted first h g → AddsNoted second k h → AddsNoted (λ n. first n || second n) k g
takes_joined g h k first second a b = record {
  node = λ n x u there. let p = neither (first n) (second n) u in b.node n x p.1 (a.node n x p.0 there);
  edge = λ e d u there.
      let s = neither (first d.source) (second d.source) u.0 in
      let t = neither (first d.target) (second d.target) u.1 in
      b.edge e d (s.1, t.1) (a.edge e d (s.0, t.0) there);
}

pub differing_joined : NotesAreJoined DiffersAtNoted
differing_joined g h k first second a b = record {
  adds = adds_joined g h k first second a.adds b.adds;
  takes = takes_joined g h k first second a.takes b.takes;
}

pub ends_joined : NotesAreJoined DiffersAtEnds
ends_joined g h k first second a b = record {
  differs = differing_joined g h k first second a.differs b.differs;
  ends = λ n u.
      let p = neither (first n) (second n) u in
      let x = a.ends n p.0 in
      let y = b.ends n p.1 in
      record {
        beginning = λ e. (λ t. (y.beginning e).0 ((x.beginning e).0 t), λ t. (x.beginning e).1 ((y.beginning e).1 t));
        ending = λ e. (λ t. (y.ending e).0 ((x.ending e).0 t), λ t. (x.ending e).1 ((y.ending e).1 t));
      };
}
