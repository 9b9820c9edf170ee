-- The bodies that let a node enter and leave the ring of the roots.
use Rattle.std.proofs.Common.{inl, inr, ◌≡◌, ◌≢◌, ℕ, zero, suc, ◌+◌, ◌-◌, ◌<◌, ◌≤◌, List, [], ◌∷◌, length, refl, sym, ap, subst, ◌∙◌, arith, Bool, true, false}
use Rattle.std.specs.Prelude.{Contains, Option, Some, None, IsSome, IsSomeAnd, slice_set}
use Rattle.std.specs.Option.{option_map}
use Rattle.std.proofs.lemmas.Bool.{cases_eq}
use Rattle.gp_memory.proofs.Basics.{first_or_later}
use Rattle.gp_values.specs.declared.atom.Atom.{Atom}
use Rattle.gp_values.specs.declared.marks.NodeMark.{NodeMark}
use Rattle.gp_graph.specs.inside.Slots.{slot_in}
use Rattle.gp_rings.specs.Chains.{Joins, follow}
use Rattle.gp_graph.specs.inside.View.{node_of}
use Rattle.gp_graph.specs.inside.Rings.{changed_at, ring_in, root_link, ShowSame, SameRootLinks}
use Rattle.gp_graph.specs.inside.Roots.{with_next_root, with_prev_root, next_root, prev_root, at_zero, is_root_in, IsRootAt, HasRoots, HasRootsBut, KeepsNodes, rewritten}
use Rattle.gp_rings.specs.declared.rings.Link.{Link}
use Rattle.gp_rings.specs.declared.rings.Ring.{Ring}
use Rattle.gp_graph.specs.declared.slots.NodeSlot.{NodeSlot}
use Rattle.gp_graph.specs.declared.rings.Side.{Side}
use Rattle.gp_graph.specs.declared.rings.Side.TheVariants.{Beginning, Ending}
use Rattle.gp_rings.proofs.Numbers.{apart_more, few}
use Rattle.gp_rings.proofs.Rounds.{next_round, prev_round, length-follow}
use Rattle.gp_rings.proofs.RingSets.{rings_push, rings_remove, rings_agree, rings_by, last_there, first_there}
use Rattle.gp_graph.proofs.Links.{kept, slot_within, slot_here, slot_other, changed_here}
use Rattle.gp_graph.proofs.RingSteps.{still_there}
use Rattle.gp_graph.proofs.Lens.{IsLens, lens_joins}

n_new : (v : ℕ) (o : Option NodeSlot) → IsSome o → (root_link (option_map (with_next_root v) o)).next ≡ v
n_new v None h = absurd cc
n_new v (Some s) h = refl

p_new : (v : ℕ) (o : Option NodeSlot) → IsSome o → (root_link (option_map (with_prev_root v) o)).prev ≡ v
p_new v None h = absurd cc
p_new v (Some s) h = refl

n_kept : (v : ℕ) (o : Option NodeSlot) → (root_link (option_map (with_prev_root v) o)).next ≡ (root_link o).next
n_kept v None = refl
n_kept v (Some s) = refl

p_kept : (v : ℕ) (o : Option NodeSlot) → (root_link (option_map (with_next_root v) o)).prev ≡ (root_link o).prev
p_kept v None = refl
p_kept v (Some s) = refl

pub root_lens : IsLens NodeSlot root_link with_next_root with_prev_root
root_lens = record { next_new = n_new; prev_new = p_new; next_kept = n_kept; prev_kept = p_kept }

elsewhere : (a b k : ℕ) → k ≢ 0 → at_zero a k ≡ at_zero b k
elsewhere a b zero ne = absurd (ne refl)
elsewhere a b (suc k) ne = refl

shown : (ns ns' : List (Option NodeSlot)) (n : ℕ) → ShowSame node_of ns ns' → IsRootAt ns n → IsRootAt ns' n
shown ns ns' n same h = subst (λ o. IsSomeAnd o (λ x. x.root ≡ true)) (sym (same n)) h

shown_back : (ns ns' : List (Option NodeSlot)) (n : ℕ) → ShowSame node_of ns ns' → IsRootAt ns' n → IsRootAt ns n
shown_back ns ns' n same h = subst (λ o. IsSomeAnd o (λ x. x.root ≡ true)) (same n) h

pub root_entered : (ns ns1 ns2 : List (Option NodeSlot)) (r : Ring) (n f l : ℕ) → IsRootAt ns n → HasRootsBut r ns n
    → (r.count ≡ 0 → (f ≡ n) × (l ≡ n)) → (r.count ≢ 0 → (f ≡ r.first) × (l ≡ prev_root ns r.first))
    → Joins (next_root ns) (prev_root ns) (next_root ns1) (prev_root ns1) l n → Joins (next_root ns1) (prev_root ns1) (next_root ns2) (prev_root ns2) n f → ShowSame node_of ns ns2
    → HasRoots (record { first = f; count = r.count + 1 }) ns2
root_entered ns ns1 ns2 r n f l root rings none some j k same =
    rings_push (at_zero r.first) (at_zero r.count) (next_root ns) (prev_root ns) (at_zero f) (at_zero (r.count + 1)) (next_root ns1) (prev_root ns1) (next_root ns2) (prev_root ns2)
    (λ i m. (i ≡ 0) × IsRootAt ns m × (m ≡ n → ⊥)) (λ i m. (i ≡ 0) × IsRootAt ns2 m) 0 n l rings
    (λ a b m h i. h.0 ∙ sym i.0)
    (λ i h. h.2 refl)
    (λ i m. (
      λ h. elim (cases_eq m n) [ inl is ↦ inr (h.0, is) | inr ne ↦ inl (h.0, shown_back ns ns2 m same h.1, ne) ],
      λ h. elim h [ inl old ↦ (old.0, shown ns ns2 m same old.1) | inr now ↦ (now.0, shown ns ns2 m same (subst (IsRootAt ns) (sym now.1) root)) ],
    ))
    none some refl (elsewhere f r.first) (elsewhere (r.count + 1) r.count) j k

pub root_left : (ns ns' : List (Option NodeSlot)) (r : Ring) (n f : ℕ) → IsRootAt ns n → HasRoots r ns
    → (r.first ≡ n → f ≡ next_root ns n) → (r.first ≢ n → f ≡ r.first)
    → Joins (next_root ns) (prev_root ns) (next_root ns') (prev_root ns') (prev_root ns n) (next_root ns n) → ShowSame node_of ns ns'
    → HasRootsBut (record { first = f; count = r.count - 1 }) ns' n
root_left ns ns' r n f root rings on off j same =
    rings_remove (at_zero r.first) (at_zero r.count) (next_root ns) (prev_root ns) (at_zero f) (at_zero (r.count - 1)) (next_root ns') (prev_root ns')
    (λ i m. (i ≡ 0) × IsRootAt ns m) (λ i m. (i ≡ 0) × IsRootAt ns' m × (m ≡ n → ⊥)) 0 n rings
    (λ a b m h i. h.0 ∙ sym i.0)
    (refl, root)
    (λ i m. (λ h. ((h.0, shown_back ns ns' m same h.1), h.2), λ h. (h.0.0, shown ns ns' m same h.0.1, h.1)))
    on off refl (elsewhere f r.first) (elsewhere (r.count - 1) r.count) j

-- ---- what stands in the ring

told : (o : Option NodeSlot) → is_root_in o ≡ true → IsSomeAnd (option_map node_of o) (λ x. x.root ≡ true)
told None h = absurd cc
told (Some s) h = h

pub root_told : (ns : List (Option NodeSlot)) (n : ℕ) → is_root_in (slot_in ns n) ≡ true → IsRootAt ns n
root_told ns n h = told (slot_in ns n) h

untold : (o : Option NodeSlot) → is_root_in o ≡ false → IsSomeAnd (option_map node_of o) (λ x. x.root ≡ true) → ⊥
untold None e h = h
untold (Some s) e h = let a : s.root ≡ true = h in cc

pub root_untold : (ns : List (Option NodeSlot)) (n : ℕ) → is_root_in (slot_in ns n) ≡ false → IsRootAt ns n → ⊥
root_untold ns n e h = untold (slot_in ns n) e h

there-at : (o : Option NodeSlot) → IsSomeAnd (option_map node_of o) (λ x. x.root ≡ true) → IsSome o
there-at None h = absurd h
there-at (Some s) h = refl

pub root_there : (ns : List (Option NodeSlot)) (n : ℕ) → IsRootAt ns n → IsSome (slot_in ns n)
root_there ns n h = there-at (slot_in ns n) h

pub roots_but : (r : Ring) (ns : List (Option NodeSlot)) (x : ℕ) → HasRoots r ns → (IsRootAt ns x → ⊥) → HasRootsBut r ns x
roots_but r ns x h not_there =
    rings_agree (at_zero r.first) (at_zero r.count) (next_root ns) (prev_root ns) (at_zero r.first) (at_zero r.count) (next_root ns) (prev_root ns)
    (λ k n. (k ≡ 0) × IsRootAt ns n) (λ k n. (k ≡ 0) × IsRootAt ns n × (n ≡ x → ⊥)) h
    (λ k. refl) (λ k. refl) (λ k n i. refl) (λ k n i. refl)
    (λ k n. (λ i. (i.0, i.1, λ e. not_there (subst (IsRootAt ns) e i.1)), λ i. (i.0, i.1)))

pub roots_all : (r : Ring) (ns : List (Option NodeSlot)) (x : ℕ) → HasRootsBut r ns x → (IsRootAt ns x → ⊥) → HasRoots r ns
roots_all r ns x h not_there =
    rings_agree (at_zero r.first) (at_zero r.count) (next_root ns) (prev_root ns) (at_zero r.first) (at_zero r.count) (next_root ns) (prev_root ns)
    (λ k n. (k ≡ 0) × IsRootAt ns n × (n ≡ x → ⊥)) (λ k n. (k ≡ 0) × IsRootAt ns n) h
    (λ k. refl) (λ k. refl) (λ k n i. refl) (λ k n i. refl)
    (λ k n. (λ i. (i.0, i.1), λ i. (i.0, i.1, λ e. not_there (subst (IsRootAt ns) e i.1))))

-- slots that differ at the node that is left out
pub roots_off : (r : Ring) (ns ns' : List (Option NodeSlot)) (x : ℕ) → ((k : ℕ) → k ≢ x → slot_in ns' k ≡ slot_in ns k) → HasRootsBut r ns x → HasRootsBut r ns' x
roots_off r ns ns' x off h =
    rings_agree (at_zero r.first) (at_zero r.count) (next_root ns) (prev_root ns) (at_zero r.first) (at_zero r.count) (next_root ns') (prev_root ns')
    (λ k n. (k ≡ 0) × IsRootAt ns n × (n ≡ x → ⊥)) (λ k n. (k ≡ 0) × IsRootAt ns' n × (n ≡ x → ⊥)) h
    (λ k. refl) (λ k. refl) (λ k n i. ap (λ o. (root_link o).next) (off n i.2)) (λ k n i. ap (λ o. (root_link o).prev) (off n i.2))
    (λ k n. (
      λ i. (i.0, subst (λ o. IsSomeAnd (option_map node_of o) (λ y. y.root ≡ true)) (sym (off n i.2)) i.1, i.2),
      λ i. (i.0, subst (λ o. IsSomeAnd (option_map node_of o) (λ y. y.root ≡ true)) (off n i.2) i.1, i.2),
    ))

pub no_root : (ns : List (Option NodeSlot)) (x : ℕ) → slot_in ns x ≡ None → IsRootAt ns x → ⊥
no_root ns x none h = subst (λ o. IsSomeAnd (option_map node_of o) (λ y. y.root ≡ true)) none h

pub roots_kept : (r : Ring) (ns ns' : List (Option NodeSlot)) → ShowSame node_of ns ns' → SameRootLinks ns ns' → HasRoots r ns → HasRoots r ns'
roots_kept r ns ns' same links h =
    rings_agree (at_zero r.first) (at_zero r.count) (next_root ns) (prev_root ns) (at_zero r.first) (at_zero r.count) (next_root ns') (prev_root ns')
    (λ k n. (k ≡ 0) × IsRootAt ns n) (λ k n. (k ≡ 0) × IsRootAt ns' n) h
    (λ k. refl) (λ k. refl) (λ k n i. ap (λ (l : Link). l.next) (links n)) (λ k n i. ap (λ (l : Link). l.prev) (links n))
    (λ k n. (λ i. (i.0, shown ns ns' n same i.1), λ i. (i.0, shown_back ns ns' n same i.1)))

none_at : (k : ℕ) → at_zero 0 k ≡ 0
none_at zero = refl
none_at (suc k) = refl

pub no_roots : HasRoots (record { first = 0; count = 0 }) []
no_roots =
    rings_by (at_zero 0) (at_zero 0) (next_root []) (prev_root []) (λ k n. (k ≡ 0) × IsRootAt [] n)
    (λ k. ([], none_at k, tt, record { once = λ i j less within e. absurd (omega arith); each = λ n. (λ h. (let b = h.1 in absurd (omega arith)), λ h. absurd h.1) }))

-- ---- joining two roots

abbrev pub roots_joined : List (Option NodeSlot) → ℕ → ℕ → List (Option NodeSlot)
roots_joined ns from to = changed_at (with_prev_root from) (changed_at (with_next_root to) ns from) to

pub root_joins : (ns : List (Option NodeSlot)) (from to : ℕ) → IsSome (slot_in ns from) → IsSome (slot_in ns to) → Joins (next_root ns) (prev_root ns) (next_root (roots_joined ns from to)) (prev_root (roots_joined ns from to)) from to
root_joins ns from to f t = lens_joins NodeSlot root_link with_next_root with_prev_root ns from to root_lens f t

seen_next : (v : ℕ) (o : Option NodeSlot) → option_map node_of (option_map (with_next_root v) o) ≡ option_map node_of o
seen_next v None = refl
seen_next v (Some s) = refl

seen_prev : (v : ℕ) (o : Option NodeSlot) → option_map node_of (option_map (with_prev_root v) o) ≡ option_map node_of o
seen_prev v None = refl
seen_prev v (Some s) = refl

ring_next : (side : Side) (v : ℕ) (o : Option NodeSlot) → ring_in side (option_map (with_next_root v) o) ≡ ring_in side o
ring_next side v None = refl
ring_next Beginning v (Some s) = refl
ring_next Ending v (Some s) = refl

ring_prev : (side : Side) (v : ℕ) (o : Option NodeSlot) → ring_in side (option_map (with_prev_root v) o) ≡ ring_in side o
ring_prev side v None = refl
ring_prev Beginning v (Some s) = refl
ring_prev Ending v (Some s) = refl

pub root_joined_keeps : (ns : List (Option NodeSlot)) (from to : ℕ) → KeepsNodes ns (roots_joined ns from to)
root_joined_keeps ns from to =
    let mid = changed_at (with_next_root to) ns from in
    record {
      seen = λ k. kept (option_map node_of) (with_prev_root from) (seen_prev from) mid to k ∙ kept (option_map node_of) (with_next_root to) (seen_next to) ns from k;
      rings = λ side k. kept (ring_in side) (with_prev_root from) (ring_prev side from) mid to k ∙ kept (ring_in side) (with_next_root to) (ring_next side to) ns from k;
    }

-- ---- what is kept

pub keeps_self : (ns : List (Option NodeSlot)) → KeepsNodes ns ns
keeps_self ns = record { seen = λ k. refl; rings = λ side n. refl }

pub keeps_then : (a b c : List (Option NodeSlot)) → KeepsNodes a b → KeepsNodes b c → KeepsNodes a c
keeps_then a b c h i = record { seen = λ k. i.seen k ∙ h.seen k; rings = λ side n. i.rings side n ∙ h.rings side n }

set_both : {Y : Type 0} (see : Option NodeSlot → Y) (ns ns' : List (Option NodeSlot)) (n : ℕ) (o : Option NodeSlot) (k : ℕ) → n < length ns → n < length ns' → see (slot_in ns' k) ≡ see (slot_in ns k) → see (slot_in (slice_set ns' n o) k) ≡ see (slot_in (slice_set ns n o) k)
set_both see ns ns' n o k l l' h =
    elim (cases_eq k n) [
      | inl e ↦ subst (λ i. see (slot_in (slice_set ns' n o) i) ≡ see (slot_in (slice_set ns n o) i)) (sym e) (ap see (slot_here ns' n o l' ∙ sym (slot_here ns n o l)))
      | inr ne ↦ ap see (slot_other ns' n o k ne) ∙ h ∙ ap see (sym (slot_other ns n o k ne))
    ]

pub keeps_set : (ns ns' : List (Option NodeSlot)) (n : ℕ) (o : Option NodeSlot) → n < length ns → n < length ns' → KeepsNodes ns ns' → KeepsNodes (slice_set ns n o) (slice_set ns' n o)
keeps_set ns ns' n o l l' h = record {
  seen = λ k. set_both (option_map node_of) ns ns' n o k l l' (h.seen k);
  rings = λ side k. set_both (ring_in side) ns ns' n o k l l' (h.rings side k);
}

rewritten_seen : (l : List Atom) (m : NodeMark) (r : Bool) (o p : Option NodeSlot) → option_map node_of p ≡ option_map node_of o → option_map node_of (option_map (rewritten l m r) p) ≡ option_map node_of (option_map (rewritten l m r) o)
rewritten_seen l m r None None h = refl
rewritten_seen l m r None (Some p) h = absurd cc
rewritten_seen l m r (Some o) None h = absurd cc
rewritten_seen l m r (Some o) (Some p) h = refl

pub ring_rewritten : (side : Side) (l : List Atom) (m : NodeMark) (r : Bool) (o : Option NodeSlot) → ring_in side (option_map (rewritten l m r) o) ≡ ring_in side o
ring_rewritten side l m r None = refl
ring_rewritten Beginning l m r (Some s) = refl
ring_rewritten Ending l m r (Some s) = refl

pub keeps_rewritten : (l : List Atom) (m : NodeMark) (r : Bool) (ns ns' : List (Option NodeSlot)) (n : ℕ) → KeepsNodes ns ns' → KeepsNodes (changed_at (rewritten l m r) ns n) (changed_at (rewritten l m r) ns' n)
keeps_rewritten l m r ns ns' n h = record {
  seen = λ k. elim (cases_eq k n) [
    | inl e ↦ subst (λ i. option_map node_of (slot_in (changed_at (rewritten l m r) ns' n) i) ≡ option_map node_of (slot_in (changed_at (rewritten l m r) ns n) i)) (sym e)
        (ap (option_map node_of) (changed_here (rewritten l m r) ns' n) ∙ rewritten_seen l m r (slot_in ns n) (slot_in ns' n) (h.seen n) ∙ ap (option_map node_of) (sym (changed_here (rewritten l m r) ns n)))
    | inr ne ↦ ap (option_map node_of) (slot_other ns' n (option_map (rewritten l m r) (slot_in ns' n)) k ne) ∙ h.seen k ∙ ap (option_map node_of) (sym (slot_other ns n (option_map (rewritten l m r) (slot_in ns n)) k ne))
  ];
  rings = λ side k. kept (ring_in side) (rewritten l m r) (ring_rewritten side l m r) ns' n k ∙ h.rings side k ∙ sym (kept (ring_in side) (rewritten l m r) (ring_rewritten side l m r) ns n k);
}

pub still_some : (ns ns' : List (Option NodeSlot)) (k : ℕ) → KeepsNodes ns ns' → IsSome (slot_in ns k) → IsSome (slot_in ns' k)
still_some ns ns' k h s = still_there node_of ns ns' k h.seen s

-- ---- entering and leaving

pub last_root_some : (ns : List (Option NodeSlot)) (r : Ring) (n l : ℕ) → IsRootAt ns n → HasRootsBut r ns n → (r.count ≡ 0 → l ≡ n) → (r.count ≢ 0 → l ≡ prev_root ns r.first) → IsSome (slot_in ns l)
last_root_some ns r n l root rings none some =
    elim (cases_eq r.count 0) [
      | inl z ↦ subst (λ k. IsSome (slot_in ns k)) (sym (none z)) (root_there ns n root)
      | inr nz ↦ subst (λ k. IsSome (slot_in ns k)) (sym (some nz))
          (let p = prev_root ns r.first in root_there ns p (((rings.walks 0).each p).0 (last_there (next_root ns) (prev_root ns) r.count r.first nz (rings.rounds 0))).1)
    ]

pub first_root_some : (ns : List (Option NodeSlot)) (r : Ring) (n f : ℕ) → IsRootAt ns n → HasRootsBut r ns n → (r.count ≡ 0 → f ≡ n) → (r.count ≢ 0 → f ≡ r.first) → IsSome (slot_in ns f)
first_root_some ns r n f root rings none some =
    elim (cases_eq r.count 0) [
      | inl z ↦ subst (λ k. IsSome (slot_in ns k)) (sym (none z)) (root_there ns n root)
      | inr nz ↦ subst (λ k. IsSome (slot_in ns k)) (sym (some nz))
          (root_there ns r.first (((rings.walks 0).each r.first).0 (first_there (next_root ns) r.count r.first nz)).1)
    ]

pub may_enter_roots : (ns : List (Option NodeSlot)) (r : Ring) (n : ℕ) → IsRootAt ns n → HasRootsBut r ns n → r.count + 1 ≤ length ns
may_enter_roots ns r n root rings =
    let xs = follow (next_root ns) r.count r.first in
    let same : length xs ≡ r.count = length-follow (next_root ns) r.count r.first in
    let long : length (n ∷ xs) ≤ length ns = few (n ∷ xs) (length ns) (apart_more n xs (λ h. (((rings.walks 0).each n).0 h).2 refl) (rings.walks 0).once)
    (λ k h. elim (first_or_later n xs k h) [
      | inl is ↦ subst (λ i. i < length ns) is (slot_within ns n (root_there ns n root))
      | inr in_ ↦ slot_within ns k (root_there ns k (((rings.walks 0).each k).0 in_).1)
    ]) in
    omega arith

pub in_roots : (ns : List (Option NodeSlot)) (r : Ring) (n : ℕ) → IsRootAt ns n → HasRoots r ns → Contains (follow (next_root ns) r.count r.first) n
in_roots ns r n root rings = ((rings.walks 0).each n).1 (refl, root)

pub prev_root_some : (ns : List (Option NodeSlot)) (r : Ring) (n : ℕ) (link : Link) → IsRootAt ns n → HasRoots r ns → link ≡ root_link (slot_in ns n) → IsSome (slot_in ns link.prev)
prev_root_some ns r n link root rings is =
    let p = prev_root ns n in
    subst (λ (x : Link). IsSome (slot_in ns x.prev)) (sym is)
    (root_there ns p (((rings.walks 0).each p).0 (prev_round (next_root ns) (prev_root ns) (follow (next_root ns) r.count r.first) n (in_roots ns r n root rings) (rings.rounds 0))).1)

pub next_root_some : (ns : List (Option NodeSlot)) (r : Ring) (n : ℕ) (link : Link) → IsRootAt ns n → HasRoots r ns → link ≡ root_link (slot_in ns n) → IsSome (slot_in ns link.next)
next_root_some ns r n link root rings is =
    let p = next_root ns n in
    subst (λ (x : Link). IsSome (slot_in ns x.next)) (sym is)
    (root_there ns p (((rings.walks 0).each p).0 (next_round (next_root ns) (prev_root ns) (follow (next_root ns) r.count r.first) n (in_roots ns r n root rings) (rings.rounds 0))).1)

pub may_leave_roots : (ns : List (Option NodeSlot)) (r : Ring) (n : ℕ) → IsRootAt ns n → HasRoots r ns → 1 ≤ r.count
may_leave_roots ns r n root rings =
    let h = in_roots ns r n root rings in
    let b : h.0 < length (follow (next_root ns) r.count r.first) = h.1 in
    let same = length-follow (next_root ns) r.count r.first in
    omega (arith, same)

pub roots_left : (ns ns' : List (Option NodeSlot)) (r : Ring) (n f : ℕ) (link : Link) → IsRootAt ns n → HasRoots r ns → link ≡ root_link (slot_in ns n)
    → (r.first ≡ n → f ≡ link.next) → (r.first ≢ n → f ≡ r.first)
    → Joins (next_root ns) (prev_root ns) (next_root ns') (prev_root ns') link.prev link.next → ShowSame node_of ns ns'
    → HasRootsBut (record { first = f; count = r.count - 1 }) ns' n
roots_left ns ns' r n f link root rings is on off j same =
    root_left ns ns' r n f root rings (λ h. on h ∙ ap (λ (x : Link). x.next) is) off
    (subst (λ (x : Link). Joins (next_root ns) (prev_root ns) (next_root ns') (prev_root ns') x.prev x.next) is j) same
