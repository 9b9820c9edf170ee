-- Matches by today's numbers, and the numbers of right edges.
use Rattle.std.proofs.Common.{◌≡◌, ℕ, ◌+◌, ◌<◌, ◌≤◌, List, [], ◌∷◌, ◌++◌, cond, map, length, take, drop, get_or, Option, Some, None, option_map, sym, ap, refl, ◌∙◌, subst, arith}
use Rattle.std.specs.Prelude.{count_by, is_none, option_and_then, slice_index}
use Rattle.std.proofs.lemmas.List.{append_assoc, append-nil, at_drop_more, at_drop_all, drop_all, take_all, get_or-map, length-map}
use Rattle.std.proofs.lemmas.List.Sums.{sum_by-cons}
use Rattle.std.proofs.lemmas.Option.{slice_get_within}
use Rattle.gp_syntax.specs.Images.{EdgeImage}
use Rattle.gp_syntax.specs.declared.rule.RuleParts.{RuleParts}
use Rattle.gp_syntax.specs.declared.rule.RightEdge.{RightEdge}
use Rattle.gp_syntax.specs.Rule.{Found, kept_edge, kept_edges}
use Rattle.gp_syntax.specs.Tree.{rule_of_tree, right_edge_of}
use Rattle.gp_syntax.proofs.KeptEdges.{kept_edge_at}
use Rattle.gp_step.specs.Halves.{images_from}
use Rattle.gp_derivation.specs.inside.Table.{today, all_today, found_today}

-- ---- a match

-- the match has what the first of all images give, and these are left
pub record IsBegun (t : List (Option ℕ)) (m : Found) (all left : List EdgeImage) (found : Found) : Type 0 where
  pub rule : found.rule ≡ m.rule
  pub nodes : found.nodes ≡ m.nodes
  pub reversed : found.reversed ++ map (λ (i : EdgeImage). i.reversed) left ≡ map (λ (i : EdgeImage). i.reversed) all
  pub edges : option_map (λ (ks : List ℕ). found.edges ++ ks) (all_today t (map (λ (i : EdgeImage). i.number) left)) ≡ all_today t (map (λ (i : EdgeImage). i.number) all)

no_more : (o : Option (List ℕ)) → option_map (λ (ks : List ℕ). ks) o ≡ o
no_more None = refl
no_more (Some ks) = refl

pub begins : (t : List (Option ℕ)) (m : Found) (all : List EdgeImage) (nodes : List ℕ) (i : ℕ) (found : Found) → found ≡ record { rule = m.rule; reversed = []; nodes = take i nodes; edges = [] } → length nodes ≤ i → nodes ≡ m.nodes → IsBegun t m all all found
begins t m all nodes i found is l same = subst (IsBegun t m all all) (sym is) (record {
  rule = refl;
  nodes = take_all i nodes l ∙ same;
  reversed = refl;
  edges = no_more (all_today t (map (λ (i : EdgeImage). i.number) all));
})

today_first : (t : List (Option ℕ)) (all : List EdgeImage) (i : ℕ) (d : EdgeImage) (o : Option ℕ) → i < length all → o ≡ today t (get_or all i d).number
    → all_today t (map (λ (i : EdgeImage). i.number) (drop i all)) ≡ option_and_then (λ (k : ℕ). option_map (λ (ks : List ℕ). k ∷ ks) (all_today t (map (λ (i : EdgeImage). i.number) (drop (i + 1) all)))) o
today_first t all i d o l is =
    let rest = all_today t (map (λ (i : EdgeImage). i.number) (drop (i + 1) all)) in
    at_drop_more (λ (l : List EdgeImage). all_today t (map (λ (i : EdgeImage). i.number) l)) all i d l ∙ ap (option_and_then (λ (k : ℕ). option_map (λ (ks : List ℕ). k ∷ ks) rest)) (sym is)

joined : (o : Option (List ℕ)) (es : List ℕ) (k : ℕ) → option_map (λ (ks : List ℕ). (es ++ k ∷ []) ++ ks) o ≡ option_map (λ (ks : List ℕ). es ++ ks) (option_map (λ (ks : List ℕ). k ∷ ks) o)
joined None es k = refl
joined (Some ks) es k = ap Some (append_assoc es (k ∷ []) ks)

pub next_begun : (t : List (Option ℕ)) (m : Found) (all : List EdgeImage) (i k : ℕ) (d : EdgeImage) (found next : Found) → i < length all → Some k ≡ today t (get_or all i d).number
    → next ≡ record found { edges = found.edges ++ k ∷ []; reversed = found.reversed ++ (get_or all i d).reversed ∷ [] }
    → IsBegun t m all (drop i all) found → IsBegun t m all (drop (i + 1) all) next
next_begun t m all i k d found next l one is h =
    let rest = all_today t (map (λ (i : EdgeImage). i.number) (drop (i + 1) all)) in
    let left = map (λ (i : EdgeImage). i.reversed) (drop (i + 1) all) in
    let first : map (λ (i : EdgeImage). i.reversed) (drop i all) ≡ (get_or all i d).reversed ∷ left = at_drop_more (λ (l : List EdgeImage). map (λ (i : EdgeImage). i.reversed) l) all i d l in
    subst (IsBegun t m all (drop (i + 1) all)) (sym is) (record {
      rule = h.rule;
      nodes = h.nodes;
      reversed = append_assoc found.reversed ((get_or all i d).reversed ∷ []) left ∙ (ap (λ bs. found.reversed ++ bs) (sym first) ∙ h.reversed);
      edges = joined rest found.edges k ∙ (ap (option_map (λ (ks : List ℕ). found.edges ++ ks)) (sym (today_first t all i d (Some k) l one)) ∙ h.edges);
    })

pub none_today : (t : List (Option ℕ)) (m : Found) (all : List EdgeImage) (i : ℕ) (d : EdgeImage) (found : Found) → i < length all → None ≡ today t (get_or all i d).number → map (λ (i : EdgeImage). i.number) all ≡ m.edges
    → IsBegun t m all (drop i all) found → None ≡ found_today t m
none_today t m all i d found l none edges h =
    let e : None ≡ all_today t m.edges = sym (ap (option_map (λ (ks : List ℕ). found.edges ++ ks)) (today_first t all i d None l none)) ∙ (h.edges ∙ ap (all_today t) edges) in
    ap (option_map (λ (es : List ℕ). record m { edges = es })) e

pub begun_all : (t : List (Option ℕ)) (m : Found) (all : List EdgeImage) (i : ℕ) (found : Found) → length all ≤ i → map (λ (i : EdgeImage). i.number) all ≡ m.edges → map (λ (i : EdgeImage). i.reversed) all ≡ m.reversed
    → IsBegun t m all (drop i all) found → Some found ≡ found_today t m
begun_all t m all i found l edges reversed h =
    let none : drop i all ≡ [] = drop_all i all l in
    let way : found.reversed ≡ m.reversed = sym (ap (λ (l : List EdgeImage). found.reversed ++ map (λ (i : EdgeImage). i.reversed) l) none ∙ append-nil found.reversed) ∙ (h.reversed ∙ reversed) in
    let numbers : Some found.edges ≡ all_today t m.edges =
    ap Some (sym (append-nil found.edges)) ∙ (sym (ap (λ (l : List EdgeImage). option_map (λ (ks : List ℕ). found.edges ++ ks) (all_today t (map (λ (i : EdgeImage). i.number) l))) none) ∙ (h.edges ∙ ap (all_today t) edges)) in
    let same : found ≡ record m { edges = found.edges } = λ j. record { rule = h.rule j; reversed = way j; nodes = h.nodes j; edges = found.edges } in
    ap Some same ∙ ap (option_map (λ (es : List ℕ). record m { edges = es })) numbers

-- ---- the right side

pub place_below : (r : RuleParts) (q : RightEdge) (images : List EdgeImage) (numbers : List ℕ) (i : ℕ) → length numbers ≡ length (rule_of_tree r).left_edges → map (λ (i : EdgeImage). i.number) images ≡ numbers → Some i ≡ kept_edge (rule_of_tree r) (right_edge_of q) → i < length images
place_below r q images numbers i size same h =
    let k = kept_edge_at (rule_of_tree r) (right_edge_of q) i (sym h) in
    let below : i < length (rule_of_tree r).left_edges = slice_get_within (rule_of_tree r).left_edges i k.0 k.1 in
    let count : length images ≡ length numbers = sym (length-map images (λ (i : EdgeImage). i.number)) ∙ ap length same in
    subst (λ (n : ℕ). i < n) (sym (count ∙ size)) below

-- what these edges make from the next number on is what is left of all numbers, and there is room for it
pub record IsRest (found : List ℕ) (r : RuleParts) (qs : List RightEdge) (ns : List ℕ) (free : ℕ) (all : List ℕ) (most : ℕ) : Type 0 where
  pub numbers : ns ++ images_from found (map (kept_edge (rule_of_tree r)) (map right_edge_of qs)) free ≡ all
  pub room : free + count_by is_none (map (kept_edge (rule_of_tree r)) (map right_edge_of qs)) ≡ most

pub begins_right : (found : List ℕ) (r : RuleParts) (qs : List RightEdge) (ns : List ℕ) (next : ℕ) → qs ≡ r.right_edges → ns ≡ []
    → IsRest found r qs ns next (images_from found (kept_edges (rule_of_tree r)) next) (next + count_by is_none (kept_edges (rule_of_tree r)))
begins_right found r qs ns next same none = record {
  numbers = ap (λ l. l ++ images_from found (map (kept_edge (rule_of_tree r)) (map right_edge_of qs)) next) none ∙ ap (λ (l : List RightEdge). images_from found (map (kept_edge (rule_of_tree r)) (map right_edge_of l)) next) same;
  room = ap (λ (l : List RightEdge). next + count_by is_none (map (kept_edge (rule_of_tree r)) (map right_edge_of l))) same;
}

places_at : (r : RuleParts) (qs : List RightEdge) (i : ℕ) (q : RightEdge) (o : Option ℕ) → i < length qs → q ≡ get_or qs i q → o ≡ kept_edge (rule_of_tree r) (right_edge_of q)
    → map (kept_edge (rule_of_tree r)) (map right_edge_of (drop i qs)) ≡ o ∷ map (kept_edge (rule_of_tree r)) (map right_edge_of (drop (i + 1) qs))
places_at r qs i q o l at is =
    let os = map (kept_edge (rule_of_tree r)) (map right_edge_of (drop (i + 1) qs)) in
    at_drop_more (λ (l : List RightEdge). map (kept_edge (rule_of_tree r)) (map right_edge_of l)) qs i q l
    ∙ ap (λ (z : RightEdge). kept_edge (rule_of_tree r) (right_edge_of z) ∷ os) (sym at) ∙ ap (λ z. z ∷ os) (sym is)

one_less : (os ps : List (Option ℕ)) (o : Option ℕ) → ps ≡ o ∷ os → count_by is_none ps ≡ cond (is_none o) 1 0 + count_by is_none os
one_less os ps o e = ap (count_by is_none) e ∙ sum_by-cons (λ (p : Option ℕ). cond (is_none p) 1 0) o os

pub next_kept : (found : List ℕ) (r : RuleParts) (qs : List RightEdge) (i : ℕ) (q : RightEdge) (ns ms : List ℕ) (place free : ℕ) (all : List ℕ) (most : ℕ)
    → i < length qs → q ≡ get_or qs i q → Some place ≡ kept_edge (rule_of_tree r) (right_edge_of q) → ms ≡ ns ++ slice_index found place ∷ []
    → IsRest found r (drop i qs) ns free all most → IsRest found r (drop (i + 1) qs) ms free all most
next_kept found r qs i q ns ms place free all most l at keeps more h =
    let os = map (kept_edge (rule_of_tree r)) (map right_edge_of (drop (i + 1) qs)) in
    let e = places_at r qs i q (Some place) l at keeps in
    let count = one_less os _ (Some place) e in
    record {
      numbers = ap (λ l. l ++ images_from found os free) more ∙ (append_assoc ns (slice_index found place ∷ []) (images_from found os free) ∙ (ap (λ l. ns ++ images_from found l free) (sym e) ∙ h.numbers));
      room = omega (arith, h.room, count);
    }

pub next_made : (found : List ℕ) (r : RuleParts) (qs : List RightEdge) (i : ℕ) (q : RightEdge) (ns ms : List ℕ) (free : ℕ) (all : List ℕ) (most : ℕ)
    → i < length qs → q ≡ get_or qs i q → None ≡ kept_edge (rule_of_tree r) (right_edge_of q) → ms ≡ ns ++ free ∷ []
    → IsRest found r (drop i qs) ns free all most → IsRest found r (drop (i + 1) qs) ms (free + 1) all most
next_made found r qs i q ns ms free all most l at keeps more h =
    let os = map (kept_edge (rule_of_tree r)) (map right_edge_of (drop (i + 1) qs)) in
    let e = places_at r qs i q None l at keeps in
    let count = one_less os _ None e in
    record {
      numbers = ap (λ l. l ++ images_from found os (free + 1)) more ∙ (append_assoc ns (free ∷ []) (images_from found os (free + 1)) ∙ (ap (λ l. ns ++ images_from found l free) (sym e) ∙ h.numbers));
      room = omega (arith, h.room, count);
    }

-- a number is free where an edge is to be made
pub is_room : (found : List ℕ) (r : RuleParts) (qs : List RightEdge) (i : ℕ) (q : RightEdge) (ns : List ℕ) (free : ℕ) (all : List ℕ) (most : ℕ)
    → i < length qs → q ≡ get_or qs i q → None ≡ kept_edge (rule_of_tree r) (right_edge_of q) → IsRest found r (drop i qs) ns free all most → free < most
is_room found r qs i q ns free all most l at keeps h =
    let count = one_less (map (kept_edge (rule_of_tree r)) (map right_edge_of (drop (i + 1) qs))) _ None (places_at r qs i q None l at keeps) in
    omega (arith, h.room, count)

pub all_numbers : (found : List ℕ) (r : RuleParts) (qs : List RightEdge) (i : ℕ) (ns : List ℕ) (free : ℕ) (all : List ℕ) (most : ℕ) → length qs ≤ i → IsRest found r (drop i qs) ns free all most → ns ≡ all
all_numbers found r qs i ns free all most l h =
    let e : images_from found (map (kept_edge (rule_of_tree r)) (map right_edge_of (drop i qs))) free ≡ [] = at_drop_all (λ (l : List RightEdge). images_from found (map (kept_edge (rule_of_tree r)) (map right_edge_of l)) free) qs i l in
    sym (ap (λ l. ns ++ l) e ∙ append-nil ns) ∙ h.numbers

pub number_at : (r : RuleParts) (q : RightEdge) (images : List EdgeImage) (numbers : List ℕ) (i : ℕ) (d : EdgeImage) → length numbers ≡ length (rule_of_tree r).left_edges → map (λ (i : EdgeImage). i.number) images ≡ numbers → Some i ≡ kept_edge (rule_of_tree r) (right_edge_of q) → (get_or images i d).number ≡ slice_index numbers i
number_at r q images numbers i d size same h = sym (get_or-map (λ (i : EdgeImage). i.number) images i d 0 (place_below r q images numbers i size same h)) ∙ ap (λ l. slice_index l i) same
