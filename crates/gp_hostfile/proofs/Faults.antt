-- The first fault of a tree, check by check.
use Rattle.std.proofs.Common.{◌≡◌, Bool, true, false, List, [], ◌∷◌, ◌++◌, Option, Some, None, refl, sym, ap, ◌∙◌}
use Rattle.std.specs.Prelude.{option_map, flat_map, is_some, if◌then◌else◌}
use Rattle.std.specs.Option.{option_or}
use Rattle.std.specs.List.{list_any, position_from}
use Rattle.std.proofs.Common.{cond, ◌||◌, ℕ, ◌+◌}
use Rattle.gp_memory.proofs.Basics.{neither, or_assoc}
use Rattle.gp_values.specs.Names.{Name, same_name, has_name, place_of, first_doubled, first_unknown}
use Rattle.gp_hostfile.specs.declared.tree.NodeTree.{NodeTree}
use Rattle.gp_hostfile.specs.declared.tree.EdgeTree.{EdgeTree}
use Rattle.gp_hostfile.specs.declared.fault.HostFault.{HostFault}
use Rattle.gp_hostfile.specs.declared.fault.HostFault.TheVariants as faults
use Rattle.gp_hostfile.specs.Grammar.{HostTree}
use Rattle.gp_hostfile.specs.Host.{first_found, unless, node_mark, edge_mark, out_of_range, first_out_of_range, wrong_node, wrong_edge, first_wrong_mark, node_names, edge_names, end_names, first_fault}
use Rattle.gp_hostfile.specs.inside.Stages.{Refuses, atom_fault, label_fault, end_fault, ends_fault, node_mark_fault, edge_mark_fault}

pub first_refused : (e : HostFault) (a b : Option HostFault) → Refuses e a → Refuses e (option_or a b)
first_refused faults.NoMemory a b h = tt
first_refused (faults.Lex f) a b h = rw h refl
first_refused (faults.Syntax k) a b h = rw h refl
first_refused (faults.NumberRange at) a b h = rw h refl
first_refused (faults.TwoNodes n) a b h = rw h refl
first_refused (faults.TwoEdges n) a b h = rw h refl
first_refused (faults.NoSuchEnd n) a b h = rw h refl
first_refused (faults.WrongMark n) a b h = rw h refl

pub then_refused : (e : HostFault) (a b : Option HostFault) → a ≡ None → Refuses e b → Refuses e (option_or a b)
then_refused e a b n h = rw n h

pub none_refused : {A : Type 0} (a b : Option A) → a ≡ None → b ≡ None → option_or a b ≡ None
none_refused a b n m = rw n m

-- ---- the first that is found

map_or : {A B : Type 0} (f : A → B) (a b : Option A) → option_map f (option_or a b) ≡ option_or (option_map f a) (option_map f b)
map_or f None b = refl
map_or f (Some x) b = refl

found_mapped : {A B C : Type 0} (g : B → C) (f : A → Option B) (xs : List A) → option_map g (first_found f xs) ≡ first_found (λ x. option_map g (f x)) xs
found_mapped g f [] = refl
found_mapped g f (x ∷ xs) = map_or g (f x) (first_found f xs) ∙ ap (option_or (option_map g (f x))) (found_mapped g f xs)

found_append : {A B : Type 0} (f : A → Option B) (xs ys : List A) → first_found f (xs ++ ys) ≡ option_or (first_found f xs) (first_found f ys)
found_append f [] ys = refl
found_append f (x ∷ xs) ys = ap (option_or (f x)) (found_append f xs ys) ∙ sym (or_assoc (f x) (first_found f xs) (first_found f ys))

found_flat : {A B C : Type 0} (f : B → Option C) (g : A → List B) (xs : List A) → first_found f (flat_map g xs) ≡ first_found (λ x. first_found f (g x)) xs
found_flat f g [] = refl
found_flat f g (x ∷ xs) = found_append f (g x) (flat_map g xs) ∙ ap (option_or (first_found f (g x))) (found_flat f g xs)

found_alike : {A B : Type 0} (f g : A → Option B) → ((x : A) → f x ≡ g x) → (xs : List A) → first_found f xs ≡ first_found g xs
found_alike f g e [] = refl
found_alike f g e (x ∷ xs) = λ i. option_or (e x i) (found_alike f g e xs i)

-- ---- places

some_position : (t : Name → Bool) (i : ℕ) (names : List Name) → is_some (position_from t i names) ≡ list_any t names
some_position t i [] = refl
some_position t i (n ∷ names) = go (t n) (some_position t (i + 1) names)
  where
    go : (b : Bool) → is_some (position_from t (i + 1) names) ≡ list_any t names → is_some (cond b (Some i) (position_from t (i + 1) names)) ≡ (b || list_any t names)
    go true h = refl
    go false h = h

pub has_place : (names : List Name) (n : Name) → is_some (place_of names n) ≡ has_name names n
has_place names n = some_position (same_name n) 0 names

unknown_found : (known names : List Name) → first_unknown known names ≡ first_found (λ n. unless n (place_of known n)) names
unknown_found known [] = refl
unknown_found known (n ∷ names) = go (place_of known n) (sym (has_place known n)) (unknown_found known names)
  where
    go : (o : Option ℕ) → has_name known n ≡ is_some o → first_unknown known names ≡ first_found (λ n. unless n (place_of known n)) names
        → (if has_name known n then first_unknown known names else Some n) ≡ option_or (unless n o) (first_found (λ n. unless n (place_of known n)) names)
    go None h r = rw h refl
    go (Some k) h r = rw h r

-- ---- check by check

unless_mapped : {A B C : Type 0} (f : B → C) (y : B) (o : Option A) → option_map f (unless y o) ≡ unless (f y) o
unless_mapped f y None = refl
unless_mapped f y (Some x) = refl

abbrev number_checks : HostTree → Option HostFault
number_checks t = option_or (first_found (λ (n : NodeTree). label_fault n.label) t.0) (first_found (λ (e : EdgeTree). label_fault e.label) t.1)

abbrev mark_checks : HostTree → Option HostFault
mark_checks t = option_or (first_found node_mark_fault t.0) (first_found edge_mark_fault t.1)

numbers_alike : (t : HostTree) → option_map faults.NumberRange (first_out_of_range t) ≡ number_checks t
numbers_alike t =
    found_mapped faults.NumberRange out_of_range (flat_map (λ (n : NodeTree). n.label) t.0 ++ flat_map (λ (e : EdgeTree). e.label) t.1)
    ∙ found_append atom_fault (flat_map (λ (n : NodeTree). n.label) t.0) (flat_map (λ (e : EdgeTree). e.label) t.1)
    ∙ (λ i. option_or (found_flat atom_fault (λ (n : NodeTree). n.label) t.0 i) (found_flat atom_fault (λ (e : EdgeTree). e.label) t.1 i))

ends_alike : (t : HostTree) → option_map faults.NoSuchEnd (first_unknown (node_names t) (end_names t)) ≡ first_found (ends_fault (node_names t)) t.1
ends_alike t =
    ap (option_map faults.NoSuchEnd) (unknown_found (node_names t) (end_names t)) ∙ found_mapped faults.NoSuchEnd (λ n. unless n (place_of (node_names t) n)) (end_names t)
    ∙ found_alike _ (end_fault (node_names t)) (λ n. unless_mapped faults.NoSuchEnd n (place_of (node_names t) n)) (end_names t)
    ∙ found_flat (end_fault (node_names t)) (λ (e : EdgeTree). e.source ∷ e.target ∷ []) t.1

marks_alike : (t : HostTree) → option_map faults.WrongMark (first_wrong_mark t) ≡ mark_checks t
marks_alike t =
    map_or faults.WrongMark (first_found wrong_node t.0) (first_found wrong_edge t.1)
    ∙ (λ i. option_or
    ((found_mapped faults.WrongMark wrong_node t.0 ∙ found_alike _ node_mark_fault (λ (n : NodeTree). unless_mapped faults.WrongMark n.name (node_mark n.mark)) t.0) i)
    ((found_mapped faults.WrongMark wrong_edge t.1 ∙ found_alike _ edge_mark_fault (λ (e : EdgeTree). unless_mapped faults.WrongMark e.name (edge_mark e.mark)) t.1) i))

module _ (t : HostTree) where
  abbrev two_nodes : Option HostFault
  two_nodes = option_map faults.TwoNodes (first_doubled (node_names t))

  abbrev two_edges : Option HostFault
  two_edges = option_map faults.TwoEdges (first_doubled (edge_names t))

  abbrev no_end : Option HostFault
  no_end = first_found (ends_fault (node_names t)) t.1

  in_turn : first_fault t ≡ option_or (number_checks t) (option_or two_nodes (option_or two_edges (option_or no_end (mark_checks t))))
  in_turn = λ i. option_or (numbers_alike t i) (option_or two_nodes (option_or two_edges (option_or (ends_alike t i) (marks_alike t i))))

  pub number_stops : (e : HostFault) → Refuses e (number_checks t) → Refuses e (first_fault t)
  number_stops e h = rw in_turn (first_refused e _ _ h)

  pub two_nodes_stop : (e : HostFault) → number_checks t ≡ None → Refuses e two_nodes → Refuses e (first_fault t)
  two_nodes_stop e a h = rw in_turn (then_refused e _ _ a (first_refused e _ _ h))

  pub two_edges_stop : (e : HostFault) → number_checks t ≡ None → two_nodes ≡ None → Refuses e two_edges → Refuses e (first_fault t)
  two_edges_stop e a b h = rw in_turn (then_refused e _ _ a (then_refused e _ _ b (first_refused e _ _ h)))

  pub end_stops : (e : HostFault) → number_checks t ≡ None → two_nodes ≡ None → two_edges ≡ None → Refuses e no_end → Refuses e (first_fault t)
  end_stops e a b c h = rw in_turn (then_refused e _ _ a (then_refused e _ _ b (then_refused e _ _ c (first_refused e _ _ h))))

  pub mark_stops : (e : HostFault) → number_checks t ≡ None → two_nodes ≡ None → two_edges ≡ None → no_end ≡ None → Refuses e (mark_checks t) → Refuses e (first_fault t)
  mark_stops e a b c d h = rw in_turn (then_refused e _ _ a (then_refused e _ _ b (then_refused e _ _ c (then_refused e _ _ d h))))

  pub none_stops : number_checks t ≡ None → two_nodes ≡ None → two_edges ≡ None → no_end ≡ None → mark_checks t ≡ None → first_fault t ≡ None
  none_stops a b c d e = in_turn ∙ rw (a, b, c, d) e

  pub clear : first_fault t ≡ None → (number_checks t ≡ None) × (no_end ≡ None) × (mark_checks t ≡ None)
  clear h =
      let a = neither (number_checks t) _ (sym in_turn ∙ h) in
      let b = neither two_nodes _ a.1 in
      let c = neither two_edges _ b.1 in
      let d = neither no_end (mark_checks t) c.1 in
      (a.0, d.0, d.1)
