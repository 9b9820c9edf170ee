-- The first name that stood before, list by list.
use Rattle.std.proofs.Common.{◌≡◌, ℕ, ◌+◌, Bool, true, false, not, if◌then◌else◌, List, [], ◌∷◌, ◌++◌, map, flat_map, drop, Option, Some, None, slice_get, Result, Ok, Err, IfOk, refl, sym, ap, subst, ◌∙◌, append_assoc}
use Rattle.std.specs.Option.{option_or, option_copied}
use Rattle.std.specs.Borrow.{Bor}
use Rattle.gp_memory.proofs.Basics.{map_append, or_assoc, or_none}
use Rattle.gp_values.specs.Names.{Name, has_name, first_doubled, first_doubled_behind}
use Rattle.gp_syntax.specs.declared.tree.VariableGroup.{VariableGroup}
use Rattle.gp_syntax.specs.declared.tree.RuleDecl.{RuleDecl}
use Rattle.gp_syntax.specs.declared.tree.NodeDecl.{NodeDecl}
use Rattle.gp_syntax.specs.declared.tree.EdgeDecl.{EdgeDecl}
use Rattle.gp_syntax.specs.Declaration.{DeclaredNode, DeclaredEdge, DeclaredVariable, Declaration, node_names, edge_names}
use Rattle.gp_syntax.specs.Fault.{variable_names, twice_declared}
use Rattle.gp_syntax.specs.Tree.{node_of, edge_of, variables_of, declaration_of}
use Rattle.gp_memory.specs.declared.refusal.NoMemory.{NoMemory}
use Rattle.gp_clauses.specs.inside.Names.{ToldBehind, group_names}
use Rattle.gp_clauses.proofs.Walks.{drop_item}

pub none_before : (seen xs ys : List Name) → first_doubled_behind seen xs ≡ None → first_doubled_behind seen (xs ++ ys) ≡ first_doubled_behind (seen ++ xs) ys
none_before seen [] ys h = ap (λ l. first_doubled_behind l ys) (sym (append_none seen))
  where
    append_none : (xs : List Name) → xs ++ [] ≡ xs
    append_none [] = refl
    append_none (x ∷ xs) = ap (λ l. x ∷ l) (append_none xs)
none_before seen (x ∷ xs) ys h = go (has_name seen x) h (none_before (seen ++ x ∷ []) xs ys)
  where
    go : (b : Bool) → (if b then Some x else first_doubled_behind (seen ++ x ∷ []) xs) ≡ None → (first_doubled_behind (seen ++ x ∷ []) xs ≡ None → first_doubled_behind (seen ++ x ∷ []) (xs ++ ys) ≡ first_doubled_behind ((seen ++ x ∷ []) ++ xs) ys) →
        (if b then Some x else first_doubled_behind (seen ++ x ∷ []) (xs ++ ys)) ≡ first_doubled_behind (seen ++ x ∷ xs) ys
    go true h rest = absurd cc
    go false h rest = rest h ∙ ap (λ l. first_doubled_behind l ys) (append_assoc seen (x ∷ []) xs)

pub some_before : (seen xs ys : List Name) (n : Name) → first_doubled_behind seen xs ≡ Some n → first_doubled_behind seen (xs ++ ys) ≡ Some n
some_before seen [] ys n h = absurd cc
some_before seen (x ∷ xs) ys n h = go (has_name seen x) h (some_before (seen ++ x ∷ []) xs ys n)
  where
    go : (b : Bool) → (if b then Some x else first_doubled_behind (seen ++ x ∷ []) xs) ≡ Some n → (first_doubled_behind (seen ++ x ∷ []) xs ≡ Some n → first_doubled_behind (seen ++ x ∷ []) (xs ++ ys) ≡ Some n) →
        (if b then Some x else first_doubled_behind (seen ++ x ∷ []) (xs ++ ys)) ≡ Some n
    go true h rest = h
    go false h rest = rest h

-- a name that was put in, since it is new
pub new_name : (seen new : List Name) (n : Name) (added : Bool) → added ≡ not (has_name seen n) → added ≡ true → new ≡ (if has_name seen n then seen else seen ++ n ∷ []) → (first_doubled_behind seen (n ∷ []) ≡ None) × (new ≡ seen ++ n ∷ [])
new_name seen new n added is h after = go (has_name seen n) (sym h ∙ is) after
  where
    go : (b : Bool) → true ≡ not b → new ≡ (if b then seen else seen ++ n ∷ []) → ((if b then Some n else None) ≡ None) × (new ≡ seen ++ n ∷ [])
    go true e after = absurd cc
    go false e after = (refl, after)

-- an item whose name did not stand before
pub seen_on : {A : Type 0} (f : A → Name) (xs : List A) (k : ℕ) (x : A) (seen new : List Name) → slice_get xs k ≡ Some x → first_doubled_behind seen (f x ∷ []) ≡ None → new ≡ seen ++ f x ∷ [] →
    (first_doubled_behind new (map f (drop (k + 1) xs)) ≡ first_doubled_behind seen (map f (drop k xs))) × (new ++ map f (drop (k + 1) xs) ≡ seen ++ map f (drop k xs))
seen_on f xs k x seen new at n e =
    let rest = map f (drop (k + 1) xs) in
    (ap (λ l. first_doubled_behind l rest) e ∙ sym (none_before seen (f x ∷ []) rest n) ∙ ap (λ l. first_doubled_behind seen (map f l)) (sym (drop_item xs k x at)), ap (λ l. l ++ rest) e ∙ append_assoc seen (f x ∷ []) rest ∙ ap (λ l. seen ++ map f l) (sym (drop_item xs k x at)))

-- a group in which none stood before, and one in which one did
pub group_passes : (gs : List VariableGroup) (k : ℕ) (g : VariableGroup) (seen new : List Name) → slice_get gs k ≡ Some g → first_doubled_behind seen (group_names g) ≡ None → new ≡ seen ++ group_names g →
    first_doubled_behind new (flat_map group_names (drop (k + 1) gs)) ≡ first_doubled_behind seen (flat_map group_names (drop k gs))
group_passes gs k g seen new at n e =
    ap (λ l. first_doubled_behind l (flat_map group_names (drop (k + 1) gs))) e ∙ sym (none_before seen (group_names g) (flat_map group_names (drop (k + 1) gs)) n)
    ∙ ap (λ l. first_doubled_behind seen (flat_map group_names l)) (sym (drop_item gs k g at))

pub group_stops : (gs : List VariableGroup) (k : ℕ) (g : VariableGroup) (seen : List Name) (n : Name) → slice_get gs k ≡ Some g → first_doubled_behind seen (group_names g) ≡ Some n → first_doubled_behind seen (flat_map group_names (drop k gs)) ≡ Some n
group_stops gs k g seen n at e =
    ap (λ l. first_doubled_behind seen (flat_map group_names l)) (drop_item gs k g at) ∙ some_before seen (group_names g) (flat_map group_names (drop (k + 1) gs)) n e

-- ---- the names of variables

abbrev name_of : DeclaredVariable → Name
name_of v = v.name

names_of_group : (t : _) (ns : List Name) → map name_of (map (λ (n : Name). record { name = n; type = t }) ns) ≡ ns
names_of_group t [] = refl
names_of_group t (n ∷ ns) = ap (λ l. n ∷ l) (names_of_group t ns)

pub names_of_groups : (gs : List VariableGroup) → map name_of (flat_map variables_of gs) ≡ flat_map group_names gs
names_of_groups [] = refl
names_of_groups (g ∷ gs) = map_append name_of (variables_of g) (flat_map variables_of gs) ∙ (λ i. names_of_group g.variable_type (group_names g) i ++ names_of_groups gs i)

-- ---- lists of names, one after the other

pub same_names : (ns : List Name) → map (λ n. n) ns ≡ ns
same_names [] = refl
same_names (n ∷ ns) = ap (λ l. n ∷ l) (same_names ns)

names_of_nodes : (ns : List NodeDecl) → map (λ (n : NodeDecl). n.name) ns ≡ map (λ (n : DeclaredNode). n.name) (map node_of ns)
names_of_nodes [] = refl
names_of_nodes (n ∷ ns) = ap (λ l. n.name ∷ l) (names_of_nodes ns)

names_of_edges : (es : List EdgeDecl) → map (λ (e : EdgeDecl). e.name) es ≡ map (λ (e : DeclaredEdge). e.name) (map edge_of es)
names_of_edges [] = refl
names_of_edges (e ∷ es) = ap (λ l. e.name ∷ l) (names_of_edges es)

abbrev Told : Type 0
Told = Result (Option (Bor Name)) NoMemory

behind : (b r : Told) (before more : Option Name) → IfOk b (λ n. option_copied n ≡ before) → IfOk r (λ n. ToldBehind b more (option_copied n)) → IfOk r (λ n. option_copied n ≡ option_or before more)
behind b (Err e) before more is next = tt
behind (Ok n) (Ok m) before more is next = next ∙ ap (λ x. option_or x more) is
behind (Err e) (Ok m) before more is next = absurd next

in_turn : {A : Type 0} (a b c d e f : Option A) → option_or (option_or (option_or (option_or (option_or a b) c) d) e) f ≡ option_or a (option_or b (option_or c (option_or d (option_or e (option_or f None)))))
in_turn a b c d e f = or_assoc (option_or (option_or (option_or a b) c) d) e f ∙ or_assoc (option_or (option_or a b) c) d (option_or e f) ∙ or_assoc (option_or a b) c (option_or d (option_or e f)) ∙ or_assoc a b (option_or c (option_or d (option_or e f))) ∙ ap (λ x. option_or a (option_or b (option_or c (option_or d (option_or e x))))) (sym (or_none f))

-- kind by kind
module _ (r : RuleDecl) where
  abbrev d : Declaration
  d = declaration_of r

  abbrev nodes_doubled : List NodeDecl → Option Name
  nodes_doubled ns = first_doubled (map (λ (n : NodeDecl). n.name) ns)

  abbrev edges_doubled : List EdgeDecl → Option Name
  edges_doubled es = first_doubled (map (λ (e : EdgeDecl). e.name) es)

  pub doubled_in_turn : (o p q s t u : Told) → IfOk o (λ n. option_copied n ≡ first_doubled (variable_names d)) → IfOk p (λ n. ToldBehind o (nodes_doubled r.left.nodes) (option_copied n)) → IfOk q (λ n. ToldBehind p (edges_doubled r.left.edges) (option_copied n)) →
      IfOk s (λ n. ToldBehind q (nodes_doubled r.right.nodes) (option_copied n)) → IfOk t (λ n. ToldBehind s (edges_doubled r.right.edges) (option_copied n)) → IfOk u (λ n. ToldBehind t (first_doubled (map (λ n. n) r.interface)) (option_copied n)) → IfOk u (λ n. option_copied n ≡ twice_declared d)
  doubled_in_turn o p q s t u is-o is-p is-q is-s is-t is-u =
      subst (λ x. IfOk u (λ n. option_copied n ≡ x))
      (rw (names_of_nodes r.left.nodes, names_of_edges r.left.edges, names_of_nodes r.right.nodes, names_of_edges r.right.edges, same_names r.interface) (in_turn (first_doubled (variable_names d)) (first_doubled (node_names d.left)) (first_doubled (edge_names d.left)) (first_doubled (node_names d.right)) (first_doubled (edge_names d.right)) (first_doubled d.interface)))
      (behind t u _ _ (behind s t _ _ (behind q s _ _ (behind p q _ _ (behind o p _ _ is-o is-p) is-q) is-s) is-t) is-u)
