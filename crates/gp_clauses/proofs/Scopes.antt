-- The variables of a rule, and the names that are unbound.
use Rattle.std.proofs.Common.{◌≡◌, Bool, true, false, not, cond, ◌||◌, ◌&&◌, if◌then◌else◌, List, [], ◌∷◌, ◌++◌, map, filter, flat_map, fold, Option, Some, None, refl, sym, ap, ◌∙◌}
use Rattle.std.specs.Option.{option_or}
use Rattle.std.specs.Borrow.{Bor}
use Rattle.gp_values.specs.Names.{Name, same_name, has_name, first_unknown, first_doubled_behind}
use Rattle.gp_syntax.specs.declared.tree.NodeDecl.{NodeDecl}
use Rattle.gp_syntax.specs.declared.tree.EdgeDecl.{EdgeDecl}
use Rattle.gp_syntax.specs.declared.tree.GraphDecl.{GraphDecl}
use Rattle.gp_syntax.specs.declared.tree.VariableGroup.{VariableGroup}
use Rattle.gp_syntax.specs.Expression.{Expression}
use Rattle.gp_syntax.specs.Declaration.{Declaration, DeclaredNode, DeclaredEdge, DeclaredVariable, variables_in, labels, left_variables}
use Rattle.gp_syntax.specs.Fault.{first_told, unless, variable_names, twice_declared, variables_in_side, variables_in_condition, unbound, type_named, is_well_typed, is_well_typed_condition, bad_type}
use Rattle.gp_syntax.specs.Tree.{expression_of, node_of, edge_of, side_of, variables_of}
use Rattle.gp_syntax.proofs.Declarations.{same_name_told, has_append, once_head}
use Rattle.gp_syntax.proofs.Told.{told_append, told_map, unknown_told, unknown_flat}
use Rattle.gp_clauses.specs.declared.variables.Variables.{Variables}
use Rattle.gp_clauses.specs.declared.scope.Scope.{Scope}
use Rattle.gp_clauses.specs.Scope.{kept_variables, IsScope}
use Rattle.gp_clauses.specs.inside.Tables.{with_names, no_variables, with_kept, with_group, is_kept}
use Rattle.std.specs.List.{list_all}
use Rattle.gp_memory.proofs.Basics.{neither}
use Rattle.gp_clauses.proofs.Parts.{all_append}
use Rattle.gp_clauses.proofs.Tables.{fold_flat, has_added, kept_only, once_all}

abbrev Names : Type 0
Names = List Name

-- ---- the labels of a side

module _ (known : Names) (s : GraphDecl) where
  abbrev at_node : NodeDecl → Option Name
  at_node n = first_unknown known (variables_in (expression_of n.label))

  abbrev at_edge : EdgeDecl → Option Name
  at_edge e = first_unknown known (variables_in (expression_of e.label))

  abbrev at_label : Expression Name → Option Name
  at_label e = first_unknown known (variables_in e)

  pub unknown_labels : first_unknown known (variables_in_side (side_of s)) ≡ option_or (first_told at_node s.nodes) (first_told at_edge s.edges)
  unknown_labels =
      unknown_flat known variables_in (labels (side_of s)) ∙ told_append at_label (map (λ (n : DeclaredNode). n.label) (map node_of s.nodes)) (map (λ (e : DeclaredEdge). e.label) (map edge_of s.edges))
      ∙ (λ i. option_or
      ((told_map at_label (λ (n : DeclaredNode). n.label) (map node_of s.nodes) ∙ told_map (λ (n : DeclaredNode). at_label n.label) node_of s.nodes) i)
      ((told_map at_label (λ (e : DeclaredEdge). e.label) (map edge_of s.edges) ∙ told_map (λ (e : DeclaredEdge). at_label e.label) edge_of s.edges) i))

-- ---- names of left variables

abbrev names_of : List DeclaredVariable → Names
names_of vs = map (λ (v : DeclaredVariable). v.name) vs

abbrev kept_of : Names → List DeclaredVariable → List DeclaredVariable
kept_of used vs = filter (λ (v : DeclaredVariable). has_name used v.name) vs

has_kept : (used : Names) (vs : List DeclaredVariable) (x : Name) → has_name (names_of (kept_of used vs)) x ≡ (has_name (names_of vs) x && has_name used x)
has_kept used [] x = refl
has_kept used (v ∷ vs) x = go (same_name x v.name) (has_name used v.name) refl refl (has_kept used vs x)
  where
    found : same_name x v.name ≡ true → has_name used x ≡ has_name used v.name
    found e = ap (has_name used) (same_name_told x v.name e)

    none : (a b : Bool) → b ≡ false → (a && b) ≡ b
    none true b e = refl
    none false b e = sym e

    go : (a b : Bool) → same_name x v.name ≡ a → has_name used v.name ≡ b → has_name (names_of (kept_of used vs)) x ≡ (has_name (names_of vs) x && has_name used x) →
        has_name (names_of (if b then v ∷ kept_of used vs else kept_of used vs)) x ≡ ((a || has_name (names_of vs) x) && has_name used x)
    go true true e f h = rw e (sym (found e ∙ f))
    go true false e f h = h ∙ none (has_name (names_of vs) x) (has_name used x) (found e ∙ f)
    go false true e f h = rw e h
    go false false e f h = h

-- names that stand once still do where fewer stand
module _ (used : Names) where
  kept_once : (vs : List DeclaredVariable) (seen fewer : List Name) → ((n : Name) → has_name fewer n ≡ true → has_name seen n ≡ true) → first_doubled_behind seen (names_of vs) ≡ None → first_doubled_behind fewer (names_of (kept_of used vs)) ≡ None
  kept_once [] seen fewer less h = refl
  kept_once (v ∷ vs) seen fewer less h = go (kept_once vs) (has_name used v.name)
    where
      p : (has_name seen v.name ≡ false) × (first_doubled_behind (seen ++ v.name ∷ []) (names_of vs) ≡ None)
      p = once_head seen v.name (names_of vs) h

      more : (n : Name) (a b : Bool) → (a ≡ true → b ≡ true) → (a || has_name (v.name ∷ []) n) ≡ true → (b || has_name (v.name ∷ []) n) ≡ true
      more n true b l q = rw (l refl) refl
      more n false true l q = refl
      more n false false l q = q

      wider : (n : Name) → has_name (fewer ++ v.name ∷ []) n ≡ true → has_name (seen ++ v.name ∷ []) n ≡ true
      wider n q = has_append seen (v.name ∷ []) n ∙ more n (has_name fewer n) (has_name seen n) (less n) (sym (has_append fewer (v.name ∷ []) n) ∙ q)

      left : (b c : Bool) → b ≡ true → (b || c) ≡ true
      left true c e = refl
      left false c e = absurd cc

      unseen : ((seen fewer : List Name) → ((n : Name) → has_name fewer n ≡ true → has_name seen n ≡ true) → first_doubled_behind seen (names_of vs) ≡ None → first_doubled_behind fewer (names_of (kept_of used vs)) ≡ None) → (b : Bool) → has_name fewer v.name ≡ b → (if b then Some v.name else first_doubled_behind (fewer ++ v.name ∷ []) (names_of (kept_of used vs))) ≡ None
      unseen rest true e = absurd (let f = less v.name e in let g = p.0 in cc)
      unseen rest false e = rest (seen ++ v.name ∷ []) (fewer ++ v.name ∷ []) wider p.1

      go : ((seen fewer : List Name) → ((n : Name) → has_name fewer n ≡ true → has_name seen n ≡ true) → first_doubled_behind seen (names_of vs) ≡ None → first_doubled_behind fewer (names_of (kept_of used vs)) ≡ None) → (b : Bool) → first_doubled_behind fewer (names_of (cond b (v ∷ kept_of used vs) (kept_of used vs))) ≡ None
      go rest true = unseen rest (has_name fewer v.name) refl
      go rest false = rest (seen ++ v.name ∷ []) fewer (λ n q. has_append seen (v.name ∷ []) n ∙ left (has_name seen n) _ (less n q)) p.1

told_alike : {A B : Type 0} (f g : A → Option B) → ((x : A) → f x ≡ g x) → (xs : List A) → first_told f xs ≡ first_told g xs
told_alike f g e [] = refl
told_alike f g e (x ∷ xs) = λ i. option_or (e x i) (told_alike f g e xs i)

module _ (d : Declaration) where
  abbrev left_names : Names
  left_names = names_of (left_variables d)

  abbrev used_names : Names
  used_names = variables_in_side d.left

  pub unbound_is : unbound d ≡ option_or (first_unknown (variable_names d) (variables_in_side d.left)) (option_or (first_unknown left_names (variables_in_side d.right)) (first_unknown left_names (variables_in_condition d.condition)))
  unbound_is =
      (λ i. option_or (sym (unknown_told (variable_names d) (variables_in_side d.left)) i)
      ((told_alike (λ x. unless (has_name (variable_names d) x && has_name used_names x) x) (λ x. unless (has_name left_names x) x) (λ x. ap (λ b. unless b x) (sym (has_kept used_names d.variables x))) (variables_in_side d.right ++ variables_in_condition d.condition)
      ∙ told_append (λ x. unless (has_name left_names x) x) (variables_in_side d.right) (variables_in_condition d.condition)
      ∙ (λ j. option_or (sym (unknown_told left_names (variables_in_side d.right)) j) (sym (unknown_told left_names (variables_in_condition d.condition)) j))) i))

  module _ (s : Scope) (is : IsScope d s) where
    declared_names : s.declared.names ≡ variable_names d
    declared_names = ap (λ v. v.names) is.declared

    left_names_are : s.left.names ≡ left_names
    left_names_are = ap (λ v. v.names) is.left

    pub unbound_left : (n : Name) → Some n ≡ first_unknown s.declared.names (variables_in_side d.left) → Some n ≡ unbound d
    unbound_left n h = sym (unbound_is ∙ ap (λ o. option_or o (option_or (first_unknown left_names (variables_in_side d.right)) (first_unknown left_names (variables_in_condition d.condition)))) (ap (λ k. first_unknown k (variables_in_side d.left)) (sym declared_names) ∙ sym h))

    behind_left : None ≡ first_unknown s.declared.names (variables_in_side d.left) → unbound d ≡ option_or (first_unknown left_names (variables_in_side d.right)) (first_unknown left_names (variables_in_condition d.condition))
    behind_left h = unbound_is ∙ ap (λ o. option_or o (option_or (first_unknown left_names (variables_in_side d.right)) (first_unknown left_names (variables_in_condition d.condition)))) (ap (λ k. first_unknown k (variables_in_side d.left)) (sym declared_names) ∙ sym h)

    pub unbound_right : (n : Name) → None ≡ first_unknown s.declared.names (variables_in_side d.left) → Some n ≡ first_unknown s.left.names (variables_in_side d.right) → Some n ≡ unbound d
    unbound_right n g h = sym (behind_left g ∙ ap (λ o. option_or o (first_unknown left_names (variables_in_condition d.condition))) (ap (λ k. first_unknown k (variables_in_side d.right)) (sym left_names_are) ∙ sym h))

    pub unbound_tests : (o : Option Name) → None ≡ first_unknown s.declared.names (variables_in_side d.left) → None ≡ first_unknown s.left.names (variables_in_side d.right) → o ≡ first_unknown s.left.names (variables_in_condition d.condition) → o ≡ unbound d
    unbound_tests o g h k =
        sym (behind_left g ∙ ap (λ p. option_or p (first_unknown left_names (variables_in_condition d.condition))) (ap (λ k. first_unknown k (variables_in_side d.right)) (sym left_names_are) ∙ sym h)
        ∙ ap (λ k. first_unknown k (variables_in_condition d.condition)) (sym left_names_are) ∙ sym k)

-- ---- the variables

pub once_declared : (d : Declaration) → twice_declared d ≡ None → first_doubled_behind [] (variable_names d) ≡ None
once_declared d h = (neither (first_doubled_behind [] (variable_names d)) _ h).0

pub declared_are : (d : Declaration) (gs : List VariableGroup) (v : Variables) → d.variables ≡ flat_map variables_of gs → twice_declared d ≡ None → v ≡ fold (with_group None) no_variables gs → v ≡ kept_variables d.variables
declared_are d gs v same once h =
    h ∙ sym (fold_flat (with_kept None) variables_of no_variables gs) ∙ ap (fold (with_kept None) no_variables) (sym same) ∙ once_all no_variables d.variables (once_declared d once)

pub left_are : (d : Declaration) (gs : List VariableGroup) (v : Variables) (kept : Option (Bor Names)) (table : Names) → v ≡ fold (with_group kept) no_variables gs → d.variables ≡ flat_map variables_of gs → twice_declared d ≡ None → ((n : Name) → is_kept kept n ≡ has_name table n) → table ≡ with_names [] (variables_in_side d.left) → v ≡ kept_variables (left_variables d)
left_are d gs v kept table h same once is used =
    h ∙ sym (fold_flat (with_kept kept) variables_of no_variables gs) ∙ ap (fold (with_kept kept) no_variables) (sym same)
    ∙ kept_only kept (variables_in_side d.left) (λ n. is n ∙ ap (λ t. has_name t n) used ∙ has_added (variables_in_side d.left) n) no_variables d.variables
    ∙ once_all no_variables (left_variables d) (kept_once (variables_in_side d.left) d.variables [] [] (λ m q. q) (once_declared d once))

-- ---- types

pub bad_types : (d : Declaration) (left right tests : Bool) → list_all (is_well_typed (type_named d)) (labels d.left) ≡ left → list_all (is_well_typed (type_named d)) (labels d.right) ≡ right → is_well_typed_condition (type_named d) d.condition ≡ tests → not ((left && right) && tests) ≡ bad_type d
bad_types d left right tests l r t = sym (λ i. not ((all_append (is_well_typed (type_named d)) (labels d.left) (labels d.right) ∙ (λ j. l j && r j)) i && t i))
