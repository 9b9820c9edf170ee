-- Labels and conditions of a rule, whose variables and nodes are named by places, from those of its declaration.
use Rattle.std.proofs.Common.{◌≡◌, ℕ, ◌+◌, ◌<◌, Bool, true, false, cond, ◌||◌, ◌&&◌, List, [], ◌∷◌, ◌++◌, length, Option, Some, None, refl, sym, ap, ◌∙◌, inl, inr, arith}
use Rattle.std.specs.Prelude.{◌⊎◌, nat_le}
use Rattle.std.proofs.lemmas.Bool.{leb-true}
use Rattle.gp_memory.proofs.Basics.{both, neither}
use Rattle.gp_values.specs.Names.{Name, same_name, has_name, first_unknown}
use Rattle.gp_syntax.specs.declared.kinds.VariableType.{VariableType}
use Rattle.gp_syntax.specs.declared.kinds.VariableType.TheVariants as types
use Rattle.gp_syntax.specs.declared.kinds.Comparison.TheVariants as comparisons
use Rattle.gp_syntax.specs.Expression.{Expression, Number, Text, Variable, In_degree, Out_degree, Length_of, Negated, Plus, Minus, Times, Over, Dot, Empty, Join, Condition, Holds, HasType, HasEdge, HasEdgeWith, Compared, Not, And, Or, renamed, renamed_condition}
use Rattle.gp_syntax.specs.Typing.{is_subtype, type_of, IsWellTyped, IsWellTypedCondition}
use Rattle.gp_syntax.specs.Simple.{strings_in, all_lists_in, strings_of, lists_of, HasNoOperation, HasOneString, StandsIn, IsSimple}
use Rattle.gp_syntax.specs.WellFormed.{IsWithin, IsConditionWithin}
use Rattle.gp_syntax.specs.Declaration.{variables_in, nodes_in, nodes_in_condition, place_in}
use Rattle.gp_syntax.specs.Fault.{first_told, unless, variables_in_condition, is_well_typed, is_well_typed_condition, has_no_operation, has_one_string, is_simple}
use Rattle.gp_syntax.proofs.Declarations.{place_below, same_name_told, has_append}
use Rattle.gp_syntax.proofs.Told.{passes, told_append, unknown_append}
use Rattle.gp_syntax.proofs.Simples.{simple_iff}

-- variables, nodes: the names that have places
module _ (variables nodes : List Name) where
  abbrev pub is_unknown : Name → Option Name
  is_unknown x = unless (has_name variables x) x

  -- the variables and the nodes that an expression names are known
  pub record KnownIn (e : Expression Name) : Type 0 where
    pub variables_known : first_told is_unknown (variables_in e) ≡ None
    pub nodes_known : first_unknown nodes (nodes_in e) ≡ None

  pub record KnownInCondition (c : Condition Name (Option Name)) : Type 0 where
    pub variables_known : first_told is_unknown (variables_in_condition c) ≡ None
    pub nodes_known : first_unknown nodes (nodes_in_condition c) ≡ None

  split_variables : (xs ys : List Name) → first_told is_unknown (xs ++ ys) ≡ None → (first_told is_unknown xs ≡ None) × (first_told is_unknown ys ≡ None)
  split_variables xs ys h = neither (first_told is_unknown xs) (first_told is_unknown ys) (sym (told_append is_unknown xs ys) ∙ h)

  split_nodes : (xs ys : List Name) → first_unknown nodes (xs ++ ys) ≡ None → (first_unknown nodes xs ≡ None) × (first_unknown nodes ys ≡ None)
  split_nodes xs ys h = neither (first_unknown nodes xs) (first_unknown nodes ys) (sym (unknown_append nodes xs ys) ∙ h)

  -- of both operands
  pub operands_known : (d e : Expression Name) → first_told is_unknown (variables_in d ++ variables_in e) ≡ None → first_unknown nodes (nodes_in d ++ nodes_in e) ≡ None → KnownIn d × KnownIn e
  operands_known d e h k =
      let p = split_variables (variables_in d) (variables_in e) h in
      let q = split_nodes (nodes_in d) (nodes_in e) k in
      (record { variables_known = p.0; nodes_known = q.0 }, record { variables_known = p.1; nodes_known = q.1 })

  parts_known : (c d : Condition Name (Option Name)) → first_told is_unknown (variables_in_condition c ++ variables_in_condition d) ≡ None → first_unknown nodes (nodes_in_condition c ++ nodes_in_condition d) ≡ None →
      KnownInCondition c × KnownInCondition d
  parts_known c d h k =
      let p = split_variables (variables_in_condition c) (variables_in_condition d) h in
      let q = split_nodes (nodes_in_condition c) (nodes_in_condition d) k in
      (record { variables_known = p.0; nodes_known = q.0 }, record { variables_known = p.1; nodes_known = q.1 })

  one_variable : (x : Name) → first_told is_unknown (x ∷ []) ≡ None → has_name variables x ≡ true
  one_variable x h = passes (has_name variables x) x (neither (is_unknown x) None h).0

  first_node : (n : Name) (ns : List Name) → first_unknown nodes (n ∷ ns) ≡ None → (has_name nodes n ≡ true) × (first_unknown nodes ns ≡ None)
  first_node n ns h = go (has_name nodes n) refl h
    where
      go : (b : Bool) → has_name nodes n ≡ b → cond b (first_unknown nodes ns) (Some n) ≡ None → (has_name nodes n ≡ true) × (first_unknown nodes ns ≡ None)
      go true e h = (e, h)
      go false e h = absurd cc

  abbrev pub placed : Expression Name → Expression ℕ
  placed e = renamed (place_in variables) (place_in nodes) e

  -- ---- places in range

  variable_within : (x : Name) → first_told is_unknown (x ∷ []) ≡ None → place_in variables x < length variables
  variable_within x h = place_below variables x (one_variable x h)

  node_within : (n : Name) → first_unknown nodes (n ∷ []) ≡ None → place_in nodes n < length nodes
  node_within n h = place_below nodes n (first_node n [] h).0

  pub within : (e : Expression Name) → KnownIn e → IsWithin (length variables) (length nodes) (placed e)
  within (Number z) k = tt
  within (Text s) k = tt
  within (Variable x) k = variable_within x k.variables_known
  within (In_degree n) k = node_within n k.nodes_known
  within (Out_degree n) k = node_within n k.nodes_known
  within (Length_of x) k = variable_within x k.variables_known
  within (Negated e) k = within e (record { variables_known = k.variables_known; nodes_known = k.nodes_known })
  within (Plus d e) k = let p = operands_known d e k.variables_known k.nodes_known in (within d p.0, within e p.1)
  within (Minus d e) k = let p = operands_known d e k.variables_known k.nodes_known in (within d p.0, within e p.1)
  within (Times d e) k = let p = operands_known d e k.variables_known k.nodes_known in (within d p.0, within e p.1)
  within (Over d e) k = let p = operands_known d e k.variables_known k.nodes_known in (within d p.0, within e p.1)
  within (Dot d e) k = let p = operands_known d e k.variables_known k.nodes_known in (within d p.0, within e p.1)
  within (Join d e) k = let p = operands_known d e k.variables_known k.nodes_known in (within d p.0, within e p.1)
  within Empty k = tt

  pub condition_within : {L : Type 0} (mark : Option Name → L) (c : Condition Name (Option Name)) → KnownInCondition c →
      IsConditionWithin (length variables) (length nodes) (renamed_condition (place_in variables) (place_in nodes) mark c)
  condition_within mark Holds k = tt
  condition_within mark (HasType type e) k = within e (record { variables_known = k.variables_known; nodes_known = k.nodes_known })
  condition_within mark (HasEdge a b) k =
      let p = first_node a (b ∷ []) k.nodes_known in
      (place_below nodes a p.0, node_within b p.1)
  condition_within mark (HasEdgeWith a b e m) k =
      let p = first_node a (b ∷ nodes_in e) k.nodes_known in
      let q = first_node b (nodes_in e) p.1 in
      (place_below nodes a p.0, place_below nodes b q.0, within e (record { variables_known = k.variables_known; nodes_known = q.1 }))
  condition_within mark (Compared op d e) k = let p = operands_known d e k.variables_known k.nodes_known in (within d p.0, within e p.1)
  condition_within mark (Not c) k = condition_within mark c (record { variables_known = k.variables_known; nodes_known = k.nodes_known })
  condition_within mark (And c d) k = let p = parts_known c d k.variables_known k.nodes_known in (condition_within mark c p.0, condition_within mark d p.1)
  condition_within mark (Or c d) k = let p = parts_known c d k.variables_known k.nodes_known in (condition_within mark c p.0, condition_within mark d p.1)

  -- ---- types

  -- told: the types of variables by their names, found: by their places
  module _ (told : Name → VariableType) (found : ℕ → VariableType) (agree : (x : Name) → has_name variables x ≡ true → found (place_in variables x) ≡ told x) where
    variable_agrees : (x : Name) → first_told is_unknown (x ∷ []) ≡ None → found (place_in variables x) ≡ told x
    variable_agrees x h = agree x (one_variable x h)

    text_type : (s : List ℕ) → type_of found (placed (Text s)) ≡ type_of told (Text s)
    text_type [] = refl
    text_type (c ∷ []) = refl
    text_type (c ∷ d ∷ s) = refl

    pub type_stays : (e : Expression Name) → KnownIn e → type_of found (placed e) ≡ type_of told e
    type_stays (Text s) k = text_type s
    type_stays (Variable x) k = variable_agrees x k.variables_known
    type_stays other k = refl

    of_type : (wanted : VariableType) (e : Expression Name) → KnownIn e → is_subtype (type_of told e) wanted ≡ true → is_subtype (type_of found (placed e)) wanted ≡ true
    of_type wanted e k h = ap (λ u. is_subtype u wanted) (type_stays e k) ∙ h

    one_operand : (e : Expression Name) → KnownIn (Negated e) → KnownIn e
    one_operand e k = record { variables_known = k.variables_known; nodes_known = k.nodes_known }

    abbrev Operands : VariableType → Expression Name → Expression Name → Type 0
    Operands wanted d e = (is_subtype (type_of found (placed d)) wanted ≡ true) × (is_subtype (type_of found (placed e)) wanted ≡ true)

    -- what the test of a chain of two says
    record Passed (wanted : VariableType) (d e : Expression Name) : Type 0 where
      first : is_subtype (type_of told d) wanted ≡ true
      second : is_subtype (type_of told e) wanted ≡ true
      first_typed : is_well_typed told d ≡ true
      second_typed : is_well_typed told e ≡ true

    passed_two : (wanted : VariableType) (d e : Expression Name) → (is_subtype (type_of told d) wanted && is_subtype (type_of told e) wanted && is_well_typed told d && is_well_typed told e) ≡ true → Passed wanted d e
    passed_two wanted d e h =
        let p = both (is_subtype (type_of told d) wanted && is_subtype (type_of told e) wanted && is_well_typed told d) (is_well_typed told e) h in
        let q = both (is_subtype (type_of told d) wanted && is_subtype (type_of told e) wanted) (is_well_typed told d) p.0 in
        let r = both (is_subtype (type_of told d) wanted) (is_subtype (type_of told e) wanted) q.0 in
        record { first = r.0; second = r.1; first_typed = q.1; second_typed = p.1 }

    pub typed : (e : Expression Name) → KnownIn e → is_well_typed told e ≡ true → IsWellTyped found (placed e)
    typed (Number z) k h = tt
    typed (Text s) k h = tt
    typed (Variable x) k h = tt
    typed (In_degree n) k h = tt
    typed (Out_degree n) k h = tt
    typed (Length_of x) k h = tt
    typed (Negated e) k h =
        let p = both (is_subtype (type_of told e) types.Int) (is_well_typed told e) h in
        (of_type types.Int e (one_operand e k) p.0, typed e (one_operand e k) p.1)
    typed (Plus d e) k h =
        let p = operands_known d e k.variables_known k.nodes_known in
        let q = passed_two types.Int d e h in
        (of_type types.Int d p.0 q.first, of_type types.Int e p.1 q.second, typed d p.0 q.first_typed, typed e p.1 q.second_typed)
    typed (Minus d e) k h =
        let p = operands_known d e k.variables_known k.nodes_known in
        let q = passed_two types.Int d e h in
        (of_type types.Int d p.0 q.first, of_type types.Int e p.1 q.second, typed d p.0 q.first_typed, typed e p.1 q.second_typed)
    typed (Times d e) k h =
        let p = operands_known d e k.variables_known k.nodes_known in
        let q = passed_two types.Int d e h in
        (of_type types.Int d p.0 q.first, of_type types.Int e p.1 q.second, typed d p.0 q.first_typed, typed e p.1 q.second_typed)
    typed (Over d e) k h =
        let p = operands_known d e k.variables_known k.nodes_known in
        let q = passed_two types.Int d e h in
        (of_type types.Int d p.0 q.first, of_type types.Int e p.1 q.second, typed d p.0 q.first_typed, typed e p.1 q.second_typed)
    typed (Dot d e) k h =
        let p = operands_known d e k.variables_known k.nodes_known in
        let q = passed_two types.String d e h in
        (of_type types.String d p.0 q.first, of_type types.String e p.1 q.second, typed d p.0 q.first_typed, typed e p.1 q.second_typed)
    typed Empty k h = tt
    typed (Join d e) k h =
        let p = operands_known d e k.variables_known k.nodes_known in
        let q = both (is_well_typed told d) (is_well_typed told e) h in
        (typed d p.0 q.0, typed e p.1 q.1)

    two_typed : (d e : Expression Name) → first_told is_unknown (variables_in d ++ variables_in e) ≡ None → first_unknown nodes (nodes_in d ++ nodes_in e) ≡ None → (is_well_typed told d && is_well_typed told e) ≡ true →
        IsWellTyped found (placed d) × IsWellTyped found (placed e)
    two_typed d e v n h =
        let p = operands_known d e v n in
        let q = both (is_well_typed told d) (is_well_typed told e) h in
        (typed d p.0 q.0, typed e p.1 q.1)

    ordered : (d e : Expression Name) → first_told is_unknown (variables_in d ++ variables_in e) ≡ None → first_unknown nodes (nodes_in d ++ nodes_in e) ≡ None →
        ((false || is_subtype (type_of told d) types.Int && is_subtype (type_of told e) types.Int) && is_well_typed told d && is_well_typed told e) ≡ true →
        (is_subtype (type_of found (placed d)) types.Int ≡ true) × (is_subtype (type_of found (placed e)) types.Int ≡ true) × IsWellTyped found (placed d) × IsWellTyped found (placed e)
    ordered d e v n h =
        let p = operands_known d e v n in
        let q = passed_two types.Int d e h in
        (of_type types.Int d p.0 q.first, of_type types.Int e p.1 q.second, typed d p.0 q.first_typed, typed e p.1 q.second_typed)

    pub condition_typed : {L : Type 0} (mark : Option Name → L) (c : Condition Name (Option Name)) → KnownInCondition c → is_well_typed_condition told c ≡ true →
        IsWellTypedCondition found (renamed_condition (place_in variables) (place_in nodes) mark c)
    condition_typed mark Holds k h = tt
    condition_typed mark (HasType type e) k h = typed e (record { variables_known = k.variables_known; nodes_known = k.nodes_known }) h
    condition_typed mark (HasEdge a b) k h = tt
    condition_typed mark (HasEdgeWith a b e m) k h =
        let p = first_node a (b ∷ nodes_in e) k.nodes_known in
        let q = first_node b (nodes_in e) p.1 in
        typed e (record { variables_known = k.variables_known; nodes_known = q.1 }) h
    condition_typed mark (Compared comparisons.Equal d e) k h = two_typed d e k.variables_known k.nodes_known h
    condition_typed mark (Compared comparisons.NotEqual d e) k h = two_typed d e k.variables_known k.nodes_known h
    condition_typed mark (Compared comparisons.Less d e) k h = ordered d e k.variables_known k.nodes_known h
    condition_typed mark (Compared comparisons.LessEqual d e) k h = ordered d e k.variables_known k.nodes_known h
    condition_typed mark (Compared comparisons.Greater d e) k h = ordered d e k.variables_known k.nodes_known h
    condition_typed mark (Compared comparisons.GreaterEqual d e) k h = ordered d e k.variables_known k.nodes_known h
    condition_typed mark (Not c) k h = condition_typed mark c (record { variables_known = k.variables_known; nodes_known = k.nodes_known }) h
    condition_typed mark (And c d) k h =
        let p = parts_known c d k.variables_known k.nodes_known in
        let q = both (is_well_typed_condition told c) (is_well_typed_condition told d) h in
        (condition_typed mark c p.0 q.0, condition_typed mark d p.1 q.1)
    condition_typed mark (Or c d) k h =
        let p = parts_known c d k.variables_known k.nodes_known in
        let q = both (is_well_typed_condition told c) (is_well_typed_condition told d) h in
        (condition_typed mark c p.0 q.0, condition_typed mark d p.1 q.1)

    -- ---- simple labels

    strings_stay : (e : Expression Name) → KnownIn e → strings_in found (placed e) ≡ strings_in told e
    strings_stay (Variable x) k = ap strings_of (variable_agrees x k.variables_known)
    strings_stay (Dot d e) k = let p = operands_known d e k.variables_known k.nodes_known in λ i. strings_stay d p.0 i + strings_stay e p.1 i
    strings_stay other k = refl

    lists_stay : (e : Expression Name) → KnownIn e → all_lists_in found (placed e) ≡ all_lists_in told e
    lists_stay (Variable x) k = ap lists_of (variable_agrees x k.variables_known)
    lists_stay (Dot d e) k = let p = operands_known d e k.variables_known k.nodes_known in λ i. lists_stay d p.0 i + lists_stay e p.1 i
    lists_stay (Join d e) k = let p = operands_known d e k.variables_known k.nodes_known in λ i. lists_stay d p.0 i + lists_stay e p.1 i
    lists_stay other k = refl

    no_operation_stays : (e : Expression Name) → has_no_operation e ≡ true → HasNoOperation (placed e)
    no_operation_stays (Number z) h = tt
    no_operation_stays (Text s) h = tt
    no_operation_stays (Variable x) h = tt
    no_operation_stays (Negated (Number z)) h = tt
    no_operation_stays (Dot d e) h = let q = both (has_no_operation d) (has_no_operation e) h in (no_operation_stays d q.0, no_operation_stays e q.1)
    no_operation_stays Empty h = tt
    no_operation_stays (Join d e) h = let q = both (has_no_operation d) (has_no_operation e) h in (no_operation_stays d q.0, no_operation_stays e q.1)
    no_operation_stays other h = absurd cc

    one_string_stays : (e : Expression Name) → KnownIn e → has_one_string told e ≡ true → HasOneString found (placed e)
    one_string_stays (Dot d e) k h =
        let p = operands_known d e k.variables_known k.nodes_known in
        let few = leb-true (strings_in told d + strings_in told e) 1 h in
        let a = strings_stay d p.0 in
        let b = strings_stay e p.1 in
        omega arith
    one_string_stays (Join d e) k h =
        let p = operands_known d e k.variables_known k.nodes_known in
        let q = both (has_one_string told d) (has_one_string told e) h in
        (one_string_stays d p.0 q.0, one_string_stays e p.1 q.1)
    one_string_stays other k h = tt

    pub simple : (e : Expression Name) → KnownIn e → is_well_typed told e ≡ true → is_simple told e ≡ true → IsSimple found (placed e)
    simple e k w h =
        let p = both (has_no_operation e && nat_le (all_lists_in told e) 1) (has_one_string told e) h in
        let q = both (has_no_operation e) (nat_le (all_lists_in told e) 1) p.0 in
        let few = leb-true (all_lists_in told e) 1 q.1 in
        let same = lists_stay e k in
        (simple_iff found (placed e)).1 (record { typed = typed e k w; no_operation = no_operation_stays e q.0; one_list = omega arith; one_string = one_string_stays e k p.1 })

    -- ---- variables of simple labels

    either : (a b : Bool) → (a || b) ≡ true → (a ≡ true) ⊎ (b ≡ true)
    either true b h = inl refl
    either false b h = inr h

    pub stands : (e : Expression Name) (x : Name) → has_no_operation e ≡ true → has_name (variables_in e) x ≡ true → StandsIn (place_in variables x) (placed e)
    stands (Variable y) x o h = elim (either (same_name x y) false h) [ inl e ↦ ap (place_in variables) (same_name_told x y e) | inr e ↦ absurd cc ]
    stands (Dot d e) x o h =
        let q = both (has_no_operation d) (has_no_operation e) o in
        let t : (has_name (variables_in d) x || has_name (variables_in e) x) ≡ true = sym (has_append (variables_in d) (variables_in e) x) ∙ h in
        elim (either (has_name (variables_in d) x) (has_name (variables_in e) x) t) [ inl l ↦ inl (stands d x q.0 l) | inr r ↦ inr (stands e x q.1 r) ]
    stands (Join d e) x o h =
        let q = both (has_no_operation d) (has_no_operation e) o in
        let t : (has_name (variables_in d) x || has_name (variables_in e) x) ≡ true = sym (has_append (variables_in d) (variables_in e) x) ∙ h in
        elim (either (has_name (variables_in d) x) (has_name (variables_in e) x) t) [ inl l ↦ inl (stands d x q.0 l) | inr r ↦ inr (stands e x q.1 r) ]
    stands (Negated (Number z)) x o h = absurd cc
    stands other x o h = absurd cc
