-- The parts of a rule together, and the clauses together.
use Rattle.std.proofs.Common.{◌≡◌, ◌&&◌, Bool, true, false, List, [], ◌∷◌, map, Option, Some, None, Result, Ok, Err, refl, sym, subst, ◌∙◌}
use Rattle.std.specs.Prelude.{nat_le, option_map, IfOk, IsErrAnd}
use Rattle.std.specs.Option.{option_or}
use Rattle.std.specs.List.{list_all}
use Rattle.gp_memory.proofs.Basics.{both, not_false}
use Rattle.gp_values.specs.Names.{Name}
use Rattle.gp_syntax.specs.declared.kinds.VariableType.{VariableType}
use Rattle.gp_syntax.specs.declared.tree.NodeDecl.{NodeDecl}
use Rattle.gp_syntax.specs.declared.tree.EdgeDecl.{EdgeDecl}
use Rattle.gp_syntax.specs.declared.tree.RuleDecl.{RuleDecl}
use Rattle.gp_syntax.specs.declared.rule.RuleParts.{RuleParts}
use Rattle.gp_syntax.specs.Expression.{Expression}
use Rattle.gp_syntax.specs.Declaration.{Declaration, node_names}
use Rattle.gp_syntax.specs.Simple.{all_lists_in}
use Rattle.gp_syntax.specs.Fault.{Fault, TooLarge, TwiceDeclared, UnknownNode, BadInterface, Unbound, BadType, NotSimple, BadMark, BadBidi, when, fault_of, too_large, twice_declared, unknown_node, bad_interface, unbound, bad_type, type_named, has_no_operation, has_one_string, is_simple, not_simple, bad_mark, bad_bidi}
use Rattle.gp_syntax.specs.Tree.{expression_of, declaration_of, left_node_of, left_edge_of, right_node_of, right_edge_of, condition_or_true, pattern_of, rule_of_tree}
use Rattle.gp_clauses.proofs.Parts.{all_labels}
use Rattle.gp_check.specs.declared.fault.RuleFault.{RuleFault}
use Rattle.gp_check.specs.declared.fault.RuleFault.TheVariants as faults
use Rattle.gp_check.specs.Answer.{Refuses, Checks}
use Rattle.gp_check.specs.inside.Placed.{left_node_at, left_edge_at, right_node_at, right_edge_at, placed_condition, rule_at}
use Rattle.gp_check.specs.inside.Stages.{names_checked, labels_checked, marks_checked}

-- ---- left labels

simple_plain : (t : Name → VariableType) (e : Expression Name) → is_simple t e ≡ true → has_no_operation e ≡ true
simple_plain t e h = (both (has_no_operation e) (nat_le (all_lists_in t e) 1) (both (has_no_operation e && nat_le (all_lists_in t e) 1) (has_one_string t e) h).0).0

all_weaker : {A : Type 0} (p q : A → Bool) → ((x : A) → p x ≡ true → q x ≡ true) → (xs : List A) → list_all p xs ≡ true → list_all q xs ≡ true
all_weaker p q w [] h = refl
all_weaker p q w (x ∷ xs) h = let r = both (p x) (list_all p xs) h in rw (w x r.0) (all_weaker p q w xs r.1)

pub plain_labels : (r : RuleDecl) → not_simple (declaration_of r) ≡ false → (list_all (λ (n : NodeDecl). has_no_operation (expression_of n.label)) r.left.nodes ≡ true) × (list_all (λ (e : EdgeDecl). has_no_operation (expression_of e.label)) r.left.edges ≡ true)
plain_labels r h =
    let t = type_named (declaration_of r) in
    let p = both (list_all (λ (n : NodeDecl). is_simple t (expression_of n.label)) r.left.nodes) (list_all (λ (e : EdgeDecl). is_simple t (expression_of e.label)) r.left.edges) (sym (all_labels (is_simple t) r.left) ∙ not_false _ h) in
    (all_weaker _ _ (λ (n : NodeDecl). simple_plain t (expression_of n.label)) r.left.nodes p.0, all_weaker _ _ (λ (e : EdgeDecl). simple_plain t (expression_of e.label)) r.left.edges p.1)

-- ---- the rule

pub rule_made : (names : List Name) (d : Declaration) (r : RuleParts) → map left_node_of r.left_nodes ≡ map (left_node_at names d) d.left.nodes → map left_edge_of r.left_edges ≡ map (left_edge_at names d) d.left.edges →
    map right_node_of r.right_nodes ≡ map (right_node_at names d) d.right.nodes → map right_edge_of r.right_edges ≡ map (right_edge_at names d) d.right.edges →
    condition_or_true pattern_of r.condition ≡ placed_condition names (node_names d.left) d.condition → rule_of_tree r ≡ rule_at names d r.types
rule_made names d r a b e f g = λ i. record { types = r.types; left_nodes = a i; left_edges = b i; right_nodes = e i; right_edges = f i; condition = g i }

-- ---- the first fault

in_turn : (a b c e f g h i j : Option Fault) → option_or a (option_or b (option_or c (option_or e (option_or f (option_or g (option_or h (option_or i j))))))) ≡ option_or (option_or a (option_or b (option_or c e))) (option_or (option_or f (option_or g h)) (option_or i j))
in_turn (Some x) b c e f g h i j = refl
in_turn None (Some x) c e f g h i j = refl
in_turn None None (Some x) e f g h i j = refl
in_turn None None None (Some x) f g h i j = refl
in_turn None None None None (Some x) g h i j = refl
in_turn None None None None None (Some x) h i j = refl
in_turn None None None None None None (Some x) i j = refl
in_turn None None None None None None None (Some x) j = refl
in_turn None None None None None None None None j = refl

stages : (d : Declaration) → fault_of d ≡ option_or (names_checked d) (option_or (labels_checked d) (marks_checked d))
unfolding fault_of
stages d =
    in_turn (when (too_large d) TooLarge) (option_map TwiceDeclared (twice_declared d)) (option_map UnknownNode (unknown_node d)) (option_map BadInterface (bad_interface d))
    (option_map Unbound (unbound d)) (when (bad_type d) BadType) (when (not_simple d) NotSimple) (when (bad_mark d) BadMark) (option_map BadBidi (bad_bidi d))

first_refused : (e : RuleFault) (a b : Option Fault) → Refuses e a → Refuses e (option_or a b)
first_refused faults.TooLarge a b h = rw h refl
first_refused (faults.TwiceDeclared n) a b h = rw h refl
first_refused (faults.UnknownNode n) a b h = rw h refl
first_refused (faults.BadInterface n) a b h = rw h refl
first_refused (faults.Unbound n) a b h = rw h refl
first_refused faults.BadType a b h = rw h refl
first_refused faults.NotSimple a b h = rw h refl
first_refused faults.BadMark a b h = rw h refl
first_refused (faults.BadBidi n) a b h = rw h refl
first_refused faults.NoMemory a b h = tt

-- what the exit of a `?` tells
pub told_by : {X : Type 0} (fault : Option Fault) (e : RuleFault) (r : Result X RuleFault) → IsErrAnd r (λ y. y ≡ e) → Refuses e fault → Checks r fault
told_by fault e (Ok x) h t = absurd h
told_by fault e (Err y) h t = subst (λ (z : RuleFault). Refuses z fault) (sym h) t

pub none_made : {X : Type 0} (Q : RuleFault → Type 0) (P : X → Type 0) (r : Result X RuleFault) → IsErrAnd r Q → IfOk r P
none_made Q P (Ok x) h = absurd h
none_made Q P (Err y) h = tt

second_none : {A : Type 0} (a b : Option A) → option_or a b ≡ None → b ≡ None
second_none (Some x) b h = absurd cc
second_none None b h = h

when_none : (b : Bool) (f : Fault) → when b f ≡ None → b ≡ false
when_none true f h = absurd cc
when_none false f h = refl

pub simple_labels : (d : Declaration) → labels_checked d ≡ None → not_simple d ≡ false
simple_labels d h =
    when_none (not_simple d) NotSimple (second_none (when (bad_type d) BadType) (when (not_simple d) NotSimple) (second_none (option_map Unbound (unbound d)) (option_or (when (bad_type d) BadType) (when (not_simple d) NotSimple)) h))

module _ (d : Declaration) where
  pub names_stop : (e : RuleFault) → Refuses e (names_checked d) → Refuses e (fault_of d)
  names_stop e h = rw stages (first_refused e _ _ h)

  pub labels_stop : (e : RuleFault) → names_checked d ≡ None → Refuses e (labels_checked d) → Refuses e (fault_of d)
  labels_stop e a h = rw (stages, a) (first_refused e _ _ h)

  pub marks_stop : (e : RuleFault) → names_checked d ≡ None → labels_checked d ≡ None → Refuses e (marks_checked d) → Refuses e (fault_of d)
  marks_stop e a b h = rw (stages, a, b) h

  pub none_stop : names_checked d ≡ None → labels_checked d ≡ None → marks_checked d ≡ None → fault_of d ≡ None
  none_stop a b c = stages d ∙ rw (a, b, c) refl
