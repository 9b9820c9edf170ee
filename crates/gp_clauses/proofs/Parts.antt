-- Types and marks in conditions, part by part.
use Rattle.std.proofs.Common.{◌≡◌, ◌&&◌, Bool, true, false, List, [], ◌∷◌, ◌++◌, map, Option, refl, sym, ap, ◌∙◌}
use Rattle.std.specs.List.{list_all}
use Rattle.gp_values.specs.Names.{Name}
use Rattle.gp_syntax.specs.declared.kinds.VariableType.{VariableType}
use Rattle.gp_syntax.specs.declared.expression.Cond.{Cond}
use Rattle.gp_syntax.specs.declared.tree.NodeDecl.{NodeDecl}
use Rattle.gp_syntax.specs.declared.tree.EdgeDecl.{EdgeDecl}
use Rattle.gp_syntax.specs.declared.tree.GraphDecl.{GraphDecl}
use Rattle.gp_syntax.specs.Expression.{Expression}
use Rattle.gp_syntax.specs.Declaration.{DeclaredNode, DeclaredEdge, labels}
use Rattle.gp_syntax.specs.Fault.{is_well_typed_condition, is_edge_mark, marks_in_condition}
use Rattle.gp_syntax.specs.Tree.{expression_of, node_of, edge_of, side_of}
use Rattle.gp_clauses.specs.declared.condition_shape.Connective.{Connective}
use Rattle.gp_clauses.specs.declared.condition_shape.Connective.TheVariants as connectives
use Rattle.gp_clauses.specs.ConditionShapes.{NamedCondition, named_condition, connected, with_part, condition_chain}

pub and_true : (a : Bool) → (a && true) ≡ a
and_true true = refl
and_true false = refl

pub and_assoc : (a b c : Bool) → ((a && b) && c) ≡ (a && (b && c))
and_assoc true b c = refl
and_assoc false b c = refl

pub all_append : {A : Type 0} (p : A → Bool) (xs ys : List A) → list_all p (xs ++ ys) ≡ (list_all p xs && list_all p ys)
all_append p [] ys = refl
all_append p (x ∷ xs) ys = ap (λ b. p x && b) (all_append p xs ys) ∙ sym (and_assoc (p x) (list_all p xs) (list_all p ys))

abbrev pub is_typed_part : (Name → VariableType) → Cond Name (Option Name) → Bool
is_typed_part t d = is_well_typed_condition t (named_condition d)

typed_connected : (t : Name → VariableType) (by : Connective) (c d : NamedCondition) → is_well_typed_condition t (connected by c d) ≡ (is_well_typed_condition t c && is_well_typed_condition t d)
typed_connected t connectives.And c d = refl
typed_connected t connectives.Or c d = refl

pub typed_chain : (t : Name → VariableType) (by : Connective) (c : NamedCondition) (ds : List (Cond Name (Option Name))) → is_well_typed_condition t (condition_chain by c ds) ≡ (is_well_typed_condition t c && list_all (is_typed_part t) ds)
typed_chain t by c [] = sym (and_true (is_well_typed_condition t c))
typed_chain t by c (d ∷ ds) =
    typed_chain t by (with_part by c d) ds ∙ ap (λ b. b && list_all (is_typed_part t) ds) (typed_connected t by c (named_condition d))
    ∙ and_assoc (is_well_typed_condition t c) (is_typed_part t d) (list_all (is_typed_part t) ds)

-- ---- marks

abbrev pub has_edge_marks : NamedCondition → Bool
has_edge_marks c = list_all is_edge_mark (marks_in_condition c)

abbrev pub part_has_marks : Cond Name (Option Name) → Bool
part_has_marks d = has_edge_marks (named_condition d)

marks_connected : (by : Connective) (c d : NamedCondition) → marks_in_condition (connected by c d) ≡ marks_in_condition c ++ marks_in_condition d
marks_connected connectives.And c d = refl
marks_connected connectives.Or c d = refl

pub marks_chain : (by : Connective) (c : NamedCondition) (ds : List (Cond Name (Option Name))) → has_edge_marks (condition_chain by c ds) ≡ (has_edge_marks c && list_all part_has_marks ds)
marks_chain by c [] = sym (and_true (has_edge_marks c))
marks_chain by c (d ∷ ds) =
    marks_chain by (with_part by c d) ds
    ∙ ap (λ b. b && list_all part_has_marks ds) (ap (list_all is_edge_mark) (marks_connected by c (named_condition d)) ∙ all_append is_edge_mark (marks_in_condition c) (marks_in_condition (named_condition d)))
    ∙ and_assoc (has_edge_marks c) (part_has_marks d) (list_all part_has_marks ds)

-- ---- the labels of a side

all_mapped : {A B : Type 0} (p : B → Bool) (f : A → B) (xs : List A) → list_all p (map f xs) ≡ list_all (λ x. p (f x)) xs
all_mapped p f [] = refl
all_mapped p f (x ∷ xs) = ap (λ b. p (f x) && b) (all_mapped p f xs)

pub all_labels : (p : Expression Name → Bool) (s : GraphDecl) → list_all p (labels (side_of s)) ≡ (list_all (λ (n : NodeDecl). p (expression_of n.label)) s.nodes && list_all (λ (e : EdgeDecl). p (expression_of e.label)) s.edges)
all_labels p s =
    all_append p (map (λ (n : DeclaredNode). n.label) (map node_of s.nodes)) (map (λ (e : DeclaredEdge). e.label) (map edge_of s.edges))
    ∙ (λ i. (all_mapped p (λ (n : DeclaredNode). n.label) (map node_of s.nodes) ∙ all_mapped (λ (n : DeclaredNode). p n.label) node_of s.nodes) i
    && (all_mapped p (λ (e : DeclaredEdge). e.label) (map edge_of s.edges) ∙ all_mapped (λ (e : DeclaredEdge). p e.label) edge_of s.edges) i)

module _ (p : Expression Name → Bool) (s : GraphDecl) where
  abbrev of_node : NodeDecl → Bool
  of_node n = p (expression_of n.label)

  abbrev of_edge : EdgeDecl → Bool
  of_edge e = p (expression_of e.label)

  pub node_fails : list_all of_node s.nodes ≡ false → false ≡ list_all p (labels (side_of s))
  node_fails h = sym (all_labels p s ∙ ap (λ b. b && list_all of_edge s.edges) h)

  pub edge_fails : list_all of_node s.nodes ≡ true → list_all of_edge s.edges ≡ false → false ≡ list_all p (labels (side_of s))
  edge_fails g h = sym (all_labels p s ∙ ap (λ b. b && list_all of_edge s.edges) g ∙ h)

  pub both_pass : list_all of_node s.nodes ≡ true → list_all of_edge s.edges ≡ true → true ≡ list_all p (labels (side_of s))
  both_pass g h = sym (all_labels p s ∙ ap (λ b. b && list_all of_edge s.edges) g ∙ h)

-- ---- what is asked of the nodes and of the edges of a side

module _ (p : DeclaredNode → Bool) (q : DeclaredEdge → Bool) (s : GraphDecl) where
  abbrev at_node : NodeDecl → Bool
  at_node n = p (node_of n)

  abbrev at_edge : EdgeDecl → Bool
  at_edge e = q (edge_of e)

  in_side : (list_all p (map node_of s.nodes) && list_all q (map edge_of s.edges)) ≡ (list_all at_node s.nodes && list_all at_edge s.edges)
  in_side = λ i. all_mapped p node_of s.nodes i && all_mapped q edge_of s.edges i

  pub some_node_fails : list_all at_node s.nodes ≡ false → false ≡ (list_all p (map node_of s.nodes) && list_all q (map edge_of s.edges))
  some_node_fails h = sym (in_side ∙ ap (λ b. b && list_all at_edge s.edges) h)

  pub some_edge_fails : list_all at_node s.nodes ≡ true → list_all at_edge s.edges ≡ false → false ≡ (list_all p (map node_of s.nodes) && list_all q (map edge_of s.edges))
  some_edge_fails g h = sym (in_side ∙ ap (λ b. b && list_all at_edge s.edges) g ∙ h)

  pub none_fails : list_all at_node s.nodes ≡ true → list_all at_edge s.edges ≡ true → true ≡ (list_all p (map node_of s.nodes) && list_all q (map edge_of s.edges))
  none_fails g h = sym (in_side ∙ ap (λ b. b && list_all at_edge s.edges) g ∙ h)
