-- Unknown names in expressions and conditions, part by part.
use Rattle.std.proofs.Common.{◌≡◌, Bool, true, false, ◌||◌, if◌then◌else◌, List, [], ◌∷◌, ◌++◌, map, Option, Some, None, refl, sym, ap, ◌∙◌}
use Rattle.std.specs.Prelude.{is_some, option_map}
use Rattle.std.specs.Option.{option_or, option_copied}
use Rattle.std.specs.Borrow.{Bor}
use Rattle.gp_memory.proofs.Basics.{or_assoc, or_none}
use Rattle.gp_values.specs.Names.{Name, same_name, has_name, first_unknown}
use Rattle.gp_syntax.specs.declared.expression.Expr.{Expr}
use Rattle.gp_syntax.specs.declared.expression.Cond.{Cond}
use Rattle.gp_syntax.specs.declared.kinds.Comparison.{Comparison}
use Rattle.gp_syntax.specs.declared.tree.NodeDecl.{NodeDecl}
use Rattle.gp_syntax.specs.Expression.{Expression, Compared}
use Rattle.gp_syntax.specs.Declaration.{DeclaredNode, variables_in, nodes_in}
use Rattle.gp_syntax.specs.Fault.{first_told, node_named}
use Rattle.gp_syntax.specs.Tree.{expression_of, node_of}
use Rattle.gp_syntax.proofs.Told.{unknown_append}
use Rattle.gp_clauses.specs.declared.shape.Operation.{Operation}
use Rattle.gp_clauses.specs.declared.shape.Operation.TheVariants as operations
use Rattle.gp_clauses.specs.declared.known.Known.{Known}
use Rattle.gp_clauses.specs.declared.known.Known.TheVariants as known
use Rattle.gp_clauses.specs.Shapes.{applied, with_operand, chain}
use Rattle.gp_clauses.specs.declared.condition_shape.Connective.{Connective}
use Rattle.gp_clauses.specs.declared.condition_shape.Connective.TheVariants as connectives
use Rattle.gp_clauses.specs.ConditionShapes.{NamedCondition, named_condition, connected, with_part, condition_chain}
use Rattle.gp_clauses.specs.inside.Known.{names_known, references, references_in_condition, unknown_in, unknown_in_condition}

pub told_or : {A : Type 0} (r a b : Option (Bor A)) (p q : Option A) → r ≡ option_or a b → option_copied a ≡ p → option_copied b ≡ q → option_copied r ≡ option_or p q
told_or r None b p q h f g = ap option_copied h ∙ g ∙ ap (λ x. option_or x q) f
told_or r (Some x) b p q h f g = ap option_copied h ∙ ap (λ x. option_or x q) f

-- whether there is a node of a name
named_there : (ns : List DeclaredNode) (n : Name) → is_some (node_named ns n) ≡ has_name (map (λ (p : DeclaredNode). p.name) ns) n
named_there [] n = refl
named_there (p ∷ ps) n = go (same_name n p.name) (named_there ps n)
  where
    go : (b : Bool) → is_some (node_named ps n) ≡ has_name (map (λ (p : DeclaredNode). p.name) ps) n → is_some (if b then Some p else node_named ps n) ≡ (b || has_name (map (λ (p : DeclaredNode). p.name) ps) n)
    go true e = refl
    go false e = e

pub node_there : (o : Option (Bor NodeDecl)) (ns : List DeclaredNode) (n : Name) → option_map node_of (option_copied o) ≡ node_named ns n → is_some o ≡ has_name (map (λ (p : DeclaredNode). p.name) ns) n
node_there None ns n h = ap is_some h ∙ named_there ns n
node_there (Some p) ns n h = ap is_some h ∙ named_there ns n

-- ---- chains

references_applied : (k : Known) (op : Operation) (d e : Expression Name) → references k (applied op d e) ≡ references k d ++ references k e
references_applied (known.Nodes s) operations.Plus d e = refl
references_applied (known.Nodes s) operations.Minus d e = refl
references_applied (known.Nodes s) operations.Times d e = refl
references_applied (known.Nodes s) operations.Over d e = refl
references_applied (known.Nodes s) operations.Dot d e = refl
references_applied (known.Nodes s) operations.Join d e = refl
references_applied (known.Variables t) operations.Plus d e = refl
references_applied (known.Variables t) operations.Minus d e = refl
references_applied (known.Variables t) operations.Times d e = refl
references_applied (known.Variables t) operations.Over d e = refl
references_applied (known.Variables t) operations.Dot d e = refl
references_applied (known.Variables t) operations.Join d e = refl

pub unknown_applied : (k : Known) (op : Operation) (d e : Expression Name) → unknown_in k (applied op d e) ≡ option_or (unknown_in k d) (unknown_in k e)
unknown_applied k op d e = ap (first_unknown (names_known k)) (references_applied k op d e) ∙ unknown_append (names_known k) (references k d) (references k e)

abbrev pub unknown_at : Known → (Operation × Expr Name) → Option Name
unknown_at k l = unknown_in k (expression_of l.1)

pub unknown_chain : (k : Known) (e : Expression Name) (ls : List (Operation × Expr Name)) → unknown_in k (chain e ls) ≡ option_or (unknown_in k e) (first_told (unknown_at k) ls)
unknown_chain k e [] = sym (or_none (unknown_in k e))
unknown_chain k e (l ∷ ls) =
    unknown_chain k (with_operand e l) ls ∙ ap (λ o. option_or o (first_told (unknown_at k) ls)) (unknown_applied k l.0 e (expression_of l.1))
    ∙ or_assoc (unknown_in k e) (unknown_at k l) (first_told (unknown_at k) ls)

-- ---- conditions

pub unknown-Compared : (k : Known) (op : Comparison) (d e : Expression Name) → unknown_in_condition k (Compared op d e) ≡ option_or (unknown_in k d) (unknown_in k e)
unknown-Compared (known.Nodes s) op d e = unknown_append (names_known (known.Nodes s)) (nodes_in d) (nodes_in e)
unknown-Compared (known.Variables t) op d e = unknown_append (names_known (known.Variables t)) (variables_in d) (variables_in e)

references_connected : (k : Known) (by : Connective) (c d : NamedCondition) → references_in_condition k (connected by c d) ≡ references_in_condition k c ++ references_in_condition k d
references_connected (known.Nodes s) connectives.And c d = refl
references_connected (known.Nodes s) connectives.Or c d = refl
references_connected (known.Variables t) connectives.And c d = refl
references_connected (known.Variables t) connectives.Or c d = refl

abbrev pub unknown_in_part : Known → Cond Name (Option Name) → Option Name
unknown_in_part k d = unknown_in_condition k (named_condition d)

pub unknown_condition_chain : (k : Known) (by : Connective) (c : NamedCondition) (ds : List (Cond Name (Option Name))) → unknown_in_condition k (condition_chain by c ds) ≡ option_or (unknown_in_condition k c) (first_told (unknown_in_part k) ds)
unknown_condition_chain k by c [] = sym (or_none (unknown_in_condition k c))
unknown_condition_chain k by c (d ∷ ds) =
    unknown_condition_chain k by (with_part by c d) ds
    ∙ ap (λ o. option_or o (first_told (unknown_in_part k) ds)) (ap (first_unknown (names_known k)) (references_connected k by c (named_condition d)) ∙ unknown_append (names_known k) (references_in_condition k c) (references_in_condition k (named_condition d)))
    ∙ or_assoc (unknown_in_condition k c) (unknown_in_part k d) (first_told (unknown_in_part k) ds)
