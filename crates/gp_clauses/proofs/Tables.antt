-- Tables of names and of variables as they grow.
use Rattle.std.proofs.Common.{◌≡◌, ℕ, Bool, true, false, ◌||◌, if◌then◌else◌, List, [], ◌∷◌, ◌++◌, map, flat_map, filter, fold, Option, Some, None, slice_get, refl, sym, ap, ◌∙◌}
use Rattle.std.specs.Option.{option_map_or}
use Rattle.std.specs.Borrow.{Bor}
use Rattle.std.proofs.lemmas.Option.{unwrap_or-slice_get}
use Rattle.std.specs.Prelude.{unwrap_or}
use Rattle.gp_memory.proofs.Basics.{append_none}
use Rattle.gp_values.specs.Names.{Name, same_name, has_name, first_doubled_behind}
use Rattle.gp_syntax.specs.declared.kinds.VariableType.{VariableType}
use Rattle.gp_syntax.specs.declared.kinds.VariableType.TheVariants as types
use Rattle.gp_syntax.specs.declared.expression.Expr.{Expr}
use Rattle.gp_syntax.specs.declared.tree.NodeDecl.{NodeDecl}
use Rattle.gp_syntax.specs.declared.tree.EdgeDecl.{EdgeDecl}
use Rattle.gp_syntax.specs.declared.tree.GraphDecl.{GraphDecl}
use Rattle.gp_syntax.specs.Expression.{Expression}
use Rattle.gp_syntax.specs.Declaration.{DeclaredNode, DeclaredEdge, DeclaredVariable, variables_in}
use Rattle.gp_syntax.specs.Fault.{variables_in_side}
use Rattle.gp_syntax.specs.Tree.{expression_of, node_of, edge_of, side_of}
use Rattle.gp_syntax.specs.Typing.{type_in}
use Rattle.gp_syntax.proofs.Declarations.{has_append, once_head, same_name_told}
use Rattle.gp_clauses.specs.declared.shape.Operation.{Operation}
use Rattle.gp_clauses.specs.declared.shape.Operation.TheVariants as operations
use Rattle.gp_clauses.specs.declared.variables.Variables.{Variables}
use Rattle.gp_clauses.specs.Shapes.{applied, with_operand, chain}
use Rattle.gp_clauses.specs.inside.Tables.{with_name, with_names, with_variables_in, with_operand_names, with_variable, is_kept, with_kept}

-- ---- folds

pub fold_append : {A B : Type 0} (f : B → A → B) (a : B) (xs ys : List A) → fold f a (xs ++ ys) ≡ fold f (fold f a xs) ys
fold_append f a [] ys = refl
fold_append f a (x ∷ xs) ys = fold_append f (f a x) xs ys

pub fold_flat : {A B C : Type 0} (f : B → A → B) (g : C → List A) (a : B) (xs : List C) → fold f a (flat_map g xs) ≡ fold (λ b x. fold f b (g x)) a xs
fold_flat f g a [] = refl
fold_flat f g a (x ∷ xs) = fold_append f a (g x) (flat_map g xs) ∙ fold_flat f g (fold f a (g x)) xs

fold_mapped : {A B C : Type 0} (f : B → A → B) (g : C → A) (a : B) (xs : List C) → fold f a (map g xs) ≡ fold (λ b x. f b (g x)) a xs
fold_mapped f g a [] = refl
fold_mapped f g a (x ∷ xs) = fold_mapped f g (f a (g x)) xs

-- ---- names

variables_applied : (op : Operation) (d e : Expression Name) → variables_in (applied op d e) ≡ variables_in d ++ variables_in e
variables_applied operations.Plus d e = refl
variables_applied operations.Minus d e = refl
variables_applied operations.Times d e = refl
variables_applied operations.Over d e = refl
variables_applied operations.Dot d e = refl
variables_applied operations.Join d e = refl

pub variables_chain : (t : List Name) (e : Expression Name) (ls : List (Operation × Expr Name)) → with_variables_in t (chain e ls) ≡ fold with_operand_names (with_variables_in t e) ls
variables_chain t e [] = refl
variables_chain t e (l ∷ ls) =
    variables_chain t (with_operand e l) ls ∙ ap (λ u. fold with_operand_names u ls) (ap (with_names t) (variables_applied l.0 e (expression_of l.1)) ∙ fold_append with_name t (variables_in e) (variables_in (expression_of l.1)))

pub variables_side : (t : List Name) (s : GraphDecl) → with_names t (variables_in_side (side_of s))
    ≡ fold (λ u (e : EdgeDecl). with_variables_in u (expression_of e.label)) (fold (λ u (n : NodeDecl). with_variables_in u (expression_of n.label)) t s.nodes) s.edges
variables_side t s =
    fold_flat with_name variables_in t (map (λ (n : DeclaredNode). n.label) (map node_of s.nodes) ++ map (λ (e : DeclaredEdge). e.label) (map edge_of s.edges))
    ∙ fold_append with_variables_in t (map (λ (n : DeclaredNode). n.label) (map node_of s.nodes)) (map (λ (e : DeclaredEdge). e.label) (map edge_of s.edges))
    ∙ ap (λ u. fold with_variables_in u (map (λ (e : DeclaredEdge). e.label) (map edge_of s.edges))) (fold_mapped with_variables_in (λ (n : DeclaredNode). n.label) t (map node_of s.nodes) ∙ fold_mapped (λ u (n : DeclaredNode). with_variables_in u n.label) node_of t s.nodes)
    ∙ fold_mapped with_variables_in (λ (e : DeclaredEdge). e.label) (fold (λ u (n : NodeDecl). with_variables_in u (expression_of n.label)) t s.nodes) (map edge_of s.edges)
    ∙ fold_mapped (λ u (e : DeclaredEdge). with_variables_in u e.label) edge_of (fold (λ u (n : NodeDecl). with_variables_in u (expression_of n.label)) t s.nodes) s.edges

-- a table has what it had and what was added
has_after : (names more : List Name) (n : Name) → has_name (with_names names more) n ≡ (has_name names n || has_name more n)
has_after names [] n = sym (or_false (has_name names n))
  where
    or_false : (b : Bool) → (b || false) ≡ b
    or_false true = refl
    or_false false = refl
has_after names (m ∷ more) n = has_after (with_name names m) more n ∙ go (has_name names m) refl
  where
    known : (a b c : Bool) → (a ≡ true → b ≡ true) → (b || c) ≡ (b || (a || c))
    known a true c h = refl
    known true false c h = absurd (let k : false ≡ true = h refl in cc)
    known false false c h = refl

    assoc : (a b c : Bool) → ((a || (b || false)) || c) ≡ (a || (b || c))
    assoc true b c = refl
    assoc false true c = refl
    assoc false false c = refl

    go : (b : Bool) → has_name names m ≡ b → (has_name (if b then names else names ++ m ∷ []) n || has_name more n) ≡ (has_name names n || (same_name n m || has_name more n))
    go true e = known (same_name n m) (has_name names n) (has_name more n) (λ s. ap (has_name names) (same_name_told n m s) ∙ e)
    go false e = ap (λ b. b || has_name more n) (has_append names (m ∷ []) n) ∙ assoc (has_name names n) (same_name n m) (has_name more n)

pub has_added : (names : List Name) (n : Name) → has_name (with_names [] names) n ≡ has_name names n
has_added names n = has_after [] names n

-- ---- variables

pub none_there : (ts : List VariableType) (k : ℕ) (o : Option ℕ) → o ≡ Some k → slice_get ts k ≡ None → types.List ≡ option_map_or (type_in ts) o types.List
none_there ts k o e h = rw e (ap (λ p. unwrap_or p types.List) (sym h) ∙ unwrap_or-slice_get ts k types.List)

-- the kept ones alone
pub kept_only : (kept : Option (Bor (List Name))) (used : List Name) → ((n : Name) → is_kept kept n ≡ has_name used n) → (v : Variables) (vs : List DeclaredVariable) → fold (with_kept kept) v vs ≡ fold with_variable v (filter (λ (x : DeclaredVariable). has_name used x.name) vs)
kept_only kept used same v [] = refl
kept_only kept used same v (x ∷ vs) = go (has_name used x.name) (same x.name) (λ w. kept_only kept used same w vs)
  where
    go : (b : Bool) → is_kept kept x.name ≡ b → ((w : Variables) → fold (with_kept kept) w vs ≡ fold with_variable w (filter (λ (x : DeclaredVariable). has_name used x.name) vs)) →
        fold (with_kept kept) (if is_kept kept x.name then with_variable v x else v) vs ≡ fold with_variable v (if b then x ∷ filter (λ (x : DeclaredVariable). has_name used x.name) vs else filter (λ (x : DeclaredVariable). has_name used x.name) vs)
    go true e rest = rw e (rest (with_variable v x))
    go false e rest = rw e (rest v)

-- variables whose names stand once are all there
abbrev pub variables_after : Variables → List DeclaredVariable → Variables
variables_after v vs = record { names = v.names ++ map (λ (x : DeclaredVariable). x.name) vs; types = v.types ++ map (λ (x : DeclaredVariable). x.type) vs }

regrouped : {A : Type 0} (xs : List A) (y : A) (ys : List A) → (xs ++ y ∷ []) ++ ys ≡ xs ++ y ∷ ys
regrouped [] y ys = refl
regrouped (x ∷ xs) y ys = ap (λ l. x ∷ l) (regrouped xs y ys)

pub once_all : (v : Variables) (vs : List DeclaredVariable) → first_doubled_behind v.names (map (λ (x : DeclaredVariable). x.name) vs) ≡ None → fold with_variable v vs ≡ variables_after v vs
once_all v [] h = λ i. record { names = sym (append_none v.names) i; types = sym (append_none v.types) i }
once_all v (x ∷ vs) h =
    let p = once_head v.names x.name (map (λ (x : DeclaredVariable). x.name) vs) h in
    let new : Variables = record { names = v.names ++ x.name ∷ []; types = v.types ++ x.type ∷ [] } in
    ap (λ b. fold with_variable (if b then v else new) vs) p.0 ∙ once_all new vs p.1
    ∙ (λ i. record { names = regrouped v.names x.name (map (λ (x : DeclaredVariable). x.name) vs) i; types = regrouped v.types x.type (map (λ (x : DeclaredVariable). x.type) vs) i })
