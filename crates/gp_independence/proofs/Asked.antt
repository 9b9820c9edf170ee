-- Where `indeg`, `outdeg` and `edge` stand in a chain.
use Rattle.std.proofs.Common.{◌≡◌, ℕ, Bool, true, false, List, [], ◌∷◌, map, fold, refl, sym, ap, ◌∙◌}
use Rattle.std.specs.Prelude.{◌||◌}
use Rattle.std.specs.List.{list_any}
use Rattle.std.proofs.Math.Bool.{or_assoc, or-false}
use Rattle.std.proofs.lemmas.List.Folds.{list_any-append}
use Rattle.gp_values.specs.declared.marks.EdgeMark.{EdgeMark}
use Rattle.gp_syntax.specs.declared.rule.MarkPattern.{MarkPattern as Pattern}
use Rattle.gp_syntax.specs.declared.rule.RuleParts.{RuleParts}
use Rattle.gp_syntax.specs.declared.expression.Expr.{Expr}
use Rattle.gp_syntax.specs.declared.expression.Expr.TheVariants as tree
use Rattle.gp_syntax.specs.declared.expression.Cond.{Cond}
use Rattle.gp_syntax.specs.declared.expression.Cond.TheVariants as conditions
use Rattle.gp_syntax.specs.declared.expression.Signed.{Signed}
use Rattle.gp_syntax.specs.declared.expression.SumSign.{SumSign}
use Rattle.gp_syntax.specs.declared.expression.SumSign.TheVariants as sums
use Rattle.gp_syntax.specs.declared.expression.ProductSign.{ProductSign}
use Rattle.gp_syntax.specs.declared.expression.ProductSign.TheVariants as products
use Rattle.gp_syntax.specs.Expression.{Expression, Dot, Join, Condition, And, Or, MarkPattern}
use Rattle.gp_syntax.specs.Rule.{RightNode, RightEdge}
use Rattle.gp_syntax.specs.Step.{right_labels}
use Rattle.gp_syntax.specs.Tree.{expression_of, added as plus, multiplied as times, condition_of, pattern_of, rule_of_tree, right_node_of, right_edge_of}
use Rattle.gp_syntax.proofs.Trees.{expression_of-Sum, expression_of-Product, expression_of-Dot, expression_of-Join, condition_of-And, condition_of-Or}
use Rattle.gp_match.proofs.Verdicts.{any_mapped}
use Rattle.gp_independence.specs.Independent.{has_degree, asks_edges}

-- ---- what a chain asks

pub then_first : (r first rest whole : Bool) → r ≡ first → r ≡ true → whole ≡ (first || rest) → r ≡ whole
then_first r true rest whole e t w = e ∙ sym w
then_first r false rest whole e t w = absurd (let d : true ≡ false = sym t ∙ e in cc)

pub else_rest : (r q first rest whole : Bool) → r ≡ first → r ≡ false → q ≡ rest → whole ≡ (first || rest) → q ≡ whole
else_rest r q true rest whole e f s w = absurd (let d : false ≡ true = sym f ∙ e in cc)
else_rest r q false rest whole e f s w = s ∙ sym w

-- a test of a chain that is put together from the left, by that of its parts
chain_asks : {X Y Z : Type 0} (test : X → Bool) (put : X → Y → X) (of : Z → Y) (asks : Z → Bool) → ((x : X) (z : Z) → test (put x (of z)) ≡ (test x || asks z)) → (x : X) (zs : List Z) → test (fold put x (map of zs)) ≡ (test x || list_any asks zs)
chain_asks test put of asks each x [] = sym (or-false (test x))
chain_asks test put of asks each x (z ∷ zs) = chain_asks test put of asks each (put x (of z)) zs ∙ ap (λ b. b || list_any asks zs) (each x z) ∙ or_assoc (test x) (asks z) (list_any asks zs)

abbrev pub expression_asks : Expr ℕ → Bool
expression_asks e = has_degree (expression_of e)

by_sum_sign : (sign : SumSign) (d e : Expression ℕ) → has_degree (plus sign d e) ≡ (has_degree d || has_degree e)
by_sum_sign sums.Plus d e = refl
by_sum_sign sums.Minus d e = refl

by_product_sign : (sign : ProductSign) (d e : Expression ℕ) → has_degree (times sign d e) ≡ (has_degree d || has_degree e)
by_product_sign products.Times d e = refl
by_product_sign products.Over d e = refl

pub of_sum : (x e : Expr ℕ) (ts : List (Signed SumSign (Expr ℕ))) → x ≡ tree.Sum e ts → expression_asks x ≡ (expression_asks e || list_any (λ t. expression_asks t.operand) ts)
of_sum x e ts is =
    ap expression_asks is ∙ ap has_degree (expression_of-Sum e ts)
    ∙ chain_asks has_degree (λ d (t : Signed SumSign (Expression ℕ)). plus t.sign d t.operand) (λ (t : Signed SumSign (Expr ℕ)). record { sign = t.sign; operand = expression_of t.operand }) (λ t. expression_asks t.operand) (λ d t. by_sum_sign t.sign d (expression_of t.operand)) (expression_of e) ts

pub of_product : (x e : Expr ℕ) (ts : List (Signed ProductSign (Expr ℕ))) → x ≡ tree.Product e ts → expression_asks x ≡ (expression_asks e || list_any (λ t. expression_asks t.operand) ts)
of_product x e ts is =
    ap expression_asks is ∙ ap has_degree (expression_of-Product e ts)
    ∙ chain_asks has_degree (λ d (t : Signed ProductSign (Expression ℕ)). times t.sign d t.operand) (λ (t : Signed ProductSign (Expr ℕ)). record { sign = t.sign; operand = expression_of t.operand }) (λ t. expression_asks t.operand) (λ d t. by_product_sign t.sign d (expression_of t.operand)) (expression_of e) ts

pub of_dot : (x e : Expr ℕ) (es : List (Expr ℕ)) → x ≡ tree.Dot e es → expression_asks x ≡ (expression_asks e || list_any expression_asks es)
of_dot x e es is = ap expression_asks is ∙ ap has_degree (expression_of-Dot e es) ∙ chain_asks has_degree Dot expression_of expression_asks (λ d z. refl) (expression_of e) es

pub of_join : (x e : Expr ℕ) (es : List (Expr ℕ)) → x ≡ tree.Join e es → expression_asks x ≡ (expression_asks e || list_any expression_asks es)
of_join x e es is = ap expression_asks is ∙ ap has_degree (expression_of-Join e es) ∙ chain_asks has_degree Join expression_of expression_asks (λ d z. refl) (expression_of e) es

-- ---- conditions

abbrev pub Tree : Type 0
Tree = Cond ℕ (Pattern EdgeMark)

abbrev pub meaning : Tree → Condition ℕ (MarkPattern EdgeMark)
meaning c = condition_of pattern_of c

abbrev pub condition_asks : Tree → Bool
condition_asks c = asks_edges (meaning c)

pub of_and : (x c : Tree) (cs : List Tree) → x ≡ conditions.And c cs → condition_asks x ≡ (condition_asks c || list_any condition_asks cs)
of_and x c cs is = ap condition_asks is ∙ ap asks_edges (condition_of-And {R = ℕ} (pattern_of {M = EdgeMark}) c cs) ∙ chain_asks asks_edges And meaning condition_asks (λ d z. refl) (meaning c) cs

pub of_or : (x c : Tree) (cs : List Tree) → x ≡ conditions.Or c cs → condition_asks x ≡ (condition_asks c || list_any condition_asks cs)
of_or x c cs is = ap condition_asks is ∙ ap asks_edges (condition_of-Or {R = ℕ} (pattern_of {M = EdgeMark}) c cs) ∙ chain_asks asks_edges Or meaning condition_asks (λ d z. refl) (meaning c) cs

-- ---- right labels

labels_mapped : {X Y : Type 0} (f : X → Y) (label : Y → Expression ℕ) (xs : List X) → list_any has_degree (map label (map f xs)) ≡ list_any (λ x. has_degree (label (f x))) xs
labels_mapped f label xs = any_mapped label has_degree (map f xs) ∙ any_mapped f (λ y. has_degree (label y)) xs

pub of_labels : (p : RuleParts) → list_any has_degree (right_labels (rule_of_tree p)) ≡ (list_any (λ q. has_degree (expression_of q.label)) p.right_nodes || list_any (λ q. has_degree (expression_of q.label)) p.right_edges)
of_labels p =
    list_any-append has_degree (map (λ (q : RightNode). q.label) (map right_node_of p.right_nodes)) (map (λ (q : RightEdge). q.label) (map right_edge_of p.right_edges))
    ∙ ap (λ b. b || list_any has_degree (map (λ (q : RightEdge). q.label) (map right_edge_of p.right_edges))) (labels_mapped right_node_of (λ (q : RightNode). q.label) p.right_nodes)
    ∙ ap (λ b. list_any (λ q. has_degree (expression_of q.label)) p.right_nodes || b) (labels_mapped right_edge_of (λ (q : RightEdge). q.label) p.right_edges)
