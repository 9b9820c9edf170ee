-- Chains with one operand more.
use Rattle.std.proofs.Common.{◌≡◌, ℕ, ◌+◌, List, [], ◌∷◌, ◌++◌, map, fold, drop, Some, slice_get, Result, Ok, Err, refl, sym, ap, ◌∙◌, append_assoc}
use Rattle.std.specs.Prelude.{MatchResult}
use Rattle.gp_memory.proofs.Basics.{map_push}
use Rattle.gp_values.specs.declared.marks.EdgeMark.{EdgeMark}
use Rattle.gp_syntax.specs.declared.expression.Signed.{Signed}
use Rattle.gp_syntax.specs.declared.expression.SumSign.{SumSign}
use Rattle.gp_syntax.specs.declared.expression.ProductSign.{ProductSign}
use Rattle.gp_syntax.specs.declared.expression.Expr.{Expr}
use Rattle.gp_syntax.specs.declared.expression.Expr.TheVariants as tree
use Rattle.gp_syntax.specs.declared.expression.Cond.{Cond}
use Rattle.gp_syntax.specs.declared.expression.Cond.TheVariants as condition
use Rattle.gp_syntax.specs.declared.label.SimpleLabel.{SimpleLabel}
use Rattle.gp_syntax.specs.declared.label.SimpleLabel.TheVariants as label
use Rattle.gp_syntax.specs.declared.rule.MarkPattern.{MarkPattern as Pattern}
use Rattle.gp_syntax.specs.Expression.{Expression, Dot, Join, Condition, And, Or, MarkPattern}
use Rattle.gp_syntax.specs.Tree.{expression_of, label_of, condition_of, operands_of, sum, product, dots, joins, ands, ors, added, multiplied, pattern_of}
use Rattle.gp_clauses.proofs.Walks.{drop_item}
use Rattle.gp_check.specs.inside.Grown.{IsGrown}
use Rattle.gp_syntax.proofs.Trees.{expression_of-Sum, expression_of-Product, expression_of-Dot, expression_of-Join, label_of-Dot, label_of-Join, condition_of-And, condition_of-Or}

fold_push : {A B : Type 0} (f : B → A → B) (a : B) (xs : List A) (x : A) → fold f a (xs ++ x ∷ []) ≡ f (fold f a xs) x
fold_push f a [] x = refl
fold_push f a (y ∷ xs) x = fold_push f (f a y) xs x

-- one item more of a list that is made item by item
pub made_on : {A B C D : Type 0} (means : C → D) (wanted : B → D) (read : A → B) (xs : List A) (k : ℕ) (x : A) (made new : List C) (y : C) (whole : List D) → slice_get xs k ≡ Some x → new ≡ made ++ y ∷ [] → means y ≡ wanted (read x) →
    map means made ++ map wanted (map read (drop k xs)) ≡ whole → map means new ++ map wanted (map read (drop (k + 1) xs)) ≡ whole
made_on means wanted read xs k x made new y whole at e h s =
    let rest = map wanted (map read (drop (k + 1) xs)) in
    ap (λ l. map means l ++ rest) e ∙ ap (λ l. l ++ rest) (map_push means made y) ∙ append_assoc (map means made) (means y ∷ []) rest ∙ ap (λ z. map means made ++ z ∷ rest) h
    ∙ ap (λ l. map means made ++ map wanted (map read l)) (sym (drop_item xs k x at)) ∙ s

-- a chain that has grown, by what it means with one part more and by what one of two parts means
grown_means : {T P R : Type 0} (make : T → List P → T) (value : T → R) (with : R → P → R) → ((t : T) (l : List P) (x : P) → value (make t (l ++ x ∷ [])) ≡ with (value (make t l)) x) → ((t : T) (x : P) → value (make t (x ∷ [])) ≡ with (value t) x) →
    (t : T) (r : Result (T × List P) T) (x : P) (g : T × List P) → MatchResult r (λ p. t ≡ make p.0 p.1) (λ other. other ≡ t) → IsGrown r x g → value (make g.0 g.1) ≡ with (value t) x
grown_means make value with more two t (Ok p) x g is h = (λ i. value (make (h.0 i) (h.1 i))) ∙ more p.0 p.1 x ∙ ap (λ y. with (value y) x) (sym is)
grown_means make value with more two t (Err o) x g is h = (λ i. value (make (h.0 i) (h.1 i))) ∙ two o x ∙ ap (λ y. with (value y) x) is

abbrev Operand : Type 0
Operand = Expr ℕ

sum_pushed : (e : Operand) (ts : List (Signed SumSign Operand)) (t : Signed SumSign Operand) → expression_of (tree.Sum e (ts ++ t ∷ [])) ≡ added t.sign (expression_of (tree.Sum e ts)) (expression_of t.operand)
sum_pushed e ts t =
    expression_of-Sum e (ts ++ t ∷ []) ∙ ap (sum (expression_of e)) (map_push (λ (t : Signed SumSign Operand). record { sign = t.sign; operand = expression_of t.operand }) ts t)
    ∙ fold_push (λ d (t : Signed SumSign (Expression ℕ)). added t.sign d t.operand) (expression_of e) (operands_of ts) (record { sign = t.sign; operand = expression_of t.operand })
    ∙ ap (λ d. added t.sign d (expression_of t.operand)) (sym (expression_of-Sum e ts))

product_pushed : (e : Operand) (ts : List (Signed ProductSign Operand)) (t : Signed ProductSign Operand) → expression_of (tree.Product e (ts ++ t ∷ [])) ≡ multiplied t.sign (expression_of (tree.Product e ts)) (expression_of t.operand)
product_pushed e ts t =
    expression_of-Product e (ts ++ t ∷ []) ∙ ap (product (expression_of e)) (map_push (λ (t : Signed ProductSign Operand). record { sign = t.sign; operand = expression_of t.operand }) ts t)
    ∙ fold_push (λ d (t : Signed ProductSign (Expression ℕ)). multiplied t.sign d t.operand) (expression_of e) (operands_of ts) (record { sign = t.sign; operand = expression_of t.operand })
    ∙ ap (λ d. multiplied t.sign d (expression_of t.operand)) (sym (expression_of-Product e ts))

dot_pushed : (e : Operand) (es : List Operand) (x : Operand) → expression_of (tree.Dot e (es ++ x ∷ [])) ≡ Dot (expression_of (tree.Dot e es)) (expression_of x)
dot_pushed e es x =
    expression_of-Dot e (es ++ x ∷ []) ∙ ap (dots (expression_of e)) (map_push expression_of es x) ∙ fold_push Dot (expression_of e) (map expression_of es) (expression_of x) ∙ ap (λ d. Dot d (expression_of x)) (sym (expression_of-Dot e es))

join_pushed : (e : Operand) (es : List Operand) (x : Operand) → expression_of (tree.Join e (es ++ x ∷ [])) ≡ Join (expression_of (tree.Join e es)) (expression_of x)
join_pushed e es x =
    expression_of-Join e (es ++ x ∷ []) ∙ ap (joins (expression_of e)) (map_push expression_of es x) ∙ fold_push Join (expression_of e) (map expression_of es) (expression_of x) ∙ ap (λ d. Join d (expression_of x)) (sym (expression_of-Join e es))

dot_label_pushed : (l : SimpleLabel) (ls : List SimpleLabel) (x : SimpleLabel) → label_of (label.Dot l (ls ++ x ∷ [])) ≡ Dot (label_of (label.Dot l ls)) (label_of x)
dot_label_pushed l ls x =
    label_of-Dot l (ls ++ x ∷ []) ∙ ap (dots (label_of l)) (map_push label_of ls x) ∙ fold_push Dot (label_of l) (map label_of ls) (label_of x) ∙ ap (λ d. Dot d (label_of x)) (sym (label_of-Dot l ls))

join_label_pushed : (l : SimpleLabel) (ls : List SimpleLabel) (x : SimpleLabel) → label_of (label.Join l (ls ++ x ∷ [])) ≡ Join (label_of (label.Join l ls)) (label_of x)
join_label_pushed l ls x =
    label_of-Join l (ls ++ x ∷ []) ∙ ap (joins (label_of l)) (map_push label_of ls x) ∙ fold_push Join (label_of l) (map label_of ls) (label_of x) ∙ ap (λ d. Join d (label_of x)) (sym (label_of-Join l ls))

abbrev Test : Type 0
Test = Cond ℕ (Pattern EdgeMark)

abbrev meant : Test → Condition ℕ (MarkPattern EdgeMark)
meant c = condition_of pattern_of c

and_pushed : (c : Test) (ds : List Test) (x : Test) → meant (condition.And c (ds ++ x ∷ [])) ≡ And (meant (condition.And c ds)) (meant x)
and_pushed c ds x =
    condition_of-And pattern_of c (ds ++ x ∷ []) ∙ ap (ands (meant c)) (map_push meant ds x) ∙ fold_push And (meant c) (map meant ds) (meant x) ∙ ap (λ d. And d (meant x)) (sym (condition_of-And pattern_of c ds))

or_pushed : (c : Test) (ds : List Test) (x : Test) → meant (condition.Or c (ds ++ x ∷ [])) ≡ Or (meant (condition.Or c ds)) (meant x)
or_pushed c ds x =
    condition_of-Or pattern_of c (ds ++ x ∷ []) ∙ ap (ors (meant c)) (map_push meant ds x) ∙ fold_push Or (meant c) (map meant ds) (meant x) ∙ ap (λ d. Or d (meant x)) (sym (condition_of-Or pattern_of c ds))

pub sum_grown : (t : Operand) (r : Result (Operand × List (Signed SumSign Operand)) (Operand)) (x : Signed SumSign Operand) (g : Operand × List (Signed SumSign Operand)) → MatchResult r (λ p. t ≡ tree.Sum p.0 p.1) (λ other. other ≡ t) → IsGrown r x g → expression_of (tree.Sum g.0 g.1) ≡ added x.sign (expression_of t) (expression_of x.operand)
sum_grown = grown_means tree.Sum expression_of (λ d x. added x.sign d (expression_of x.operand)) sum_pushed (λ t x. expression_of-Sum t (x ∷ []))

pub product_grown : (t : Operand) (r : Result (Operand × List (Signed ProductSign Operand)) (Operand)) (x : Signed ProductSign Operand) (g : Operand × List (Signed ProductSign Operand)) → MatchResult r (λ p. t ≡ tree.Product p.0 p.1) (λ other. other ≡ t) → IsGrown r x g → expression_of (tree.Product g.0 g.1) ≡ multiplied x.sign (expression_of t) (expression_of x.operand)
product_grown = grown_means tree.Product expression_of (λ d x. multiplied x.sign d (expression_of x.operand)) product_pushed (λ t x. expression_of-Product t (x ∷ []))

pub dot_grown : (t : Operand) (r : Result (Operand × List (Operand)) (Operand)) (x : Operand) (g : Operand × List (Operand)) → MatchResult r (λ p. t ≡ tree.Dot p.0 p.1) (λ other. other ≡ t) → IsGrown r x g → expression_of (tree.Dot g.0 g.1) ≡ Dot (expression_of t) (expression_of x)
dot_grown = grown_means tree.Dot expression_of (λ d x. Dot d (expression_of x)) dot_pushed (λ t x. expression_of-Dot t (x ∷ []))

pub join_grown : (t : Operand) (r : Result (Operand × List (Operand)) (Operand)) (x : Operand) (g : Operand × List (Operand)) → MatchResult r (λ p. t ≡ tree.Join p.0 p.1) (λ other. other ≡ t) → IsGrown r x g → expression_of (tree.Join g.0 g.1) ≡ Join (expression_of t) (expression_of x)
join_grown = grown_means tree.Join expression_of (λ d x. Join d (expression_of x)) join_pushed (λ t x. expression_of-Join t (x ∷ []))

pub dot_label_grown : (t : SimpleLabel) (r : Result (SimpleLabel × List (SimpleLabel)) (SimpleLabel)) (x : SimpleLabel) (g : SimpleLabel × List (SimpleLabel)) → MatchResult r (λ p. t ≡ label.Dot p.0 p.1) (λ other. other ≡ t) → IsGrown r x g → label_of (label.Dot g.0 g.1) ≡ Dot (label_of t) (label_of x)
dot_label_grown = grown_means label.Dot label_of (λ d x. Dot d (label_of x)) dot_label_pushed (λ t x. label_of-Dot t (x ∷ []))

pub join_label_grown : (t : SimpleLabel) (r : Result (SimpleLabel × List (SimpleLabel)) (SimpleLabel)) (x : SimpleLabel) (g : SimpleLabel × List (SimpleLabel)) → MatchResult r (λ p. t ≡ label.Join p.0 p.1) (λ other. other ≡ t) → IsGrown r x g → label_of (label.Join g.0 g.1) ≡ Join (label_of t) (label_of x)
join_label_grown = grown_means label.Join label_of (λ d x. Join d (label_of x)) join_label_pushed (λ t x. label_of-Join t (x ∷ []))

pub and_grown : (t : Test) (r : Result (Test × List (Test)) (Test)) (x : Test) (g : Test × List (Test)) → MatchResult r (λ p. t ≡ condition.And p.0 p.1) (λ other. other ≡ t) → IsGrown r x g → meant (condition.And g.0 g.1) ≡ And (meant t) (meant x)
and_grown = grown_means condition.And meant (λ d x. And d (meant x)) and_pushed (λ t x. condition_of-And pattern_of t (x ∷ []))

pub or_grown : (t : Test) (r : Result (Test × List (Test)) (Test)) (x : Test) (g : Test × List (Test)) → MatchResult r (λ p. t ≡ condition.Or p.0 p.1) (λ other. other ≡ t) → IsGrown r x g → meant (condition.Or g.0 g.1) ≡ Or (meant t) (meant x)
or_grown = grown_means condition.Or meant (λ d x. Or d (meant x)) or_pushed (λ t x. condition_of-Or pattern_of t (x ∷ []))
