-- What each form of tree stands for.
use Rattle.std.proofs.Common.{◌≡◌, ℕ, ℤ, List, map, ap, sym, ◌∙◌}
use Rattle.gp_syntax.specs.declared.kinds.VariableType.{VariableType}
use Rattle.gp_syntax.specs.declared.kinds.Comparison.{Comparison}
use Rattle.gp_syntax.specs.declared.expression.Signed.{Signed}
use Rattle.gp_syntax.specs.declared.expression.SumSign.{SumSign}
use Rattle.gp_syntax.specs.declared.expression.ProductSign.{ProductSign}
use Rattle.gp_syntax.specs.declared.expression.Expr.{Expr}
use Rattle.gp_syntax.specs.declared.expression.Expr.TheVariants as tree
use Rattle.gp_syntax.specs.declared.expression.Expr.TheOpen.{Expr-F}
use Rattle.gp_syntax.specs.declared.expression.Expr.TheFolds.{fold-roll-Expr}
use Rattle.gp_syntax.specs.declared.expression.Cond.{Cond}
use Rattle.gp_syntax.specs.declared.expression.Cond.TheVariants as condition
use Rattle.gp_syntax.specs.declared.expression.Cond.TheOpen.{Cond-F}
use Rattle.gp_syntax.specs.declared.expression.Cond.TheFolds.{fold-roll-Cond}
use Rattle.gp_syntax.specs.declared.label.SimpleLabel.{SimpleLabel}
use Rattle.gp_syntax.specs.declared.label.SimpleLabel.TheVariants as label
use Rattle.gp_syntax.specs.declared.label.SimpleLabel.TheOpen.{SimpleLabel-F}
use Rattle.gp_syntax.specs.declared.label.SimpleLabel.TheFolds.{fold-roll-SimpleLabel}
use Rattle.gp_syntax.specs.declared.command.Command.{Command}
use Rattle.gp_syntax.specs.declared.command.Command.TheVariants as command
use Rattle.gp_syntax.specs.declared.command.Command.TheOpen.{Command-F}
use Rattle.gp_syntax.specs.declared.command.Command.TheFolds.{fold-roll-Command}
use Rattle.gp_syntax.specs.Expression.{Expression, Number, Text, Variable, In_degree, Out_degree, Length_of, Negated, Empty, Condition, HasType, HasEdge, HasEdgeWith, Compared, Not}
use Rattle.gp_syntax.specs.Run as meant
use Rattle.gp_syntax.specs.Tree.{operands_of, sum, product, dots, joins, expression_step, expression_of, label_step, label_of, ands, ors, condition_step, condition_of, sequence, choice, command_step, command_of}

-- ---- expressions

pub expression_of-Number : {R : Type 0} (z : ℤ) → expression_of {Ref = R} (tree.Number z) ≡ Number z
unfolding expression_of
expression_of-Number {R} z = ap expression_of (sym (tree.rolls-Number z)) ∙ fold-roll-Expr R (Expression R) expression_step (Expr-F.Number z)

pub expression_of-Text : {R : Type 0} (s : List ℕ) → expression_of {Ref = R} (tree.Text s) ≡ Text s
unfolding expression_of
expression_of-Text {R} s = ap expression_of (sym (tree.rolls-Text s)) ∙ fold-roll-Expr R (Expression R) expression_step (Expr-F.Text s)

pub expression_of-Variable : {R : Type 0} (x : R) → expression_of {Ref = R} (tree.Variable x) ≡ Variable x
unfolding expression_of
expression_of-Variable {R} x = ap expression_of (sym (tree.rolls-Variable x)) ∙ fold-roll-Expr R (Expression R) expression_step (Expr-F.Variable x)

pub expression_of-InDegree : {R : Type 0} (n : R) → expression_of {Ref = R} (tree.InDegree n) ≡ In_degree n
unfolding expression_of
expression_of-InDegree {R} n = ap expression_of (sym (tree.rolls-InDegree n)) ∙ fold-roll-Expr R (Expression R) expression_step (Expr-F.InDegree n)

pub expression_of-OutDegree : {R : Type 0} (n : R) → expression_of {Ref = R} (tree.OutDegree n) ≡ Out_degree n
unfolding expression_of
expression_of-OutDegree {R} n = ap expression_of (sym (tree.rolls-OutDegree n)) ∙ fold-roll-Expr R (Expression R) expression_step (Expr-F.OutDegree n)

pub expression_of-Length : {R : Type 0} (x : R) → expression_of {Ref = R} (tree.Length x) ≡ Length_of x
unfolding expression_of
expression_of-Length {R} x = ap expression_of (sym (tree.rolls-Length x)) ∙ fold-roll-Expr R (Expression R) expression_step (Expr-F.Length x)

pub expression_of-Empty : {R : Type 0} → expression_of {Ref = R} tree.Empty ≡ Empty
unfolding expression_of
expression_of-Empty {R} = ap expression_of (sym tree.rolls-Empty) ∙ fold-roll-Expr R (Expression R) expression_step Expr-F.Empty

pub expression_of-Negated : {R : Type 0} (e : Expr R) → expression_of {Ref = R} (tree.Negated e) ≡ Negated (expression_of e)
unfolding expression_of
expression_of-Negated {R} e = ap expression_of (sym (tree.rolls-Negated e)) ∙ fold-roll-Expr R (Expression R) expression_step (Expr-F.Negated e)

pub expression_of-Sum : {R : Type 0} (e : Expr R) (ts : List (Signed SumSign (Expr R))) → expression_of {Ref = R} (tree.Sum e ts) ≡ sum (expression_of e) (operands_of ts)
unfolding expression_of
expression_of-Sum {R} e ts = ap expression_of (sym (tree.rolls-Sum e ts)) ∙ fold-roll-Expr R (Expression R) expression_step (Expr-F.Sum e ts)

pub expression_of-Product : {R : Type 0} (e : Expr R) (ts : List (Signed ProductSign (Expr R))) → expression_of {Ref = R} (tree.Product e ts) ≡ product (expression_of e) (operands_of ts)
unfolding expression_of
expression_of-Product {R} e ts = ap expression_of (sym (tree.rolls-Product e ts)) ∙ fold-roll-Expr R (Expression R) expression_step (Expr-F.Product e ts)

pub expression_of-Dot : {R : Type 0} (e : Expr R) (es : List (Expr R)) → expression_of {Ref = R} (tree.Dot e es) ≡ dots (expression_of e) (map expression_of es)
unfolding expression_of
expression_of-Dot {R} e es = ap expression_of (sym (tree.rolls-Dot e es)) ∙ fold-roll-Expr R (Expression R) expression_step (Expr-F.Dot e es)

pub expression_of-Join : {R : Type 0} (e : Expr R) (es : List (Expr R)) → expression_of {Ref = R} (tree.Join e es) ≡ joins (expression_of e) (map expression_of es)
unfolding expression_of
expression_of-Join {R} e es = ap expression_of (sym (tree.rolls-Join e es)) ∙ fold-roll-Expr R (Expression R) expression_step (Expr-F.Join e es)

-- ---- labels of left sides

pub label_of-Number : (z : ℤ) → label_of (label.Number z) ≡ Number z
unfolding label_of
label_of-Number z = ap label_of (sym (label.rolls-Number z)) ∙ fold-roll-SimpleLabel (Expression ℕ) label_step (SimpleLabel-F.Number z)

pub label_of-NegatedNumber : (z : ℤ) → label_of (label.NegatedNumber z) ≡ Negated (Number z)
unfolding label_of
label_of-NegatedNumber z = ap label_of (sym (label.rolls-NegatedNumber z)) ∙ fold-roll-SimpleLabel (Expression ℕ) label_step (SimpleLabel-F.NegatedNumber z)

pub label_of-Text : (s : List ℕ) → label_of (label.Text s) ≡ Text s
unfolding label_of
label_of-Text s = ap label_of (sym (label.rolls-Text s)) ∙ fold-roll-SimpleLabel (Expression ℕ) label_step (SimpleLabel-F.Text s)

pub label_of-Variable : (x : ℕ) → label_of (label.Variable x) ≡ Variable x
unfolding label_of
label_of-Variable x = ap label_of (sym (label.rolls-Variable x)) ∙ fold-roll-SimpleLabel (Expression ℕ) label_step (SimpleLabel-F.Variable x)

pub label_of-Empty : label_of label.Empty ≡ Empty
unfolding label_of
label_of-Empty = ap label_of (sym label.rolls-Empty) ∙ fold-roll-SimpleLabel (Expression ℕ) label_step SimpleLabel-F.Empty

pub label_of-Dot : (l : SimpleLabel) (ls : List SimpleLabel) → label_of (label.Dot l ls) ≡ dots (label_of l) (map label_of ls)
unfolding label_of
label_of-Dot l ls = ap label_of (sym (label.rolls-Dot l ls)) ∙ fold-roll-SimpleLabel (Expression ℕ) label_step (SimpleLabel-F.Dot l ls)

pub label_of-Join : (l : SimpleLabel) (ls : List SimpleLabel) → label_of (label.Join l ls) ≡ joins (label_of l) (map label_of ls)
unfolding label_of
label_of-Join l ls = ap label_of (sym (label.rolls-Join l ls)) ∙ fold-roll-SimpleLabel (Expression ℕ) label_step (SimpleLabel-F.Join l ls)

-- ---- conditions

pub condition_of-HasType : {R M Mark : Type 0} (mark : M → Mark) (type : VariableType) (e : Expr R) → condition_of {Ref = R} mark (condition.HasType type e) ≡ HasType type (expression_of e)
unfolding condition_of
condition_of-HasType {R} {M} {Mark} mark type e = ap (condition_of mark) (sym (condition.rolls-HasType type e)) ∙ fold-roll-Cond R M (Condition R Mark) (condition_step mark) (Cond-F.HasType type e)

pub condition_of-HasEdge : {R M Mark : Type 0} (mark : M → Mark) (a b : R) → condition_of {Ref = R} mark (condition.HasEdge a b) ≡ HasEdge a b
unfolding condition_of
condition_of-HasEdge {R} {M} {Mark} mark a b = ap (condition_of mark) (sym (condition.rolls-HasEdge a b)) ∙ fold-roll-Cond R M (Condition R Mark) (condition_step mark) (Cond-F.HasEdge a b)

pub condition_of-HasEdgeWith : {R M Mark : Type 0} (mark : M → Mark) (a b : R) (e : Expr R) (m : M) → condition_of {Ref = R} mark (condition.HasEdgeWith a b e m) ≡ HasEdgeWith a b (expression_of e) (mark m)
unfolding condition_of
condition_of-HasEdgeWith {R} {M} {Mark} mark a b e m = ap (condition_of mark) (sym (condition.rolls-HasEdgeWith a b e m)) ∙ fold-roll-Cond R M (Condition R Mark) (condition_step mark) (Cond-F.HasEdgeWith a b e m)

pub condition_of-Compared : {R M Mark : Type 0} (mark : M → Mark) (op : Comparison) (d e : Expr R) → condition_of {Ref = R} mark (condition.Compared op d e) ≡ Compared op (expression_of d) (expression_of e)
unfolding condition_of
condition_of-Compared {R} {M} {Mark} mark op d e = ap (condition_of mark) (sym (condition.rolls-Compared op d e)) ∙ fold-roll-Cond R M (Condition R Mark) (condition_step mark) (Cond-F.Compared op d e)

pub condition_of-Not : {R M Mark : Type 0} (mark : M → Mark) (c : Cond R M) → condition_of {Ref = R} mark (condition.Not c) ≡ Not (condition_of mark c)
unfolding condition_of
condition_of-Not {R} {M} {Mark} mark c = ap (condition_of mark) (sym (condition.rolls-Not c)) ∙ fold-roll-Cond R M (Condition R Mark) (condition_step mark) (Cond-F.Not c)

pub condition_of-And : {R M Mark : Type 0} (mark : M → Mark) (c : Cond R M) (cs : List (Cond R M)) → condition_of {Ref = R} mark (condition.And c cs) ≡ ands (condition_of mark c) (map (condition_of mark) cs)
unfolding condition_of
condition_of-And {R} {M} {Mark} mark c cs = ap (condition_of mark) (sym (condition.rolls-And c cs)) ∙ fold-roll-Cond R M (Condition R Mark) (condition_step mark) (Cond-F.And c cs)

pub condition_of-Or : {R M Mark : Type 0} (mark : M → Mark) (c : Cond R M) (cs : List (Cond R M)) → condition_of {Ref = R} mark (condition.Or c cs) ≡ ors (condition_of mark c) (map (condition_of mark) cs)
unfolding condition_of
condition_of-Or {R} {M} {Mark} mark c cs = ap (condition_of mark) (sym (condition.rolls-Or c cs)) ∙ fold-roll-Cond R M (Condition R Mark) (condition_step mark) (Cond-F.Or c cs)

-- ---- commands

pub command_of-Call : (c : ℕ) → command_of (command.Call c) ≡ meant.Call c
unfolding command_of
command_of-Call c = ap command_of (sym (command.rolls-Call c)) ∙ fold-roll-Command meant.Command command_step (Command-F.Call c)

pub command_of-Seq : (p : Command) (ps : List Command) → command_of (command.Seq p ps) ≡ sequence (command_of p) (map command_of ps)
unfolding command_of
command_of-Seq p ps = ap command_of (sym (command.rolls-Seq p ps)) ∙ fold-roll-Command meant.Command command_step (Command-F.Seq p ps)

pub command_of-If : (k p q : Command) → command_of (command.If k p q) ≡ meant.If (command_of k) (command_of p) (command_of q)
unfolding command_of
command_of-If k p q = ap command_of (sym (command.rolls-If k p q)) ∙ fold-roll-Command meant.Command command_step (Command-F.If k p q)

pub command_of-Try : (k p q : Command) → command_of (command.Try k p q) ≡ meant.Try (command_of k) (command_of p) (command_of q)
unfolding command_of
command_of-Try k p q = ap command_of (sym (command.rolls-Try k p q)) ∙ fold-roll-Command meant.Command command_step (Command-F.Try k p q)

pub command_of-Loop : (p : Command) → command_of (command.Loop p) ≡ meant.Loop (command_of p)
unfolding command_of
command_of-Loop p = ap command_of (sym (command.rolls-Loop p)) ∙ fold-roll-Command meant.Command command_step (Command-F.Loop p)

pub command_of-Or : (p : Command) (ps : List Command) → command_of (command.Or p ps) ≡ choice (command_of p) (map command_of ps)
unfolding command_of
command_of-Or p ps = ap command_of (sym (command.rolls-Or p ps)) ∙ fold-roll-Command meant.Command command_step (Command-F.Or p ps)

pub command_of-Skip : command_of command.Skip ≡ meant.Skip
unfolding command_of
command_of-Skip = ap command_of (sym command.rolls-Skip) ∙ fold-roll-Command meant.Command command_step Command-F.Skip

pub command_of-Fail : command_of command.Fail ≡ meant.Fail
unfolding command_of
command_of-Fail = ap command_of (sym command.rolls-Fail) ∙ fold-roll-Command meant.Command command_step Command-F.Fail

pub command_of-Break : command_of command.Break ≡ meant.Break
unfolding command_of
command_of-Break = ap command_of (sym command.rolls-Break) ∙ fold-roll-Command meant.Command command_step Command-F.Break

pub command_of-Proc : (k : ℕ) → command_of (command.Proc k) ≡ meant.Procedure k
unfolding command_of
command_of-Proc k = ap command_of (sym (command.rolls-Proc k)) ∙ fold-roll-Command meant.Command command_step (Command-F.Proc k)

-- ---- all of them

pub ruleset expression_forms = (expression_of-Number, expression_of-Text, expression_of-Variable, expression_of-InDegree, expression_of-OutDegree, expression_of-Length, expression_of-Empty, expression_of-Negated, expression_of-Sum, expression_of-Product, expression_of-Dot, expression_of-Join)

pub ruleset label_forms = (label_of-Number, label_of-NegatedNumber, label_of-Text, label_of-Variable, label_of-Empty, label_of-Dot, label_of-Join)

pub ruleset condition_forms = (condition_of-HasType, condition_of-HasEdge, condition_of-HasEdgeWith, condition_of-Compared, condition_of-Not, condition_of-And, condition_of-Or)

pub ruleset command_forms = (command_of-Call, command_of-Seq, command_of-If, command_of-Try, command_of-Loop, command_of-Or, command_of-Skip, command_of-Fail, command_of-Break, command_of-Proc)
