-- The tokens of each form of tree; and of a chain, by what stands in the tree.
use Rattle.std.proofs.Common.{◌≡◌, ℕ, ℤ, List, [], ◌∷◌, ◌++◌, map, length, false, ap, sym, refl, ◌∙◌, Option}
use Rattle.std.specs.Prelude.{nat_eq}
use Rattle.std.specs.List.{flat_map}
use Rattle.gp_tokens.specs.declared.keyword.Keyword.TheVariants as words
use Rattle.gp_tokens.specs.declared.token.Kind.TheVariants as k
use Rattle.gp_values.specs.Names.{Name}
use Rattle.gp_syntax.specs.declared.kinds.VariableType.{VariableType}
use Rattle.gp_syntax.specs.declared.kinds.Comparison.{Comparison}
use Rattle.gp_syntax.specs.declared.expression.Signed.{Signed}
use Rattle.gp_syntax.specs.declared.expression.SumSign.{SumSign}
use Rattle.gp_syntax.specs.declared.expression.ProductSign.{ProductSign}
use Rattle.gp_syntax.specs.declared.expression.Expr.{Expr}
use Rattle.gp_syntax.specs.declared.expression.Expr.TheVariants as e
use Rattle.gp_syntax.specs.declared.expression.Expr.TheOpen.{Expr-F}
use Rattle.gp_syntax.specs.declared.expression.Expr.TheFolds.{fold-roll-Expr}
use Rattle.gp_syntax.specs.declared.expression.Cond.{Cond}
use Rattle.gp_syntax.specs.declared.expression.Cond.TheVariants as c
use Rattle.gp_syntax.specs.declared.expression.Cond.TheOpen.{Cond-F}
use Rattle.gp_syntax.specs.declared.expression.Cond.TheFolds.{fold-roll-Cond}
use Rattle.gp_syntax.specs.declared.tree.CommandTree.{CommandTree}
use Rattle.gp_syntax.specs.declared.tree.CommandTree.TheVariants as commands
use Rattle.gp_syntax.specs.declared.tree.CommandTree.TheOpen.{CommandTree-F}
use Rattle.gp_syntax.specs.declared.tree.CommandTree.TheFolds.{fold-roll-CommandTree}
use Rattle.gp_syntax.specs.declared.tree.RuleDecl.{RuleDecl}
use Rattle.gp_syntax.specs.declared.tree.Decl.{Decl}
use Rattle.gp_syntax.specs.declared.tree.Decl.TheVariants as declared
use Rattle.gp_syntax.specs.declared.tree.Decl.TheOpen.{Decl-F}
use Rattle.gp_syntax.specs.declared.tree.Decl.TheFolds.{fold-roll-Decl}
use Rattle.gp_fmt.specs.declared.piece.Piece.{Piece}
use Rattle.gp_fmt.specs.declared.piece.Piece.TheVariants as p
use Rattle.gp_fmt.specs.Expressions.{Part, member, sum_sign, sum_level, product_sign, product_level, dot_level, join_level, and_level, or_level, expression_step, part_of_expression, condition_step, part_of_condition}
use Rattle.gp_fmt.specs.Commands.{CommandPart, sequence, choice, in_sequence, in_choice, command_step, part_of_command}
use Rattle.gp_fmt.specs.Canonical.{locals, declaration_step, declaration}
use Rattle.gp_fmt.specs.inside.Links.{sum_link, product_link, chain_link, condition_link, sequence_link, choice_link}

-- ---- expressions

abbrev pub operands : {S : Type 0} → List (Signed S (Expr Name)) → List (Signed S Part)
operands {S} ys = map (λ (y : Signed S (Expr Name)). record { sign = y.sign; operand = part_of_expression y.operand }) ys

pub of-Number : (z : ℤ) → part_of_expression (e.Number z) ≡ expression_step (Expr-F.Number z)
unfolding part_of_expression
of-Number z = ap part_of_expression (sym (e.rolls-Number z)) ∙ fold-roll-Expr Name Part expression_step (Expr-F.Number z)

pub of-Text : (s : List ℕ) → part_of_expression (e.Text s) ≡ expression_step (Expr-F.Text s)
unfolding part_of_expression
of-Text s = ap part_of_expression (sym (e.rolls-Text s)) ∙ fold-roll-Expr Name Part expression_step (Expr-F.Text s)

pub of-Variable : (x : Name) → part_of_expression (e.Variable x) ≡ expression_step (Expr-F.Variable x)
unfolding part_of_expression
of-Variable x = ap part_of_expression (sym (e.rolls-Variable x)) ∙ fold-roll-Expr Name Part expression_step (Expr-F.Variable x)

pub of-InDegree : (n : Name) → part_of_expression (e.InDegree n) ≡ expression_step (Expr-F.InDegree n)
unfolding part_of_expression
of-InDegree n = ap part_of_expression (sym (e.rolls-InDegree n)) ∙ fold-roll-Expr Name Part expression_step (Expr-F.InDegree n)

pub of-OutDegree : (n : Name) → part_of_expression (e.OutDegree n) ≡ expression_step (Expr-F.OutDegree n)
unfolding part_of_expression
of-OutDegree n = ap part_of_expression (sym (e.rolls-OutDegree n)) ∙ fold-roll-Expr Name Part expression_step (Expr-F.OutDegree n)

pub of-Length : (x : Name) → part_of_expression (e.Length x) ≡ expression_step (Expr-F.Length x)
unfolding part_of_expression
of-Length x = ap part_of_expression (sym (e.rolls-Length x)) ∙ fold-roll-Expr Name Part expression_step (Expr-F.Length x)

pub of-Empty : part_of_expression e.Empty ≡ expression_step Expr-F.Empty
unfolding part_of_expression
of-Empty = ap part_of_expression (sym e.rolls-Empty) ∙ fold-roll-Expr Name Part expression_step Expr-F.Empty

pub of-Negated : (x : Expr Name) → part_of_expression (e.Negated x) ≡ expression_step (Expr-F.Negated (part_of_expression x))
unfolding part_of_expression
of-Negated x = ap part_of_expression (sym (e.rolls-Negated x)) ∙ fold-roll-Expr Name Part expression_step (Expr-F.Negated x)

pub of-Sum : (x : Expr Name) (ys : List (Signed SumSign (Expr Name))) → part_of_expression (e.Sum x ys) ≡ expression_step (Expr-F.Sum (part_of_expression x) (operands ys))
unfolding part_of_expression
of-Sum x ys = ap part_of_expression (sym (e.rolls-Sum x ys)) ∙ fold-roll-Expr Name Part expression_step (Expr-F.Sum x ys)

pub of-Product : (x : Expr Name) (ys : List (Signed ProductSign (Expr Name))) → part_of_expression (e.Product x ys) ≡ expression_step (Expr-F.Product (part_of_expression x) (operands ys))
unfolding part_of_expression
of-Product x ys = ap part_of_expression (sym (e.rolls-Product x ys)) ∙ fold-roll-Expr Name Part expression_step (Expr-F.Product x ys)

pub of-Dot : (x : Expr Name) (ys : List (Expr Name)) → part_of_expression (e.Dot x ys) ≡ expression_step (Expr-F.Dot (part_of_expression x) (map part_of_expression ys))
unfolding part_of_expression
of-Dot x ys = ap part_of_expression (sym (e.rolls-Dot x ys)) ∙ fold-roll-Expr Name Part expression_step (Expr-F.Dot x ys)

pub of-Join : (x : Expr Name) (ys : List (Expr Name)) → part_of_expression (e.Join x ys) ≡ expression_step (Expr-F.Join (part_of_expression x) (map part_of_expression ys))
unfolding part_of_expression
of-Join x ys = ap part_of_expression (sym (e.rolls-Join x ys)) ∙ fold-roll-Expr Name Part expression_step (Expr-F.Join x ys)

-- ---- conditions

abbrev CondTree : Type 0
CondTree = Cond Name (Option Name)

pub of-HasType : (type : VariableType) (d : Expr Name) → part_of_condition (c.HasType type d) ≡ condition_step (Cond-F.HasType type d)
unfolding part_of_condition
of-HasType type d = ap part_of_condition (sym (c.rolls-HasType type d)) ∙ fold-roll-Cond Name (Option Name) Part condition_step (Cond-F.HasType type d)

pub of-HasEdge : (a b : Name) → part_of_condition (c.HasEdge a b) ≡ condition_step (Cond-F.HasEdge a b)
unfolding part_of_condition
of-HasEdge a b = ap part_of_condition (sym (c.rolls-HasEdge a b)) ∙ fold-roll-Cond Name (Option Name) Part condition_step (Cond-F.HasEdge a b)

pub of-HasEdgeWith : (a b : Name) (d : Expr Name) (m : Option Name) → part_of_condition (c.HasEdgeWith a b d m) ≡ condition_step (Cond-F.HasEdgeWith a b d m)
unfolding part_of_condition
of-HasEdgeWith a b d m = ap part_of_condition (sym (c.rolls-HasEdgeWith a b d m)) ∙ fold-roll-Cond Name (Option Name) Part condition_step (Cond-F.HasEdgeWith a b d m)

pub of-Compared : (sign : Comparison) (d f : Expr Name) → part_of_condition (c.Compared sign d f) ≡ condition_step (Cond-F.Compared sign d f)
unfolding part_of_condition
of-Compared sign d f = ap part_of_condition (sym (c.rolls-Compared sign d f)) ∙ fold-roll-Cond Name (Option Name) Part condition_step (Cond-F.Compared sign d f)

pub of-Not : (x : CondTree) → part_of_condition (c.Not x) ≡ condition_step (Cond-F.Not (part_of_condition x))
unfolding part_of_condition
of-Not x = ap part_of_condition (sym (c.rolls-Not x)) ∙ fold-roll-Cond Name (Option Name) Part condition_step (Cond-F.Not x)

pub of-And : (x : CondTree) (xs : List CondTree) → part_of_condition (c.And x xs) ≡ condition_step (Cond-F.And (part_of_condition x) (map part_of_condition xs))
unfolding part_of_condition
of-And x xs = ap part_of_condition (sym (c.rolls-And x xs)) ∙ fold-roll-Cond Name (Option Name) Part condition_step (Cond-F.And x xs)

pub of-Or : (x : CondTree) (xs : List CondTree) → part_of_condition (c.Or x xs) ≡ condition_step (Cond-F.Or (part_of_condition x) (map part_of_condition xs))
unfolding part_of_condition
of-Or x xs = ap part_of_condition (sym (c.rolls-Or x xs)) ∙ fold-roll-Cond Name (Option Name) Part condition_step (Cond-F.Or x xs)

-- ---- commands

pub of-Call : (ns : List Name) → part_of_command (commands.Call ns) ≡ command_step (CommandTree-F.Call ns)
unfolding part_of_command
of-Call ns = ap part_of_command (sym (commands.rolls-Call ns)) ∙ fold-roll-CommandTree CommandPart command_step (CommandTree-F.Call ns)

pub of-Procedure : (n : Name) → part_of_command (commands.Procedure n) ≡ command_step (CommandTree-F.Procedure n)
unfolding part_of_command
of-Procedure n = ap part_of_command (sym (commands.rolls-Procedure n)) ∙ fold-roll-CommandTree CommandPart command_step (CommandTree-F.Procedure n)

pub of-Seq : (x : CommandTree) (xs : List CommandTree) → part_of_command (commands.Seq x xs) ≡ command_step (CommandTree-F.Seq (part_of_command x) (map part_of_command xs))
unfolding part_of_command
of-Seq x xs = ap part_of_command (sym (commands.rolls-Seq x xs)) ∙ fold-roll-CommandTree CommandPart command_step (CommandTree-F.Seq x xs)

pub of-Either : (x : CommandTree) (xs : List CommandTree) → part_of_command (commands.Or x xs) ≡ command_step (CommandTree-F.Or (part_of_command x) (map part_of_command xs))
unfolding part_of_command
of-Either x xs = ap part_of_command (sym (commands.rolls-Or x xs)) ∙ fold-roll-CommandTree CommandPart command_step (CommandTree-F.Or x xs)

pub of-If : (x y z : CommandTree) → part_of_command (commands.If x y z) ≡ command_step (CommandTree-F.If (part_of_command x) (part_of_command y) (part_of_command z))
unfolding part_of_command
of-If x y z = ap part_of_command (sym (commands.rolls-If x y z)) ∙ fold-roll-CommandTree CommandPart command_step (CommandTree-F.If x y z)

pub of-Try : (x y z : CommandTree) → part_of_command (commands.Try x y z) ≡ command_step (CommandTree-F.Try (part_of_command x) (part_of_command y) (part_of_command z))
unfolding part_of_command
of-Try x y z = ap part_of_command (sym (commands.rolls-Try x y z)) ∙ fold-roll-CommandTree CommandPart command_step (CommandTree-F.Try x y z)

pub of-Loop : (x : CommandTree) → part_of_command (commands.Loop x) ≡ command_step (CommandTree-F.Loop (part_of_command x))
unfolding part_of_command
of-Loop x = ap part_of_command (sym (commands.rolls-Loop x)) ∙ fold-roll-CommandTree CommandPart command_step (CommandTree-F.Loop x)

pub of-Skip : part_of_command commands.Skip ≡ command_step CommandTree-F.Skip
unfolding part_of_command
of-Skip = ap part_of_command (sym commands.rolls-Skip) ∙ fold-roll-CommandTree CommandPart command_step CommandTree-F.Skip

pub of-Fail : part_of_command commands.Fail ≡ command_step CommandTree-F.Fail
unfolding part_of_command
of-Fail = ap part_of_command (sym commands.rolls-Fail) ∙ fold-roll-CommandTree CommandPart command_step CommandTree-F.Fail

pub of-Break : part_of_command commands.Break ≡ command_step CommandTree-F.Break
unfolding part_of_command
of-Break = ap part_of_command (sym commands.rolls-Break) ∙ fold-roll-CommandTree CommandPart command_step CommandTree-F.Break

-- ---- declarations

pub of-Declared : (n : Name) (ds : List Decl) (body : CommandTree) → declaration (declared.Procedure n ds body) ≡ declaration_step (Decl-F.Procedure n (map declaration ds) body)
unfolding declaration
of-Declared n ds body = ap declaration (sym (declared.rolls-Procedure n ds body)) ∙ fold-roll-Decl (List Piece) declaration_step (Decl-F.Procedure n ds body)

pub of-Rule : (r : RuleDecl) → declaration (declared.Rule r) ≡ declaration_step (Decl-F.Rule r)
unfolding declaration
of-Rule r = ap declaration (sym (declared.rolls-Rule r)) ∙ fold-roll-Decl (List Piece) declaration_step (Decl-F.Rule r)

-- ---- chains

-- what is made of each of the images
linked : {A B C : Type 0} (f : B → List C) (g : A → B) (xs : List A) → flat_map f (map g xs) ≡ flat_map (λ x. f (g x)) xs
linked f g [] = refl
linked f g (x ∷ xs) = ap (λ l. f (g x) ++ l) (linked f g xs)

pub links-Sum : (x : Expr Name) (ys : List (Signed SumSign (Expr Name))) → part_of_expression (e.Sum x ys) ≡ record { level = sum_level; pieces = member sum_level (part_of_expression x) ++ flat_map sum_link ys }
links-Sum x ys =
    of-Sum x ys
    ∙ ap (λ l. record { level = sum_level; pieces = member sum_level (part_of_expression x) ++ l }) (linked (λ (y : Signed SumSign Part). sum_sign y.sign ∷ member sum_level y.operand) (λ (y : Signed SumSign (Expr Name)). record { sign = y.sign; operand = part_of_expression y.operand }) ys)

pub links-Product : (x : Expr Name) (ys : List (Signed ProductSign (Expr Name))) → part_of_expression (e.Product x ys) ≡ record { level = product_level; pieces = member product_level (part_of_expression x) ++ flat_map product_link ys }
links-Product x ys =
    of-Product x ys
    ∙ ap (λ l. record { level = product_level; pieces = member product_level (part_of_expression x) ++ l }) (linked (λ (y : Signed ProductSign Part). product_sign y.sign ∷ member product_level y.operand) (λ (y : Signed ProductSign (Expr Name)). record { sign = y.sign; operand = part_of_expression y.operand }) ys)

pub links-Dot : (x : Expr Name) (ys : List (Expr Name)) → part_of_expression (e.Dot x ys) ≡ record { level = dot_level; pieces = member dot_level (part_of_expression x) ++ flat_map (chain_link k.Dot dot_level) ys }
links-Dot x ys = of-Dot x ys ∙ ap (λ l. record { level = dot_level; pieces = member dot_level (part_of_expression x) ++ l }) (linked (λ (y : Part). p.Sign k.Dot ∷ member dot_level y) part_of_expression ys)

pub links-Join : (x : Expr Name) (ys : List (Expr Name)) → part_of_expression (e.Join x ys) ≡ record { level = join_level; pieces = member join_level (part_of_expression x) ++ flat_map (chain_link k.Colon join_level) ys }
links-Join x ys = of-Join x ys ∙ ap (λ l. record { level = join_level; pieces = member join_level (part_of_expression x) ++ l }) (linked (λ (y : Part). p.Sign k.Colon ∷ member join_level y) part_of_expression ys)

pub links-And : (x : CondTree) (ys : List CondTree) → part_of_condition (c.And x ys) ≡ record { level = and_level; pieces = member and_level (part_of_condition x) ++ flat_map (condition_link words.And and_level) ys }
links-And x ys = of-And x ys ∙ ap (λ l. record { level = and_level; pieces = member and_level (part_of_condition x) ++ l }) (linked (λ (y : Part). p.Word words.And ∷ member and_level y) part_of_condition ys)

pub links-Or : (x : CondTree) (ys : List CondTree) → part_of_condition (c.Or x ys) ≡ record { level = or_level; pieces = member or_level (part_of_condition x) ++ flat_map (condition_link words.Or or_level) ys }
links-Or x ys = of-Or x ys ∙ ap (λ l. record { level = or_level; pieces = member or_level (part_of_condition x) ++ l }) (linked (λ (y : Part). p.Word words.Or ∷ member or_level y) part_of_condition ys)

pub links-Seq : (x : CommandTree) (xs : List CommandTree) → part_of_command (commands.Seq x xs) ≡ record { form = sequence; pieces = in_sequence (part_of_command x) ++ flat_map sequence_link xs }
links-Seq x xs = of-Seq x xs ∙ ap (λ l. record { form = sequence; pieces = in_sequence (part_of_command x) ++ l }) (linked (λ (y : CommandPart). p.Sign k.Semicolon ∷ in_sequence y) part_of_command xs)

pub links-Either : (x : CommandTree) (xs : List CommandTree) → part_of_command (commands.Or x xs) ≡ record { form = choice; pieces = in_choice (part_of_command x) ++ flat_map choice_link xs }
links-Either x xs = of-Either x xs ∙ ap (λ l. record { form = choice; pieces = in_choice (part_of_command x) ++ l }) (linked (λ (y : CommandPart). p.Word words.Or ∷ in_choice y) part_of_command xs)

pub locals_are : (ds : List Decl) → nat_eq (length ds) 0 ≡ false → locals (map declaration ds) ≡ p.Sign k.OpenBracket ∷ flat_map declaration ds ++ p.Sign k.CloseBracket ∷ []
locals_are [] some = absurd cc
locals_are (d ∷ ds) some = ap (λ l. p.Sign k.OpenBracket ∷ l ++ p.Sign k.CloseBracket ∷ []) (linked (λ x. x) declaration (d ∷ ds))
