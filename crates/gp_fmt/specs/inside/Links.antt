-- The further parts of chains as they stand in a tree, each with what stands before it.
use Rattle.std.specs.Prelude.{ℕ, List, ◌∷◌, Option}
use Rattle.gp_tokens.specs.declared.keyword.Keyword.{Keyword}
use Rattle.gp_tokens.specs.declared.keyword.Keyword.TheVariants as words
use Rattle.gp_tokens.specs.declared.token.Kind.{Kind}
use Rattle.gp_tokens.specs.declared.token.Kind.TheVariants as k
use Rattle.gp_values.specs.Names.{Name}
use Rattle.gp_syntax.specs.declared.expression.Signed.{Signed}
use Rattle.gp_syntax.specs.declared.expression.SumSign.{SumSign}
use Rattle.gp_syntax.specs.declared.expression.ProductSign.{ProductSign}
use Rattle.gp_syntax.specs.declared.expression.Expr.{Expr}
use Rattle.gp_syntax.specs.declared.expression.Cond.{Cond}
use Rattle.gp_syntax.specs.declared.tree.CommandTree.{CommandTree}
use Rattle.gp_syntax.specs.declared.tree.VariableGroup.{VariableGroup}
use Rattle.gp_fmt.specs.declared.piece.Piece.{Piece}
use Rattle.gp_fmt.specs.declared.piece.Piece.TheVariants as p
use Rattle.gp_fmt.specs.Expressions.{member, part_of_expression, part_of_condition, sum_sign, sum_level, product_sign, product_level}
use Rattle.gp_fmt.specs.Commands.{part_of_command, in_sequence, in_choice}
use Rattle.gp_fmt.specs.Rules.{variable_group}

abbrev pub sum_link : Signed SumSign (Expr Name) → List Piece
sum_link t = sum_sign t.sign ∷ member sum_level (part_of_expression t.operand)

abbrev pub product_link : Signed ProductSign (Expr Name) → List Piece
product_link t = product_sign t.sign ∷ member product_level (part_of_expression t.operand)

abbrev pub chain_link : Kind → ℕ → Expr Name → List Piece
chain_link sign level e = p.Sign sign ∷ member level (part_of_expression e)

abbrev pub condition_link : Keyword → ℕ → Cond Name (Option Name) → List Piece
condition_link word level c = p.Word word ∷ member level (part_of_condition c)

abbrev pub sequence_link : CommandTree → List Piece
sequence_link c = p.Sign k.Semicolon ∷ in_sequence (part_of_command c)

abbrev pub choice_link : CommandTree → List Piece
choice_link c = p.Word words.Or ∷ in_choice (part_of_command c)

abbrev pub group_link : VariableGroup → List Piece
group_link g = p.Sign k.Semicolon ∷ variable_group g
