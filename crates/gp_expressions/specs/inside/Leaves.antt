-- Functions of names, which end the list of leaves.
use Rattle.gp_tokens.specs.declared.want.Want.TheVariants as wants
use Rattle.gp_tokens.specs.Grammar.{Grammar, One, Made, At, ◌followed_by◌}
use Rattle.gp_syntax.specs.declared.expression.Expr.TheVariants as e
use Rattle.gp_expressions.specs.declared.ranged.Ranged.{Ranged}
use Rattle.gp_expressions.specs.Signs.{indegree_word, outdegree_word, length_word}
use Rattle.gp_expressions.specs.Expressions.{Tree, argument, of_name}

-- ("indeg" | "outdeg") "(" Item ")" | "length" "(" Var ")"
abbrev pub functions : Grammar (Ranged Tree)
functions =
    At indegree_word (Made (of_name e.InDegree) (One indegree_word followed_by argument wants.Item))
    (At outdegree_word (Made (of_name e.OutDegree) (One outdegree_word followed_by argument wants.Item))
    (Made (of_name e.Length) (One length_word followed_by argument wants.Variable)))
