-- The branches of a command, read behind its first word.
use Rattle.std.specs.Prelude.{Bool, true, false, not}
use Rattle.gp_tokens.specs.declared.want.Want.{Want}
use Rattle.gp_tokens.specs.Grammar.{Grammar, Made, ◌followed_by◌}
use Rattle.gp_syntax.specs.declared.tree.CommandTree.{CommandTree}
use Rattle.gp_expressions.specs.Signs.{then_word, else_word}
use Rattle.gp_expressions.specs.Expressions.{behind}
use Rattle.gp_program.specs.Commands.{block, part}
use Rattle.gp_program.specs.inside.Groups.{branches_of}

-- word Block where it has to be there, [word Block] elsewhere
abbrev pub part_of : Bool → Grammar CommandTree → Want → Grammar CommandTree
part_of true simple word = behind word (block simple)
part_of false simple word = part simple word

abbrev pub of_parts : Bool → CommandTree × (CommandTree × CommandTree) → CommandTree
of_parts tried (condition, (met, unmet)) = branches_of tried condition met unmet

-- Block "then" Block ["else" Block], or Block ["then" Block] ["else" Block] where it is tried
unfoldable pub branches_behind : Bool → Grammar CommandTree → Grammar CommandTree
branches_behind tried simple = Made (of_parts tried) (block simple followed_by part_of (not tried) simple then_word followed_by part_of false simple else_word)
