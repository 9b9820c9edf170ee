-- How commands are grouped.
use Rattle.std.specs.Prelude.{Bool, true, false, List}
use Rattle.gp_syntax.specs.declared.tree.CommandTree.{CommandTree}
use Rattle.gp_syntax.specs.declared.tree.CommandTree.TheVariants as commands
use Rattle.gp_program.specs.declared.command.Group.{Group}
use Rattle.gp_program.specs.declared.command.Group.TheVariants.{Or, Sequence}

abbrev pub group_of : Group → CommandTree → List CommandTree → CommandTree
group_of Or first rest = commands.Or first rest
group_of Sequence first rest = commands.Seq first rest

abbrev pub branches_of : Bool → CommandTree → CommandTree → CommandTree → CommandTree
branches_of true condition met unmet = commands.Try condition met unmet
branches_of false condition met unmet = commands.If condition met unmet
