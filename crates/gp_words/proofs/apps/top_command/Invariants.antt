use Rattle.clap.specs.Words.{app_of}
use Rattle.gp_words.proofs.Levels.{Left}
use Rattle.gp_words.proofs.apps.top_command.Given as goal

abbrev pub invariant-loop-name : goal.invariant-loop-name
invariant-loop-name l = Left l.name-items l.name-index (app_of l.top)
