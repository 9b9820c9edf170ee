use Rattle.std.proofs.Common.{◌≡◌, map, drop}
use Rattle.clap.specs.Words.{app_of, new_app}
use Rattle.gp_words.specs.inside.Words.{with_words}
use Rattle.gp_words.proofs.apps.command_with.Given as goal

abbrev pub invariant-loop-form : goal.invariant-loop-form
invariant-loop-form l = with_words (app_of l.command) (map (λ w. (w.0, w.1.now)) (drop l.form-index l.words)) ≡ with_words (new_app l.name) (map (λ w. (w.0, w.1.now)) l.words)
