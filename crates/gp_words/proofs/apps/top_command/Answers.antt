use Rattle.std.proofs.Common.{refl, ap, ◌∙◌}
use Rattle.clap.specs.Words.{App, app_of, with_subcommand}
use Rattle.gp_words.proofs.Plain.{third_denied}
use Rattle.gp_words.proofs.Levels.{begins, goes_on, ends}
use Rattle.gp_words.proofs.apps.top_command.Goals as goal

pub loop-name-init : goal.loop-name-init
loop-name-init c = begins _ _ c.plain_top-top.ensures refl refl

pub loop-name-preserved : goal.loop-name-preserved
loop-name-preserved c =
    goes_on _ _ c.loop-name.invariant c.loop-name-test.true (λ plain.
    c.in_ok-top.ensures.shape (third_denied _ _ _ _ (ap (λ (a : App). a.top.is_plain) c.in_ok-level.ensures ∙ plain))
    ∙ ap (with_subcommand (app_of c.loop-name.top)) (ap (λ (a : App). a.top) c.in_ok-level.ensures))

pub returns : goal.returns
returns c = ends c.loop-name.invariant c.loop-name-test.false
