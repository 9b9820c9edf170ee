use Rattle.std.proofs.Common.{◌≡◌, List, map, drop, refl, sym, ap, ap₂, ◌+◌, ◌∙◌, Bor, ℕ}
use Rattle.std.proofs.lemmas.List.{at_drop_more, at_drop_all}
use Rattle.clap.specs.Words.{App, app_of, with_rule}
use Rattle.gp_words.specs.inside.Words.{with_words}
use Rattle.gp_words.specs.declared.apps.Form.{Form}
use Rattle.gp_words.proofs.apps.command_with.Goals as goal

-- the command with what is left of the words
left_with : App → List (Form × Bor (List ℕ)) → App
left_with app words = with_words app (map (λ w. (w.0, w.1.now)) words)

pub loop-form-init : goal.loop-form-init
unfolding left_with
loop-form-init c = ap (λ (app : App). left_with app c.args.words.now) c.new-command.ensures.app

pub loop-form-preserved : goal.loop-form-preserved
unfolding left_with
loop-form-preserved c =
    let grown = c.in_ok-command.ensures.shape c.argument.ensures.own ∙ ap₂ with_rule refl c.argument.ensures.rule in
    ap (λ (app : App). left_with app (drop (c.loop-form.form-index + 1) c.args.words.now)) grown
    ∙ sym (at_drop_more (left_with (app_of c.loop-form.command)) c.args.words.now c.loop-form.form-index _ c.loop-form-test.true)
    ∙ c.loop-form.invariant

pub returns : goal.returns
unfolding left_with
returns c = sym (at_drop_all (left_with (app_of c.loop-form.command)) c.args.words.now c.loop-form.form-index c.loop-form-test.false) ∙ c.loop-form.invariant
