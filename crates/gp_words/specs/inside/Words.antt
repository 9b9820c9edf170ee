-- The words of a command, one by one.
use Rattle.std.specs.Prelude.{◌≡◌, true, List, [], ◌∷◌}
use Rattle.clap.specs.Words.{App, Rule, with_rule, with_subcommand}
use Rattle.gp_values.specs.Names.{Name}
use Rattle.gp_words.specs.CommandLine.{place, option, flag}
use Rattle.gp_words.specs.declared.apps.Form.{Form}
use Rattle.gp_words.specs.declared.apps.Form.TheVariants.{Place, Option, Flag}

-- what clap takes for a word of this form
abbrev pub rule_at : Form → Name → Rule
rule_at Place id = place id
rule_at Option id = option id
rule_at Flag id = flag id

-- the command with these words behind those that it has
abbrev pub with_words : App → List (Form × Name) → App
with_words app [] = app
with_words app (word ∷ words) = with_words (with_rule app (rule_at word.0 word.1)) words

-- the second, where it says nothing of what stands below it, is one command more below the first
abbrev pub AddsLevel : App → App → App → Type 0
AddsLevel top level grown = level.top.is_plain ≡ true → grown ≡ with_subcommand top level.top
