use Rattle.std.proofs.Common.{◌≡◌, ◌∙◌, [], map, ap, subst, inl, inr}
use Rattle.std.specs.Prelude.{string_bytes}
use Rattle.clap.specs.Words.{App, Kinds, HasKind, fault_of, is_simple, is_simple_and_free, subcommand_of, subcommand_rows_of}
use Rattle.gp_words.proofs.Commands.{simple, simple_and_free, taken, refused}
use Rattle.gp_words.proofs.words.command_of.Goals as goal

pub returns-in-Ok-clause-command : goal.returns-in-Ok-clause-command
returns-in-Ok-clause-command c =
    let words = map string_bytes c.args.words.now in
    let is_gp2 = c.in_ok-command.ensures in
    let none = c.in-Ok.ensures.kinds (ap is_simple_and_free is_gp2 ∙ simple_and_free) in
    let found = c.in-Ok.ensures.matches (ap is_simple is_gp2 ∙ simple) in
    c.command_below.ensures.command
    ∙ taken words (subcommand_rows_of c.in-Ok.matches) (subst (λ (a : App). fault_of a words ≡ []) is_gp2 none) (found.1 ∙ ap (λ (a : App). subcommand_of a words) is_gp2)

pub returns-clause-command : goal.returns-clause-command
returns-clause-command c =
    let words = map string_bytes c.args.words.now in
    let is_gp2 = c.in_ok-command.ensures in
    let kinds = c.in-Err.ensures.kinds (ap is_simple_and_free is_gp2 ∙ simple_and_free) in
    refused words (λ e.
    let of_gp2 = subst (λ (a : App). HasKind (fault_of a words) c.in-Err.error) is_gp2 kinds in
    let none = subst (λ (ks : Kinds). HasKind ks c.in-Err.error) e of_gp2 in
    elim none [
      | inl memory ↦ c.in_default.not-OutOfMemory (c.kind.ensures ∙ memory)
      | inr among ↦ among
    ])
