-- Each command that is read of the tokens of a text is read again.
use Rattle.std.proofs.Common.{ℕ, zero, suc, Bool, true, false, List, [], ◌∷◌}
use Rattle.std.specs.List.{AllByRecursion}
use Rattle.gp_tokens.specs.declared.token.Token.{Token}
use Rattle.gp_values.specs.Names.{Name}
use Rattle.gp_tokens.specs.declared.want.Want.{Want}
use Rattle.gp_tokens.specs.declared.want.Want.TheVariants as wants
use Rattle.gp_tokens.specs.Grammar.{Grammar, One, Made, shape_of}
use Rattle.gp_tokens.specs.Shape.{second_of}
use Rattle.gp_tokens.specs.SignWants.{open_sign, close_sign, open_brace, close_brace, comma, semicolon, exclamation}
use Rattle.gp_syntax.specs.declared.tree.CommandTree.{CommandTree}
use Rattle.gp_syntax.specs.declared.tree.CommandTree.TheVariants as commands
use Rattle.gp_expressions.specs.Signs.{or_word, if_word, then_word, else_word, try_word, skip_word, fail_word, break_word}
use Rattle.gp_expressions.specs.Expressions.{inner, behind}
use Rattle.gp_expressions.specs.Conditions.{means}
use Rattle.gp_program.specs.Commands.{grouped, rule_names, call_of, call_of_one, procedure_call, bang, looped, repeatable, simple_in, if_of, try_of, block, part, command, sequence, simple, commands_of}
use Rattle.gp_fmt.proofs.Parse.Printed.{Anything}
use Rattle.gp_fmt.proofs.Parse.Gives.{Gives, AllOfSome, any_token, then_gives, behind_gives, made_gives, either_gives, absent_gives, separated_gives, gives_all}
use Rattle.gp_fmt.proofs.Parse.Names.{IsNamed, rule, procedure, name_gives}
use Rattle.gp_fmt.proofs.Parse.Labels.{between_gives}
use Rattle.gp_fmt.proofs.Parse.CommandParts.{IsGoodCommand, good_call, good_procedure, good_break, good_skip, good_fail}
use Rattle.gp_fmt.proofs.Parse.CommandChains.{good_loop, good_if, good_try, good_seq, good_or}

rule_names_give : Gives (shape_of rule_names) (AllByRecursion (IsNamed wants.RuleName))
unfolding rule_names
rule_names_give =
    either_gives _ _ (AllByRecursion (IsNamed wants.RuleName)) (gives_all _ (IsNamed wants.RuleName) (separated_gives comma _ (IsNamed wants.RuleName) (name_gives wants.RuleName rule)))
    (absent_gives [] (AllByRecursion (IsNamed wants.RuleName)) tt)

grouped_good : (make : CommandTree → List CommandTree → CommandTree) → ((x y : CommandTree) (ys : List CommandTree) → IsGoodCommand x → AllByRecursion IsGoodCommand (y ∷ ys) → IsGoodCommand (make x (y ∷ ys)))
    → (xs : List CommandTree) → AllOfSome IsGoodCommand xs → IsGoodCommand (grouped make xs)
grouped_good make f [] h = absurd h
grouped_good make f (x ∷ []) h = h.0
grouped_good make f (x ∷ y ∷ ys) h = f x y ys h.0 h.1

bang_gives : Gives (shape_of bang) Anything
unfolding bang
bang_gives = either_gives _ _ Anything (made_gives (means true) _ Anything Anything (λ x h. tt) (any_token exclamation)) (absent_gives false Anything tt)

looped_good : (c : CommandTree) (b : Bool) → IsGoodCommand c → IsGoodCommand (looped (c, b))
looped_good c true h = good_loop c h
looped_good c false h = h

word_gives : (word : Want) (c : CommandTree) → IsGoodCommand c → Gives (shape_of (Made (means c) (One word))) IsGoodCommand
word_gives word c h = made_gives (means c) _ Anything IsGoodCommand (λ x _. h) (any_token word)

module _ (s : Grammar CommandTree) (g : Gives (shape_of s) IsGoodCommand) where
  repeatable_gives : Gives (shape_of (repeatable s)) IsGoodCommand
  unfolding repeatable
  repeatable_gives =
      either_gives _ _ IsGoodCommand (made_gives inner _ (λ (x : Token × (CommandTree × Token)). IsGoodCommand x.1.0 × Anything x.1.1) IsGoodCommand (λ x h. h.0) (between_gives open_sign close_sign _ IsGoodCommand g))
      (either_gives _ _ IsGoodCommand
      (made_gives call_of _ (AllByRecursion (IsNamed wants.RuleName)) IsGoodCommand good_call (made_gives inner _ (λ (x : Token × (List Name × Token)). AllByRecursion (IsNamed wants.RuleName) x.1.0 × Anything x.1.1) (AllByRecursion (IsNamed wants.RuleName)) (λ x h. h.0)
      (between_gives open_brace close_brace _ (AllByRecursion (IsNamed wants.RuleName)) rule_names_give)))
      (either_gives _ _ IsGoodCommand (made_gives call_of_one _ (IsNamed wants.RuleName) IsGoodCommand (λ n h. good_call (n ∷ []) (h, tt)) (name_gives wants.RuleName rule))
      (made_gives procedure_call _ (IsNamed wants.ProcedureName) IsGoodCommand good_procedure (name_gives wants.ProcedureName procedure))))

  simple_in_gives : Gives (shape_of (simple_in s)) IsGoodCommand
  unfolding simple_in
  simple_in_gives =
      either_gives _ _ IsGoodCommand (word_gives break_word commands.Break good_break) (either_gives _ _ IsGoodCommand (word_gives skip_word commands.Skip good_skip)
      (either_gives _ _ IsGoodCommand (word_gives fail_word commands.Fail good_fail)
      (made_gives looped _ (λ (x : CommandTree × Bool). IsGoodCommand x.0 × Anything x.1) IsGoodCommand (λ x h. looped_good x.0 x.1 h.0) (then_gives _ _ IsGoodCommand Anything repeatable_gives bang_gives))))

module _ (s : Grammar CommandTree) (g : Gives (shape_of s) IsGoodCommand) where
  block_gives : Gives (shape_of (block s)) IsGoodCommand
  unfolding block
  block_gives = made_gives (grouped commands.Or) _ (AllOfSome IsGoodCommand) IsGoodCommand (grouped_good commands.Or good_or) (separated_gives or_word _ IsGoodCommand g)

  behind_gives_block : (word : Want) → Gives (shape_of (behind word (block s))) IsGoodCommand
  behind_gives_block word = made_gives second_of _ (λ (x : Token × CommandTree). IsGoodCommand x.1) IsGoodCommand (λ x h. h) (behind_gives word _ IsGoodCommand block_gives)

  part_gives : (word : Want) → Gives (shape_of (part s word)) IsGoodCommand
  unfolding part
  part_gives word = either_gives _ _ IsGoodCommand (behind_gives_block word) (absent_gives commands.Skip IsGoodCommand good_skip)

  abbrev AreThree : CommandTree × (CommandTree × CommandTree) → Type 0
  AreThree x = IsGoodCommand x.0 × (IsGoodCommand x.1.0 × IsGoodCommand x.1.1)

  command_gives : Gives (shape_of (command s)) IsGoodCommand
  unfolding command
  command_gives =
      either_gives _ _ IsGoodCommand
      (made_gives if_of _ (λ (x : Token × (CommandTree × (CommandTree × CommandTree))). AreThree x.1) IsGoodCommand (λ x h. good_if x.1.0 x.1.1.0 x.1.1.1 h.0 h.1.0 h.1.1)
      (behind_gives if_word _ AreThree (then_gives _ _ IsGoodCommand (λ (x : CommandTree × CommandTree). IsGoodCommand x.0 × IsGoodCommand x.1) block_gives (then_gives _ _ IsGoodCommand IsGoodCommand (behind_gives_block then_word) (part_gives else_word)))))
      (either_gives _ _ IsGoodCommand
      (made_gives try_of _ (λ (x : Token × (CommandTree × (CommandTree × CommandTree))). AreThree x.1) IsGoodCommand (λ x h. good_try x.1.0 x.1.1.0 x.1.1.1 h.0 h.1.0 h.1.1)
      (behind_gives try_word _ AreThree (then_gives _ _ IsGoodCommand (λ (x : CommandTree × CommandTree). IsGoodCommand x.0 × IsGoodCommand x.1) block_gives (then_gives _ _ IsGoodCommand IsGoodCommand (part_gives then_word) (part_gives else_word)))))
      block_gives)

  sequence_gives : Gives (shape_of (sequence s)) IsGoodCommand
  unfolding sequence
  sequence_gives = made_gives (grouped commands.Seq) _ (AllOfSome IsGoodCommand) IsGoodCommand (grouped_good commands.Seq good_seq) (separated_gives semicolon _ IsGoodCommand command_gives)

simple_gives : (n : ℕ) → Gives (shape_of (simple n)) IsGoodCommand
unfolding simple
simple_gives zero = λ ts rest x s h. absurd h
simple_gives (suc n) = simple_in_gives (sequence (simple n)) (sequence_gives (simple n) (simple_gives n))

pub commands_give : (n : ℕ) → Gives (shape_of (commands_of n)) IsGoodCommand
commands_give n = sequence_gives (simple n) (simple_gives n)
