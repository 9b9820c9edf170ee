-- The forms of a command, with numbers.
use Rattle.std.proofs.Common.{◌≡◌, ℕ, ◌+◌, List, [], ◌∷◌, ◌++◌, map, fold, length, refl, sym, ap, ◌∙◌, append_assoc, length-append}
use Rattle.gp_values.specs.Names.{Name}
use Rattle.gp_syntax.specs.declared.tree.CommandTree.{CommandTree}
use Rattle.gp_syntax.specs.declared.tree.CommandTree.TheVariants as tree
use Rattle.gp_syntax.specs.declared.command.Command.{Command}
use Rattle.gp_syntax.specs.declared.command.Command.TheVariants as command
use Rattle.gp_syntax.specs.Run as meant
use Rattle.gp_syntax.specs.Tree.{command_of}
use Rattle.gp_syntax.proofs.Trees.{command_of-Call, command_of-Seq, command_of-If, command_of-Try, command_of-Loop, command_of-Or, command_of-Skip, command_of-Fail, command_of-Break, command_of-Proc}
use Rattle.gp_scope.specs.Outline.{NamedCommand, named}
use Rattle.gp_scope.specs.Names.{Scope}
use Rattle.gp_scope.specs.Resolved.{called_sets, resolved, rule_number, procedure_number}
use Rattle.gp_scope.specs.inside.Commands.{sets_in, sets_in_rest, resolved_rest}
use Rattle.gp_scope.proofs.Named.{named-Call, named-Procedure, named-Seq, named-If, named-Try, named-Loop, named-Or, named-Skip, named-Fail, named-Break}
use Rattle.gp_scope.proofs.Numbered.{how_many, sets_counted, both_sets, sequence_sets, choice_sets, sequence_resolved, choice_resolved}

-- what holds of the sets behind a part
pub behind_part : (s : Scope) (old new : List (List ℕ)) (c : CommandTree) → new ≡ old ++ sets_in s (named c) → length new ≡ length old + how_many (named c)
behind_part s old new c e = ap length e ∙ length-append old (sets_in s (named c)) ∙ ap (λ n. length old + n) (sets_counted s (named c))

module _ (s : Scope) (n : ℕ) where
  -- ---- chains

  pub seq_command : (c p : CommandTree) (qs : List CommandTree) (first : Command) (rest : List Command) → c ≡ tree.Seq p qs → command_of first ≡ resolved s n (named p) → map command_of rest ≡ resolved_rest s (n + how_many (named p)) qs → command_of (command.Seq first rest) ≡ resolved s n (named c)
  seq_command c p qs first rest e a b =
      command_of-Seq first rest ∙ ap (λ x. fold meant.Seq x (map command_of rest)) a ∙ ap (fold meant.Seq (resolved s n (named p))) b
      ∙ sym (ap (λ x. resolved s n (named x)) e ∙ ap (resolved s n) (named-Seq p qs) ∙ sequence_resolved s n (named p) (resolved s n (named p)) qs refl)

  pub or_command : (c p : CommandTree) (qs : List CommandTree) (first : Command) (rest : List Command) → c ≡ tree.Or p qs → command_of first ≡ resolved s n (named p) → map command_of rest ≡ resolved_rest s (n + how_many (named p)) qs → command_of (command.Or first rest) ≡ resolved s n (named c)
  or_command c p qs first rest e a b =
      command_of-Or first rest ∙ ap (λ x. fold meant.Or x (map command_of rest)) a ∙ ap (fold meant.Or (resolved s n (named p))) b
      ∙ sym (ap (λ x. resolved s n (named x)) e ∙ ap (resolved s n) (named-Or p qs) ∙ choice_resolved s n (named p) (resolved s n (named p)) qs refl)

  pub seq_sets : (c p : CommandTree) (qs : List CommandTree) → c ≡ tree.Seq p qs → sets_in s (named p) ++ sets_in_rest s qs ≡ sets_in s (named c)
  seq_sets c p qs e = sym (ap (λ x. sets_in s (named x)) e ∙ ap (sets_in s) (named-Seq p qs) ∙ sequence_sets s (named p) qs)

  pub or_sets : (c p : CommandTree) (qs : List CommandTree) → c ≡ tree.Or p qs → sets_in s (named p) ++ sets_in_rest s qs ≡ sets_in s (named c)
  or_sets c p qs e = sym (ap (λ x. sets_in s (named x)) e ∙ ap (sets_in s) (named-Or p qs) ∙ choice_sets s (named p) qs)

  -- ---- branches

  three_sets : (k p q : NamedCommand) → map (map (rule_number s)) (called_sets k ++ called_sets p ++ called_sets q) ≡ sets_in s k ++ (sets_in s p ++ sets_in s q)
  three_sets k p q = both_sets s (called_sets k ++ called_sets p) (called_sets q) ∙ ap (λ l. l ++ sets_in s q) (both_sets s (called_sets k) (called_sets p)) ∙ append_assoc (sets_in s k) (sets_in s p) (sets_in s q)

  pub if_sets : (c k p q : CommandTree) → c ≡ tree.If k p q → sets_in s (named c) ≡ sets_in s (named k) ++ (sets_in s (named p) ++ sets_in s (named q))
  if_sets c k p q e = ap (λ x. sets_in s (named x)) e ∙ ap (sets_in s) (named-If k p q) ∙ three_sets (named k) (named p) (named q)

  pub try_sets : (c k p q : CommandTree) → c ≡ tree.Try k p q → sets_in s (named c) ≡ sets_in s (named k) ++ (sets_in s (named p) ++ sets_in s (named q))
  try_sets c k p q e = ap (λ x. sets_in s (named x)) e ∙ ap (sets_in s) (named-Try k p q) ∙ three_sets (named k) (named p) (named q)

  pub if_command : (c k p q : CommandTree) (x y z : Command) → c ≡ tree.If k p q → command_of x ≡ resolved s n (named k) → command_of y ≡ resolved s (n + how_many (named k)) (named p) → command_of z ≡ resolved s (n + how_many (named k) + how_many (named p)) (named q) → command_of (command.If x y z) ≡ resolved s n (named c)
  if_command c k p q x y z e a b d =
      command_of-If x y z ∙ ap (λ u. meant.If u (command_of y) (command_of z)) a ∙ ap (λ u. meant.If (resolved s n (named k)) u (command_of z)) b ∙ ap (meant.If (resolved s n (named k)) (resolved s (n + how_many (named k)) (named p))) d
      ∙ sym (ap (λ x. resolved s n (named x)) e ∙ ap (resolved s n) (named-If k p q))

  pub try_command : (c k p q : CommandTree) (x y z : Command) → c ≡ tree.Try k p q → command_of x ≡ resolved s n (named k) → command_of y ≡ resolved s (n + how_many (named k)) (named p) → command_of z ≡ resolved s (n + how_many (named k) + how_many (named p)) (named q) → command_of (command.Try x y z) ≡ resolved s n (named c)
  try_command c k p q x y z e a b d =
      command_of-Try x y z ∙ ap (λ u. meant.Try u (command_of y) (command_of z)) a ∙ ap (λ u. meant.Try (resolved s n (named k)) u (command_of z)) b ∙ ap (meant.Try (resolved s n (named k)) (resolved s (n + how_many (named k)) (named p))) d
      ∙ sym (ap (λ x. resolved s n (named x)) e ∙ ap (resolved s n) (named-Try k p q))

  -- ---- the rest

  pub loop_sets : (c p : CommandTree) → c ≡ tree.Loop p → sets_in s (named p) ≡ sets_in s (named c)
  loop_sets c p e = sym (ap (λ x. sets_in s (named x)) e ∙ ap (sets_in s) (named-Loop p))

  pub loop_command : (c p : CommandTree) (x : Command) → c ≡ tree.Loop p → command_of x ≡ resolved s n (named p) → command_of (command.Loop x) ≡ resolved s n (named c)
  loop_command c p x e a = command_of-Loop x ∙ ap meant.Loop a ∙ sym (ap (λ x. resolved s n (named x)) e ∙ ap (resolved s n) (named-Loop p))

  pub call_sets : (c : CommandTree) (ns : List Name) → c ≡ tree.Call ns → map (rule_number s) ns ∷ [] ≡ sets_in s (named c)
  call_sets c ns e = sym (ap (λ x. sets_in s (named x)) e ∙ ap (sets_in s) (named-Call ns))

  pub call_command : (c : CommandTree) (ns : List Name) (k : ℕ) → c ≡ tree.Call ns → k ≡ n → command_of (command.Call k) ≡ resolved s n (named c)
  call_command c ns k e a = command_of-Call k ∙ ap meant.Call a ∙ sym (ap (λ x. resolved s n (named x)) e ∙ ap (resolved s n) (named-Call ns))

  pub procedure_command : (c : CommandTree) (m : Name) (k : ℕ) → c ≡ tree.Procedure m → k ≡ procedure_number s m → command_of (command.Proc k) ≡ resolved s n (named c)
  procedure_command c m k e a = command_of-Proc k ∙ ap meant.Procedure a ∙ sym (ap (λ x. resolved s n (named x)) e ∙ ap (resolved s n) (named-Procedure m))

  pub procedure_sets : (c : CommandTree) (m : Name) → c ≡ tree.Procedure m → sets_in s (named c) ≡ []
  procedure_sets c m e = ap (λ x. sets_in s (named x)) e ∙ ap (sets_in s) (named-Procedure m)

  pub skip_command : (c : CommandTree) → c ≡ tree.Skip → command_of command.Skip ≡ resolved s n (named c)
  skip_command c e = command_of-Skip ∙ sym (ap (λ x. resolved s n (named x)) e ∙ ap (resolved s n) named-Skip)

  pub skip_sets : (c : CommandTree) → c ≡ tree.Skip → sets_in s (named c) ≡ []
  skip_sets c e = ap (λ x. sets_in s (named x)) e ∙ ap (sets_in s) named-Skip

  pub fail_command : (c : CommandTree) → c ≡ tree.Fail → command_of command.Fail ≡ resolved s n (named c)
  fail_command c e = command_of-Fail ∙ sym (ap (λ x. resolved s n (named x)) e ∙ ap (resolved s n) named-Fail)

  pub fail_sets : (c : CommandTree) → c ≡ tree.Fail → sets_in s (named c) ≡ []
  fail_sets c e = ap (λ x. sets_in s (named x)) e ∙ ap (sets_in s) named-Fail

  pub break_command : (c : CommandTree) → c ≡ tree.Break → command_of command.Break ≡ resolved s n (named c)
  break_command c e = command_of-Break ∙ sym (ap (λ x. resolved s n (named x)) e ∙ ap (resolved s n) named-Break)

  pub break_sets : (c : CommandTree) → c ≡ tree.Break → sets_in s (named c) ≡ []
  break_sets c e = ap (λ x. sets_in s (named x)) e ∙ ap (sets_in s) named-Break
