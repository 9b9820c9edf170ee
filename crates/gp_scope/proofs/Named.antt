-- Commands of a text, by their forms.
use Rattle.std.proofs.Common.{◌≡◌, ◌⊎◌, inl, inr, List, [], ◌∷◌, map, fold, Option, Some, None, refl, sym, ap, ◌∙◌}
use Rattle.std.specs.Option.{option_or}
use Rattle.gp_values.specs.Names.{Name}
use Rattle.gp_syntax.specs.declared.tree.CommandTree.{CommandTree}
use Rattle.gp_syntax.specs.declared.tree.CommandTree.TheVariants as tree
use Rattle.gp_syntax.specs.declared.tree.CommandTree.TheOpen.{CommandTree-F}
use Rattle.gp_syntax.specs.declared.tree.CommandTree.TheFolds.{fold-roll-CommandTree}
use Rattle.gp_scope.specs.Outline.{NamedCommand, Call, Named, Seq, If, Try, Loop, Or, Skip, Fail, Break, named, named_step}
use Rattle.gp_scope.specs.Names.{Scope}
use Rattle.gp_scope.specs.Fault.{unknown_in}
use Rattle.gp_scope.specs.inside.Commands.{unknown_in_rest}
use Rattle.gp_scope.proofs.Told.{told_together}

pub named-Call : (ns : List Name) → named (tree.Call ns) ≡ Call ns
unfolding named
named-Call ns = ap named (sym (tree.rolls-Call ns)) ∙ fold-roll-CommandTree NamedCommand named_step (CommandTree-F.Call ns)

pub named-Procedure : (n : Name) → named (tree.Procedure n) ≡ Named n
unfolding named
named-Procedure n = ap named (sym (tree.rolls-Procedure n)) ∙ fold-roll-CommandTree NamedCommand named_step (CommandTree-F.Procedure n)

pub named-Seq : (p : CommandTree) (qs : List CommandTree) → named (tree.Seq p qs) ≡ fold Seq (named p) (map named qs)
unfolding named
named-Seq p qs = ap named (sym (tree.rolls-Seq p qs)) ∙ fold-roll-CommandTree NamedCommand named_step (CommandTree-F.Seq p qs)

pub named-If : (k p q : CommandTree) → named (tree.If k p q) ≡ If (named k) (named p) (named q)
unfolding named
named-If k p q = ap named (sym (tree.rolls-If k p q)) ∙ fold-roll-CommandTree NamedCommand named_step (CommandTree-F.If k p q)

pub named-Try : (k p q : CommandTree) → named (tree.Try k p q) ≡ Try (named k) (named p) (named q)
unfolding named
named-Try k p q = ap named (sym (tree.rolls-Try k p q)) ∙ fold-roll-CommandTree NamedCommand named_step (CommandTree-F.Try k p q)

pub named-Loop : (p : CommandTree) → named (tree.Loop p) ≡ Loop (named p)
unfolding named
named-Loop p = ap named (sym (tree.rolls-Loop p)) ∙ fold-roll-CommandTree NamedCommand named_step (CommandTree-F.Loop p)

pub named-Or : (p : CommandTree) (qs : List CommandTree) → named (tree.Or p qs) ≡ fold Or (named p) (map named qs)
unfolding named
named-Or p qs = ap named (sym (tree.rolls-Or p qs)) ∙ fold-roll-CommandTree NamedCommand named_step (CommandTree-F.Or p qs)

pub named-Skip : named tree.Skip ≡ Skip
unfolding named
named-Skip = ap named (sym tree.rolls-Skip) ∙ fold-roll-CommandTree NamedCommand named_step CommandTree-F.Skip

pub named-Fail : named tree.Fail ≡ Fail
unfolding named
named-Fail = ap named (sym tree.rolls-Fail) ∙ fold-roll-CommandTree NamedCommand named_step CommandTree-F.Fail

pub named-Break : named tree.Break ≡ Break
unfolding named
named-Break = ap named (sym tree.rolls-Break) ∙ fold-roll-CommandTree NamedCommand named_step CommandTree-F.Break

-- ---- what is unknown in them

or_none : (o : Option Name) → option_or o None ≡ o
or_none (Some x) = refl
or_none None = refl

module _ (s : Scope) where
  abbrev pub told : CommandTree → Option Name
  told c = unknown_in s (named c)

  in_sequence : (p : NamedCommand) (qs : List CommandTree) → unknown_in s (fold Seq p (map named qs)) ≡ option_or (unknown_in s p) (unknown_in_rest s qs)
  in_sequence p [] = sym (or_none (unknown_in s p))
  in_sequence p (q ∷ qs) = in_sequence (Seq p (named q)) qs ∙ told_together (unknown_in s p) (told q) (unknown_in_rest s qs)

  in_choice : (p : NamedCommand) (qs : List CommandTree) → unknown_in s (fold Or p (map named qs)) ≡ option_or (unknown_in s p) (unknown_in_rest s qs)
  in_choice p [] = sym (or_none (unknown_in s p))
  in_choice p (q ∷ qs) = in_choice (Or p (named q)) qs ∙ told_together (unknown_in s p) (told q) (unknown_in_rest s qs)

  pub chain_told : (c p : CommandTree) (qs : List CommandTree) → (c ≡ tree.Seq p qs) ⊎ (c ≡ tree.Or p qs) → told c ≡ option_or (told p) (unknown_in_rest s qs)
  chain_told c p qs (inl e) = ap told e ∙ ap (unknown_in s) (named-Seq p qs) ∙ in_sequence (named p) qs
  chain_told c p qs (inr e) = ap told e ∙ ap (unknown_in s) (named-Or p qs) ∙ in_choice (named p) qs

  pub branches_told : (c k p q : CommandTree) → (c ≡ tree.If k p q) ⊎ (c ≡ tree.Try k p q) → told c ≡ option_or (told k) (option_or (told p) (told q))
  branches_told c k p q (inl e) = ap told e ∙ ap (unknown_in s) (named-If k p q)
  branches_told c k p q (inr e) = ap told e ∙ ap (unknown_in s) (named-Try k p q)

  pub nothing_told : (c : CommandTree) → (c ≡ tree.Skip) ⊎ ((c ≡ tree.Fail) ⊎ (c ≡ tree.Break)) → told c ≡ None
  nothing_told c (inl e) = ap told e ∙ ap (unknown_in s) named-Skip
  nothing_told c (inr (inl e)) = ap told e ∙ ap (unknown_in s) named-Fail
  nothing_told c (inr (inr e)) = ap told e ∙ ap (unknown_in s) named-Break
