-- Whether commands may break, by their forms.
use Rattle.std.proofs.Common.{◌≡◌, ◌⊎◌, inl, inr, ℕ, Bool, false, ◌||◌, List, [], ◌∷◌, map, fold, refl, sym, ap, ◌∙◌}
use Rattle.gp_syntax.specs.declared.command.Command.{Command}
use Rattle.gp_syntax.specs.declared.command.Command.TheVariants as command
use Rattle.gp_syntax.specs.Run as meant
use Rattle.gp_syntax.specs.Tree.{command_of, sequence, choice}
use Rattle.gp_syntax.proofs.Trees.{command_of-Call, command_of-Seq, command_of-If, command_of-Try, command_of-Loop, command_of-Or, command_of-Skip, command_of-Fail, command_of-Break, command_of-Proc}
use Rattle.gp_reader.specs.declared.breaks.Judged.{Judged}
use Rattle.gp_reader.specs.inside.Judged.{is_known, breaks_by, strays_by, judged_by, either, rest_judged, condition_before}

module _ (known : List Bool) where
  sequence_from : (p : meant.Command) (j : Judged) (qs : List meant.Command) → judged_by known p ≡ j → judged_by known (fold meant.Seq p qs) ≡ fold either j (map (judged_by known) qs)
  sequence_from p j [] e = e
  sequence_from p j (q ∷ qs) e = sequence_from (meant.Seq p q) (either j (judged_by known q)) qs (ap (λ x. either x (judged_by known q)) e)

  choice_from : (p : meant.Command) (j : Judged) (qs : List meant.Command) → judged_by known p ≡ j → judged_by known (fold meant.Or p qs) ≡ fold either j (map (judged_by known) qs)
  choice_from p j [] e = e
  choice_from p j (q ∷ qs) e = choice_from (meant.Or p q) (either j (judged_by known q)) qs (ap (λ x. either x (judged_by known q)) e)

  abbrev pub judged : Command → Judged
  judged c = judged_by known (command_of c)

  map_map : (qs : List Command) → map (judged_by known) (map command_of qs) ≡ map judged qs
  map_map [] = refl
  map_map (q ∷ qs) = ap (λ js. judged q ∷ js) (map_map qs)

  pub chain_is : (c p : Command) (qs : List Command) → (c ≡ command.Seq p qs) ⊎ (c ≡ command.Or p qs) → judged c ≡ rest_judged known (judged p) qs
  chain_is c p qs (inl e) = ap judged e ∙ ap (judged_by known) (command_of-Seq p qs) ∙ sequence_from (command_of p) (judged p) (map command_of qs) refl ∙ ap (fold either (judged p)) (map_map qs)
  chain_is c p qs (inr e) = ap judged e ∙ ap (judged_by known) (command_of-Or p qs) ∙ choice_from (command_of p) (judged p) (map command_of qs) refl ∙ ap (fold either (judged p)) (map_map qs)

  pub branches_are : (c k p q : Command) → (c ≡ command.If k p q) ⊎ (c ≡ command.Try k p q) → judged c ≡ condition_before (judged k) (either (judged p) (judged q))
  branches_are c k p q (inl e) = ap judged e ∙ ap (judged_by known) (command_of-If k p q)
  branches_are c k p q (inr e) = ap judged e ∙ ap (judged_by known) (command_of-Try k p q)

  pub loop_is : (c p : Command) → c ≡ command.Loop p → judged c ≡ record { breaks = false; strays = strays_by known (command_of p) }
  loop_is c p e = ap judged e ∙ ap (judged_by known) (command_of-Loop p)

  pub call_is : (c : Command) (k : ℕ) → c ≡ command.Proc k → judged c ≡ record { breaks = is_known known k; strays = false }
  call_is c k e = ap judged e ∙ ap (judged_by known) (command_of-Proc k)

  pub break_is : (c : Command) → c ≡ command.Break → judged c ≡ judged_by known meant.Break
  break_is c e = ap judged e ∙ ap (judged_by known) command_of-Break

  pub others_are : (c : Command) → ((x : ℕ) × (c ≡ command.Call x)) ⊎ ((c ≡ command.Skip) ⊎ (c ≡ command.Fail)) → judged c ≡ record { breaks = false; strays = false }
  others_are c (inl e) = ap judged e.1 ∙ ap (judged_by known) (command_of-Call e.0)
  others_are c (inr (inl e)) = ap judged e ∙ ap (judged_by known) command_of-Skip
  others_are c (inr (inr e)) = ap judged e ∙ ap (judged_by known) command_of-Fail

pub with_branches : (r a o d x k p q : Judged) → r ≡ condition_before a o → o ≡ either d x → a ≡ k → d ≡ p → x ≡ q → r ≡ condition_before k (either p q)
with_branches r a o d x k p q e f ea ed ex = e ∙ ap (λ j. condition_before j o) ea ∙ ap (condition_before k) (f ∙ ap (λ j. either j x) ed ∙ ap (either p) ex)
