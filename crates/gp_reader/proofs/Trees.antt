-- What procedures a command calls.
use Rattle.std.proofs.Common.{◌≡◌, ◌⊎◌, inl, inr, ℕ, List, [], ◌∷◌, ◌++◌, map, fold, refl, sym, ap, ◌∙◌, append_assoc, append-nil}
use Rattle.std.specs.Prelude.{flat_map}
use Rattle.gp_syntax.specs.declared.command.Command.{Command}
use Rattle.gp_syntax.specs.declared.command.Command.TheVariants as command
use Rattle.gp_syntax.specs.Run as meant
use Rattle.gp_syntax.specs.Tree.{command_of, sequence, choice}
use Rattle.gp_syntax.specs.Scoped.{procedures_in}
use Rattle.gp_syntax.proofs.Trees.{command_of-Call, command_of-Seq, command_of-If, command_of-Try, command_of-Loop, command_of-Or, command_of-Skip, command_of-Fail, command_of-Break, command_of-Proc}

abbrev pub calls_by : Command → List ℕ
calls_by c = procedures_in (command_of c)

pub calls_in_sequence : (p : meant.Command) (qs : List Command) → procedures_in (sequence p (map command_of qs)) ≡ procedures_in p ++ flat_map calls_by qs
calls_in_sequence p [] = sym (append-nil (procedures_in p))
calls_in_sequence p (q ∷ qs) = calls_in_sequence (meant.Seq p (command_of q)) qs ∙ append_assoc (procedures_in p) (calls_by q) (flat_map calls_by qs)

pub calls_in_choice : (p : meant.Command) (qs : List Command) → procedures_in (choice p (map command_of qs)) ≡ procedures_in p ++ flat_map calls_by qs
calls_in_choice p [] = sym (append-nil (procedures_in p))
calls_in_choice p (q ∷ qs) = calls_in_choice (meant.Or p (command_of q)) qs ∙ append_assoc (procedures_in p) (calls_by q) (flat_map calls_by qs)

-- by the forms of a command
pub chain_calls : (c p : Command) (qs : List Command) → (c ≡ command.Seq p qs) ⊎ (c ≡ command.Or p qs) → calls_by c ≡ calls_by p ++ flat_map calls_by qs
chain_calls c p qs (inl e) = ap calls_by e ∙ ap procedures_in (command_of-Seq p qs) ∙ calls_in_sequence (command_of p) qs
chain_calls c p qs (inr e) = ap calls_by e ∙ ap procedures_in (command_of-Or p qs) ∙ calls_in_choice (command_of p) qs

pub branch_calls : (c k p q : Command) → (c ≡ command.If k p q) ⊎ (c ≡ command.Try k p q) → calls_by c ≡ calls_by k ++ calls_by p ++ calls_by q
branch_calls c k p q (inl e) = ap calls_by e ∙ ap procedures_in (command_of-If k p q)
branch_calls c k p q (inr e) = ap calls_by e ∙ ap procedures_in (command_of-Try k p q)

pub loop_calls : (c p : Command) → c ≡ command.Loop p → calls_by c ≡ calls_by p
loop_calls c p e = ap calls_by e ∙ ap procedures_in (command_of-Loop p)

pub procedure_calls : (c : Command) (k : ℕ) → c ≡ command.Proc k → calls_by c ≡ k ∷ []
procedure_calls c k e = ap calls_by e ∙ ap procedures_in (command_of-Proc k)

pub no_calls : (c : Command) → ((x : ℕ) × (c ≡ command.Call x)) ⊎ ((c ≡ command.Skip) ⊎ ((c ≡ command.Fail) ⊎ (c ≡ command.Break))) → (xs : List ℕ) → xs ≡ xs ++ calls_by c
no_calls c (inl e) xs = sym (ap (λ l. xs ++ l) (ap calls_by e.1 ∙ ap procedures_in (command_of-Call e.0)) ∙ append-nil xs)
no_calls c (inr (inl e)) xs = sym (ap (λ l. xs ++ l) (ap calls_by e ∙ ap procedures_in command_of-Skip) ∙ append-nil xs)
no_calls c (inr (inr (inl e))) xs = sym (ap (λ l. xs ++ l) (ap calls_by e ∙ ap procedures_in command_of-Fail) ∙ append-nil xs)
no_calls c (inr (inr (inr e))) xs = sym (ap (λ l. xs ++ l) (ap calls_by e ∙ ap procedures_in command_of-Break) ∙ append-nil xs)

pub two_more : {A : Type 0} (a b x y z : List A) → b ≡ a ++ x → z ≡ b ++ y → z ≡ a ++ (x ++ y)
two_more a b x y z e f = f ∙ ap (λ l. l ++ y) e ∙ append_assoc a x y

pub three_more : {A : Type 0} (a b d x y z w : List A) → b ≡ a ++ x → d ≡ b ++ y → w ≡ d ++ z → w ≡ a ++ (x ++ y ++ z)
three_more a b d x y z w e f g = two_more a d (x ++ y) z w (two_more a b x y d e f) g
