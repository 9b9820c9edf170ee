-- Commands with numbers, part by part.
use Rattle.std.proofs.Common.{◌≡◌, ℕ, zero, suc, ◌+◌, ◌<◌, ◌≤◌, List, [], ◌∷◌, ◌++◌, map, fold, length, get_or, refl, sym, ap, ◌∙◌, subst, append_assoc, append-nil, arith, length-append}
use Rattle.std.proofs.lemmas.List.{length-map, map-append}
use Rattle.gp_values.specs.Names.{Name}
use Rattle.gp_syntax.specs.declared.tree.CommandTree.{CommandTree}
use Rattle.gp_syntax.specs.declared.tree.CommandTree.TheVariants as tree
use Rattle.gp_syntax.specs.declared.tree.CommandTree.TheOpen.{CommandTree-F}
use Rattle.gp_syntax.specs.declared.tree.CommandTree.TheFolds.{fold-roll-CommandTree}
use Rattle.gp_syntax.specs.Run as meant
use Rattle.gp_scope.specs.Outline.{NamedCommand, Seq, Or, named}
use Rattle.gp_scope.specs.Names.{Scope}
use Rattle.gp_scope.specs.Resolved.{called_sets, resolved, rule_number}
use Rattle.gp_scope.specs.inside.Commands.{sets_in, called_in_rest, sets_in_rest, resolved_rest, size, size_step, sizes}

abbrev pub how_many : NamedCommand → ℕ
how_many c = length (called_sets c)

pub sets_counted : (s : Scope) (c : NamedCommand) → length (sets_in s c) ≡ how_many c
sets_counted s c = length-map (called_sets c) (map (rule_number s))

pub rest_counted : (s : Scope) (qs : List CommandTree) → length (sets_in_rest s qs) ≡ called_in_rest qs
rest_counted s [] = refl
rest_counted s (q ∷ qs) = let a = sets_counted s (named q) in let b = rest_counted s qs in let l = length-append (sets_in s (named q)) (sets_in_rest s qs) in omega (arith, a, b, l)

pub both_sets : (s : Scope) (xs ys : List (List Name)) → map (map (rule_number s)) (xs ++ ys) ≡ map (map (rule_number s)) xs ++ map (map (rule_number s)) ys
both_sets s xs ys = map-append (map (rule_number s)) xs ys

-- ---- one part more

pub rest_push : (s : Scope) (c : ℕ) (xs : List CommandTree) (q : CommandTree) → resolved_rest s c (xs ++ q ∷ []) ≡ resolved_rest s c xs ++ resolved s (c + called_in_rest xs) (named q) ∷ []
rest_push s c [] q = ap (λ n. resolved s n (named q) ∷ []) (omega arith)
rest_push s c (x ∷ xs) q =
    let e : c + how_many (named x) + called_in_rest xs ≡ c + (how_many (named x) + called_in_rest xs) = omega arith in
    ap (λ l. resolved s c (named x) ∷ l) (rest_push s (c + how_many (named x)) xs q ∙ ap (λ n. resolved_rest s (c + how_many (named x)) xs ++ resolved s n (named q) ∷ []) e)

pub sets_push : (s : Scope) (xs : List CommandTree) (q : CommandTree) → sets_in_rest s (xs ++ q ∷ []) ≡ sets_in_rest s xs ++ sets_in s (named q)
sets_push s [] q = append-nil (sets_in s (named q))
sets_push s (x ∷ xs) q = ap (λ l. sets_in s (named x) ++ l) (sets_push s xs q) ∙ sym (append_assoc (sets_in s (named x)) (sets_in_rest s xs) (sets_in s (named q)))

-- ---- chains

module _ (s : Scope) where
  pub sequence_called : (p : NamedCommand) (qs : List CommandTree) → how_many (fold Seq p (map named qs)) ≡ how_many p + called_in_rest qs
  sequence_called p [] = omega arith
  sequence_called p (q ∷ qs) = let h = sequence_called (Seq p (named q)) qs in let l = length-append (called_sets p) (called_sets (named q)) in omega (arith, h, l)

  pub choice_called : (p : NamedCommand) (qs : List CommandTree) → how_many (fold Or p (map named qs)) ≡ how_many p + called_in_rest qs
  choice_called p [] = omega arith
  choice_called p (q ∷ qs) = let h = choice_called (Or p (named q)) qs in let l = length-append (called_sets p) (called_sets (named q)) in omega (arith, h, l)

  pub sequence_sets : (p : NamedCommand) (qs : List CommandTree) → sets_in s (fold Seq p (map named qs)) ≡ sets_in s p ++ sets_in_rest s qs
  sequence_sets p [] = sym (append-nil (sets_in s p))
  sequence_sets p (q ∷ qs) = sequence_sets (Seq p (named q)) qs ∙ ap (λ l. l ++ sets_in_rest s qs) (both_sets s (called_sets p) (called_sets (named q))) ∙ append_assoc (sets_in s p) (sets_in s (named q)) (sets_in_rest s qs)

  pub choice_sets : (p : NamedCommand) (qs : List CommandTree) → sets_in s (fold Or p (map named qs)) ≡ sets_in s p ++ sets_in_rest s qs
  choice_sets p [] = sym (append-nil (sets_in s p))
  choice_sets p (q ∷ qs) = choice_sets (Or p (named q)) qs ∙ ap (λ l. l ++ sets_in_rest s qs) (both_sets s (called_sets p) (called_sets (named q))) ∙ append_assoc (sets_in s p) (sets_in s (named q)) (sets_in_rest s qs)

  pub sequence_resolved : (c : ℕ) (p : NamedCommand) (r : meant.Command) (qs : List CommandTree) → resolved s c p ≡ r → resolved s c (fold Seq p (map named qs)) ≡ fold meant.Seq r (resolved_rest s (c + how_many p) qs)
  sequence_resolved c p r [] e = e
  sequence_resolved c p r (q ∷ qs) e =
      let l = length-append (called_sets p) (called_sets (named q)) in
      let n : c + how_many (Seq p (named q)) ≡ c + how_many p + how_many (named q) = omega (arith, l) in
      sequence_resolved c (Seq p (named q)) (meant.Seq r (resolved s (c + how_many p) (named q))) qs (ap (λ x. meant.Seq x (resolved s (c + how_many p) (named q))) e)
      ∙ ap (λ n. fold meant.Seq (meant.Seq r (resolved s (c + how_many p) (named q))) (resolved_rest s n qs)) n

  pub choice_resolved : (c : ℕ) (p : NamedCommand) (r : meant.Command) (qs : List CommandTree) → resolved s c p ≡ r → resolved s c (fold Or p (map named qs)) ≡ fold meant.Or r (resolved_rest s (c + how_many p) qs)
  choice_resolved c p r [] e = e
  choice_resolved c p r (q ∷ qs) e =
      let l = length-append (called_sets p) (called_sets (named q)) in
      let n : c + how_many (Or p (named q)) ≡ c + how_many p + how_many (named q) = omega (arith, l) in
      choice_resolved c (Or p (named q)) (meant.Or r (resolved s (c + how_many p) (named q))) qs (ap (λ x. meant.Or x (resolved s (c + how_many p) (named q))) e)
      ∙ ap (λ n. fold meant.Or (meant.Or r (resolved s (c + how_many p) (named q))) (resolved_rest s n qs)) n

-- ---- sizes

pub size-Seq : (p : CommandTree) (qs : List CommandTree) → size (tree.Seq p qs) ≡ 1 + size p + sizes qs
unfolding size
size-Seq p qs = ap size (sym (tree.rolls-Seq p qs)) ∙ fold-roll-CommandTree ℕ size_step (CommandTree-F.Seq p qs)

pub size-Or : (p : CommandTree) (qs : List CommandTree) → size (tree.Or p qs) ≡ 1 + size p + sizes qs
unfolding size
size-Or p qs = ap size (sym (tree.rolls-Or p qs)) ∙ fold-roll-CommandTree ℕ size_step (CommandTree-F.Or p qs)

pub size-If : (k p q : CommandTree) → size (tree.If k p q) ≡ 1 + size k + size p + size q
unfolding size
size-If k p q = ap size (sym (tree.rolls-If k p q)) ∙ fold-roll-CommandTree ℕ size_step (CommandTree-F.If k p q)

pub size-Try : (k p q : CommandTree) → size (tree.Try k p q) ≡ 1 + size k + size p + size q
unfolding size
size-Try k p q = ap size (sym (tree.rolls-Try k p q)) ∙ fold-roll-CommandTree ℕ size_step (CommandTree-F.Try k p q)

pub size-Loop : (p : CommandTree) → size (tree.Loop p) ≡ 1 + size p
unfolding size
size-Loop p = ap size (sym (tree.rolls-Loop p)) ∙ fold-roll-CommandTree ℕ size_step (CommandTree-F.Loop p)

size_at : (qs : List CommandTree) (i : ℕ) (d : CommandTree) → i < length qs → size (get_or qs i d) ≤ sizes qs
size_at [] i d lt = absurd (omega (arith, lt))
size_at (x ∷ qs) zero d lt = omega arith
size_at (x ∷ qs) (suc i) d lt = let h = size_at qs i d (omega (arith, lt)) in omega (arith, h)

pub is_smaller : (qs : List CommandTree) (i : ℕ) (q : CommandTree) → i < length qs → q ≡ get_or qs i q → size q ≤ sizes qs
is_smaller qs i q lt e = subst (λ x. size x ≤ sizes qs) (sym e) (size_at qs i q lt)
