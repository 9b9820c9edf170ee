-- Labels of a chain, one by one: their sizes, their variables, and what is read behind them.
use Rattle.std.proofs.Common.{◌≡◌, ◌⊎◌, inl, inr, ℕ, ℤ, Bool, true, false, zero, suc, ◌+◌, ◌<◌, ◌≤◌, List, [], ◌∷◌, length, map, take, drop, fold, get_or, All, Option, Some, None, Result, Ok, Err, IsErrAnd, refl, sym, ap, subst, ◌∙◌, arith}
use Rattle.std.specs.Borrow.{Bor}
use Rattle.gp_values.specs.declared.atom.Atom.{Atom}
use Rattle.gp_syntax.specs.declared.kinds.VariableType.{VariableType}
use Rattle.gp_syntax.specs.declared.label.SimpleLabel.{SimpleLabel}
use Rattle.gp_syntax.specs.declared.label.SimpleLabel.TheVariants as label
use Rattle.gp_syntax.specs.declared.label.SimpleLabel.TheOpen.{SimpleLabel-F}
use Rattle.gp_syntax.specs.declared.label.SimpleLabel.TheFolds.{fold-roll-SimpleLabel}
use Rattle.gp_syntax.specs.Assigned.{PartialAssignment}
use Rattle.gp_syntax.specs.Expression.{Expression, Number, Negated, Empty, Dot, Join}
use Rattle.gp_syntax.proofs.Trees.{label_of-Number, label_of-NegatedNumber, label_of-Text, label_of-Empty, label_of-Dot, label_of-Join}
use Rattle.gp_syntax.specs.Tree.{label_of, dots, joins}
use Rattle.gp_syntax.specs.Value.{Valued, Value, NoValue}
use Rattle.std.proofs.lemmas.Option.{none-some}
use Rattle.gp_values.specs.Atoms.{same_list}
use Rattle.gp_unify.specs.Extension.{AreKnown, known_of}
use Rattle.gp_unify.specs.Known.{Known}
use Rattle.gp_unify.specs.declared.mismatch.Mismatch.{Mismatch}
use Rattle.gp_unify.specs.declared.mismatch.Mismatch.TheVariants as mismatch
use Rattle.gp_unify.specs.Unify.{Rest, rest, behind, characters_in, atoms_in, keep_rest, keep_value, told_rest, on_text, read_text, unify_text, read}
use Rattle.gp_unify.specs.inside.Reading.{Refuses, Begins, BeginsValue, Hands, Reads, text_step, join_step, all_characters, all_atoms, size_step, size, sizes}

-- ---- sizes

pub size-Dot : (l : SimpleLabel) (ls : List SimpleLabel) → size (label.Dot l ls) ≡ 2 + size l + sizes ls
unfolding size
size-Dot l ls = ap size (sym (label.rolls-Dot l ls)) ∙ fold-roll-SimpleLabel ℕ size_step (SimpleLabel-F.Dot l ls)

pub size-Join : (l : SimpleLabel) (ls : List SimpleLabel) → size (label.Join l ls) ≡ 2 + size l + sizes ls
unfolding size
size-Join l ls = ap size (sym (label.rolls-Join l ls)) ∙ fold-roll-SimpleLabel ℕ size_step (SimpleLabel-F.Join l ls)

pub size_at : (ls : List SimpleLabel) (i : ℕ) (d : SimpleLabel) → i < length ls → size (get_or ls i d) ≤ sizes ls
size_at [] i d l = absurd (omega arith)
size_at (x ∷ ls) zero d l = omega arith
size_at (x ∷ ls) (suc i) d l = omega (arith, size_at ls i d (omega arith))

-- ---- variables

all_behind : (n : ℕ) (x : SimpleLabel) (xs : List SimpleLabel) → AreKnown n (label_of x) → All (λ l. AreKnown n (label_of l)) xs → All (λ l. AreKnown n (label_of l)) (x ∷ xs)
all_behind n x xs h k zero d l = h
all_behind n x xs h k (suc i) d l = k i d (omega arith)

pub known_dots : (n : ℕ) (e : Expression ℕ) (xs : List SimpleLabel) → AreKnown n (dots e (map label_of xs)) → AreKnown n e × All (λ l. AreKnown n (label_of l)) xs
known_dots n e [] h = (h, λ k d l. absurd (omega arith))
known_dots n e (x ∷ xs) h =
    let k = known_dots n (Dot e (label_of x)) xs h in
    (λ y s. k.0 y (inl s), all_behind n x xs (λ y s. k.0 y (inr s)) k.1)

pub known_joins : (n : ℕ) (e : Expression ℕ) (xs : List SimpleLabel) → AreKnown n (joins e (map label_of xs)) → AreKnown n e × All (λ l. AreKnown n (label_of l)) xs
known_joins n e [] h = (h, λ k d l. absurd (omega arith))
known_joins n e (x ∷ xs) h =
    let k = known_joins n (Join e (label_of x)) xs h in
    (λ y s. k.0 y (inl s), all_behind n x xs (λ y s. k.0 y (inr s)) k.1)

-- ---- widths

pub characters_of_dots : (ts : ℕ → VariableType) (e : Expression ℕ) (ls : List SimpleLabel) → characters_in ts (dots e (map label_of ls)) ≡ characters_in ts e + all_characters ts ls
characters_of_dots ts e [] = omega arith
characters_of_dots ts e (l ∷ ls) = let k = characters_of_dots ts (Dot e (label_of l)) ls in omega arith

pub atoms_of_joins : (ts : ℕ → VariableType) (e : Expression ℕ) (ls : List SimpleLabel) → atoms_in ts (joins e (map label_of ls)) ≡ atoms_in ts e + all_atoms ts ls
atoms_of_joins ts e [] = omega arith
atoms_of_joins ts e (l ∷ ls) = let k = atoms_of_joins ts (Join e (label_of l)) ls in omega arith

-- a chain of one label is that label
one_join : {X : Type 0} (f : Expression ℕ → X) (l : SimpleLabel) (ls : List SimpleLabel) → ls ≡ [] → f (label_of (label.Join l ls)) ≡ f (label_of l)
one_join f l ls e = ap f (label_of-Join l ls) ∙ ap (λ z. f (joins (label_of l) (map label_of z))) e

one_dot : {X : Type 0} (f : Expression ℕ → X) (l : SimpleLabel) (ls : List SimpleLabel) → ls ≡ [] → f (label_of (label.Dot l ls)) ≡ f (label_of l)
one_dot f l ls e = ap f (label_of-Dot l ls) ∙ ap (λ z. f (dots (label_of l) (map label_of z))) e

pub one_joined : {X : Type 0} (f : Expression ℕ → X) (p l : SimpleLabel) (ls : List SimpleLabel) → p ≡ label.Join l ls → ls ≡ [] → f (label_of p) ≡ f (label_of l)
one_joined f p l ls e n = ap (λ z. f (label_of z)) e ∙ one_join f l ls n

pub one_dotted : {X : Type 0} (f : Expression ℕ → X) (p l : SimpleLabel) (ls : List SimpleLabel) → p ≡ label.Dot l ls → ls ≡ [] → f (label_of p) ≡ f (label_of l)
one_dotted f p l ls e n = ap (λ z. f (label_of z)) e ∙ one_dot f l ls n

-- what a chain of two or more is, whatever chains of two are
two_joins : {X : Type 0} (f : Expression ℕ → X) (x : X) → ((d e : Expression ℕ) → f (Join d e) ≡ x) → (d e : Expression ℕ) (es : List (Expression ℕ)) → f (joins (Join d e) es) ≡ x
two_joins f x h d e [] = h d e
two_joins f x h d e (g ∷ es) = two_joins f x h (Join d e) g es

two_dots : {X : Type 0} (f : Expression ℕ → X) (x : X) → ((d e : Expression ℕ) → f (Dot d e) ≡ x) → (d e : Expression ℕ) (es : List (Expression ℕ)) → f (dots (Dot d e) es) ≡ x
two_dots f x h d e [] = h d e
two_dots f x h d e (g ∷ es) = two_dots f x h (Dot d e) g es

pub more_joined : {X : Type 0} (f : Expression ℕ → X) (x : X) → ((d e : Expression ℕ) → f (Join d e) ≡ x) → (p l : SimpleLabel) (ls : List SimpleLabel) → p ≡ label.Join l ls → (ls ≡ [] → ⊥) → f (label_of p) ≡ x
more_joined f x h p l [] e n = absurd (n refl)
more_joined f x h p l (k ∷ ls) e n = ap (λ z. f (label_of z)) e ∙ ap f (label_of-Join l (k ∷ ls)) ∙ two_joins f x h (label_of l) (label_of k) (map label_of ls)

pub more_dotted : {X : Type 0} (f : Expression ℕ → X) (x : X) → ((d e : Expression ℕ) → f (Dot d e) ≡ x) → (p l : SimpleLabel) (ls : List SimpleLabel) → p ≡ label.Dot l ls → (ls ≡ [] → ⊥) → f (label_of p) ≡ x
more_dotted f x h p l [] e n = absurd (n refl)
more_dotted f x h p l (k ∷ ls) e n = ap (λ z. f (label_of z)) e ∙ ap f (label_of-Dot l (k ∷ ls)) ∙ two_dots f x h (label_of l) (label_of k) (map label_of ls)

-- numerals and `empty`, as one arm of a match has them
abbrev pub NumberOrEmpty : SimpleLabel → Type 0
NumberOrEmpty p = ((z : ℤ) × (p ≡ label.Number z)) ⊎ (((z : ℤ) × (p ≡ label.NegatedNumber z)) ⊎ (p ≡ label.Empty))

pub no_text : {X : Type 0} (f : Expression ℕ → X) (x : X) → ((z : ℤ) → f (Number z) ≡ x) → ((z : ℤ) → f (Negated (Number z)) ≡ x) → f Empty ≡ x → (p : SimpleLabel) → NumberOrEmpty p → f (label_of p) ≡ x
no_text f x a b c p h =
    elim h [
      | inl n ↦ ap (λ z. f (label_of z)) n.1 ∙ ap f (label_of-Number n.0) ∙ a n.0
      | inr r ↦ elim r [
        | inl n ↦ ap (λ z. f (label_of z)) n.1 ∙ ap f (label_of-NegatedNumber n.0) ∙ b n.0
        | inr n ↦ ap (λ z. f (label_of z)) n ∙ ap f label_of-Empty ∙ c
      ]
    ]

-- numerals and strings, as one arm of a match has them
abbrev pub OneAtom : SimpleLabel → Type 0
OneAtom p = ((z : ℤ) × (p ≡ label.Number z)) ⊎ (((z : ℤ) × (p ≡ label.NegatedNumber z)) ⊎ ((t : List ℕ) × (p ≡ label.Text t)))

pub one_atom : (ts : ℕ → VariableType) (p : SimpleLabel) → OneAtom p → atoms_in ts (label_of p) ≡ 1
one_atom ts p h =
    elim h [
      | inl n ↦ ap (λ z. atoms_in ts (label_of z)) n.1 ∙ ap (atoms_in ts) (label_of-Number n.0)
      | inr r ↦ elim r [
        | inl n ↦ ap (λ z. atoms_in ts (label_of z)) n.1 ∙ ap (atoms_in ts) (label_of-NegatedNumber n.0)
        | inr n ↦ ap (λ z. atoms_in ts (label_of z)) n.1 ∙ ap (atoms_in ts) (label_of-Text n.0)
      ]
    ]

-- ---- reading on

pub read_dots_is : (ts : ℕ → VariableType) (n : ℕ) (e : Expression ℕ) (ls : List SimpleLabel) (s : List ℕ) (p : Known) → read_text ts n (dots e (map label_of ls)) s p ≡ fold (text_step ts n) (read_text ts n e s p) ls
read_dots_is ts n e [] s p = refl
read_dots_is ts n e (l ∷ ls) s p = read_dots_is ts n (Dot e (label_of l)) ls s p

pub read_joins_is : (ts : ℕ → VariableType) (n : ℕ) (e : Expression ℕ) (ls : List SimpleLabel) (v : List Atom) (p : Known) → read ts n (joins e (map label_of ls)) v p ≡ fold (join_step ts n) (read ts n e v p) ls
read_joins_is ts n e [] v p = refl
read_joins_is ts n e (l ∷ ls) v p = read_joins_is ts n (Join e (label_of l)) ls v p

-- two or more strings are read as one atom
chain_reads : (ts : ℕ → VariableType) (n : ℕ) (v : List Atom) (q : Known) (d e : Expression ℕ) (es : List (Expression ℕ)) → read ts n (dots (Dot d e) es) v q ≡ told_rest (on_text (take 1 v) (λ s. unify_text ts (dots (Dot d e) es) s q)) (drop 1 v)
chain_reads ts n v q d e [] = refl
chain_reads ts n v q d e (f ∷ es) = chain_reads ts n v q (Dot d e) f es

pub chain_read : (ts : ℕ → VariableType) (n : ℕ) (v : List Atom) (q : Known) (p l : SimpleLabel) (ls : List SimpleLabel) → p ≡ label.Dot l ls → (ls ≡ [] → ⊥) → read ts n (label_of p) v q ≡ told_rest (on_text (take 1 v) (λ s. unify_text ts (dots (label_of l) (map label_of ls)) s q)) (drop 1 v)
chain_read ts n v q p l [] e d = absurd (d refl)
chain_read ts n v q p l (k ∷ ls) e d = ap (λ z. read ts n (label_of z) v q) e ∙ ap (λ z. read ts n z v q) (label_of-Dot l (k ∷ ls)) ∙ chain_reads ts n v q (label_of l) (label_of k) (map label_of ls)

module _ {X : Type 0} (read_part : SimpleLabel → List X → Known → Option (Rest X)) where
  abbrev pub step : Option (Rest X) → SimpleLabel → Option (Rest X)
  step o l = behind o (λ v p. read_part l v p)

  stays : (ls : List SimpleLabel) → fold step None ls ≡ None
  stays [] = refl
  stays (l ∷ ls) = stays ls

  goes_on : (o q : Option (Rest X)) (i : ℕ) (l : SimpleLabel) (ls : List SimpleLabel) (m : Option (Rest X)) → i < length ls → l ≡ get_or ls i l → step o l ≡ q → fold step o (drop i ls) ≡ m → fold step q (drop (suc i) ls) ≡ m
  goes_on o q i l [] m b e s h = absurd (omega arith)
  goes_on o q zero l (k ∷ ls) m b e s h = ap (λ z. fold step z ls) (sym s ∙ ap (step o) e) ∙ h
  goes_on o q (suc i) l (k ∷ ls) m b e s h = goes_on o q i l ls m (omega arith) e s h

  -- one part more
  pub part_read : (v w : List X) (p q : Known) (i : ℕ) (l : SimpleLabel) (ls : List SimpleLabel) (m : Option (Rest X)) → i < length ls → l ≡ get_or ls i l → read_part l v p ≡ Some (rest w q) → fold step (Some (rest v p)) (drop i ls) ≡ m → fold step (Some (rest w q)) (drop (i + 1) ls) ≡ m
  part_read v w p q i l ls m b e s h =
      let n : suc i ≡ i + 1 = omega arith in
      subst (λ k. fold step (Some (rest w q)) (drop k ls) ≡ m) n (goes_on (Some (rest v p)) (Some (rest w q)) i l ls m b e s h)

  -- a part that is not there
  pub part_refused : (r : Mismatch) (v : List X) (p : Known) (i : ℕ) (l : SimpleLabel) (ls : List SimpleLabel) (m : Option (Rest X)) → i < length ls → l ≡ get_or ls i l → Refuses r (read_part l v p) → fold step (Some (rest v p)) (drop i ls) ≡ m → Refuses r m
  part_refused mismatch.Differs v p i l ls m b e s h = sym (goes_on (Some (rest v p)) None i l ls m b e s h) ∙ stays (drop (suc i) ls)
  part_refused mismatch.NoMemory v p i l ls m b e s h = tt

  -- the first part is not there
  pub first_refused : (r : Mismatch) (o : Option (Rest X)) (ls : List SimpleLabel) → Refuses r o → Refuses r (fold step o ls)
  first_refused mismatch.Differs o ls h = ap (λ z. fold step z ls) h ∙ stays ls
  first_refused mismatch.NoMemory o ls h = tt

  -- past the last part
  pub parts_read : (o m : Option (Rest X)) (i : ℕ) (ls : List SimpleLabel) → length ls ≤ i → fold step o (drop i ls) ≡ m → m ≡ o
  parts_read o m zero [] l h = sym h
  parts_read o m (suc i) [] l h = sym h
  parts_read o m zero (x ∷ ls) l h = absurd (omega arith)
  parts_read o m (suc i) (x ∷ ls) l h = parts_read o m i ls (omega arith) h

pub kept_to : {X : Type 0} (b : Bool) (v left : List X) (p : Known) → b ≡ true → left ≡ v → keep_rest b v p ≡ Some (rest left p)
kept_to true v left p e f = ap (λ z. Some (rest z p)) (sym f)
kept_to false v left p e f = absurd cc

pub kept_not : {X : Type 0} (b : Bool) (v : List X) (p : Known) → b ≡ false → keep_rest b v p ≡ None
kept_not true v p e = absurd cc
kept_not false v p e = refl

-- ---- what tells no variable

refused_whole : {X : Type 0} (e : Mismatch) (o : Option X) → e ≡ mismatch.Differs → o ≡ None → Refuses e o
refused_whole e o h k = subst (λ z. Refuses z o) (sym h) k

pub begins_read : (r : Result (Bor (List Atom)) Mismatch) (o : Option (Bor (List Atom))) (b : Bool) (v : List Atom) (a : PartialAssignment) → Hands r o → Begins o b v → Reads r (keep_rest b v (known_of a)) a
begins_read (Ok x) o b v a h k = let g : Begins (Some x) b v = subst (λ z. Begins z b v) h k in kept_to b v x.now (known_of a) g.0 g.1
begins_read (Err e) o b v a h k = let g : Begins None b v = subst (λ z. Begins z b v) h.0 k in refused_whole e (keep_rest b v (known_of a)) h.1 (kept_not b v (known_of a) g)

pub value_read : (r : Result (Bor (List Atom)) Mismatch) (o : Option (Bor (List Atom))) (w : Valued (List Atom)) (v : List Atom) (a : PartialAssignment) → Hands r o → BeginsValue o w v → Reads r (keep_value w (take 1 v) (drop 1 v) (known_of a)) a
value_read r o (Value w) v a h k = begins_read r o (same_list w (take 1 v)) (drop 1 v) a h k
value_read (Ok x) o (NoValue n) v a h k = absurd (none-some x (sym k ∙ h))
value_read (Err e) o (NoValue n) v a h k = refused_whole e None h.1 refl

-- ---- answers that `?` hands on

pub refused : {X : Type 0} (r : Result (Bor (List X)) Mismatch) (e : Mismatch) (o : Option (Rest X)) (b : PartialAssignment) → IsErrAnd r (λ k. k ≡ e) → Refuses e o → Reads r o b
refused (Ok x) e o b h k = absurd h
refused (Err d) e o b h k = subst (λ z. Refuses z o) (sym h) k
