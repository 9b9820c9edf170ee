-- Unification as a function: a label is read along its value, part by part, and tells the variables in it. The one list
-- variable of a label, and the one string variable of a string in it, take what is to spare behind the other parts.
use Rattle.std.specs.Prelude.{ℕ, zero, suc, ◌+◌, ◌-◌, ◌==◌, nat_eq, Bool, true, false, if◌then◌else◌, List, [], ◌∷◌, length, take, drop, Option, Some, None, option_and_then, neg_ℤ}
use Rattle.std.specs.Cmp.Lexicographic.{pointwise}
use Rattle.gp_values.specs.declared.atom.Atom.{Atom}
use Rattle.gp_values.specs.declared.atom.Atom.TheVariants.{Str}
use Rattle.gp_values.specs.Atoms.{same_list}
use Rattle.gp_syntax.specs.declared.kinds.VariableType.{VariableType}
use Rattle.gp_syntax.specs.Expression.{Expression, Number, Text, Variable, Negated, Dot, Empty, Join}
use Rattle.gp_syntax.specs.Value.{Valued, Value, NoValue, is_of, number, ranged}
use Rattle.gp_syntax.specs.Simple.{strings_of, lists_of}
use Rattle.gp_unify.specs.Known.{Known}

-- how many characters the value of a chain of strings has without those of its string variable
abbrev pub characters_in : {Ref : Type 0} → (Ref → VariableType) → Expression Ref → ℕ
characters_in t (Text s) = length s
characters_in t (Variable x) = 1 - strings_of (t x)
characters_in t (Dot d e) = characters_in t d + characters_in t e
characters_in t other = 0

-- how many atoms the value of a label has without those of its list variable
abbrev pub atoms_in : {Ref : Type 0} → (Ref → VariableType) → Expression Ref → ℕ
atoms_in t (Variable x) = 1 - lists_of (t x)
atoms_in t Empty = 0
atoms_in t (Join d e) = atoms_in t d + atoms_in t e
atoms_in t other = 1

-- ---- what variables have

abbrev pub keep : Bool → Known → Option Known
keep true p = Some p
keep false p = None

abbrev pub with_value : Known → ℕ → List Atom → Known
with_value p x v y = if y == x then Some v else p y

abbrev pub tell_known : Option (List Atom) → ℕ → List Atom → Known → Option Known
tell_known None x v p = Some (with_value p x v)
tell_known (Some w) x v p = keep (same_list w v) p

-- a variable has this value
abbrev pub tell : (ℕ → VariableType) → ℕ → List Atom → Known → Option Known
tell ts x v p = if is_of (ts x) v then tell_known (p x) x v p else None

-- ---- reading

-- what is left of a value behind a part of its label, and what is known there
pub record Rest (X : Type 0) : Type 0 where
  pub left : List X
  pub known : Known

abbrev pub rest : {X : Type 0} → List X → Known → Rest X
rest v p = record { left = v; known = p }

abbrev pub behind : {X : Type 0} {Y : Type 0} → Option (Rest X) → (List X → Known → Option Y) → Option Y
behind None f = None
behind (Some r) f = f r.left r.known

-- nothing is left
abbrev pub ended : {X : Type 0} → List X → Known → Option Known
ended [] p = Some p
ended (x ∷ xs) p = None

abbrev pub keep_rest : {X : Type 0} → Bool → List X → Known → Option (Rest X)
keep_rest true v p = Some (rest v p)
keep_rest false v p = None

abbrev pub keep_value : Valued (List Atom) → List Atom → List Atom → Known → Option (Rest Atom)
keep_value (Value w) x v p = keep_rest (same_list w x) v p
keep_value (NoValue k) x v p = None

abbrev pub told_rest : {X : Type 0} → Option Known → List X → Option (Rest X)
told_rest None v = None
told_rest (Some q) v = Some (rest v q)

-- how many items a variable takes, where so many are to spare for one that takes any number
abbrev pub span : ℕ → ℕ → ℕ
span spare zero = 1
span spare (suc k) = spare

-- the beginning of this string is a value of the chain
abbrev pub read_text : (ℕ → VariableType) → ℕ → Expression ℕ → List ℕ → Known → Option (Rest ℕ)
read_text ts n (Text t) s p = keep_rest (pointwise nat_eq t (take (length t) s)) (drop (length t) s) p
read_text ts n (Variable x) s p =
    told_rest (tell ts x (Str (take (span n (strings_of (ts x))) s) ∷ []) p) (drop (span n (strings_of (ts x))) s)
read_text ts n (Dot d e) s p = behind (read_text ts n d s p) (λ t q. read_text ts n e t q)
read_text ts n other s p = None

-- a chain of strings has this value
abbrev pub unify_text : (ℕ → VariableType) → Expression ℕ → List ℕ → Known → Option Known
unify_text ts e s p = behind (read_text ts (length s - characters_in ts e) e s p) (λ t q. ended t q)

abbrev pub on_text : List Atom → (List ℕ → Option Known) → Option Known
on_text (Str s ∷ []) f = f s
on_text other f = None

-- the beginning of this list is a value of the label
abbrev pub read : (ℕ → VariableType) → ℕ → Expression ℕ → List Atom → Known → Option (Rest Atom)
read ts n (Number z) v p = keep_rest (same_list (number z) (take 1 v)) (drop 1 v) p
read ts n (Text t) v p = keep_rest (same_list (Str t ∷ []) (take 1 v)) (drop 1 v) p
read ts n (Variable x) v p = told_rest (tell ts x (take (span n (lists_of (ts x))) v) p) (drop (span n (lists_of (ts x))) v)
read ts n (Negated (Number z)) v p = keep_value (ranged (neg_ℤ z)) (take 1 v) (drop 1 v) p
read ts n (Dot d e) v p = told_rest (on_text (take 1 v) (λ s. unify_text ts (Dot d e) s p)) (drop 1 v)
read ts n Empty v p = Some (rest v p)
read ts n (Join d e) v p = behind (read ts n d v p) (λ w q. read ts n e w q)
read ts n other v p = None

-- a simple label has this value
abbrev pub unify : (ℕ → VariableType) → Expression ℕ → List Atom → Known → Option Known
unify ts e v p = behind (read ts (length v - atoms_in ts e) e v p) (λ w q. ended w q)

-- these labels have these values, where there are as many and each has one
abbrev pub unify_all : (ℕ → VariableType) → List (Expression ℕ) → List (Option (List Atom)) → Known → Option Known
unify_all ts [] [] p = Some p
unify_all ts (e ∷ es) (Some v ∷ vs) p = option_and_then (λ q. unify_all ts es vs q) (unify ts e v p)
unify_all ts es vs p = None
