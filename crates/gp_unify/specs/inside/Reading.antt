-- What reading answers, and the labels of a chain one by one.
use Rattle.std.specs.Prelude.{◌≡◌, ℕ, ◌+◌, Bool, true, false, List, [], ◌∷◌, map, take, drop, length, Option, Some, None, Result, Ok, Err}
use Rattle.std.specs.Borrow.{Bor}
use Rattle.gp_memory.specs.Free.{Free}
use Rattle.gp_memory.specs.declared.refusal.NoMemory.{NoMemory}
use Rattle.gp_values.specs.declared.atom.Atom.{Atom}
use Rattle.gp_values.specs.Atoms.{same_list}
use Rattle.gp_syntax.specs.declared.kinds.VariableType.{VariableType}
use Rattle.gp_syntax.specs.declared.label.SimpleLabel.{SimpleLabel}
use Rattle.gp_syntax.specs.declared.label.SimpleLabel.TheOpen.{SimpleLabel-F}
use Rattle.gp_syntax.specs.declared.label.SimpleLabel.TheFolds.{fold-SimpleLabel}
use Rattle.gp_syntax.specs.Assigned.{PartialAssignment}
use Rattle.gp_syntax.specs.Tree.{label_of}
use Rattle.gp_syntax.specs.Value.{Valued, Value, NoValue}
use Rattle.gp_unify.specs.Known.{Known}
use Rattle.gp_unify.specs.Extension.{known_of}
use Rattle.gp_unify.specs.declared.mismatch.Mismatch.{Mismatch}
use Rattle.gp_unify.specs.declared.mismatch.Mismatch.TheVariants as mismatch
use Rattle.gp_unify.specs.declared.unifier.Unified.{Unified}
use Rattle.gp_unify.specs.declared.unifier.Unified.TheVariants as unified
use Rattle.gp_unify.specs.Unify.{Rest, rest, behind, characters_in, atoms_in, read_text, read}

-- ---- answers

abbrev pub Refuses : {X : Type 0} → Mismatch → Option X → Type 0
Refuses mismatch.Differs o = o ≡ None
Refuses mismatch.NoMemory o = Free

-- what is left, and what the assignment has now
abbrev pub Reads : {X : Type 0} → Result (Bor (List X)) Mismatch → Option (Rest X) → PartialAssignment → Type 0
Reads (Ok r) o b = o ≡ Some (rest r.now (known_of b))
Reads (Err e) o b = Refuses e o

-- reading of what tells no variable: where the list begins so it is left what is behind
abbrev pub Begins : Option (Bor (List Atom)) → Bool → List Atom → Type 0
Begins None b v = b ≡ false
Begins (Some r) b v = (b ≡ true) × (r.now ≡ v)

abbrev pub BeginsValue : Option (Bor (List Atom)) → Valued (List Atom) → List Atom → Type 0
BeginsValue o (Value w) v = Begins o (same_list w (take 1 v)) (drop 1 v)
BeginsValue o (NoValue k) v = o ≡ None

-- an answer of one as an answer of the other, whatever is known
abbrev pub Hands : Result (Bor (List Atom)) Mismatch → Option (Bor (List Atom)) → Type 0
Hands (Ok r) o = o ≡ Some r
Hands (Err e) o = (o ≡ None) × (e ≡ mismatch.Differs)

abbrev pub Tells : {X : Type 0} → Result X Mismatch → Option Known → PartialAssignment → Type 0
Tells (Ok x) o b = o ≡ Some (known_of b)
Tells (Err e) o b = Refuses e o

abbrev pub Told : Unified → Option Known → PartialAssignment → Type 0
Told unified.Yes o b = o ≡ Some (known_of b)
Told unified.No o b = o ≡ None
Told unified.NoMemory o b = Free

-- the assignment a has become b; it has the same places
pub record TellsThem (o : Option Known) (a b : PartialAssignment) : Type 0 where
  pub told : o ≡ Some (known_of b)
  pub types : b.types ≡ a.types
  pub count : length b.values ≡ length a.values

abbrev pub TellsAll : Result Bool NoMemory → Option Known → PartialAssignment → PartialAssignment → Type 0
TellsAll (Ok true) o a b = TellsThem o a b
TellsAll (Ok false) o a b = o ≡ None
TellsAll (Err e) o a b = Free

-- a trail that is longer behind what was told alone
abbrev pub KeepsTrail : Unified → List ℕ → List ℕ → Type 0
KeepsTrail unified.Yes before after = Unit {0}
KeepsTrail other before after = after ≡ before

-- ---- chains

abbrev pub text_step : (ℕ → VariableType) → ℕ → Option (Rest ℕ) → SimpleLabel → Option (Rest ℕ)
text_step ts n o l = behind o (λ s p. read_text ts n (label_of l) s p)

abbrev pub join_step : (ℕ → VariableType) → ℕ → Option (Rest Atom) → SimpleLabel → Option (Rest Atom)
join_step ts n o l = behind o (λ v p. read ts n (label_of l) v p)

abbrev pub total : List ℕ → ℕ
total [] = 0
total (n ∷ ns) = n + total ns

abbrev pub all_characters : (ℕ → VariableType) → List SimpleLabel → ℕ
all_characters ts ls = total (map (λ l. characters_in ts (label_of l)) ls)

abbrev pub all_atoms : (ℕ → VariableType) → List SimpleLabel → ℕ
all_atoms ts ls = total (map (λ l. atoms_in ts (label_of l)) ls)

-- ---- sizes, of which recursion takes less at each call

abbrev pub size_step : SimpleLabel-F ℕ → ℕ
size_step (SimpleLabel-F.Dot l ls) = 2 + l + total ls
size_step (SimpleLabel-F.Join l ls) = 2 + l + total ls
size_step other = 1

unfoldable pub size : SimpleLabel → ℕ
size = fold-SimpleLabel ℕ size_step

abbrev pub sizes : List SimpleLabel → ℕ
sizes ls = total (map size ls)
