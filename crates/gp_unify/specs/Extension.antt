-- What unification answers: an extension of an assignment by which a label has a value, the least one (Plump 2012,
-- section 3: the values of the variables follow from the labels at a match).
use Rattle.std.specs.Prelude.{◌≡◌, ℕ, ◌<◌, List, length, Option, Some, IsSome, option_and_then, slice_get}
use Rattle.gp_values.specs.declared.atom.Atom.{Atom}
use Rattle.gp_syntax.specs.Assigned.{PartialAssignment}
use Rattle.gp_syntax.specs.Expression.{Expression}
use Rattle.gp_syntax.specs.Simple.{StandsIn}
use Rattle.gp_syntax.specs.Value.{Setting, Value, value_of}
use Rattle.gp_unify.specs.Known.{Known, Extends, InTypes}
use Rattle.gp_unify.specs.declared.unifier.Unified.{Unified}
use Rattle.gp_unify.specs.declared.unifier.Unified.TheVariants as unified

-- the variables of a label are places of a list of so many types
abbrev pub AreKnown : ℕ → Expression ℕ → Type 0
AreKnown variables e = (x : ℕ) → StandsIn x e → x < variables

-- the values that the variables have so far
abbrev pub known_of : PartialAssignment → Known
known_of a x = option_and_then (λ (o : Option (List Atom)). o) (slice_get a.values x)

-- with these values the label has that value; they are of the variables' types, and what is known stays
pub record Extension (a : PartialAssignment) (e : Expression ℕ) (v : List Atom) (s : Setting) : Type 0 where
  pub types : s.types ≡ a.types
  pub in_types : InTypes s
  pub extends : Extends (known_of a) s.assigned
  pub value : value_of e s ≡ Value v

-- b knows what a knows and the label's variables; whatever has what b knows gives the label that value, and each
-- extension of a by which it has that value has what b knows
pub record IsLeast (a b : PartialAssignment) (e : Expression ℕ) (v : List Atom) : Type 0 where
  pub types : b.types ≡ a.types
  pub count : length b.values ≡ length a.values
  pub keeps : (x : ℕ) (w : List Atom) → known_of a x ≡ Some w → known_of b x ≡ Some w
  pub knows : (x : ℕ) → StandsIn x e → IsSome (known_of b x)
  pub gives : (s : Setting) → s.types ≡ a.types → Extends (known_of b) s.assigned → value_of e s ≡ Value v
  pub least : (s : Setting) → Extension a e v s → Extends (known_of b) s.assigned

-- the assignment a has become b
abbrev pub Answers : Unified → PartialAssignment → PartialAssignment → Expression ℕ → List Atom → Type 0
Answers unified.Yes a b e v = IsLeast a b e v
Answers unified.No a b e v = (b ≡ a) × ((s : Setting) → Extension a e v s → ⊥)
Answers unified.NoMemory a b e v = b ≡ a
