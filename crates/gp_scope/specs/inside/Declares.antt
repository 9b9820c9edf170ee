-- What one declaration does to the names among which it stands.
use Rattle.std.specs.Option.{option_or}
use Rattle.std.specs.Prelude.{◌≡◌, ◌||◌, true, ℕ, ◌+◌, ◌<◌, ◌^◌, List, [], ◌∷◌, ◌++◌, Option, Some, None}
use Rattle.gp_values.specs.Names.{Name, same_name, has_name}
use Rattle.gp_syntax.specs.declared.tree.Decl.{Decl}
use Rattle.gp_scope.specs.declared.meaning.Meaning.{Meaning}
use Rattle.gp_scope.specs.declared.survey.Survey.{Survey}
use Rattle.gp_scope.specs.Outline.{Outline, declared}
use Rattle.gp_scope.specs.Names.{Scope, Body, entries, bodies_in_text}
use Rattle.gp_scope.specs.Fault.{doubled_behind, first_told, unknown_in}
use Rattle.gp_scope.specs.inside.Levels.{names_of}
use Rattle.gp_scope.specs.Surveys.{survey_of, both_counted, declarations_in}
use Rattle.gp_scope.specs.inside.Doubles.{name_of}

-- so much is declared by it
abbrev pub Counts : Decl → Survey → Type 0
Counts d k = (os : Outline) → survey_of (declared d os) ≡ both_counted k (survey_of os)

abbrev pub own_entries : Name → Option Meaning → Scope
own_entries n None = []
own_entries n (Some m) = (n, m) ∷ []

abbrev pub GivesEntries : Decl → ℕ → ℕ → Option Meaning → Type 0
GivesEntries d r p o = (k : Survey) → Counts d k → (os : Outline) → entries r p (declared d os) ≡ own_entries (name_of d) o ++ entries (r + k.rules) (p + k.procedures) os

-- where no name stands twice, none does behind it
abbrev pub KeepsOnce : Decl → Type 0
KeepsOnce d = (seen : List Name) (os : Outline) → doubled_behind seen (declared d os) ≡ None → doubled_behind (seen ++ name_of d ∷ []) os ≡ None

-- the level, with what it gives a name to
abbrev pub Declares : Decl → ℕ → ℕ → Scope → Scope → Type 0
Declares d r p old new = (k : Survey) → Counts d k → (os : Outline) → new ++ entries (r + k.rules) (p + k.procedures) os ≡ old ++ entries r p (declared d os)

-- no name beside its own is new
abbrev pub NamesNoOther : Decl → Scope → Scope → Type 0
NamesNoOther d old new = (q : Name) → has_name (names_of new) q ≡ true → (has_name (names_of old) q || same_name q (name_of d)) ≡ true

-- the declaration stands among others where no name stands twice, and where there are not too many
abbrev pub Stands : Decl → Survey → Type 0
Stands d at = (seen : List Name) × ((os : Outline) × ((doubled_behind seen (declared d os) ≡ None) × (at.rules + at.procedures + at.mains + declarations_in (declared d os) < 2 ^ 32)))

abbrev pub unknown_of : Body → Option Name
unknown_of b = unknown_in b.scope b.command

-- what is told of the bodies in the declaration
abbrev pub TellsUnknown : Decl → Scope → ℕ → ℕ → Option Name → Type 0
TellsUnknown d s r p o = (k : Survey) → Counts d k → (os : Outline) →
    first_told unknown_of (bodies_in_text s r p (declared d os)) ≡ option_or o (first_told unknown_of (bodies_in_text s (r + k.rules) (p + k.procedures) os))
