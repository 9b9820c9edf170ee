-- What a name in a place means: a local declaration hides an outer one.
use Rattle.std.specs.Prelude.{ℕ, ◌+◌, if◌then◌else◌, List, [], ◌∷◌, ◌++◌, length, Option, Some, None}
use Rattle.gp_values.specs.Names.{Name, same_name}
use Rattle.gp_scope.specs.Outline.{NamedCommand, Outline, nothing, rule, procedure, is_main, own_number, rules_in, procedures_in}
use Rattle.gp_scope.specs.declared.meaning.Meaning.{Meaning}
use Rattle.gp_scope.specs.declared.meaning.Meaning.TheVariants.{Rule, Procedure}

-- the names that are visible in a place, the inner ones first
abbrev pub Scope : Type 0
Scope = List (Name × Meaning)

abbrev pub meaning_in : Scope → Name → Option Meaning
meaning_in [] n = None
meaning_in (x ∷ s) n = if same_name n x.0 then Some x.1 else meaning_in s n

-- the number of the rule, or of the procedure, that a name means
abbrev pub rule_of : Option Meaning → Option ℕ
rule_of (Some (Rule r)) = Some r
rule_of other = None

abbrev pub procedure_of : Option Meaning → Option ℕ
procedure_of (Some (Procedure p)) = Some p
procedure_of other = None

-- What declarations among one another give names to, behind so many rules and procedures: both are numbered from 0, in
-- the order in which their declarations begin in the text.
abbrev pub entries : ℕ → ℕ → Outline → Scope
entries r p nothing = []
entries r p (rule d os) = (d.name, Rule r) ∷ entries (r + 1) p os
entries r p (procedure n local body os) =
    (if is_main n then [] else (n, Procedure p) ∷ []) ++ entries (r + length (rules_in local)) (p + own_number n + procedures_in local) os

-- the body of a procedure, and the names that are visible in it
pub record Body : Type 0 where
  pub name : Name
  pub scope : Scope
  pub command : NamedCommand

-- what is visible in a procedure: its local declarations, and what is visible around it
abbrev pub scope_within : Scope → ℕ → ℕ → Name → Outline → Scope
scope_within s r p n local = entries r (p + own_number n) local ++ s

-- the bodies of all procedures, Main among them, in the order in which their declarations begin
abbrev pub bodies : Scope → ℕ → ℕ → Outline → List Body
bodies s r p nothing = []
bodies s r p (rule d os) = bodies s (r + 1) p os
bodies s r p (procedure n local body os) =
    record { name = n; scope = scope_within s r p n local; command = body }
    ∷ (bodies (scope_within s r p n local) r (p + own_number n) local ++ bodies s (r + length (rules_in local)) (p + own_number n + procedures_in local) os)

-- the same, in the order in which the bodies stand in the text: that of a procedure stands behind its local declarations
abbrev pub bodies_in_text : Scope → ℕ → ℕ → Outline → List Body
bodies_in_text s r p nothing = []
bodies_in_text s r p (rule d os) = bodies_in_text s (r + 1) p os
bodies_in_text s r p (procedure n local body os) =
    bodies_in_text (scope_within s r p n local) r (p + own_number n) local
    ++ (record { name = n; scope = scope_within s r p n local; command = body } ∷ bodies_in_text s (r + length (rules_in local)) (p + own_number n + procedures_in local) os)

-- those of a program text
abbrev pub all_bodies : Outline → List Body
all_bodies os = bodies (entries 0 0 os) 0 0 os

abbrev pub all_bodies_in_text : Outline → List Body
all_bodies_in_text os = bodies_in_text (entries 0 0 os) 0 0 os
