-- When a grammar is read without a doubt, from left to right: told by computing.
use Rattle.std.specs.Prelude.{◌≡◌, ℕ, Bool, true, false, if◌then◌else◌, List, [], ◌∷◌, ◌++◌}
use Rattle.gp_tokens.specs.declared.token.Token.{Token}
use Rattle.gp_tokens.specs.declared.want.Want.{Want}
use Rattle.gp_tokens.specs.SignWants.{number_sign, string_sign}
use Rattle.gp_tokens.specs.Wants.{excludes}
use Rattle.gp_tokens.specs.Grammar.{Grammar, One, Number, NumberAt, String, Then, Made, At, If, Absent, Repeated, Separated, Never, shape_of}
use Rattle.gp_tokens.specs.GrammarLaws.{No}

-- it may take no token
abbrev pub nullable : {A : Type 0} → Grammar A → Bool
nullable (One want) = false
nullable Number = false
nullable NumberAt = false
nullable String = false
nullable (Then g h) = if nullable g then nullable h else false
nullable (Made f g) = nullable g
nullable (At want g h) = if nullable g then true else nullable h
nullable (If p g h) = if nullable g then true else nullable h
nullable (Absent x) = true
nullable (Repeated want g) = true
nullable (Separated sign g) = nullable g
nullable Never = false

-- what must not come behind it
abbrev pub enders : {A : Type 0} → Grammar A → List Want
enders (One want) = []
enders Number = []
enders NumberAt = []
enders String = []
enders (Then g h) = if nullable h then enders h ++ enders g else enders h
enders (Made f g) = enders g
enders (At want g h) = if nullable h then want ∷ enders g ++ enders h else enders g ++ enders h
enders (If p g h) = enders g ++ enders h
enders (Absent x) = []
enders (Repeated want g) = want ∷ enders g
enders (Separated sign g) = sign ∷ enders g
enders Never = []

abbrev pub NoneOf : List Want → List Token → Type 0
NoneOf [] ts = Unit {0}
NoneOf (w ∷ ws) ts = No w ts × NoneOf ws ts

abbrev pub OnTrue : Bool → Type 0 → Type 0
OnTrue true T = T
OnTrue false T = Unit {0}

-- it begins with such a token
abbrev pub BeginsBy : {A : Type 0} → Want → Grammar A → Type 0
BeginsBy want (One w) = w ≡ want
BeginsBy want Number = number_sign ≡ want
BeginsBy want NumberAt = number_sign ≡ want
BeginsBy want String = string_sign ≡ want
BeginsBy want (Then g h) = BeginsBy want g
BeginsBy want (Made f g) = BeginsBy want g
BeginsBy want (At w g h) = BeginsBy want g × BeginsBy want h
BeginsBy want (If p g h) = BeginsBy want g × BeginsBy want h
BeginsBy want (Absent x) = ⊥
BeginsBy want (Repeated w g) = ⊥
BeginsBy want (Separated sign g) = BeginsBy want g
BeginsBy want Never = Unit {0}

-- it never begins with such a token
abbrev pub Avoids : {A : Type 0} → Want → Grammar A → Type 0
Avoids want (One w) = excludes w want ≡ true
Avoids want Number = excludes number_sign want ≡ true
Avoids want NumberAt = excludes number_sign want ≡ true
Avoids want String = excludes string_sign want ≡ true
Avoids want (Then g h) = Avoids want g × OnTrue (nullable g) (Avoids want h)
Avoids want (Made f g) = Avoids want g
Avoids want (At w g h) = Avoids want g × Avoids want h
Avoids want (If p g h) = Avoids want g × Avoids want h
Avoids want (Absent x) = Unit {0}
Avoids want (Repeated w g) = (nullable g ≡ false) × Avoids want g
Avoids want (Separated sign g) = (nullable g ≡ false) × Avoids want g
Avoids want Never = Unit {0}

abbrev pub AllAvoid : {A : Type 0} → List Want → Grammar A → Type 0
AllAvoid [] g = Unit {0}
AllAvoid (w ∷ ws) g = Avoids w g × AllAvoid ws g

abbrev pub AllExcluded : Want → List Want → Type 0
AllExcluded sign [] = Unit {0}
AllExcluded sign (w ∷ ws) = (excludes sign w ≡ true) × AllExcluded sign ws

-- no token of it is such a token
abbrev pub Lacks : {A : Type 0} → Want → Grammar A → Type 0
Lacks want (One w) = excludes w want ≡ true
Lacks want Number = excludes number_sign want ≡ true
Lacks want NumberAt = excludes number_sign want ≡ true
Lacks want String = excludes string_sign want ≡ true
Lacks want (Then g h) = Lacks want g × Lacks want h
Lacks want (Made f g) = Lacks want g
Lacks want (At w g h) = Lacks want g × Lacks want h
Lacks want (If p g h) = Lacks want g × Lacks want h
Lacks want (Absent x) = Unit {0}
Lacks want (Repeated w g) = Lacks want g
Lacks want (Separated sign g) = (excludes sign want ≡ true) × Lacks want g
Lacks want Never = Unit {0}

-- the test answers so before each of its trees
abbrev pub Answers : {A : Type 0} → (List Token → Bool) → Bool → Grammar A → Type 0
Answers {A} p b g = (ts rest : List Token) (x : A) → shape_of g ts rest x → p ts ≡ b

-- Each choice is told by its token or by its test, each loop by the token that goes on, and what comes behind a part that
-- may end early never begins with what would go on.
abbrev pub Fits : {A : Type 0} → Grammar A → Type 0
Fits (One want) = Unit {0}
Fits Number = Unit {0}
Fits NumberAt = Unit {0}
Fits String = Unit {0}
Fits (Then g h) = Fits g × (Fits h × AllAvoid (enders g) h)
Fits (Made f g) = Fits g
Fits (At want g h) = Fits g × (Fits h × (BeginsBy want g × Avoids want h))
Fits (If p g h) = Fits g × (Fits h × (Answers p true g × Answers p false h))
Fits (Absent x) = Unit {0}
Fits (Repeated want g) = Fits g × ((nullable g ≡ false) × (BeginsBy want g × AllAvoid (enders g) g))
Fits (Separated sign g) = Fits g × AllExcluded sign (enders g)
Fits Never = Unit {0}
