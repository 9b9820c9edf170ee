-- What is read is a tree of the grammar.
use Rattle.std.proofs.Common.{◌≡◌, Bool, true, false, List, Some}
use Rattle.std.specs.Prelude.{if◌then◌else◌}
use Rattle.gp_tokens.specs.declared.token.Token.{Token}
use Rattle.gp_tokens.specs.Shape.{Shape, Either, one, other}
use Rattle.gp_tokens.specs.Reading.{Reader}
use Rattle.gp_tokens.specs.GrammarLaws.{Sound}
use Rattle.gp_tokens.proofs.Shapes as g
use Rattle.gp_tokens.proofs.Strings.{number_at_sound, string_sound}
use Rattle.gp_tokens.specs.Grammar.{Grammar, One, Number, NumberAt, String, Then, Made, At, If, Absent, Repeated, Separated, Never, shape_of}
use Rattle.gp_tokens.specs.Reading.{reader_of}

chosen : {A : Type 0} (b : Bool) (r s : Reader A) (R S : Shape A) → Sound r R → Sound s S → (ts : List Token) (z : A × List Token) → (if b then r ts else s ts) ≡ Some z → Either R S ts z.1 z.0
chosen true r s R S p q ts z e = one (p ts z e)
chosen false r s R S p q ts z e = other (q ts z e)

pub all_sound : {A : Type 0} (x : Grammar A) → Sound (reader_of x) (shape_of x)
all_sound (One want) = g.token_sound want
all_sound Number = g.number_sound
all_sound NumberAt = number_at_sound
all_sound String = string_sound
all_sound (Then x y) = g.and_sound _ _ _ _ (all_sound x) (all_sound y)
all_sound (Made f x) = g.made_sound _ _ _ (all_sound x)
all_sound (At want x y) = g.at_sound _ _ _ _ _ (all_sound x) (all_sound y)
all_sound (Absent a) = g.absent_sound a
all_sound (If p x y) = λ ts z e. chosen (p ts) (reader_of x) (reader_of y) _ _ (all_sound x) (all_sound y) ts z e
all_sound (Repeated want x) = g.repeated_sound want _ _ (all_sound x)
all_sound (Separated sign x) = g.separated_sound sign _ _ (all_sound x)
all_sound Never = λ ts x e. absurd cc
