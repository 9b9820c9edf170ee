-- Commands are read without a doubt.
use Rattle.std.proofs.Common.{◌≡◌, ℕ, zero, suc, false, List, [], ◌∷◌, refl}
use Rattle.gp_tokens.specs.Kinds.{same_kind}
use Rattle.gp_tokens.specs.declared.want.Want.{Want}
use Rattle.gp_tokens.specs.Wants.{excludes, meets}
use Rattle.gp_tokens.specs.Grammar.{Grammar, One}
use Rattle.gp_tokens.specs.Fits.{Fits, Avoids, AllAvoid, enders, nullable}
use Rattle.gp_tokens.specs.SignWants.{exclamation, semicolon, close_sign, open_bracket}
use Rattle.gp_expressions.specs.Signs.{or_word, if_word, then_word, else_word, try_word}
use Rattle.gp_expressions.specs.Expressions.{name}
use Rattle.gp_program.specs.Commands.{rule_names, bang, repeatable, simple_in, block, part, command, sequence, simple, commands_of}

-- what a simple command does not begin with
abbrev heads : List Want
heads = if_word ∷ try_word ∷ open_bracket ∷ []

pub simple_full : (n : ℕ) → nullable (simple n) ≡ false
unfolding simple simple_in repeatable name
simple_full zero = refl
simple_full (suc n) = refl

simple_avoids : (n : ℕ) → AllAvoid heads (simple n)
unfolding simple simple_in repeatable name excludes meets same_kind
simple_avoids zero = search
simple_avoids (suc n) = search

pub commands_full : (n : ℕ) → nullable (commands_of n) ≡ false
unfolding block command sequence
commands_full n = rw (simple_full n) refl

none_end : enders (simple zero) ≡ []
unfolding simple
none_end = refl

-- where there is room
simple_ends : (n : ℕ) → enders (simple (suc n)) ≡ exclamation ∷ []
unfolding simple simple_in repeatable name rule_names bang
simple_ends n = rw (commands_full n) refl

-- what must not come behind commands
abbrev pub command_enders : List Want
command_enders = semicolon ∷ else_word ∷ then_word ∷ or_word ∷ exclamation ∷ []

sequence_fits : (n : ℕ) → Fits (simple n) → Fits (sequence (simple n))
unfolding block part command sequence excludes meets same_kind
sequence_fits zero f = let a = simple_avoids zero in rw (simple_full zero, none_end) (search (f, a))
sequence_fits (suc n) f = let a = simple_avoids (suc n) in rw (simple_full (suc n), simple_ends n) (search (f, a))

close_ends : (n : ℕ) → AllAvoid (enders (sequence (simple n))) (One close_sign)
unfolding block part command sequence excludes meets same_kind
close_ends zero = rw (simple_full zero, none_end) search
close_ends (suc n) = rw (simple_full (suc n), simple_ends n) search

simple_fits : (n : ℕ) → Fits (simple n)
unfolding name rule_names bang repeatable simple_in simple excludes meets same_kind
simple_fits zero = tt
simple_fits (suc n) = let f = sequence_fits n (simple_fits n) in let c = close_ends n in rw (commands_full n) (search (f, c))

pub commands_fit : (n : ℕ) → Fits (commands_of n)
commands_fit n = sequence_fits n (simple_fits n)

pub commands_follow : (n : ℕ) {A : Type 0} (g : Grammar A) → AllAvoid command_enders g → AllAvoid (enders (commands_of n)) g
unfolding block part command sequence
commands_follow zero g a = rw (simple_full zero, none_end) (search a)
commands_follow (suc n) g a = rw (simple_full (suc n), simple_ends n) (search a)

pub commands_avoid : (n : ℕ) → Avoids open_bracket (commands_of n)
unfolding block command sequence excludes meets same_kind
commands_avoid n = let a = simple_avoids n in rw (simple_full n) (search a)
