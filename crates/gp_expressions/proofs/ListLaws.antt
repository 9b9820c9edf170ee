-- Expressions are read without a doubt, at each room.
use Rattle.std.proofs.Common.{◌≡◌, ℕ, zero, suc, List, [], ◌∷◌, false, refl}
use Rattle.gp_tokens.specs.Kinds.{same_kind}
use Rattle.gp_tokens.specs.declared.want.Want.{Want}
use Rattle.gp_tokens.specs.SignWants.{number_sign, colon, dot, plus, minus, star, slash, bar, open_sign, close_bracket}
use Rattle.gp_tokens.specs.Wants.{excludes, meets}
use Rattle.gp_tokens.specs.Grammar.{Grammar}
use Rattle.gp_tokens.specs.Fits.{Fits, enders, nullable, Avoids, AllAvoid, Lacks}
use Rattle.gp_expressions.specs.declared.ranged.Ranged.{Ranged}
use Rattle.gp_expressions.specs.Signs.{not_word, edge_word, int_word, char_word, string_word, atom_word}
use Rattle.gp_expressions.specs.Expressions.{Tree, unary, quotients, product, differences, sum, dots, joins, name, argument, leaf, nested, operand, list}

pub never_empty : (n : ℕ) → nullable (operand n) ≡ false
unfolding operand nested leaf name
never_empty zero = refl
never_empty (suc n) = refl

pub closed : (n : ℕ) → enders (operand n) ≡ []
unfolding unary quotients product differences sum dots joins name argument leaf nested operand
closed zero = refl
closed (suc n) = rw (never_empty n, closed n) refl

-- what a condition begins with
abbrev pub heads : List Want
heads = not_word ∷ edge_word ∷ int_word ∷ char_word ∷ string_word ∷ atom_word ∷ []

pub operand_avoids : (n : ℕ) → AllAvoid (number_sign ∷ heads) (operand n)
unfolding name argument leaf nested operand excludes meets same_kind
operand_avoids zero = search
operand_avoids (suc n) = search

-- ---- a list fits where its operands do

leaf_fits : Fits leaf
unfolding name argument leaf excludes meets same_kind
leaf_fits = search

leaf_avoids : Avoids minus leaf × Avoids open_sign leaf
unfolding name argument leaf excludes meets same_kind
leaf_avoids = search

joins_fits : (g : Grammar (Ranged Tree)) → nullable g ≡ false → enders g ≡ [] → Fits g → Avoids number_sign g → Fits (joins g)
unfolding unary quotients product differences sum dots joins excludes meets same_kind
joins_fits g full ends f a = rw (full, ends) (search (f, a))

-- what may come behind an operand of a list, and goes on with it
abbrev pub list_signs : List Want
list_signs = colon ∷ dot ∷ plus ∷ minus ∷ star ∷ slash ∷ []

list_ends : (n : ℕ) → enders (list n) ≡ list_signs
unfolding unary quotients product differences sum dots joins
list_ends n = rw (never_empty n, closed n) refl

operand_fits : (n : ℕ) → Fits (operand n)
unfolding nested operand excludes meets same_kind
operand_fits zero = tt
operand_fits (suc n) =
    let f = operand_fits n in
    let a = (operand_avoids n).0 in
    let j = joins_fits (operand n) (never_empty n) (closed n) f a in
    rw (list_ends n) ((tt, ((tt, (f, (refl, a))), tt)), (((tt, ((j, (tt, (refl, (refl, (refl, (refl, (refl, (refl, tt)))))))), tt)), (leaf_fits, (refl, leaf_avoids.1))), (refl, ((refl, tt), leaf_avoids.0))))

pub list_fits : (n : ℕ) → Fits (list n)
list_fits n = joins_fits (operand n) (never_empty n) (closed n) (operand_fits n) (operand_avoids n).0

-- ---- what is asked of lists where they are parts

pub record IsListPart (l : Grammar (Ranged Tree)) : Type 0 where
  pub fits : Fits l
  pub full : nullable l ≡ false
  pub ends : enders l ≡ list_signs
  pub avoids : AllAvoid heads l
  pub bars : Lacks bar l
  pub brackets : Lacks close_bracket l

list_full : (n : ℕ) → nullable (list n) ≡ false
unfolding unary quotients product differences sum dots joins
list_full n = rw (never_empty n) refl

list_avoids : (n : ℕ) → AllAvoid heads (list n)
unfolding unary quotients product differences sum dots joins excludes meets same_kind
list_avoids n = let a = operand_avoids n in rw (never_empty n) (search a)

leaf_lacks : Lacks bar leaf × Lacks close_bracket leaf
unfolding name argument leaf excludes meets same_kind
leaf_lacks = search

joins_lacks : (g : Grammar (Ranged Tree)) → Lacks bar g → Lacks close_bracket g → Lacks bar (joins g) × Lacks close_bracket (joins g)
unfolding unary quotients product differences sum dots joins excludes meets same_kind
joins_lacks g p q = search (p, q)

operand_lacks : (n : ℕ) → Lacks bar (operand n) × Lacks close_bracket (operand n)
unfolding leaf name argument nested operand excludes meets same_kind
operand_lacks zero = (tt, tt)
operand_lacks (suc n) = let f = operand_lacks n in let j = joins_lacks (operand n) f.0 f.1 in search (f, j, leaf_lacks)

list_lacks : (n : ℕ) → Lacks bar (list n) × Lacks close_bracket (list n)
list_lacks n = let f = operand_lacks n in joins_lacks (operand n) f.0 f.1

pub list_part : (n : ℕ) → IsListPart (list n)
list_part n = record { fits = list_fits n; full = list_full n; ends = list_ends n; avoids = list_avoids n; bars = (list_lacks n).0; brackets = (list_lacks n).1 }
