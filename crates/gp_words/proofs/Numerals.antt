-- Numbers of the command line.
use Rattle.std.proofs.Common.{◌≡◌, ℕ, ◌<◌, ◌^◌, Bool, true, false, [], ◌∷◌, refl, sym, subst, arith, None}
use Rattle.std.specs.Prelude.{nat_le}
use Rattle.std.specs.Str.{all_ascii_digits}
use Rattle.std.specs.Str.Parse.{IsNumeral, digits_value, without_leading_plus}
use Rattle.std.proofs.lemmas.Bool.{leb-true}
use Rattle.std.proofs.lemmas.Str.Parse.{numerals_by_value, tells_all_ascii_digits, without_leading_plus_none, not_in_digits}
use Rattle.gp_memory.proofs.Basics.{and_right as second}
use Rattle.gp_values.specs.Names.{Name}
use Rattle.gp_words.specs.CommandLine.{is_numeral, is_between, number_between}

-- digits have no plus before them
no_plus : (ds : Name) → is_numeral ds ≡ true → (without_leading_plus ds ≡ ds) × IsNumeral 10 ds
no_plus [] h = absurd cc
no_plus (d ∷ ds) h =
    let m = numerals_by_value (λ t. all_ascii_digits t ≡ true) tells_all_ascii_digits in
    (without_leading_plus_none (d ∷ ds) (not_in_digits m (d ∷ ds) 43 h (λ r. omega (arith, r.0)) 0 (omega arith)), (omega arith, m.to (d ∷ ds) h))

-- what is no number of 64 bits is none that is small enough
pub too_great : (least most : ℕ) (ds : Name) → most < 2 ^ 64 → (IsNumeral 10 (without_leading_plus ds) × (digits_value 10 (without_leading_plus ds) < 2 ^ 64) → ⊥) → number_between least most ds ≡ None
too_great least most ds f n = by_digits (is_numeral ds) refl
  where
    by_size : (b : Bool) → is_numeral ds ≡ true → is_between least most (digits_value 10 ds) ≡ b → number_between least most ds ≡ None
    by_size true h e =
        let p = no_plus ds h in
        let l = leb-true (digits_value 10 ds) most (second (nat_le least (digits_value 10 ds)) (nat_le (digits_value 10 ds) most) e) in
        absurd (n (subst (λ (t : Name). IsNumeral 10 t × (digits_value 10 t < 2 ^ 64)) (sym p.0) (p.1, omega arith)))
    by_size false h e = rw (h, e) refl

    by_digits : (b : Bool) → is_numeral ds ≡ b → number_between least most ds ≡ None
    by_digits true h = by_size (is_between least most (digits_value 10 ds)) h refl
    by_digits false h = rw h refl
