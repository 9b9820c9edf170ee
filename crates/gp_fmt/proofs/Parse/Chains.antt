-- A chain of one operator is read again.
use Rattle.std.proofs.Common.{◌≡◌, ℕ, true, List, [], ◌∷◌, ◌++◌, map, flat_map, refl, subst}
use Rattle.std.specs.List.{AllByRecursion}
use Rattle.gp_tokens.specs.declared.token.Token.{Token}
use Rattle.gp_tokens.specs.declared.want.Want.{Want}
use Rattle.gp_tokens.specs.Wants.{meets}
use Rattle.gp_tokens.specs.Shape.{Shape, Is, ◌then◌, Made, Many, none, Separated, second_of, list_of}
use Rattle.gp_expressions.specs.declared.ranged.Ranged.{Ranged}
use Rattle.gp_expressions.specs.Ranges.{whole, both, gathered, chained}
use Rattle.gp_fmt.specs.declared.piece.Piece.{Piece}
use Rattle.gp_fmt.proofs.Parse.Printed.{token_at, Reads, some, made_into, made_reads, behind_takes, none_reads, more_reads, then_reads}
use Rattle.gp_fmt.proofs.Parse.Ranges.{gathered_whole}

pub one_alone : {A : Type 0} (want : Want) (R : Shape A) (ts rest : List Token) (x : A) → R ts rest x → Separated want R ts rest (x ∷ [])
one_alone want R ts rest x h = record { of = (x, []); shape = record { mid = rest; first = h; second = none }; made = refl }

module _ {A B : Type 0} (sign : Piece) (want : Want) (met : (start : ℕ) → meets want (token_at sign start) ≡ true) (R : Shape B) (f : A → List Piece) (t : A → B) where
  -- one more member, behind its sign
  pub behind_sign : (x : A) → Reads (f x) R (t x) → Reads (sign ∷ f x) (Made second_of (Is want then R)) (t x)
  behind_sign x h = made_into (sign ∷ f x) second_of (Is want then R) (λ y. y.1 ≡ t x) (t x) (λ y e. e) (behind_takes sign (f x) want R (λ y. y ≡ t x) met (some (f x) R (t x) h))

  pub behind_signs : (xs : List A) → AllByRecursion (λ x. Reads (f x) R (t x)) xs → Reads (flat_map (λ x. sign ∷ f x) xs) (Many (Made second_of (Is want then R))) (map t xs)
  behind_signs [] h = none_reads _
  behind_signs (x ∷ xs) h = more_reads (sign ∷ f x) (flat_map (λ x. sign ∷ f x) xs) _ (t x) (map t xs) (behind_sign x h.0) (behind_signs xs h.1)

  pub separated_reads : (x : A) (xs : List A) → Reads (f x) R (t x) → AllByRecursion (λ x. Reads (f x) R (t x)) xs → Reads (f x ++ flat_map (λ x. sign ∷ f x) xs) (Separated want R) (t x ∷ map t xs)
  separated_reads x xs h hs =
      made_reads (f x ++ flat_map (λ x. sign ∷ f x) xs) list_of (R then Many (Made second_of (Is want then R))) (t x, map t xs)
      (then_reads (f x) (flat_map (λ x. sign ∷ f x) xs) R (Many (Made second_of (Is want then R))) (t x) (map t xs) h (behind_signs xs hs))

pub chain_reads : {T : Type 0} (empty : T) (make : T → List T → T) (sign : Piece) (want : Want) → ((start : ℕ) → meets want (token_at sign start) ≡ true) → (R : Shape (Ranged T)) (f : T → List Piece)
    (x y : T) (ys : List T) → Reads (f x) R (whole x) → AllByRecursion (λ x. Reads (f x) R (whole x)) (y ∷ ys)
    → Reads (f x ++ flat_map (λ x. sign ∷ f x) (y ∷ ys)) (Made (chained empty make) (Separated want R)) (whole (make x (y ∷ ys)))
chain_reads {T} empty make sign want met R f x y ys h hs =
    let ps : List Piece = f x ++ flat_map (λ x. sign ∷ f x) (y ∷ ys) in
    let one : Reads ps (Made (chained empty make) (Separated want R)) (both make (whole x) (gathered (map whole (y ∷ ys)))) =
    made_reads ps (chained empty make) (Separated want R) (whole x ∷ map whole (y ∷ ys)) (separated_reads sign want met R f whole x (y ∷ ys) h hs) in
    subst (λ (g : Ranged (List T)). Reads ps (Made (chained empty make) (Separated want R)) (both make (whole x) g)) (gathered_whole (y ∷ ys)) one
