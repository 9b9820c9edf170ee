-- Labels are read again, and what stands in parentheses.
use Rattle.std.proofs.Common.{◌≡◌, ℕ, true, List, [], ◌∷◌, ◌++◌, Option, Some, None, refl, ap}
use Rattle.gp_tokens.specs.declared.token.Kind.TheVariants as k
use Rattle.gp_tokens.specs.declared.token.Token.{Token}
use Rattle.gp_tokens.specs.Kinds.{same_kind}
use Rattle.gp_values.specs.Names.{Name}
use Rattle.gp_tokens.specs.declared.want.Want.{Want}
use Rattle.gp_tokens.specs.Wants.{meets}
use Rattle.gp_tokens.specs.Grammar.{shape_of}
use Rattle.gp_tokens.specs.Shape.{Shape, Is, ◌then◌}
use Rattle.gp_tokens.specs.SignWants.{any_word, open_sign, close_sign, hash}
use Rattle.gp_expressions.specs.declared.ranged.Ranged.{Ranged}
use Rattle.gp_expressions.specs.Ranges.{whole}
use Rattle.gp_expressions.specs.Expressions.{Tree, list}
use Rattle.gp_expressions.specs.Conditions.{word_of, mark, label}
use Rattle.gp_fmt.specs.declared.piece.Piece.{Piece}
use Rattle.gp_fmt.specs.declared.piece.Piece.TheVariants as p
use Rattle.gp_fmt.specs.Expressions.{in_parentheses, part_of_expression, expression}
use Rattle.gp_fmt.specs.Expressions as printed
use Rattle.gp_fmt.proofs.Parse.Printed.{Anything, Reads, Takes, some, made_into, one_reads, other_reads, absent_reads, then_reads, then_takes, behind_takes, sign_takes}
use Rattle.gp_fmt.proofs.Parse.Printed as printing
use Rattle.gp_fmt.proofs.Parse.Gives.{Gives, any_token, then_gives, behind_gives, made_gives, either_gives, absent_gives}
use Rattle.gp_fmt.proofs.Parse.Names.{IsNamed, word, name_gives, name_reads}
use Rattle.gp_fmt.proofs.Parse.Rooms.{Roomy, becomes}
use Rattle.gp_fmt.proofs.Parse.Ranges.{InRange}
use Rattle.gp_fmt.proofs.Parse.Spelling.{AreWell, well_append, hash_well}
use Rattle.gp_fmt.proofs.Parse.Parts.{IsGood, as_list}
use Rattle.gp_fmt.proofs.Parse.Expressions.{list_gives}

-- ---- between two signs

module _ (one other : Piece) (first last : Want) (one_met : (start : ℕ) → meets first (printing.token_at one start) ≡ true) (other_met : (start : ℕ) → meets last (printing.token_at other start) ≡ true) where
  pub between_takes : {A : Type 0} (ps : List Piece) (R : Shape A) (P : A → Type 0) → Takes ps R P → Takes (one ∷ ps ++ other ∷ []) (Is first then (R then Is last)) (λ y. P y.1.0 × Anything y.1.1)
  between_takes {A} ps R P h =
      behind_takes one (ps ++ other ∷ []) first (R then Is last) (λ (y : A × Token). P y.0 × Anything y.1) one_met
      (then_takes ps (other ∷ []) R (Is last) P Anything h (sign_takes other last other_met))

pub enclosed_takes : {A : Type 0} (ps : List Piece) (R : Shape A) (x : A) → Reads ps R x → Takes (in_parentheses ps) (Is open_sign then (R then Is close_sign)) (λ y. (y.1.0 ≡ x) × Anything y.1.1)
unfolding meets same_kind
enclosed_takes ps R x h = between_takes (p.Sign k.OpenParenthesis) (p.Sign k.CloseParenthesis) open_sign close_sign (λ start. refl) (λ start. refl) ps R (λ y. y ≡ x) (some ps R x h)

pub between_gives : {A : Type 0} (first last : Want) (R : Shape A) (P : A → Type 0) → Gives R P → Gives (Is first then (R then Is last)) (λ y. P y.1.0 × Anything y.1.1)
between_gives {A} first last R P g = behind_gives first (R then Is last) (λ (y : A × Token). P y.0 × Anything y.1) (then_gives R (Is last) P Anything g (any_token last))

-- ---- labels

pub list_reads : (d : Tree) → IsGood d → Roomy (λ m n. Reads (expression d) (shape_of (list n)) (whole d))
list_reads d h = becomes _ _ (λ m n r. as_list (part_of_expression d) d n r) h.reads

abbrev pub IsMarked : Option Name → Type 0
IsMarked None = Unit {0}
IsMarked (Some w) = IsNamed any_word w

mark_gives : Gives (shape_of mark) IsMarked
unfolding mark
mark_gives =
    either_gives _ _ IsMarked (made_gives word_of _ (λ (x : Token × Name). IsNamed any_word x.1) IsMarked (λ x h. h) (behind_gives hash _ (IsNamed any_word) (name_gives any_word word)))
    (absent_gives None IsMarked tt)

mark_reads : (m : Option Name) → IsMarked m → Reads (printed.mark m) (shape_of mark) m
unfolding mark meets same_kind
mark_reads None h = other_reads _ _ _ _ (absent_reads None)
mark_reads (Some w) h =
    one_reads _ _ _ _ (made_into _ word_of _ (λ (x : Token × Name). x.1 ≡ w) (Some w) (λ x j. ap Some j)
    (behind_takes (p.Sign k.Hash) (p.Name w ∷ []) hash _ (λ x. x ≡ w) (λ start. refl) (some _ _ w (name_reads any_word w h))))

mark_well : (m : Option Name) → IsMarked m → AreWell (printed.mark m)
mark_well None h = tt
mark_well (Some w) h = (hash_well, (h.word, tt))

abbrev pub IsGoodLabel : Ranged Tree × Option Name → Type 0
IsGoodLabel x = InRange IsGood x.0 × IsMarked x.1

pub label_gives : (n : ℕ) → Gives (shape_of (label (list n))) IsGoodLabel
unfolding label
label_gives n = then_gives _ _ (InRange IsGood) IsMarked (list_gives n) mark_gives

pub label_reads : (d : Tree) (w : Option Name) → IsGood d → IsMarked w → Roomy (λ m n. Reads (printed.label d w) (shape_of (label (list n))) (whole d, w))
unfolding label
label_reads d w h j = becomes (λ m n. Reads (expression d) (shape_of (list n)) (whole d)) _ (λ m n r. then_reads (expression d) (printed.mark w) _ _ (whole d) w r (mark_reads w j)) (list_reads d h)

pub label_well : (d : Tree) (w : Option Name) → IsGood d → IsMarked w → AreWell (printed.label d w)
label_well d w h j = well_append (expression d) (printed.mark w) h.well (mark_well w j)
