-- Lists that are read again.
use Rattle.std.proofs.Common.{◌≡◌, ℕ, true, List, [], ◌∷◌, ◌++◌, map, flat_map, map-id, subst, refl}
use Rattle.std.specs.List.{AllByRecursion}
use Rattle.gp_tokens.specs.declared.token.Kind.TheVariants as k
use Rattle.gp_tokens.specs.Kinds.{same_kind}
use Rattle.gp_values.specs.Names.{Name}
use Rattle.gp_tokens.specs.declared.want.Want.{Want}
use Rattle.gp_tokens.specs.Wants.{meets}
use Rattle.gp_tokens.specs.Grammar.{shape_of}
use Rattle.gp_tokens.specs.Shape.{Shape, Many, Separated}
use Rattle.gp_tokens.specs.SignWants.{comma}
use Rattle.gp_expressions.specs.Expressions.{name}
use Rattle.gp_fmt.specs.declared.piece.Piece.{Piece}
use Rattle.gp_fmt.specs.declared.piece.Piece.TheVariants as p
use Rattle.gp_fmt.specs.Commands.{names, names_behind}
use Rattle.gp_fmt.proofs.Parse.Printed.{token_at, Reads, none_reads, more_reads}
use Rattle.gp_fmt.proofs.Parse.Names.{IsNamed, name_reads}
use Rattle.gp_fmt.proofs.Parse.Chains.{separated_reads}
use Rattle.gp_fmt.proofs.Parse.Spelling.{AreWell, well_flat, all_into, comma_well}

pub many_reads : {A B : Type 0} (R : Shape B) (f : A → List Piece) (t : A → B) (xs : List A) → AllByRecursion (λ x. Reads (f x) R (t x)) xs → Reads (flat_map f xs) (Many R) (map t xs)
many_reads R f t [] h = none_reads R
many_reads R f t (x ∷ xs) h = more_reads (f x) (flat_map f xs) R (t x) (map t xs) h.0 (many_reads R f t xs h.1)

module _ {A : Type 0} (sign : Piece) (want : Want) (met : (start : ℕ) → meets want (token_at sign start) ≡ true) (R : Shape A) (f : A → List Piece) where
  pub separated_same : (x : A) (xs : List A) → Reads (f x) R x → AllByRecursion (λ x. Reads (f x) R x) xs → Reads (f x ++ flat_map (λ x. sign ∷ f x) xs) (Separated want R) (x ∷ xs)
  separated_same x xs h hs = subst (λ (l : List A). Reads (f x ++ flat_map (λ x. sign ∷ f x) xs) (Separated want R) (x ∷ l)) (map-id xs) (separated_reads sign want met R f (λ x. x) x xs h hs)

-- ---- names

pub names_read : (want : Want) (n : Name) (ns : List Name) → IsNamed want n → AllByRecursion (IsNamed want) ns → Reads (names (n ∷ ns)) (Separated comma (shape_of (name want))) (n ∷ ns)
unfolding meets same_kind
names_read want n ns h hs =
    separated_same (p.Sign k.Comma) comma (λ start. refl) (shape_of (name want)) (λ n. p.Name n ∷ []) n ns (name_reads want n h)
    (all_into (IsNamed want) (λ n. Reads (p.Name n ∷ []) (shape_of (name want)) n) (name_reads want) ns hs)

pub names_behind_well : (want : Want) (ns : List Name) → AllByRecursion (IsNamed want) ns → AreWell (names_behind ns)
names_behind_well want ns hs = well_flat (λ n. p.Sign k.Comma ∷ p.Name n ∷ []) ns (all_into (IsNamed want) (λ n. AreWell (p.Sign k.Comma ∷ p.Name n ∷ [])) (λ n h. (comma_well, (h.word, tt))) ns hs)

pub names_well : (want : Want) (ns : List Name) → AllByRecursion (IsNamed want) ns → AreWell (names ns)
names_well want [] hs = tt
names_well want (n ∷ ns) hs = (hs.0.word, names_behind_well want ns hs.1)
