-- The pieces of a tree are well spelled.
use Rattle.std.proofs.Common.{◌≡◌, Bool, true, false, List, [], ◌∷◌, ◌++◌, flat_map, map, refl, ap, arith}
use Rattle.std.specs.List.{AllByRecursion}
use Rattle.gp_tokens.specs.declared.token.Kind.TheVariants as k
use Rattle.gp_fmt.specs.declared.piece.Piece.{Piece}
use Rattle.gp_fmt.specs.declared.piece.Piece.TheVariants as p
use Rattle.gp_fmt.specs.Expressions.{in_parentheses, in_parentheses_if}
use Rattle.gp_fmt.specs.inside.Spelled.{IsWellSpelled}

abbrev pub AreWell : List Piece → Type 0
AreWell ps = AllByRecursion IsWellSpelled ps

pub well_append : (ps qs : List Piece) → AreWell ps → AreWell qs → AreWell (ps ++ qs)
well_append [] qs h j = j
well_append (p ∷ ps) qs h j = (h.0, well_append ps qs h.1 j)

pub well_flat : {A : Type 0} (f : A → List Piece) (xs : List A) → AllByRecursion (λ x. AreWell (f x)) xs → AreWell (flat_map f xs)
well_flat f [] h = tt
well_flat f (x ∷ xs) h = well_append (f x) (flat_map f xs) h.0 (well_flat f xs h.1)

pub all_into : {A : Type 0} (P Q : A → Type 0) → ((x : A) → P x → Q x) → (xs : List A) → AllByRecursion P xs → AllByRecursion Q xs
all_into P Q f [] h = tt
all_into P Q f (x ∷ xs) h = (f x h.0, all_into P Q f xs h.1)

pub flat_map-map : {A B : Type 0} (f : B → List Piece) (g : A → B) (xs : List A) → flat_map f (map g xs) ≡ flat_map (λ x. f (g x)) xs
flat_map-map f g [] = refl
flat_map-map f g (x ∷ xs) = ap (λ l. f (g x) ++ l) (flat_map-map f g xs)

-- ---- signs

pub open_well : IsWellSpelled (p.Sign k.OpenParenthesis)
open_well = (8, omega arith, refl)

pub close_well : IsWellSpelled (p.Sign k.CloseParenthesis)
close_well = (9, omega arith, refl)

pub enclosed_well : (ps : List Piece) → AreWell ps → AreWell (in_parentheses ps)
enclosed_well ps h = (open_well, well_append ps (p.Sign k.CloseParenthesis ∷ []) h (close_well, tt))

pub enclosed_if_well : (b : Bool) (ps : List Piece) → AreWell ps → AreWell (in_parentheses_if b ps)
enclosed_if_well true ps h = enclosed_well ps h
enclosed_if_well false ps h = h

pub colon_well : IsWellSpelled (p.Sign k.Colon)
colon_well = (16, omega arith, refl)

pub dot_well : IsWellSpelled (p.Sign k.Dot)
dot_well = (17, omega arith, refl)

pub plus_well : IsWellSpelled (p.Sign k.Plus)
plus_well = (18, omega arith, refl)

pub minus_well : IsWellSpelled (p.Sign k.Minus)
minus_well = (19, omega arith, refl)

pub star_well : IsWellSpelled (p.Sign k.Star)
star_well = (20, omega arith, refl)

pub slash_well : IsWellSpelled (p.Sign k.Slash)
slash_well = (21, omega arith, refl)

pub comma_well : IsWellSpelled (p.Sign k.Comma)
comma_well = (14, omega arith, refl)

pub hash_well : IsWellSpelled (p.Sign k.Hash)
hash_well = (22, omega arith, refl)

pub less_equal_well : IsWellSpelled (p.Sign k.LessEqual)
less_equal_well = (0, omega arith, refl)

pub greater_equal_well : IsWellSpelled (p.Sign k.GreaterEqual)
greater_equal_well = (1, omega arith, refl)

pub not_equal_well : IsWellSpelled (p.Sign k.NotEqual)
not_equal_well = (2, omega arith, refl)

pub arrow_well : IsWellSpelled (p.Sign k.Arrow)
arrow_well = (3, omega arith, refl)

pub less_well : IsWellSpelled (p.Sign k.Less)
less_well = (4, omega arith, refl)

pub greater_well : IsWellSpelled (p.Sign k.Greater)
greater_well = (5, omega arith, refl)

pub exclamation_well : IsWellSpelled (p.Sign k.Exclamation)
exclamation_well = (6, omega arith, refl)

pub equal_well : IsWellSpelled (p.Sign k.Equal)
equal_well = (7, omega arith, refl)

pub open_bracket_well : IsWellSpelled (p.Sign k.OpenBracket)
open_bracket_well = (10, omega arith, refl)

pub close_bracket_well : IsWellSpelled (p.Sign k.CloseBracket)
close_bracket_well = (11, omega arith, refl)

pub open_brace_well : IsWellSpelled (p.Sign k.OpenBrace)
open_brace_well = (12, omega arith, refl)

pub close_brace_well : IsWellSpelled (p.Sign k.CloseBrace)
close_brace_well = (13, omega arith, refl)

pub semicolon_well : IsWellSpelled (p.Sign k.Semicolon)
semicolon_well = (15, omega arith, refl)

pub bar_well : IsWellSpelled (p.Sign k.Bar)
bar_well = (23, omega arith, refl)
