-- What is put on a sheet, one after the other.
use Rattle.std.proofs.Common.{◌≡◌, not, if◌then◌else◌, Bool, true, false, ℕ, zero, suc, ◌+◌, ◌<◌, ◌≤◌, List, [], ◌∷◌, ◌++◌, length, get_or, take, refl, sym, ap, subst, ◌∙◌, arith, append_assoc, append-nil, take_all}
use Rattle.std.specs.List.{flat_map}
use Rattle.gp_fmt.specs.declared.piece.Piece.{Piece}
use Rattle.gp_fmt.specs.declared.sheet.Sheet.{Sheet}
use Rattle.gp_fmt.specs.declared.piece.Piece.TheVariants as p
use Rattle.gp_tokens.specs.declared.token.Kind.TheVariants as k
use Rattle.gp_fmt.specs.Expressions.{in_parentheses, in_parentheses_if}
use Rattle.gp_fmt.specs.Commands.{CommandPart, is_call, in_loop}
use Rattle.gp_fmt.specs.inside.Puts.{Puts}

pub nothing : {a : Sheet} → Puts a a []
nothing {a} = record { unrefused = λ e. e; behind = λ e. sym (append-nil a.pieces.items) }

pub and_then : {a b c : Sheet} {ps qs : List Piece} → Puts a b ps → Puts b c qs → Puts a c (ps ++ qs)
and_then {a} {b} {c} {ps} {qs} h k = record {
  unrefused = λ e. h.unrefused (k.unrefused e);
  behind = λ e. k.behind e ∙ ap (λ l. l ++ qs) (h.behind (k.unrefused e)) ∙ append_assoc a.pieces.items ps qs;
}

-- what was put is this, by another name
pub told : {a b : Sheet} {ps qs : List Piece} → qs ≡ ps → Puts a b ps → Puts a b qs
told {a} {b} e h = subst (λ (l : List Piece). Puts a b l) (sym e) h

-- ---- the members of a list, in turn

one_more : {X : Type 0} (f : X → List Piece) (xs : List X) (i : ℕ) (x : X) → i < length xs → x ≡ get_or xs i x → flat_map f (take (suc i) xs) ≡ flat_map f (take i xs) ++ f x
one_more f [] i x lt e = absurd (omega (arith, lt))
one_more f (y ∷ ys) zero x lt e = append-nil (f y) ∙ ap f (sym e)
one_more f (y ∷ ys) (suc i) x lt e = ap (λ l. f y ++ l) (one_more f ys i x (omega (arith, lt)) e) ∙ sym (append_assoc (f y) (flat_map f (take i ys)) (f x))

pub more : {X : Type 0} (f : X → List Piece) (xs : List X) {i : ℕ} {x : X} {a b c : Sheet} → i < length xs → x ≡ get_or xs i x → Puts a b (flat_map f (take i xs)) → Puts b c (f x) → Puts a c (flat_map f (take (i + 1) xs))
more f xs {i} {x} lt e h k =
    let n : i + 1 ≡ suc i = omega arith in
    told (ap (λ n. flat_map f (take n xs)) n ∙ one_more f xs i x lt e) (and_then h k)

pub all : {X : Type 0} (f : X → List Piece) (xs : List X) {i : ℕ} {a b : Sheet} → length xs ≤ i → Puts a b (flat_map f (take i xs)) → Puts a b (flat_map f xs)
all f xs {i} le h = told (ap (flat_map f) (sym (take_all i xs le))) h

-- ---- in parentheses, where they are asked for

pub wrapped : {a b c d : Sheet} {needed : Bool} {ps : List Piece} → needed ≡ true → Puts a b (p.Sign k.OpenParenthesis ∷ []) → Puts b c ps → Puts c d (p.Sign k.CloseParenthesis ∷ []) → Puts a d (in_parentheses_if needed ps)
wrapped {a} {b} {c} {d} {needed} {ps} e opened put closed = told (ap (λ x. in_parentheses_if x ps) e) (and_then opened (and_then put closed))

pub bare : {a b : Sheet} {needed : Bool} {ps : List Piece} → needed ≡ false → Puts a b ps → Puts a b (in_parentheses_if needed ps)
bare {a} {b} {needed} {ps} e put = told (ap (λ x. in_parentheses_if x ps) e) put

pub loop_is : (x : CommandPart) → in_loop x ≡ in_parentheses_if (not (is_call x.form)) x.pieces
loop_is x = by_cases (is_call x.form) where
  by_cases : (b : Bool) → (if b then x.pieces else in_parentheses x.pieces) ≡ in_parentheses_if (not b) x.pieces
  by_cases true = refl
  by_cases false = refl
