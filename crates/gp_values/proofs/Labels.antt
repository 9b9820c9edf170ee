-- A text that was begun is a beginning of each longer text.
use Rattle.std.proofs.Common.{◌≡◌, ℕ, zero, suc, ◌+◌, ◌<◌, List, [], ◌∷◌, ◌++◌, length, get_or, take, drop, refl, sym, ap, subst, ◌∙◌, arith, append_assoc, append-nil, ◌-◌, take_all}
use Rattle.std.specs.Prelude.{codes, Result, Ok, Err, OnErr}
use Rattle.std.specs.List.{flat_map}
use Rattle.std.proofs.lemmas.Grind.{flat_map-append}
use Rattle.std.proofs.lemmas.List.{take_more}
use Rattle.gp_values.specs.declared.atom.Atom.{Atom}
use Rattle.gp_values.specs.Labels.{atom_text, label_text}
use Rattle.gp_values.specs.Texts.{IsBegun}

pub on_err : {T E P : Type 0} (r : Result T E) → P → OnErr r P
on_err (Ok x) p = tt
on_err (Err e) p = p

-- nothing was written
pub begun_none : (a old new : List ℕ) → new ≡ old → IsBegun a old new
begun_none a old new e = record {
  written = [];
  unwritten = a;
  text_is = refl;
  new_is = e ∙ sym (append-nil old);
}

pub begun_longer : (a b old new : List ℕ) → IsBegun a old new → IsBegun (a ++ b) old new
begun_longer a b old new h = record {
  written = h.written;
  unwritten = h.unwritten ++ b;
  text_is = rw h.text_is (append_assoc h.written h.unwritten b);
  new_is = h.new_is;
}

pub begun_after : (a b old mid new : List ℕ) → mid ≡ old ++ a → IsBegun b mid new → IsBegun (a ++ b) old new
begun_after a b old mid new e h = record {
  written = a ++ h.written;
  unwritten = h.unwritten;
  text_is = rw h.text_is (sym (append_assoc a h.written h.unwritten));
  new_is = h.new_is ∙ ap (λ m. m ++ h.written) e ∙ append_assoc old a h.written;
}

pieces : {X : Type 0} (f : X → List ℕ) (xs : List X) (i : ℕ) (d : X) → i < length xs → flat_map f xs ≡ flat_map f (take i xs) ++ (f (get_or xs i d) ++ flat_map f (drop (i + 1) xs))
pieces f [] i d h = absurd (omega arith)
pieces f (x ∷ xs) zero d h = refl
pieces f (x ∷ xs) (suc i) d h =
    let e : suc i + 1 ≡ suc (i + 1) = omega arith in
    rw e (ap (λ r. f x ++ r) (pieces f xs i d (omega arith)) ∙ sym (append_assoc (f x) (flat_map f (take i xs)) (f (get_or xs i d) ++ flat_map f (drop (i + 1) xs))))

pieces_more : {X : Type 0} (f : X → List ℕ) (xs : List X) (i : ℕ) (d : X) → i < length xs → flat_map f (take (i + 1) xs) ≡ flat_map f (take i xs) ++ f (get_or xs i d)
pieces_more f xs i d h = ap (flat_map f) (take_more xs i d h) ∙ flat_map-append f (take i xs) (get_or xs i d ∷ []) ∙ ap (λ z. flat_map f (take i xs) ++ z) (append-nil (f (get_or xs i d)))

-- one piece more
pub piece_on : {X : Type 0} (f : X → List ℕ) (xs : List X) (i : ℕ) (x : X) (old mid new : List ℕ) → i < length xs → x ≡ get_or xs i x → mid ≡ old ++ flat_map f (take i xs) → new ≡ mid ++ f x → new ≡ old ++ flat_map f (take (i + 1) xs)
piece_on f xs i x old mid new h is before e =
    e ∙ ap (λ z. z ++ f x) before ∙ append_assoc old (flat_map f (take i xs)) (f x)
    ∙ ap (λ z. old ++ (flat_map f (take i xs) ++ f z)) is ∙ ap (λ z. old ++ z) (sym (pieces_more f xs i x h))

-- a refused write of one piece, after those before it
pub begun_at : {X : Type 0} (f : X → List ℕ) (xs : List X) (i : ℕ) (x : X) (old mid new : List ℕ) → i < length xs → x ≡ get_or xs i x → mid ≡ old ++ flat_map f (take i xs) → IsBegun (f x) mid new → IsBegun (flat_map f xs) old new
begun_at f xs i x old mid new h is before begun =
    subst (λ t. IsBegun t old new) (sym (pieces f xs i x h))
    (begun_after (flat_map f (take i xs)) (f (get_or xs i x) ++ flat_map f (drop (i + 1) xs)) old mid new before
    (begun_longer (f (get_or xs i x)) (flat_map f (drop (i + 1) xs)) mid new (subst (λ y. IsBegun (f y) mid new) is begun)))

-- the text of a label that is not empty, by its first atom and the rest
pub label_text-first : (v : List Atom) (x : Atom) → 0 < length v → x ≡ get_or v 0 x → label_text v ≡ atom_text x ++ flat_map (λ y. codes ":" ++ atom_text y) (take (length v - 1) (drop 1 v))
label_text-first [] x h is = absurd (omega arith)
label_text-first (y ∷ ys) x h is =
    rw (is, take_all (length (y ∷ ys) - 1) ys (omega arith)) refl
