-- Pieces whose tokens have a shape.
use Rattle.std.proofs.Common.{◌≡◌, ℕ, ◌+◌, true, List, [], ◌∷◌, length, refl}
use Rattle.gp_tokens.specs.declared.token.Kind.{Kind}
use Rattle.gp_tokens.proofs.Steps.{token}
use Rattle.gp_tokens.specs.declared.want.Want.{Want}
use Rattle.gp_tokens.specs.Wants.{meets}
use Rattle.gp_tokens.specs.Shape.{Shape, Is, ◌then◌, Made, Either, one, other, Absent, absent, Many, none, more}
use Rattle.gp_tokens.proofs.Pieces.{Piece, blank, word, tokens_at}

-- From this offset on, the tokens of pieces, up to those of the rest, are a tree of the shape with a property.
pub record Shown {A : Type 0} (R : Shape A) (P : A → Type 0) (ps rest : List Piece) (at : ℕ) : Type 0 where
  pub until : ℕ
  pub tree : A
  pub shape : R (tokens_at at ps) (tokens_at until rest) tree
  pub good : P tree

abbrev pub Shows : {A : Type 0} → Shape A → (A → Type 0) → List Piece → List Piece → Type 0
Shows R P ps rest = (at : ℕ) → Shown R P ps rest at

pub behind_blank : {A : Type 0} (R : Shape A) (P : A → Type 0) (b : ℕ) (ps rest : List Piece) → Shows R P ps rest → Shows R P (blank b ∷ ps) rest
behind_blank R P b ps rest s at = let x = s (at + 1) in record { until = x.until; tree = x.tree; shape = x.shape; good = x.good }

pub before_blank : {A : Type 0} (R : Shape A) (P : A → Type 0) (b : ℕ) (ps rest : List Piece) → Shows R P ps (blank b ∷ rest) → Shows R P ps rest
before_blank R P b ps rest s at = let x = s at in record { until = x.until + 1; tree = x.tree; shape = x.shape; good = x.good }

pub is_shows : (want : Want) (kind : Kind) (text : List ℕ) (rest : List Piece) → ((at : ℕ) → meets want (token kind at text) ≡ true) → Shows (Is want) (λ t. t.text ≡ text) (word kind text ∷ rest) rest
is_shows want kind text rest h at = record { until = at + length text; tree = token kind at text; shape = record { front = refl; is = h at }; good = refl }

pub then_shows : {A B : Type 0} (R : Shape A) (S : Shape B) (P : A → Type 0) (Q : B → Type 0) (ps mid rest : List Piece) → Shows R P ps mid → Shows S Q mid rest → Shows (R then S) (λ (p : A × B). P p.0 × Q p.1) ps rest
then_shows R S P Q ps mid rest r s at =
    let x = r at in
    let y = s x.until in
    record { until = y.until; tree = (x.tree, y.tree); shape = record { mid = tokens_at x.until mid; first = x.shape; second = y.shape }; good = (x.good, y.good) }

pub made_shows : {A B : Type 0} (f : A → B) (R : Shape A) (P : A → Type 0) (Q : B → Type 0) (ps rest : List Piece) → ((x : A) → P x → Q (f x)) → Shows R P ps rest → Shows (Made f R) Q ps rest
made_shows f R P Q ps rest h r at = let x = r at in record { until = x.until; tree = f x.tree; shape = record { of = x.tree; shape = x.shape; made = refl }; good = h x.tree x.good }

pub one_shows : {A : Type 0} (R S : Shape A) (P : A → Type 0) (ps rest : List Piece) → Shows R P ps rest → Shows (Either R S) P ps rest
one_shows R S P ps rest r at = let x = r at in record { until = x.until; tree = x.tree; shape = one x.shape; good = x.good }

pub other_shows : {A : Type 0} (R S : Shape A) (P : A → Type 0) (ps rest : List Piece) → Shows S P ps rest → Shows (Either R S) P ps rest
other_shows R S P ps rest s at = let x = s at in record { until = x.until; tree = x.tree; shape = other x.shape; good = x.good }

pub absent_shows : {A : Type 0} (x : A) (P : A → Type 0) (ps : List Piece) → P x → Shows (Absent x) P ps ps
absent_shows x P ps h at = record { until = at; tree = x; shape = absent; good = h }

-- the trees have the properties of the items, in their order
abbrev pub Match : {X A : Type 0} → (X → A → Type 0) → List X → List A → Type 0
Match P [] [] = Unit {0}
Match P [] (a ∷ trees) = ⊥
Match P (x ∷ xs) [] = ⊥
Match P (x ∷ xs) (a ∷ trees) = P x a × Match P xs trees

pub none_shows : {X A : Type 0} (R : Shape A) (P : X → A → Type 0) (ps : List Piece) → Shows (Many R) (Match P []) ps ps
none_shows R P ps at = record { until = at; tree = []; shape = none; good = tt }

pub more_shows : {X A : Type 0} (R : Shape A) (P : X → A → Type 0) (x : X) (xs : List X) (ps mid rest : List Piece) → Shows R (P x) ps mid → Shows (Many R) (Match P xs) mid rest → Shows (Many R) (Match P (x ∷ xs)) ps rest
more_shows R P x xs ps mid rest r s at =
    let y = r at in
    let ys = s y.until in
    record { until = ys.until; tree = y.tree ∷ ys.tree; shape = more y.shape ys.shape; good = (y.good, ys.good) }
