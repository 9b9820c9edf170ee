-- Tokens that begin with those of some pieces, and what is read of them.
use Rattle.std.proofs.Common.{◌≡◌, ℕ, true, List, [], ◌∷◌, ◌++◌, refl, subst}
use Rattle.gp_tokens.specs.declared.token.Token.{Token}
use Rattle.gp_tokens.specs.declared.want.Want.{Want}
use Rattle.gp_tokens.specs.Wants.{meets}
use Rattle.gp_tokens.specs.Shape.{Shape, Is, ◌then◌, Made, Either, one, other, Absent, absent, Many, none, more}
use Rattle.gp_fmt.specs.declared.piece.Piece.{Piece}
use Rattle.gp_fmt.specs.Pieces.{kind_of, text_of, AreTokens}
use Rattle.gp_fmt.specs.Pieces as pieces

-- the token of a piece, where it begins
abbrev pub token_at : Piece → ℕ → Token
token_at p start = record { kind = kind_of p; start = start; text = text_of p }

-- the tokens begin with those of the pieces, and the rest stands behind
pub data Printed : List Piece → List Token → List Token → Type 0 where
  done : {ts : List Token} → Printed [] ts ts
  next : {ps : List Piece} {ts rest : List Token} (p : Piece) (start : ℕ) → Printed ps ts rest → Printed (p ∷ ps) (token_at p start ∷ ts) rest

pub printed_whole : (ps : List Piece) (ts : List Token) → AreTokens ps ts → Printed ps ts []
printed_whole _ _ pieces.none = done
printed_whole _ _ (pieces.next {ps = ps} {ts = ts} p start h) = next p start (printed_whole ps ts h)

pub split : (ps qs : List Piece) (ts rest : List Token) → Printed (ps ++ qs) ts rest → (mid : List Token) × Printed ps ts mid × Printed qs mid rest
split [] qs ts rest h = (ts, done, h)
split (_ ∷ ps) qs _ rest (next {ts = ts} p start h) = let s = split ps qs ts rest h in (s.0, next p start s.1, s.2)

-- what is read of the pieces, and what holds of its tree
abbrev pub Takes : {A : Type 0} → List Piece → Shape A → (A → Type 0) → Type 0
Takes {A} ps R Q = (ts rest : List Token) → Printed ps ts rest → (x : A) × R ts rest x × Q x

-- of which nothing is asked
abbrev pub Anything : {A : Type 0} → A → Type 0
Anything x = Unit {0}

-- the pieces are read as just this tree
abbrev pub Reads : {A : Type 0} → List Piece → Shape A → A → Type 0
Reads ps R x = (ts rest : List Token) → Printed ps ts rest → R ts rest x

pub exactly : {A : Type 0} (ps : List Piece) (R : Shape A) (x : A) → Takes ps R (λ y. y ≡ x) → Reads ps R x
exactly ps R x h ts rest p = let t = h ts rest p in subst (R ts rest) t.2 t.1

pub some : {A : Type 0} (ps : List Piece) (R : Shape A) (x : A) → Reads ps R x → Takes ps R (λ y. y ≡ x)
some ps R x h ts rest p = (x, h ts rest p, refl)

pub then_takes : {A B : Type 0} (ps qs : List Piece) (R : Shape A) (S : Shape B) (P : A → Type 0) (Q : B → Type 0) → Takes ps R P → Takes qs S Q → Takes (ps ++ qs) (R then S) (λ x. P x.0 × Q x.1)
then_takes ps qs R S P Q h k ts rest p =
    let s = split ps qs ts rest p in
    let a = h ts s.0 s.1 in
    let b = k s.0 rest s.2 in
    ((a.0, b.0), record { mid = s.0; first = a.1; second = b.1 }, (a.2, b.2))

pub then_reads : {A B : Type 0} (ps qs : List Piece) (R : Shape A) (S : Shape B) (x : A) (y : B) → Reads ps R x → Reads qs S y → Reads (ps ++ qs) (R then S) (x, y)
then_reads ps qs R S x y h k ts rest p = let s = split ps qs ts rest p in record { mid = s.0; first = h ts s.0 s.1; second = k s.0 rest s.2 }

pub made_takes : {A B : Type 0} (ps : List Piece) (f : A → B) (R : Shape A) (P : A → Type 0) (Q : B → Type 0) → ((x : A) → P x → Q (f x)) → Takes ps R P → Takes ps (Made f R) Q
made_takes ps f R P Q into h ts rest p = let a = h ts rest p in (f a.0, record { of = a.0; shape = a.1; made = refl }, into a.0 a.2)

-- as just this tree, whatever tokens it is made of
pub made_into : {A B : Type 0} (ps : List Piece) (f : A → B) (R : Shape A) (P : A → Type 0) (y : B) → ((x : A) → P x → f x ≡ y) → Takes ps R P → Reads ps (Made f R) y
made_into ps f R P y into h = exactly ps (Made f R) y (made_takes ps f R P (λ z. z ≡ y) into h)

pub made_reads : {A B : Type 0} (ps : List Piece) (f : A → B) (R : Shape A) (x : A) → Reads ps R x → Reads ps (Made f R) (f x)
made_reads ps f R x h ts rest p = record { of = x; shape = h ts rest p; made = refl }

pub one_takes : {A : Type 0} (ps : List Piece) (R S : Shape A) (Q : A → Type 0) → Takes ps R Q → Takes ps (Either R S) Q
one_takes ps R S Q h ts rest p = let a = h ts rest p in (a.0, one a.1, a.2)

pub other_takes : {A : Type 0} (ps : List Piece) (R S : Shape A) (Q : A → Type 0) → Takes ps S Q → Takes ps (Either R S) Q
other_takes ps R S Q h ts rest p = let a = h ts rest p in (a.0, other a.1, a.2)

pub one_reads : {A : Type 0} (ps : List Piece) (R S : Shape A) (x : A) → Reads ps R x → Reads ps (Either R S) x
one_reads ps R S x h ts rest p = one (h ts rest p)

pub other_reads : {A : Type 0} (ps : List Piece) (R S : Shape A) (x : A) → Reads ps S x → Reads ps (Either R S) x
other_reads ps R S x h ts rest p = other (h ts rest p)

pub absent_reads : {A : Type 0} (x : A) → Reads [] (Absent x) x
absent_reads x ts _ done = absent

pub none_reads : {A : Type 0} (R : Shape A) → Reads [] (Many R) []
none_reads R ts _ done = none

pub more_reads : {A : Type 0} (ps qs : List Piece) (R : Shape A) (x : A) (xs : List A) → Reads ps R x → Reads qs (Many R) xs → Reads (ps ++ qs) (Many R) (x ∷ xs)
more_reads ps qs R x xs h k ts rest p = let s = split ps qs ts rest p in more (h ts s.0 s.1) (k s.0 rest s.2)

-- one token that is wanted
pub sign_takes : (p : Piece) (want : Want) → ((start : ℕ) → meets want (token_at p start) ≡ true) → Takes (p ∷ []) (Is want) Anything
sign_takes _ want h _ _ (next {ts = ts} p start done) = (token_at p start, record { front = refl; is = h start }, tt)

-- a token that is wanted, and what is behind it
pub behind_takes : {B : Type 0} (p : Piece) (qs : List Piece) (want : Want) (S : Shape B) (Q : B → Type 0) → ((start : ℕ) → meets want (token_at p start) ≡ true) → Takes qs S Q
    → Takes (p ∷ qs) (Is want then S) (λ x. Q x.1)
behind_takes _ qs want S Q m h _ rest (next {ts = ts} p start k) = let b = h ts rest k in ((token_at p start, b.0), record { mid = ts; first = record { front = refl; is = m start }; second = b.1 }, b.2)
