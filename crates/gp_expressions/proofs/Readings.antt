-- What is made of what was read.
use Rattle.std.proofs.Common.{◌≡◌, Bool, true, false, List, [], ◌∷◌, Option, Some, None, refl, subst}
use Rattle.std.specs.Prelude.{if◌then◌else◌}
use Rattle.gp_tokens.specs.declared.token.Token.{Token}
use Rattle.gp_tokens.specs.declared.error.ReadError.{ReadError}
use Rattle.gp_tokens.specs.declared.error.ReadError.TheVariants as error
use Rattle.gp_tokens.specs.declared.want.Want.{Want}
use Rattle.gp_tokens.specs.Ahead.{◌>>=◌}
use Rattle.gp_tokens.specs.Wants.{meets}
use Rattle.gp_tokens.specs.Reading.{Reader, Fails, token, begins, behind, ◌and◌, made}

pub still_fails : {A B : Type 0} (e : ReadError) (read : Option A) (f : A → Option B) → Fails e read → Fails e (read >>= f)
still_fails error.NoMemory read f h = h
still_fails (error.Syntax k) read f h = rw h refl

-- ---- where a part fails, the whole does

pub part_fails : {A B : Type 0} (f : A → B) (r : Reader A) (ts : List Token) (e : ReadError) → Fails e (r ts) → Fails e (made f r ts)
part_fails {B = B} f r ts e h = still_fails {B = B × List Token} e (r ts) (λ x. Some (f x.0, x.1)) h

pub first_fails : {A B : Type 0} (r : Reader A) (s : Reader B) (ts : List Token) (e : ReadError) → Fails e (r ts) → Fails e ((r and s) ts)
first_fails {A = A} {B = B} r s ts e h = still_fails {B = (A × B) × List Token} e (r ts) (λ x. ◌>>=◌ {B = (A × B) × List Token} (s x.1) (λ y. Some ((x.0, y.0), y.1))) h

pub later_fails : {A B : Type 0} (r : Reader A) (s : Reader B) (ts rest : List Token) (x : A) (e : ReadError) → r ts ≡ Some (x, rest) → Fails e (s rest) → Fails e ((r and s) ts)
later_fails {A = A} {B = B} r s ts rest x e p h = rw p (still_fails {B = (A × B) × List Token} e (s rest) (λ y. Some ((x, y.0), y.1)) h)

-- behind a sign, which is there
pub sign_fails : {B : Type 0} (w : Want) (s : Reader B) (ts rest : List Token) (e : ReadError) → begins w ts ≡ true → rest ≡ behind w ts → Fails e (s rest) → Fails e ((token w and s) ts)
sign_fails w s [] rest e b l h = absurd cc
sign_fails {B = B} w s (t ∷ ts) rest e b l h = by (meets w t) b l
  where
    by : (v : Bool) → v ≡ true → rest ≡ (if v then ts else t ∷ ts) → Fails e (◌>>=◌ {A = Token × List Token} {B = (Token × B) × List Token} (if v then Some (t, ts) else None) (λ x. ◌>>=◌ {B = (Token × B) × List Token} (s x.1) (λ y. Some ((x.0, y.0), y.1))))
    by true q k = still_fails {B = (Token × B) × List Token} e (s ts) (λ y. Some ((t, y.0), y.1)) (subst (λ us. Fails e (s us)) k h)
    by false q k = absurd cc
