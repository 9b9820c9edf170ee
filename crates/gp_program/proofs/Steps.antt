-- A part that was read stands before the rest.
use Rattle.std.proofs.Common.{◌≡◌, List, Option, Some, None, refl, ◌∙◌}
use Rattle.gp_tokens.specs.declared.token.Token.{Token}
use Rattle.gp_tokens.specs.Ahead.{◌>>=◌}
use Rattle.gp_tokens.specs.Reading.{Reader, ◌and◌, made}

pub step : {A B C : Type 0} (f : A × B → C) (r : Reader A) (s : Reader B) (tokens rest : List Token) (x : A) → r tokens ≡ Some (x, rest) → made f (r and s) tokens ≡ made (λ y. f (x, y)) s rest
step {B = B} {C = C} f r s tokens rest x e = rw e (behind (s rest))
  where
    behind : (read : Option (B × List Token)) → (◌>>=◌ {B = C × List Token} (◌>>=◌ {B = (_ × B) × List Token} read (λ y. Some ((x, y.0), y.1))) (λ z. Some (f z.0, z.1))) ≡ (read >>= λ y. Some (f (x, y.0), y.1))
    behind None = refl
    behind (Some y) = refl

pub three : {A B C D E : Type 0} (f : A × (B × (C × D)) → E) (a : Reader A) (b : Reader B) (c : Reader C) (d : Reader D) (t u v w : List Token) (x : A) (y : B) (z : C)
    → a t ≡ Some (x, u) → b u ≡ Some (y, v) → c v ≡ Some (z, w) → made f (a and (b and (c and d))) t ≡ made (λ r. f (x, (y, (z, r)))) d w
three {B = B} {C = C} {D = D} f a b c d t u v w x y z p q r =
    step f a (b and (c and d)) t u x p ∙ (step (λ (i : B × (C × D)). f (x, i)) b (c and d) u v y q ∙ step (λ (i : C × D). f (x, (y, i))) c d v w z r)

pub four : {A B C D E F : Type 0} (f : A × (B × (C × (D × E))) → F) (a : Reader A) (b : Reader B) (c : Reader C) (d : Reader D) (e : Reader E) (s t u v w : List Token) (x : A) (y : B) (z : C) (o : D)
    → a s ≡ Some (x, t) → b t ≡ Some (y, u) → c u ≡ Some (z, v) → d v ≡ Some (o, w) → made f (a and (b and (c and (d and e)))) s ≡ made (λ r. f (x, (y, (z, (o, r))))) e w
four {B = B} {C = C} {D = D} {E = E} f a b c d e s t u v w x y z o p q r k =
    step f a (b and (c and (d and e))) s t x p ∙ three (λ (i : B × (C × (D × E))). f (x, i)) b c d e t u v w y z o q r k
