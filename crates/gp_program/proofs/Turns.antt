-- Parts that are read in turn.
use Rattle.std.proofs.Common.{◌≡◌, Option, Some, None, refl}
use Rattle.gp_tokens.specs.Ahead.{◌>>=◌}

pub in_turn : {A B C : Type 0} (o : Option A) (f : A → Option B) (g : B → Option C) → ((o >>= f) >>= g) ≡ (o >>= λ x. f x >>= g)
in_turn None f g = refl
in_turn (Some x) f g = refl
