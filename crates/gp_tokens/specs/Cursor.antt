-- What a reader over a cursor ensures.
use Rattle.std.specs.Prelude.{◌≡◌, List, Option, Some, Result, Ok, Err}
use denote.Ref.{MutBor}
use Rattle.gp_tokens.specs.declared.token.Token.{Token}
use Rattle.gp_tokens.specs.declared.error.ReadError.{ReadError}
use Rattle.gp_tokens.specs.Reading.{Fails}

-- What is read is the result, before the tokens that are left. Behind an error nothing is said of these.
abbrev pub ReadsAs : {X Y : Type 0} → (X → Y) → Option (Y × List Token) → Result X ReadError → List Token → Type 0
ReadsAs view read (Ok x) left = read ≡ Some (view x, left)
ReadsAs view read (Err e) left = Fails e read

abbrev pub Reads : {X : Type 0} → Option (X × List Token) → Result X ReadError → List Token → Type 0
Reads read result left = ReadsAs (λ x. x) read result left

-- Each call of a function, with this beside the tokens, reads what the reading function reads.
pub record IsReading {C T : Type 0} (post : MutBor (List Token) → C → Result T ReadError → MutBor (List Token) → Type 0) (inside : C) (one : List Token → Option (T × List Token)) : Type 0 where
  pub reads : (old new : MutBor (List Token)) (r : Result T ReadError) → post old inside r new → Reads (one old.now) r new.now
