-- The tokens of a text, or its first fault, as a function. The laws say that it is the cut of `Cut`, or the fault there.
use Rattle.std.specs.Prelude.{◌≡◌, ℕ, zero, suc, ◌+◌, ◌-◌, List, [], ◌∷◌, ◌++◌, take, Result, Ok, Err}
use Rattle.gp_tokens.specs.declared.front.First.{First}
use Rattle.gp_tokens.specs.declared.front.First.TheVariants as f
use Rattle.gp_tokens.specs.declared.fault.LexFault.{LexFault}
use Rattle.gp_tokens.specs.declared.fault.LexFault.TheVariants as fault
use Rattle.gp_tokens.specs.declared.token.Token.{Token}
use Rattle.gp_tokens.specs.Front.{front}
use Rattle.gp_memory.specs.Free.{Free}

-- the tokens, or the fault
abbrev pub Outcome : Type 0
Outcome = Result (List Token) LexFault

abbrev pub with_front : List Token → Outcome → Outcome
with_front tokens (Ok more) = Ok (tokens ++ more)
with_front tokens (Err fault) = Err fault

-- what stands at the front of this text, and then the others
abbrev pub goes_on : First → ℕ → List ℕ → (ℕ → Outcome) → Outcome
goes_on (f.Skip len) at text others = others (len - 1)
goes_on (f.Token kind len) at text others = with_front (record { kind = kind; start = at; text = take len text } ∷ []) (others (len - 1))
goes_on (f.Fault fault) at text others = Err fault

-- The tokens from this offset on. The first number counts the bytes that are left of what stood before.
abbrev pub lexed : ℕ → ℕ → List ℕ → Outcome
lexed left at [] = Ok []
lexed (suc left) at (b ∷ text) = lexed left (at + 1) text
lexed zero at (b ∷ text) = goes_on (front at (b ∷ text)) at (b ∷ text) (λ left. lexed left (at + 1) text)

abbrev pub tokens_of : List ℕ → Outcome
tokens_of text = lexed 0 0 text

-- this fault is the outcome, and want of memory may come at any text
abbrev pub Fails : LexFault → Outcome → Type 0
Fails fault.NoMemory outcome = Free
Fails (fault.BadByte at) outcome = outcome ≡ Err (fault.BadByte at)
Fails (fault.OpenString at) outcome = outcome ≡ Err (fault.OpenString at)
Fails (fault.OpenComment at) outcome = outcome ≡ Err (fault.OpenComment at)
Fails (fault.NumberTooLong at) outcome = outcome ≡ Err (fault.NumberTooLong at)

-- the result is the outcome: these tokens, or this fault
abbrev pub Gives : {X : Type 0} → (X → List Token) → Result X LexFault → Outcome → Type 0
Gives view (Ok tokens) outcome = outcome ≡ Ok (view tokens)
Gives view (Err fault) outcome = Fails fault outcome
