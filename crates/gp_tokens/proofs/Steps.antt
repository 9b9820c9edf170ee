-- Lexing goes on behind what stands at the front.
use Rattle.std.proofs.Common.{◌≡◌, ℕ, zero, suc, ◌+◌, ◌-◌, ◌<◌, ◌≤◌, List, [], ◌∷◌, ◌++◌, length, take, drop, Ok, Err, refl, sym, ap, ◌∙◌, append_assoc, arith, length-drop}
use Rattle.std.proofs.lemmas.List.{append-nil, drop_all}
use Rattle.gp_tokens.specs.declared.front.First.TheVariants as f
use Rattle.gp_tokens.specs.declared.fault.LexFault.{LexFault}
use Rattle.gp_tokens.specs.declared.fault.LexFault.TheVariants as fault
use Rattle.gp_tokens.specs.declared.token.Kind.{Kind}
use Rattle.gp_tokens.specs.declared.token.Token.{Token}
use Rattle.gp_tokens.specs.Front.{front}
use Rattle.gp_tokens.specs.Lexed.{Outcome, with_front, lexed, tokens_of, Fails}

lexed_drop : (n at : ℕ) (z : List ℕ) → lexed n at z ≡ lexed 0 (at + n) (drop n z)
lexed_drop zero at z = let e : at ≡ at + 0 = omega arith in ap (λ k. lexed 0 k z) e
lexed_drop (suc n) at [] = refl
lexed_drop (suc n) at (b ∷ z) = let e : (at + 1) + n ≡ at + suc n = omega arith in lexed_drop n (at + 1) z ∙ ap (λ k. lexed 0 k (drop n z)) e

behind : (len at b : ℕ) (z : List ℕ) → 0 < len → lexed (len - 1) (at + 1) z ≡ lexed 0 (at + len) (drop len (b ∷ z))
behind zero at b z lt = absurd (omega arith)
behind (suc n) at b z lt =
    let one : suc n - 1 ≡ n = omega arith in
    let e : (at + 1) + n ≡ at + suc n = omega arith in
    rw one (lexed_drop n (at + 1) z ∙ ap (λ k. lexed 0 k (drop n z)) e)

pub skip_on : (at len : ℕ) (z : List ℕ) → 0 < length z → 0 < len → f.Skip len ≡ front at z → lexed 0 at z ≡ lexed 0 (at + len) (drop len z)
skip_on at len [] some lt h = absurd (omega arith)
skip_on at len (b ∷ z) some lt h = rw (← h) (behind len at b z lt)

-- the token that stands at the front of this text
abbrev pub token : Kind → ℕ → List ℕ → Token
token kind at text = record { kind = kind; start = at; text = text }

pub token_on : (at len : ℕ) (kind : Kind) (z : List ℕ) → 0 < length z → 0 < len → f.Token kind len ≡ front at z → lexed 0 at z ≡ with_front (token kind at (take len z) ∷ []) (lexed 0 (at + len) (drop len z))
token_on at len kind [] some lt h = absurd (omega arith)
token_on at len kind (b ∷ z) some lt h = rw (← h) (ap (with_front (token kind at (take len (b ∷ z)) ∷ [])) (behind len at b z lt))

pub fault_on : (at : ℕ) (e : LexFault) (z : List ℕ) → 0 < length z → f.Fault e ≡ front at z → lexed 0 at z ≡ Err e
fault_on at e [] some h = absurd (omega arith)
fault_on at e (b ∷ z) some h = rw (← h) refl

pub with_front-with_front : (a b : List Token) (o : Outcome) → with_front a (with_front b o) ≡ with_front (a ++ b) o
with_front-with_front a b (Ok more) = ap (λ (ts : List Token). Ok ts) (sym (append_assoc a b more))
with_front-with_front a b (Err fault) = refl

pub fails : (e : LexFault) (outcome : Outcome) → outcome ≡ Err e → Fails e outcome
fails fault.NoMemory outcome h = tt
fails (fault.BadByte at) outcome h = h
fails (fault.OpenString at) outcome h = h
fails (fault.OpenComment at) outcome h = h
fails (fault.NumberTooLong at) outcome h = h

-- at the end of the text all that was read before is the list
pub whole : (tokens : List Token) (at : ℕ) (text : List ℕ) → length text ≤ at → with_front tokens (lexed 0 at (drop at text)) ≡ lexed 0 0 text → tokens_of text ≡ Ok tokens
whole tokens at text le h =
    let none : drop at text ≡ [] = drop_all at text le in
    let e : with_front tokens (lexed 0 at []) ≡ lexed 0 0 text = rw none at h in
    sym e ∙ ap (λ (ts : List Token). Ok ts) (append-nil tokens)

-- where nothing fits the fault is the outcome, whatever was read before
pub stuck : (tokens : List Token) (at : ℕ) (text : List ℕ) (e : LexFault) → at < length text → f.Fault e ≡ front at (drop at text) → with_front tokens (lexed 0 at (drop at text)) ≡ lexed 0 0 text → lexed 0 0 text ≡ Err e
stuck tokens at text e lt q h =
    let some : 0 < length (drop at text) = omega (arith, length-drop at text) in
    sym h ∙ ap (with_front tokens) (fault_on at e (drop at text) some q)
