-- Cutting goes on behind the token that was cut.
use Rattle.std.proofs.Common.{◌≡◌, ◌≢◌, ℕ, zero, suc, ◌+◌, ◌^◌, ◌<◌, List, [], ◌∷◌, length, take, drop, Some, None, Ok, Err, refl, sym, ap, ◌∙◌, arith}
use Rattle.std.specs.Prelude.{slice_get, Option, MatchOption}
use Rattle.std.proofs.lemmas.List.{append-nil}
use Rattle.gp_tokens.specs.declared.fault.LexFault.{LexFault}
use Rattle.gp_tokens.specs.declared.fault.LexFault.TheVariants as fault
use Rattle.gp_tokens.specs.declared.front.First.TheVariants as f
use Rattle.gp_tokens.specs.declared.token.Kind.{Kind}
use Rattle.gp_tokens.specs.declared.token.Token.{Token}
use Rattle.gp_tokens.specs.Front.{front}
use Rattle.gp_tokens.specs.Lexed.{Outcome, Fails, with_front, lexed, tokens_of}
use Rattle.gp_tokens.specs.inside.Cutting.{tokens_in, HasTokens, HasCount}
use Rattle.gp_tokens.proofs.Steps.{token, token_on, fault_on, fails}

cut : (whole o : Outcome) (t : Token) → whole ≡ Ok (tokens_in whole) → whole ≡ with_front (t ∷ []) o → ((t ∷ tokens_in o) ≡ tokens_in whole) × (o ≡ Ok (tokens_in o))
cut whole (Ok more) t h e = (rw e refl, refl)
cut whole (Err fault) t h e = let both : Err fault ≡ Ok (tokens_in whole) = sym e ∙ h in absurd cc

-- the token that stands at the front is the next one, and behind it no fault is met
pub cut_on : (whole : Outcome) (at len : ℕ) (kind : Kind) (z : List ℕ) → whole ≡ Ok (tokens_in whole) → lexed 0 at z ≡ whole → 0 < length z → 0 < len → f.Token kind len ≡ front at z
    → ((token kind at (take len z) ∷ tokens_in (lexed 0 (at + len) (drop len z))) ≡ tokens_in whole) × HasTokens (at + len) (drop len z)
cut_on whole at len kind z h w some lt e = cut whole (lexed 0 (at + len) (drop len z)) (token kind at (take len z)) h (sym w ∙ token_on at len kind z some lt e)

-- no fault stands at the front
pub no_fault : (whole : Outcome) (at : ℕ) (e : LexFault) (z : List ℕ) → whole ≡ Ok (tokens_in whole) → lexed 0 at z ≡ whole → 0 < length z → f.Fault e ≡ front at z → ⊥
no_fault whole at e z h w some q = let both : Err e ≡ Ok (tokens_in whole) = sym (fault_on at e z some q) ∙ w ∙ h in cc

-- a fault that is told is the outcome
pub fault_is : (e : LexFault) (outcome : Outcome) → Fails e outcome → e ≢ fault.NoMemory → outcome ≡ Err e
fault_is fault.NoMemory outcome h n = absurd (n refl)
fault_is (fault.BadByte at) outcome h n = h
fault_is (fault.OpenString at) outcome h n = h
fault_is (fault.OpenComment at) outcome h n = h
fault_is (fault.NumberTooLong at) outcome h n = h

-- the fault that stands at the front is the outcome, whatever was counted before
pub stuck_at : (before : List Token) (at : ℕ) (z text : List ℕ) (e : LexFault) → 0 < length z → f.Fault e ≡ front at z → with_front before (lexed 0 at z) ≡ lexed 0 0 text → Fails e (tokens_of text)
stuck_at before at z text e some q h = fails e (tokens_of text) (sym h ∙ ap (with_front before) (fault_on at e z some q))

-- at the end of the text all that were counted are its tokens
pub all_counted : (before : List Token) (at count : ℕ) (z text : List ℕ) → length z ≡ 0 → length before ≡ count → length text < 2 ^ 32 → with_front before (lexed 0 at z) ≡ lexed 0 0 text → HasCount text count
all_counted before at count [] text none counted fits h =
    let e : lexed 0 0 text ≡ Ok before = sym h ∙ ap (λ (ts : List Token). Ok ts) (append-nil before) in
    record { fits = fits; faultless = rw e refl; counted = rw e (sym counted) }
all_counted before at count (b ∷ z) text none counted fits h = absurd (omega arith)

-- the token at a place is the first of those from there on
pub place_some : (place : ℕ) (tokens rest : List Token) (t : Token) → drop place tokens ≡ t ∷ rest → slice_get tokens place ≡ Some t
place_some zero [] rest t h = absurd cc
place_some zero (u ∷ tokens) rest t h = ap (λ (us : List Token). slice_get us 0) h
place_some (suc place) [] rest t h = absurd cc
place_some (suc place) (u ∷ tokens) rest t h = place_some place tokens rest t h

pub place_none : (place : ℕ) (tokens : List Token) → drop place tokens ≡ [] → slice_get tokens place ≡ None
place_none zero [] h = refl
place_none zero (u ∷ tokens) h = absurd cc
place_none (suc place) [] h = refl
place_none (suc place) (u ∷ tokens) h = place_none place tokens h

-- one step further
drop_one : (n : ℕ) (tokens rest : List Token) (t : Token) → drop n tokens ≡ t ∷ rest → rest ≡ drop (suc n) tokens
drop_one zero [] rest t h = absurd cc
drop_one zero (u ∷ tokens) rest t h = sym (ap (λ (us : List Token). drop 1 us) h)
drop_one (suc n) [] rest t h = absurd cc
drop_one (suc n) (u ∷ tokens) rest t h = drop_one n tokens rest t h

drop_none : (n : ℕ) (tokens : List Token) → drop n tokens ≡ [] → [] ≡ drop (suc n) tokens
drop_none zero [] h = refl
drop_none zero (u ∷ tokens) h = absurd cc
drop_none (suc n) [] h = refl
drop_none (suc n) (u ∷ tokens) h = drop_none n tokens h

pub stepped : (n : ℕ) (tokens left new : List Token) (o : Option Token) → left ≡ drop n tokens → MatchOption o ((left ≡ []) × (new ≡ [])) (λ t. left ≡ t ∷ new) → new ≡ drop (suc n) tokens
stepped n tokens left new None h m = rw m.1 (drop_none n tokens (sym h ∙ m.0))
stepped n tokens left new (Some t) h m = drop_one n tokens new t (sym h ∙ m)
