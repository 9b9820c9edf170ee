-- What holds of the cuts and the first faults of texts, and that `tokens_of` is one or the other.
use Rattle.std.specs.Prelude.{◌≡◌, ◌⊎◌, ℕ, List, Ok, Err}
use Rattle.gp_tokens.specs.declared.fault.LexFault.{LexFault}
use Rattle.gp_tokens.specs.declared.token.Token.{Token}
use Rattle.gp_tokens.specs.Cut.{IsCutOf, IsFaultOf}
use Rattle.gp_tokens.specs.Lexed.{tokens_of}

-- A text has at most one cut into tokens.
abbrev pub TextsHaveOneCut : Type 0
TextsHaveOneCut = (text : List ℕ) (one other : List Token) → IsCutOf text one → IsCutOf text other → one ≡ other

-- A text has at most one first fault.
abbrev pub TextsHaveOneFault : Type 0
TextsHaveOneFault = (text : List ℕ) (one other : LexFault) → IsFaultOf text one → IsFaultOf text other → one ≡ other

-- A text with a fault has no cut.
abbrev pub FaultsExcludeCuts : Type 0
FaultsExcludeCuts = (text : List ℕ) (tokens : List Token) (fault : LexFault) → IsFaultOf text fault → IsCutOf text tokens → ⊥

-- A text has a cut or a fault.
abbrev pub TextsHaveCutOrFault : Type 0
TextsHaveCutOrFault = (text : List ℕ) → ((tokens : List Token) × IsCutOf text tokens) ⊎ ((fault : LexFault) × IsFaultOf text fault)

-- The tokens of a text are those of its cut, exactly.
pub record TokensAreTheCut : Type 0 where
  pub are_cut : (text : List ℕ) (tokens : List Token) → tokens_of text ≡ Ok tokens → IsCutOf text tokens
  pub are_found : (text : List ℕ) (tokens : List Token) → IsCutOf text tokens → tokens_of text ≡ Ok tokens

-- A text is refused with its first fault, exactly.
pub record RefusalsAreTheFault : Type 0 where
  pub is_fault : (text : List ℕ) (fault : LexFault) → tokens_of text ≡ Err fault → IsFaultOf text fault
  pub is_found : (text : List ℕ) (fault : LexFault) → IsFaultOf text fault → tokens_of text ≡ Err fault
