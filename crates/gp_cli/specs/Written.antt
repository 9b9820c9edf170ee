-- What stands on a sink after the call.
use Rattle.std.specs.Prelude.{◌≡◌, ℕ, List, ◌∷◌, ◌++◌, length, take}
use Rattle.gp_io.specs.Outside.{KnownSink, Gains, Rose, piece_of, raised, raised_by}

-- On out the journal is one piece, and behind it the result is one. An empty text is no piece.
abbrev pub out_pieces : List ℕ → List ℕ → List (List ℕ)
out_pieces journal result = piece_of journal ++ piece_of result

-- each of these pieces went out whole, in one write each, and no write failed
pub record TakesAll (old new : KnownSink) (pieces : List (List ℕ)) : Type 0 where
  pub gains : Gains old new pieces
  pub counted : new.writes ≡ raised_by (length pieces) old.writes
  pub faultless : new.faults ≡ old.faults

-- Some of these pieces went out whole, in one write each. Then the write of the next failed: of that piece a beginning went
-- out, and of those behind it nothing.
pub record IsCutShort (old new : KnownSink) (pieces : List (List ℕ)) : Type 0 where
  pub whole : List (List ℕ)
  pub next : List ℕ
  pub unwritten : List (List ℕ)
  pub are : pieces ≡ whole ++ next ∷ unwritten
  pub bytes : ℕ
  pub gains : Gains old new (whole ++ piece_of (take bytes next))
  pub counted : new.writes ≡ raised (raised_by (length whole) old.writes)
  pub rose : Rose old.faults new.faults
