-- A stream of the system, as contracts see the sink over it.
use Rattle.std.specs.Prelude.{ℕ, List, take, Option, None, Result, Ok, Err, refl}
use Rattle.std.specs.Io.KnownBytes.{Appends}
use Rattle.gp_io.specs.Outside.{KnownSink}
use Rattle.gp_io.specs.declared.outside.Failed.{Failed as Fault}
use Rattle.std.specs.Coded.{Coded, code_by, coded×, coded_ℕ}

-- the stream, how many pieces were written to it, and how many of these writes failed
pub record CountedStream (S : Type 0) : Type 0 where
  pub stream : S
  pub writes : ℕ
  pub faults : ℕ

abbrev pub stream_code : {S : Type 0} → Coded S → Coded (CountedStream S)
stream_code {S} code =
    code_by (S × (ℕ × ℕ)) (coded× code (coded× coded_ℕ coded_ℕ)) (λ s. (s.stream, (s.writes, s.faults)))
    (λ p. record { stream = p.0; writes = p.1.0; faults = p.1.1 }) (λ _. refl)

-- what is known of it as of a sink: the counts, and not what was written
abbrev pub known_stream : {S : Type 0} → CountedStream S → KnownSink
known_stream s = record { pieces = None; writes = s.writes; faults = s.faults }

-- what a stream takes of a piece: all of it, or a prefix where the write failed
abbrev pub Takes : Option (List ℕ) → Option (List ℕ) → List ℕ → Result (Unit {0}) Fault → Type 0
Takes old new piece (Ok _) = Appends old new piece
Takes old new piece (Err _) = (n : ℕ) × Appends old new (take n piece)
