-- What a read and a write may answer, by what is known of the files' content and of what was written.
use Rattle.std.specs.Prelude.{◌≡◌, ◌⊎◌, ℕ, zero, suc, ◌+◌, ◌-◌, ◌^◌, ◌≤◌, ◌<◌, min, List, [], ◌∷◌, ◌++◌, length, take, Option, Some, None, IfSome, IsSomeAnd, Result, Ok, Err}
use Rattle.std.specs.Option.{option_map}
use Rattle.std.specs.Ordering.{nat_cmp}
use Rattle.std.specs.Cmp.Lexicographic.{slice_cmp}
use Rattle.std.specs.FinMap as map
use Rattle.std.specs.declared.vec.Vec.{Vec}
use Rattle.std.specs.declared.alloc.Global.{Global}
use Rattle.gp_io.specs.declared.outside.Failed.{Failed as Fault}
use Rattle.gp_io.specs.declared.outside.ReadRefusal.{ReadRefusal}
use Rattle.gp_io.specs.declared.outside.ReadRefusal.TheVariants as refusal

-- from the names of files to their bytes
abbrev pub Content : Type 0
Content = map.FinMap (slice_cmp nat_cmp) (List ℕ)

-- what is known of files: their content, where that is known, and how often a read failed
pub record KnownFiles : Type 0 where
  pub content : Option Content
  pub faults : ℕ

-- what is known of a sink: the pieces that went out, in order, where these are known, how many writes there were, and how
-- many of them failed; what was written is the pieces one after another
pub record KnownSink : Type 0 where
  pub pieces : Option (List (List ℕ))
  pub writes : ℕ
  pub faults : ℕ

-- a count after one more, which stays at its last value
abbrev pub raised : ℕ → ℕ
raised count = min (count + 1) (2 ^ 64 - 1)

-- after so many more
abbrev pub raised_by : ℕ → ℕ → ℕ
raised_by zero count = count
raised_by (suc more) count = raised_by more (raised count)

-- the count of faults rose, or stands at its last value
abbrev pub Rose : ℕ → ℕ → Type 0
Rose before now = raised before ≤ now

-- The file of that name has these bytes. Where the content is not known, this says nothing.
abbrev pub HasFile : Option Content → List ℕ → List ℕ → Type 0
HasFile content name bytes = IfSome content (λ files. map.get files name ≡ Some bytes)

-- The content is known, and no file has that name. Where it is not known, this never holds.
abbrev pub LacksFile : Option Content → List ℕ → Type 0
LacksFile content name = IsSomeAnd content (λ files. map.get files name ≡ None)

-- What a read may answer, by what is known of the files before it and now: all bytes of the file, within the
-- limit; that the file has more; a fault, or a name that the known content lacks; want of memory. The
-- count moves at a fault alone. Where the content is not known, Ok says only that the limit is kept,
-- TooLong says only that no fault was counted, and Failed always has a fault that was counted.
abbrev pub ReadAnswers : KnownFiles → KnownFiles → List ℕ → ℕ → Result (Vec ℕ Global) ReadRefusal → Type 0
ReadAnswers old new name limit (Ok v) = HasFile old.content name v.items × (length v.items ≤ limit) × (new.faults ≡ old.faults)
ReadAnswers old new name limit (Err refusal.TooLong) = (bytes : List ℕ) × HasFile old.content name bytes × (limit < length bytes) × (new.faults ≡ old.faults)
ReadAnswers old new name limit (Err refusal.Failed) = Rose old.faults new.faults ⊎ (LacksFile old.content name × (new.faults ≡ old.faults))
ReadAnswers old new name limit (Err refusal.NoMemory) = new.faults ≡ old.faults

-- the piece that a text is; an empty text is none
abbrev pub piece_of : List ℕ → List (List ℕ)
piece_of [] = []
piece_of (byte ∷ bytes) = (byte ∷ bytes) ∷ []

-- Pieces went out behind those that did before. Where these are not known, this says nothing.
abbrev pub Gains : KnownSink → KnownSink → List (List ℕ) → Type 0
Gains old new pieces = new.pieces ≡ option_map (λ before. before ++ pieces) old.pieces

-- What a write may answer, by what is known of the sink before it and now: the whole piece went out, and the
-- count of faults stayed; or a prefix of it went out, and the count rose.
abbrev pub WriteAnswers : KnownSink → KnownSink → List ℕ → Result (Unit {0}) Fault → Type 0
WriteAnswers old new piece (Ok _) = Gains old new (piece_of piece) × (new.faults ≡ old.faults)
WriteAnswers old new piece (Err _) = (n : ℕ) × Gains old new (piece_of (take n piece)) × Rose old.faults new.faults
