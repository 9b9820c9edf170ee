-- Files and a sink in memory, as contracts see them.
use Rattle.std.specs.Prelude.{ℕ, ◌-◌, List, [], ◌∷◌, map, length, take, drop, Option, Some, None, unwrap_or, min, if◌then◌else◌, ◌==◌, refl}
use Rattle.std.specs.Coded.{Coded, code_by, coded×, coded_ℕ, coded_list}
use Rattle.std.specs.FinMap as finite
use Rattle.std.specs.String.{string_bytes}
use Rattle.std.specs.declared.string.String.{String}
use Rattle.std.specs.declared.vec.Vec.{Vec}
use Rattle.std.specs.declared.alloc.Global.{Global}
use Rattle.gp_io.specs.Outside.{Content, KnownFiles, KnownSink}

-- the content of a list of names and bytes; of two files of one name the first counts
abbrev pub content_of : List (String Global × Vec ℕ Global) → Content
content_of files = finite.from_entries (map (λ f. (string_bytes f.0, f.1.items)) files)

-- what the files hold, the numbers of the reads that fail, how many reads there were, and how many failed
pub record StoredFiles : Type 0 where
  pub content : Content
  pub failing : List ℕ
  pub calls : ℕ
  pub faults : ℕ

-- what is known of them as of files
abbrev pub known_files : StoredFiles → KnownFiles
known_files files = record { content = Some files.content; faults = files.faults }

abbrev pub content_code : Coded Content
content_code = finite.code (coded_list coded_ℕ) (coded_list coded_ℕ)

abbrev pub files_code : Coded StoredFiles
files_code =
    code_by (Content × (List ℕ × (ℕ × ℕ))) (coded× content_code (coded× (coded_list coded_ℕ) (coded× coded_ℕ coded_ℕ)))
    (λ f. (f.content, (f.failing, (f.calls, f.faults))))
    (λ p. record { content = p.0; failing = p.1.0; calls = p.1.1.0; faults = p.1.1.1 }) (λ _. refl)

-- what was written, the pieces in which it was, for how many bytes there is room, the numbers of the writes that fail,
-- each with the number of bytes that go out before, how many writes there were, and how many failed
pub record StoredBytes : Type 0 where
  pub written : List ℕ
  pub pieces : List (List ℕ)
  pub room : ℕ
  pub failing : List (ℕ × ℕ)
  pub calls : ℕ
  pub faults : ℕ

-- what is known of it as of a sink
abbrev pub known_bytes : StoredBytes → KnownSink
known_bytes sink = record { pieces = Some sink.pieces; writes = sink.calls; faults = sink.faults }

-- bytes cut into pieces of these lengths
abbrev pub cut_by : List ℕ → List ℕ → List (List ℕ)
cut_by [] bytes = []
cut_by (n ∷ ns) bytes = take n bytes ∷ cut_by ns (drop n bytes)

-- how many bytes a write of that number lets out before it fails, by the first pair that lists it
abbrev pub bytes_before_failure : List (ℕ × ℕ) → ℕ → Option ℕ
bytes_before_failure [] call = None
bytes_before_failure (pair ∷ pairs) call = if pair.0 == call then Some pair.1 else bytes_before_failure pairs call

-- for how many more bytes a sink has room
abbrev pub room_left : StoredBytes → ℕ
room_left sink = sink.room - length sink.written

-- how many bytes the next write lets out if it fails: as many as its call lists, of those that fit
abbrev pub bytes_let_out : StoredBytes → ℕ
bytes_let_out sink = min (unwrap_or (bytes_before_failure sink.failing sink.calls) (room_left sink)) (room_left sink)
