-- What holds of the texts of traces.
use Rattle.std.specs.Prelude.{◌≡◌, ◌⊎◌, ℕ, List}
use Rattle.gp_syntax.specs.Run.{Item}
use Rattle.gp_trace.specs.declared.version.Version.{Version}
use Rattle.gp_trace.specs.Reading.{IsTraceOf, BreaksAt}

-- No two lists of items have one text, and none is that of two versions.
abbrev pub TracesAreTold : Type 0
TracesAreTold = (text : List ℕ) (v w : Version) (s t : List Item) → IsTraceOf text v s → IsTraceOf text w t → (v ≡ w) × (s ≡ t)

-- A text is that of a list of items or breaks at a line: at one line at most, and not both.
pub record BreaksAreTold (text : List ℕ) : Type 0 where
  pub some : ((version : Version) × (t : List Item) × IsTraceOf text version t) ⊎ ((n : ℕ) × BreaksAt text n)
  pub one : (m n : ℕ) → BreaksAt text m → BreaksAt text n → m ≡ n
  pub none : (version : Version) (t : List Item) (n : ℕ) → IsTraceOf text version t → BreaksAt text n → ⊥

abbrev pub TextsBreakOnce : Type 0
TextsBreakOnce = (text : List ℕ) → BreaksAreTold text
