use Rattle.std.proofs.Common.{◌≡◌, ℕ, List, ◌++◌, refl}
use Rattle.gp_trace.specs.declared.version.Version.{Version}
use Rattle.gp_trace.specs.declared.version.Version.TheVariants.{One, Two}
use Rattle.gp_trace.specs.TraceText.{header}
use Rattle.gp_trace.specs.Reading.{HasNoHeader}
use Rattle.gp_trace.proofs.reader.split_header.Goals as goal

no_header : (text : List ℕ) → ((rest : List ℕ) → text ≡ header One ++ rest → ⊥) → ((rest : List ℕ) → text ≡ header Two ++ rest → ⊥) → HasNoHeader text 1
no_header text a b = record { none = none; line = refl }
  where
    none : (v : Version) (rest : List ℕ) → text ≡ header v ++ rest → ⊥
    none One = a
    none Two = b

pub returns-in-None : goal.returns-in-None
returns-in-None c = no_header c.args.text.now (c.in_default.ensures {u = tt}) (c.in-None.ensures {u = tt})
