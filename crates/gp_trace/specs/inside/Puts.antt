-- What is put on a sheet.
use Rattle.std.specs.Prelude.{◌≡◌, ℕ, false, List, ◌++◌}
use Rattle.gp_trace.specs.declared.sheet.Sheet.{Sheet}

-- If no memory is refused afterwards, none was before, and this text stands behind what was there.
pub record Puts (old new : Sheet) (text : List ℕ) : Type 0 where
  pub unrefused : new.refused ≡ false → old.refused ≡ false
  pub behind : new.refused ≡ false → new.text.items ≡ old.text.items ++ text
