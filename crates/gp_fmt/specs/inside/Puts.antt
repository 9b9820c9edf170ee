-- What is put on a sheet.
use Rattle.std.specs.Prelude.{◌≡◌, false, List, ◌++◌}
use Rattle.gp_fmt.specs.declared.piece.Piece.{Piece}
use Rattle.gp_fmt.specs.declared.sheet.Sheet.{Sheet}

-- If no memory is refused afterwards, none was before, and these tokens stand behind those that were there.
pub record Puts (old new : Sheet) (ps : List Piece) : Type 0 where
  pub unrefused : new.refused ≡ false → old.refused ≡ false
  pub behind : new.refused ≡ false → new.pieces.items ≡ old.pieces.items ++ ps
