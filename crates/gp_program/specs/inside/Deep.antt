-- The depth, as a loop over the tokens finds it.
use Rattle.std.specs.Prelude.{◌≡◌, ℕ, suc, ◌+◌, if◌then◌else◌, nat_lt, sum, List, [], ◌∷◌, Option, Some, None, option_map, Result, Ok, Err}
use Rattle.gp_memory.specs.declared.refusal.NoMemory.{NoMemory}
use Rattle.gp_memory.specs.Free.{Free}
use Rattle.gp_tokens.specs.declared.token.Token.{Token}
use Rattle.gp_program.specs.Depth.{Nesting, behind}

-- behind tokens of this nesting
abbrev pub too_deep_from : Nesting → List Token → Option ℕ
too_deep_from n [] = None
too_deep_from n (t ∷ ts) = if nat_lt 64 (sum (behind n t).still + (behind n t).run.len) then Some 0 else option_map suc (too_deep_from (behind n t) ts)

abbrev pub GivesPlace : Result (Option ℕ) NoMemory → Option ℕ → Type 0
GivesPlace (Ok found) k = found ≡ k
GivesPlace (Err e) k = Free
