-- No tokens are both a list and a condition.
use Rattle.std.proofs.Common.{◌≡◌, ℕ, true, false, []}
use Rattle.gp_expressions.specs.Laws.{NoTokensAreBoth}
use Rattle.gp_expressions.proofs.ConditionLaws.{list_pass, condition_meets}

pub never_both : NoTokensAreBoth
never_both room m n tokens x y h k = let e = list_pass room 0 tokens [] x h in let f = condition_meets m n 0 tokens [] y k in absurd cc
