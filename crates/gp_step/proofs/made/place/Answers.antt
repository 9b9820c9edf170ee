use Rattle.std.proofs.Common.{arith}
use Rattle.std.proofs.lemmas.Grind.{common_steps}
use Rattle.gp_step.proofs.made.place.Goals as goal

pub returns-in_ok-push-in-Some-2-clause-images : goal.returns-in_ok-push-in-Some-2-clause-images
returns-in_ok-push-in-Some-2-clause-images c = grind (arith, common_steps)

pub returns-in_ok-push-in-Some-2-clause-kept : goal.returns-in_ok-push-in-Some-2-clause-kept
returns-in_ok-push-in-Some-2-clause-kept c = grind (arith, common_steps)

pub returns-in_ok-push-in-Some-2-clause-added : goal.returns-in_ok-push-in-Some-2-clause-added
returns-in_ok-push-in-Some-2-clause-added c = grind (arith, common_steps)

pub returns-in_ok-push-in-None-2-clause-images : goal.returns-in_ok-push-in-None-2-clause-images
returns-in_ok-push-in-None-2-clause-images c = grind (arith, common_steps)

pub returns-in_ok-push-in-None-2-clause-kept : goal.returns-in_ok-push-in-None-2-clause-kept
returns-in_ok-push-in-None-2-clause-kept c = grind (arith, common_steps)

pub returns-in_ok-push-in-None-2-clause-added : goal.returns-in_ok-push-in-None-2-clause-added
returns-in_ok-push-in-None-2-clause-added c = grind (arith, common_steps)
