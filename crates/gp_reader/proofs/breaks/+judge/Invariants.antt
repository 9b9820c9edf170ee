use Rattle.std.proofs.Common.{◌≡◌, take}
use Rattle.gp_reader.specs.inside.Judged.{rest_judged}
use Rattle.gp_reader.proofs.breaks.+judge.Given as goal

abbrev pub invariant-judge_rest-loop-part : goal.invariant-judge_rest-loop-part
invariant-judge_rest-loop-part l = l.judged ≡ rest_judged l.known l.fn.first (take l.part-index l.rest)
