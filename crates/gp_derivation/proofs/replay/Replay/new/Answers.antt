use Rattle.gp_step.proofs.Afters.{numbered}
use Rattle.gp_derivation.proofs.Standings.{stands_fresh}
use Rattle.gp_derivation.proofs.replay.Replay.new.Goals as goal

pub returns : goal.returns
returns c = λ rules. rw (c.new-3.ensures.items, c.in_ok-table.ensures, c.new-2.ensures) (stands_fresh rules c.args.host.graph (numbered c.args.host.graph c.next_numbers-sound.ensures.sound))
