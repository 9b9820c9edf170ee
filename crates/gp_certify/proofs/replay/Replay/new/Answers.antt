use Rattle.std.proofs.Common.{◌∙◌, IfSome, map, length, ap, subst}
use Rattle.gp_syntax.specs.declared.command.ProgramParts.{ProgramParts}
use Rattle.gp_syntax.specs.Tree.{rule_of_tree, item_of}
use Rattle.gp_step.proofs.Afters.{numbered}
use Rattle.gp_certify.specs.declared.along.Walked.{Walked}
use Rattle.gp_certify.specs.inside.Along.{IsWalked}
use Rattle.gp_certify.proofs.Told.{tape_of}
use Rattle.gp_certify.proofs.replay.Replay.new.Goals as goal

pub returns-in-Some-clause-tape : goal.returns-in-Some-clause-tape
returns-in-Some-clause-tape c =
    tape_of c.args.program.now c.as_slice-rules.result.now c.args.host.now.graph c.args.items.now c.in-Some.field-0.depths.items c.in-Some.field-0.trail c.in-Some.field-0.depths.len c.in-Some.field-0.depths.cap
    (c.as_slice-rules.ensures ∙ ap (λ (p : ProgramParts). p.rules) c.parts.ensures.value) c.rules_are_well_formed.ensures (numbered c.args.host.now.graph c.next_numbers-sound.ensures.sound)
    (subst (λ o. IfSome o (λ (w : Walked). IsWalked (map rule_of_tree c.as_slice-rules.result.now) c.args.host.now.graph (map item_of c.args.items.now) (length c.args.items.now) w.depths.items w.trail)) c.in-Some.is c.in_ok-walk.ensures.walked)
    c.in-Some.field-0.depths.ok c.in-Some.field-0.depths.small

pub walk-requires-clause-host : goal.walk-requires-clause-host
walk-requires-clause-host c = numbered c.args.host.now.graph c.next_numbers-sound.ensures.sound
