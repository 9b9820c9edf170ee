use Rattle.std.proofs.Common.{rules, ◌∙◌, map, ap}
use Rattle.gp_syntax.specs.declared.command.ProgramParts.{ProgramParts}
use Rattle.gp_syntax.specs.Tree.{program_of_tree, rule_of_tree, item_of}
use Rattle.gp_step.proofs.Afters.{numbered}
use Rattle.gp_derivation.proofs.Decided.{of_upgraded, of_broken}
use Rattle.gp_derivation.proofs.derivation.ended_with.Goals as goal

pub returns-in-Ok : goal.returns-in-Ok
returns-in-Ok c =
    of_upgraded (program_of_tree c.args.program.now) (map rule_of_tree c.as_slice-rules.result.now) c.args.host.now.graph c.in_ok-copy.field-0.graph (map item_of c.args.items.now) (map item_of c.in-Ok.today.items) _ c.args.text.now c.ends_with.result
    (ap (map rule_of_tree) (c.as_slice-rules.ensures ∙ ap (λ (p : ProgramParts). p.rules) c.parts.ensures.value)) c.in_ok-copy.ensures c.rules_are_well_formed.ensures (numbered c.args.host.now.graph c.next_numbers-sound.ensures.sound)
    c.in-Ok.ensures.items (search rules) c.ends_with.ensures

pub returns-in-Err-Item : goal.returns-in-Err-Item
returns-in-Err-Item c =
    of_broken (program_of_tree c.args.program.now) (map rule_of_tree c.as_slice-rules.result.now) c.args.host.now.graph c.in_ok-copy.field-0.graph (map item_of c.args.items.now) c.args.text.now c.in-Err-Item.field-0 c.in-Err-Item.field-0-0
    (ap (map rule_of_tree) (c.as_slice-rules.ensures ∙ ap (λ (p : ProgramParts). p.rules) c.parts.ensures.value)) c.in_ok-copy.ensures c.in-Err-Item.field-0-is c.in-Err-Item.ensures.fault
