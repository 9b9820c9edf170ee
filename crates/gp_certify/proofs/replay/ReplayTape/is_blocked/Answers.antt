use Rattle.std.proofs.Common.{◌∙◌, ◌≤◌, ◌<◌, List, All, map, length, sym, ap, subst, arith}
use Rattle.std.proofs.lemmas.List.{length-map}
use Rattle.gp_syntax.specs.declared.command.ProgramParts.{ProgramParts}
use Rattle.gp_syntax.specs.declared.rule.RuleParts.{RuleParts}
use Rattle.gp_syntax.specs.Tree.{rule_of_tree, item_of}
use Rattle.gp_certify.specs.inside.Along.{AllGo, Stands}
use Rattle.gp_certify.specs.inside.Replay.{Shown}
use Rattle.gp_certify.proofs.Parted.{if_ok}
use Rattle.gp_certify.proofs.Told.{blocked_told}
use Rattle.gp_certify.proofs.replay.ReplayTape.is_blocked.Goals as goal

pub stand_at-requires-clause-goes : goal.stand_at-requires-clause-goes
stand_at-requires-clause-goes c =
    let same = c.as_slice-rules.ensures ∙ ap (λ (p : ProgramParts). p.rules) c.parts.ensures.value in
    subst (λ (rs : List RuleParts). AllGo (map rule_of_tree rs) c.self.inside.host.now.graph (map item_of c.self.inside.items.now) (length c.self.inside.items.now)) (sym same) c.self.invariant.all_go

pub stand_at-requires-clause-stands : goal.stand_at-requires-clause-stands
stand_at-requires-clause-stands c =
    let same = c.as_slice-rules.ensures ∙ ap (λ (p : ProgramParts). p.rules) c.parts.ensures.value in
    subst (λ (rs : List RuleParts). Stands (map rule_of_tree rs) c.self.inside.host.now.graph (map item_of c.self.inside.items.now) c.self.inside.standing) (sym same) c.self.invariant.stands

pub stand_at-requires-clause-place : goal.stand_at-requires-clause-place
stand_at-requires-clause-place c =
    let low = subst (λ (z : Shown). c.args.place ≤ length (map item_of z.items)) (sym c.self.view_is) c.requires.place in
    let long = length-map c.self.inside.items.now item_of in
    omega arith

pub is_set_blocked-requires : goal.is_set_blocked-requires
is_set_blocked-requires c =
    let same = c.as_slice-rules.ensures ∙ ap (λ (p : ProgramParts). p.rules) c.parts.ensures.value in
    subst (λ (rs : List RuleParts). All (λ i. i < length rs) c.set_of-set.result.now) (sym same) c.set_of-set.ensures.within

pub returns-clause-told : goal.returns-clause-told
returns-clause-told c =
    let t : Shown = record { program = c.self.inside.program.now; host = c.self.inside.host.now.graph; items = c.self.inside.items.now } in
    if_ok c.is_set_blocked.result _ _ c.is_set_blocked.ensures
    (λ b d. blocked_told c.args.self.now t c.args.call c.args.place c.set_of-set.result.now c.as_slice-rules.result.now c.stand_at.new.standing.trail c.graph.result.now.graph b c.self.view_is
    (c.as_slice-rules.ensures ∙ ap (λ (p : ProgramParts). p.rules) c.parts.ensures.value) c.set_of-set.ensures.set c.in_ok-stand_at.ensures.there c.graph.ensures d)
