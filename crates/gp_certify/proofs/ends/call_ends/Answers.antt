use Rattle.std.proofs.Common.{◌≡◌, List, true, false, subst, sym, refl, ◌∙◌}
use Rattle.gp_syntax.specs.Run.{Call}
use Rattle.gp_certify.specs.inside.Found.{AreEnds}
use Rattle.gp_certify.specs.declared.end.End.{End}
use Rattle.gp_certify.proofs.Parted.{if_ok, call_steps, call_blocked, call_neither}
use Rattle.gp_certify.proofs.ends.call_ends.Goals as goal

pub returns-then-steps-clause-ends : goal.returns-then-steps-clause-ends
returns-then-steps-clause-ends g c =
    let v = g.T.Tape.view c.args.tape.now in
    if_ok c.one_end.result _ _ c.one_end.ensures (λ es e. subst (λ (z : List End). AreEnds v (Call c.args.call) c.args.place z) (sym e) (call_steps v c.requires.tape c.args.call c.args.place c.requires.place (c.if-steps.ensures.0 refl)))

pub returns-then-branch-clause-ends : goal.returns-then-branch-clause-ends
returns-then-branch-clause-ends g c =
    let v = g.T.Tape.view c.args.tape.now in
    if_ok c.one_end-then-branch.result _ _ c.one_end-then-branch.ensures (λ es e. subst (λ (z : List End). AreEnds v (Call c.args.call) c.args.place z) (sym e) (call_blocked v c.requires.tape c.args.call c.args.place c.requires.place (λ s. absurd (let n : false ≡ true = c.if-steps.ensures.1 s in cc)) (c.in_ok-is_blocked.ensures.told.0 c.if-branch.true)))

pub returns-clause-ends : goal.returns-clause-ends
returns-clause-ends g c =
    let v = g.T.Tape.view c.args.tape.now in
    subst (λ (z : List End). AreEnds v (Call c.args.call) c.args.place z) (sym c.new.ensures.items) (call_neither v c.requires.tape c.args.call c.args.place (λ s. absurd (let n : false ≡ true = c.if-steps.ensures.1 s in cc)) (λ s. absurd (let n : false ≡ true = sym c.if-branch.false ∙ c.in_ok-is_blocked.ensures.told.1 s in cc)))
