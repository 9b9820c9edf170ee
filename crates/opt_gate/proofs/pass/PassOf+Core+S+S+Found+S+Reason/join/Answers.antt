use Rattle.std.proofs.Common.{◌+◌, ◌≤◌, ◌∙◌, ap, arith}
use Rattle.opt_gate.specs.Lists.{times}
use Rattle.opt_gate.proofs.Joins.{stays_joined, other_stays}
use Rattle.opt_gate.proofs.Owns.{times_append}
use Rattle.opt_gate.proofs.pass.PassOf+Core+S+S+Found+S+Reason.join.Goals as goal

pub returns-clause-apart : goal.returns-clause-apart
returns-clause-apart g c = λ place.
    let v = c.self.inside.seat.me.0 in
    let w = c.other.inside.seat.me.0 in
    let sum : times place v.own + times place w.own ≤ 1 = (let t = times_append place v.own w.own in let o = c.unite.ensures.shows.once place in omega arith) in
    rw (← c.self.view_is) (rw (← c.other.view_is) sum)

pub returns-clause-stays : goal.returns-clause-stays
returns-clause-stays g c = λ x end.
    let s = stays_joined c.self.inside.seat.me.0 c.other.inside.seat.me.0 x (c.unite.ensures.shows.other_ended x) (ap (λ p. p.ending) c.self.view_is ∙ end) in
    (ap (λ m. m.0.ending) c.unite.ensures.me ∙ s.0, ap (λ m. m.0.knows) c.unite.ensures.me ∙ (s.1 ∙ ap (λ p. p.knows) c.self.view_is))

pub returns-clause-other_stays : goal.returns-clause-other_stays
returns-clause-other_stays g c = λ x end.
    let s = other_stays c.self.inside.seat.me.0 c.other.inside.seat.me.0 x (c.unite.ensures.shows.other_ended x) (ap (λ p. p.ending) c.other.view_is ∙ end) in
    (ap (λ m. m.0.ending) c.unite.ensures.me ∙ s.0, ap (λ m. m.0.knows) c.unite.ensures.me ∙ (s.1 ∙ ap (λ p. p.knows) c.other.view_is))
