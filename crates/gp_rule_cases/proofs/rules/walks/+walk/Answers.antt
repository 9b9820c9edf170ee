use Rattle.gp_rule_cases.proofs.rules.walks.+walk.Goals as goal

pub take_back-requires : goal.take_back-requires
take_back-requires t c = rw c.in_ok-walk.ensures c.in_ok-made.ensures.fits

pub returns : goal.returns
returns t c = rw (c.take_back.ensures, c.in_ok-walk.ensures) c.in_ok-made.ensures.same
