use Rattle.std.proofs.Common.{refl, subst}
use Rattle.gp_system.specs.inside.Viewed.{Shown, view_of}
use Rattle.gp_system.specs.inside.AfterTurn.{HasGone}
use Rattle.gp_system.proofs.Goes.{alone_on, crew_on, still_less}
use Rattle.gp_system.proofs.crew_session.CrewSession.take_loop.Goals as goal

pub turns-init : goal.turns-init
turns-init g c = record { going = c.first_turn-stands.ensures.going; odd = refl }

pub turns-preserved-in-On : goal.turns-preserved-in-On
turns-preserved-in-On g c = record {
  going = alone_on c.args.call c.turns.stands c.take_turns-stands.result (view_of c.args.self.now) (view_of c.turns.self) (view_of c.take_turns-stands.new.self) c.in-On.is c.turns.invariant.going
      (subst (λ (s : Shown). HasGone c.args.call c.take_turns-stands.result (view_of s) (view_of c.take_turns-stands.new.self)) c.self.view_is c.take_turns-stands.ensures.going);
  odd = c.turns.invariant.odd;
}

pub turns-preserved : goal.turns-preserved
turns-preserved g c = record {
  going = crew_on c.args.call c.turns.stands c.pursue_turns-stands.result (view_of c.args.self.now) (view_of c.turns.self) (view_of c.pursue_turns-stands.new.self) c.in-Dear.is c.turns.invariant.going c.pursue_turns-stands.ensures.going;
  odd = c.longer-lease.ensures;
}

pub turns-smaller : goal.turns-smaller
turns-smaller g c = still_less c.turns.stands _ _ c.in-Dear.is c.pursue_turns-stands.ensures.less
