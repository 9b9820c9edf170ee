use Rattle.gp_system.proofs.Goes.{begun_so, bound_so}
use Rattle.gp_system.proofs.crew_session.CrewSession.first_turn.Goals as goal
use Rattle.gp_system.proofs.crew_session.CrewSession.first_turn.Goals.{in-Made, in-Bound, in-NoMemory}

pub returns : goal.returns
returns c = record {
  going = elim c.match-begin.branch [
    | in-Made w ↦ rw w.result-is (begun_so c.args.call c.self.inside.session c.args.self.now c.begin.new.self c.self.view_is w.in-Made.ensures.turned)
    | in-Bound w ↦ rw w.result-is (bound_so c.args.call c.self.inside.session c.args.self.now c.begin.new.self c.self.view_is w.in-Bound.ensures.turned)
    | in-NoMemory w ↦ rw w.result-is tt
  ];
}
