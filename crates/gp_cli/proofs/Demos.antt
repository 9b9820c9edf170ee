-- From what is made and run of a demo to what it answers.
use Rattle.std.proofs.Common.{false, List, refl, sym, subst}
use Rattle.std.specs.Prelude.{Result, Ok, Err}
use Rattle.gp_values.specs.Names.{Name}
use Rattle.gp_values.specs.Graph.{Graph as AnyGraph}
use Rattle.gp_graph.specs.declared.graph.Graph.{Graph}
use Rattle.gp_syntax.specs.declared.command.ProgramParts.{ProgramParts}
use Rattle.gp_syntax.specs.Run.{Program}
use Rattle.gp_hostfile.specs.Host.{IsHostText}
use Rattle.gp_system.specs.declared.outcome.Outcome.{Outcome}
use Rattle.gp_system.specs.declared.outcome.Outcome.TheVariants as outcome
use Rattle.gp_words.specs.CommandLine.{DemoCommand}
use Rattle.gp_cli.specs.declared.said.Said.{Said}
use Rattle.gp_cli.specs.declared.said.Stop.{Stop}
use Rattle.gp_cli.specs.declared.said.Stop.TheVariants as stops
use Rattle.gp_cli.specs.Texts as texts
use Rattle.gp_cli.specs.Said.{IsTold}
use Rattle.gp_cli.specs.Inputs.{TellsProgram}
use Rattle.gp_cli.specs.Answer.{gives, fails, is_spent, is_faulty, demo_program, demo_host, demo_bound, demo_choices, DemoAnswers, demo_program_is_bad, demo_host_is_bad, demo_runs}
use Rattle.gp_cli.specs.Loads.{FaultOfBoth, in_program, in_host, BothOrFaults}
use Rattle.gp_cli.specs.inside.Ends.{EndsSeeded, SaysDemo}
use Rattle.gp_cli.specs.inside.Parts.{MakesBoth}
use Rattle.gp_cli.proofs.Runs.{runs_to, is_left}

of_fault : {k : DemoCommand} {said : texts.Said} → FaultOfBoth (demo_program k) (demo_host k) said → DemoAnswers k said
of_fault (in_program f) = demo_program_is_bad f
of_fault (in_host t f) = demo_host_is_bad t f

pub makes : (k : DemoCommand) (r : Result (ProgramParts × Graph) Stop) → BothOrFaults (demo_program k) (demo_host k) r → MakesBoth k r
makes k (Ok t) h = h
makes k (Err (stops.Said e)) h = of_fault h
makes k (Err stops.NoMemory) h = tt

pub ends : {p : Program} {names : List Name} {g : AnyGraph} (k : DemoCommand) → TellsProgram (demo_program k) p names → IsHostText (demo_host k) g →
    (o : Outcome) (s : Said) → EndsSeeded demo_choices p g demo_bound false o → SaysDemo k names o s → IsTold false (DemoAnswers k) s
ends k t h (outcome.Graph r) s e is =
    let x = e.ended in
    subst (IsTold false (DemoAnswers k)) (sym is)
    (record { said = texts.demo_done k.kind k.size x.trace r.graph.graph; tells = (x.trace, is_left x, refl); holds = demo_runs t h (gives (runs_to x)) })
ends k t h (outcome.Fail r) s e is =
    let x = e.ended in
    subst (IsTold false (DemoAnswers k)) (sym is) (record { said = texts.failed x.trace; tells = (x.trace, is_left x, refl); holds = demo_runs t h (fails (runs_to x)) })
ends k t h (outcome.Bound r) s e is =
    let x = e.ended in
    subst (IsTold false (DemoAnswers k)) (sym is)
    (record { said = texts.bound_spent demo_bound; tells = refl; holds = demo_runs t h (is_spent r.graph.graph (runs_to x.has_run) x.may_go_on x.spent) })
ends k t h (outcome.Fault r rule kind) s e is =
    let x = e.ended in
    subst (IsTold false (DemoAnswers k)) (sym is.2) (record { said = texts.number_fault is.0 kind; tells = refl; holds = demo_runs t h (is_faulty (runs_to x.1) x.2 is.1) })
ends k t h outcome.NoMemory s e is = absurd is
