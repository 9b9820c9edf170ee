-- What is answered, by the command that the words are.
use Rattle.std.proofs.Common.{◌≡◌, false, List, sym, subst}
use Rattle.std.specs.Prelude.{Option, Some, None}
use Rattle.std.specs.Option.{option_map_or}
use Rattle.gp_io.specs.Outside.{KnownFiles}
use Rattle.gp_values.specs.Names.{Name}
use Rattle.gp_values.specs.Graph.{Graph}
use Rattle.gp_syntax.specs.Run.{Program}
use Rattle.gp_words.specs.CommandLine.{Command, run, demo, check, fmt, step, command_of}
use Rattle.gp_cli.specs.declared.said.Said.{Said as Code}
use Rattle.gp_cli.specs.Texts.{Said, usage}
use Rattle.gp_cli.specs.Answer.{Comes, RunAnswers, Checks, CheckAnswers, FmtAnswers, Steps, StepAnswers, DemoAnswers, wants_journal, asks_journal, IsTrue, of_words, of_run, of_demo, of_check, of_fmt, of_step}
use Rattle.gp_cli.specs.Inputs.{OfBoth}
use Rattle.gp_cli.specs.Said.{IsTold}
use Rattle.gp_cli.specs.Completes.{files_of}

abbrev pub Answers : Command → KnownFiles → KnownFiles → Said → Type 0
Answers (run k) old new said = RunAnswers old new k said
Answers (demo k) old new said = DemoAnswers k said
Answers (check k) old new said = CheckAnswers old new k said
Answers (fmt k) old new said = FmtAnswers old new k said
Answers (step k) old new said = StepAnswers old new k said

same_command : (words : List Name) (c d : Command) → command_of words ≡ Some c → command_of words ≡ Some d → c ≡ d
same_command words c d h k = cc

pub by_command : {words : List Name} {old new : KnownFiles} {said : Said} (c : Command) → command_of words ≡ Some c → IsTrue words old new said → Answers c old new said
by_command c w (of_words v) = absurd cc
by_command {words} {old} {new} {said} c w (of_run {k} v x) = subst (λ (c : Command). Answers c old new said) (same_command words (run k) c v w) x
by_command {words} {old} {new} {said} c w (of_demo {k} v x) = subst (λ (c : Command). Answers c old new said) (same_command words (demo k) c v w) x
by_command {words} {old} {new} {said} c w (of_check {k} v x) = subst (λ (c : Command). Answers c old new said) (same_command words (check k) c v w) x
by_command {words} {old} {new} {said} c w (of_fmt {k} v x) = subst (λ (c : Command). Answers c old new said) (same_command words (fmt k) c v w) x
by_command {words} {old} {new} {said} c w (of_step {k} v x) = subst (λ (c : Command). Answers c old new said) (same_command words (step k) c v w) x

pub no_command : {words : List Name} {old new : KnownFiles} {said : Said} → command_of words ≡ None → IsTrue words old new said → said ≡ usage
no_command w (of_words v) = λ i. usage
no_command w (of_run v x) = absurd cc
no_command w (of_demo v x) = absurd cc
no_command w (of_check v x) = absurd cc
no_command w (of_fmt v x) = absurd cc
no_command w (of_step v x) = absurd cc

same_files : (a b c d : Name) → ◌≡◌ {A = Option (Name × Name)} (Some (a, b)) (Some (c, d)) → ◌≡◌ {A = Name × Name} (a, b) (c, d)
same_files a b c d e = cc

-- a command that reads a program and a host goes on with both
pub both_of_command : {program host : Name} {old new : KnownFiles} {said : Said} (c : Command) → files_of c ≡ Some (program, host) → Answers c old new said →
    (Rest : Program → List Name → Graph → Said → Type 0) × OfBoth old new program host Rest said
both_of_command {program} {host} {old} {new} {said} (run k) e x =
    (Comes k.bound k.seed, subst (λ (n : Name × Name). OfBoth old new n.0 n.1 (Comes k.bound k.seed) said) (same_files k.program k.host program host e) x)
both_of_command (demo k) e x = absurd cc
both_of_command {program} {host} {old} {new} {said} (check k) e x =
    (λ p names g. Checks old new k p g, subst (λ (n : Name × Name). OfBoth old new n.0 n.1 (λ p names g. Checks old new k p g) said) (same_files k.program k.host program host e) x)
both_of_command (fmt k) e x = absurd cc
both_of_command {program} {host} {old} {new} {said} (step k) e x =
    (Steps old new k, subst (λ (n : Name × Name). OfBoth old new n.0 n.1 (Steps old new k) said) (same_files k.program k.host program host e) x)

-- what the command asks for the words do
pub asked_so : {P : Said → Type 0} {s : Code} (words : List Name) (c : Command) → command_of words ≡ Some c → IsTold (wants_journal c) P s → IsTold (asks_journal words) P s
asked_so {P} {s} words c w = subst (λ (o : Option Command). IsTold (wants_journal c) P s → IsTold (option_map_or wants_journal o false) P s) (sym w) (λ t. t)
