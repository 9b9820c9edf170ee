-- What `run` wrote with status 0 or 1 is a derivation.
use Rattle.std.proofs.Common.{◌≡◌, ℕ, ◌≤◌, Bool, true, List, [], ◌∷◌, refl, subst, arith, inl, inr}
use Rattle.std.specs.Prelude.{Some}
use Rattle.gp_io.specs.Outside.{Content, KnownFiles}
use Rattle.gp_values.specs.Names.{Name}
use Rattle.gp_values.specs.Graph.{Graph}
use Rattle.gp_syntax.specs.Run.{Program, Item}
use Rattle.gp_reader.specs.Program.{IsProgramText}
use Rattle.gp_hostfile.specs.Host.{IsHostText}
use Rattle.gp_trace.specs.declared.version.Version.TheVariants.{Two}
use Rattle.gp_trace.specs.Reading.{IsTraceOf}
use Rattle.gp_derivation.specs.Derivation.{IsDerivation, as_they_are, with_graph, with_fail}
use Rattle.gp_words.specs.CommandLine.{RunCommand, run}
use Rattle.gp_cli.specs.Texts.{Said, IsJournal, asked_for, not_asked_for, Shows, graph_shown, fail_shown}
use Rattle.gp_cli.specs.Inputs.{HasBytes, StopsAtProgram, program_is_long, program_is_bad, program_is_unread, StopsAtHost, host_is_long, host_is_bad, host_is_unread, at_program, at_host, behind_both}
use Rattle.gp_cli.specs.Answer.{gives, fails, is_spent, is_faulty, RunAnswers}
use Rattle.gp_cli.specs.Completes.{IsOneOf, HasWritten}
use Rattle.gp_cli.proofs.Held.{program_again, host_again}
use Rattle.gp_cli.proofs.Causes.{status_of, shown}
use Rattle.gp_cli.proofs.Commands.{by_command}

-- the bytes are a program, a host, a trace of version 2, and a result, which are a derivation
pub record AreDerivation (program host journal result : List ℕ) : Type 0 where
  pub p : Program
  pub g : Graph
  pub items : List Item
  pub of_program : IsProgramText program p
  pub of_host : IsHostText host g
  pub of_trace : IsTraceOf journal Two items
  pub derivation : IsDerivation p g Two items result

is_trace : {t : List Item} {asked : Bool} {journal : List ℕ} → asked ≡ true → IsJournal t asked journal → IsTraceOf journal Two t
is_trace e (asked_for h) = h
is_trace e not_asked_for = absurd cc

-- another status than 0 and 1
other : {s : ℕ} → 2 ≤ s → IsOneOf (0 ∷ 1 ∷ []) s → ⊥
other h (inl e) = omega arith
other h (inr (inl e)) = omega arith
other h (inr (inr x)) = x

module _ {old new : KnownFiles} where
  program_stop : {name : Name} {said : Said} → StopsAtProgram old new name said → 2 ≤ status_of said
  program_stop (program_is_long _) = omega arith
  program_stop (program_is_bad _ _) = omega arith
  program_stop (program_is_unread _) = omega arith

  host_stop : {name : Name} {said : Said} → StopsAtHost old new name said → 2 ≤ status_of said
  host_stop (host_is_long _) = omega arith
  host_stop (host_is_bad _ _) = omega arith
  host_stop (host_is_unread _) = omega arith

  module _ {held : Content} (known : old.content ≡ Some held) {program host : List ℕ} where
    ended : (k : RunCommand) {said : Said} {asked : Bool} {s : ℕ} {journal result text : List ℕ} → HasBytes old.content k.program program → HasBytes old.content k.host host → asked ≡ true →
        IsOneOf (0 ∷ 1 ∷ []) (status_of said) → RunAnswers old new k said → Shows asked said s journal result text → AreDerivation program host journal result
    ended k bp bh e o (at_program x) shows = absurd (other (program_stop x) o)
    ended k bp bh e o (at_host _ x) shows = absurd (other (host_stop x) o)
    ended k bp bh e o (behind_both {p = p} {g = g} hp hh (gives {t = t} r)) (graph_shown j i) = record {
      p = p;
      g = g;
      items = t;
      of_program = program_again known program bp.file hp;
      of_host = host_again known host bh.file hh;
      of_trace = is_trace e j;
      derivation = record { today = t; are = as_they_are; ends = with_graph (r.picks, r.run) i };
    }
    ended k bp bh e o (behind_both {p = p} {g = g} hp hh (fails {t = t} r)) (fail_shown j) = record {
      p = p;
      g = g;
      items = t;
      of_program = program_again known program bp.file hp;
      of_host = host_again known host bh.file hh;
      of_trace = is_trace e j;
      derivation = record { today = t; are = as_they_are; ends = with_fail (r.picks, r.run) refl };
    }
    ended k bp bh e o (behind_both _ _ (is_spent _ _ _ _)) shows = absurd (other (omega arith) o)
    ended k bp bh e o (behind_both _ _ (is_faulty _ _ _)) shows = absurd (other (omega arith) o)

pub derived : {program host journal result : List ℕ} → HasWritten program host journal result → AreDerivation program host journal result
derived w =
    let r = w.replies in
    ended w.known w.command w.program_has w.host_has w.asked (subst (IsOneOf (0 ∷ 1 ∷ [])) (shown r.shows) w.ended) (by_command (run w.command) w.is_run r.is_true) r.shows
