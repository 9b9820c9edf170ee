-- From what is read of the files to what is answered.
use Rattle.std.proofs.Common.{◌≡◌, ◌≤◌, refl, sym, subst}
use Rattle.std.specs.Prelude.{Bool, true, false, Result, Ok, Err, IfOk}
use Rattle.std.specs.Bool.{Decides}
use Rattle.gp_memory.specs.declared.refusal.NoMemory.{NoMemory}
use Rattle.gp_io.specs.Outside.{KnownFiles}
use Rattle.gp_values.specs.Graph.{Graph as AnyGraph}
use Rattle.gp_syntax.specs.Run as meant
use Rattle.gp_words.specs.CommandLine.{CheckCommand}
use Rattle.gp_cli.specs.declared.said.Said.{Said}
use Rattle.gp_cli.specs.declared.said.Stop.{Stop}
use Rattle.gp_cli.specs.declared.said.Stop.TheVariants as stops
use Rattle.gp_cli.specs.Texts as texts
use Rattle.gp_cli.specs.Answer.{Checks, at_trace, at_result, is_derivation, is_none}
use Rattle.gp_cli.specs.inside.Parts.{IfSettled, verdict}
use Rattle.gp_cli.specs.Said.{said_of, IsTold, IsAnswer, or_stopped}
use Rattle.gp_cli.proofs.Loads.{bytes_since, has_trace_since, result_since, stopped_so, trace_since}
use Rattle.gp_cli.proofs.Runs.{told_so}

-- ---- what holds of an answer, where memory is not refused

pub settled_so : (asked : Bool) (P Q : texts.Said → Type 0) (so : (said : texts.Said) → P said → Q said) (r : Result Said Stop) → IfSettled asked P r → IfSettled asked Q r
settled_so asked P Q so (Ok s) h = told_so h so
settled_so asked P Q so (Err e) h = stopped_so P Q so e h

pub answered : {asked : Bool} (P : texts.Said → Type 0) {s : Said} (r : Result Said Stop) → IfSettled asked P r → IsAnswer r s → IsTold asked P s
answered {asked} P (Ok t) h is = subst (IsTold asked P) (sym is) h
answered {asked} P (Err (stops.Said e)) h is = subst (IsTold asked P) (sym is) (record { said = said_of e; tells = refl; holds = h })
answered P (Err stops.NoMemory) h is = absurd is

pub outcome_so : {R : Said → Type 0} (asked : Bool) (Q : texts.Said → Type 0) (so : (s : Said) → R s → IsTold asked Q s) (r : Result Said NoMemory) → IfOk r R → IfSettled asked Q (or_stopped r)
outcome_so asked Q so (Ok s) h = so s h
outcome_so asked Q so (Err e) h = tt

-- ---- a count that rose since a later time has risen since an earlier one, and the content is the same at both

module _ {old mid new : KnownFiles} (same : mid.content ≡ old.content) (later : old.faults ≤ mid.faults) where
  pub checks_since : {k : CheckCommand} {p : meant.Program} {g : AnyGraph} (said : texts.Said) → Checks mid new k p g said → Checks old new k p g said
  checks_since _ (at_trace x) = at_trace (trace_since same later x)
  checks_since _ (at_result h x) = at_result (has_trace_since same h) (result_since same later _ x)
  checks_since _ (is_derivation h b d) = is_derivation (has_trace_since same h) (bytes_since same b) d
  checks_since _ (is_none h b n) = is_none (has_trace_since same h) (bytes_since same b) n

-- ---- whether it is a derivation, as it is said

pub checked : (P : texts.Said → Type 0) {D : Type 0} → (D → P texts.derivation) → ((D → ⊥) → P texts.no_derivation) → (r : Result Bool NoMemory) → IfOk r (λ b. Decides b D) → IfSettled false P (verdict r)
checked P one other (Ok true) h = record { said = texts.derivation; tells = refl; holds = one (h.0 refl) }
checked P one other (Ok false) h = record { said = texts.no_derivation; tells = refl; holds = other (λ d. let e = h.1 d in absurd cc) }
checked P one other (Err e) h = tt
