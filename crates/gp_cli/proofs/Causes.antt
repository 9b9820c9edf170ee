-- From the cause of an answer to its status.
use Rattle.std.proofs.Common.{◌≡◌, ℕ, Bool, List, [], ◌∷◌, refl, subst, inl, inr}
use Rattle.std.specs.Prelude.{Some}
use Rattle.gp_io.specs.Outside.{Content, KnownFiles, HasFile}
use Rattle.gp_values.specs.Names.{Name}
use Rattle.gp_values.specs.Graph.{Graph}
use Rattle.gp_syntax.specs.Run.{Program, Item}
use Rattle.gp_reader.specs.declared.fault.ProgramFault.{ProgramFault}
use Rattle.gp_reader.specs.Program.{IsProgramText, IsFaultyText}
use Rattle.gp_reader.specs.Laws.{TextsHaveNoFault}
use Rattle.gp_hostfile.specs.declared.fault.HostFault.{HostFault}
use Rattle.gp_hostfile.specs.Host.{IsHostFault}
use Rattle.gp_hostfile.proofs.Hosts.{no_fault}
use Rattle.gp_trace.specs.declared.version.Version.{Version}
use Rattle.gp_derivation.specs.Derivation.{IsDerivation}
use Rattle.gp_derivation.specs.declared.line.Line.{Line}
use Rattle.gp_words.specs.CommandLine.{DemoCommand, CheckCommand, StepCommand}
use Rattle.gp_cli.specs.Texts.{Said, graph, failed, demo_done, derivation, no_derivation, formatted, walked, usage, long_program, bad_program, long_host, bad_host, long_trace, bad_trace, long_result, long_script, bad_script, bound_spent, number_fault, unread, of_demo_run, Shows, graph_shown, fail_shown, demo_shown, derivation_shown, no_derivation_shown, formatted_shown, walked_shown, usage_shown, long_program_shown, bad_program_shown, long_host_shown, bad_host_shown, long_trace_shown, bad_trace_shown, long_result_shown, long_script_shown, bad_script_shown, bound_shown, number_shown, unread_shown}
use Rattle.gp_cli.specs.Inputs.{HasBytes, HasLongFile, CannotRead, HasProgram, HasHost, HasTrace, HasScript, HasFaultyProgram, has_long_program, has_bad_program, HasFaultyHost, has_long_host, has_bad_host, HasFaultyTrace, has_long_trace, has_bad_trace, HasFaultyScript, has_long_script, has_bad_script, StopsAtProgram, program_is_long, program_is_bad, program_is_unread, StopsAtHost, host_is_long, host_is_bad, host_is_unread, StopsAtTrace, trace_is_long, trace_is_bad, trace_is_unread, StopsAtResult, result_is_long, result_is_unread, StopsAtScript, script_is_long, script_is_bad, script_is_unread, OfBoth, at_program, at_host, behind_both}
use Rattle.gp_cli.specs.Answer.{Comes, gives, fails, is_spent, is_faulty, Checks, at_trace, at_result, is_derivation, is_none, IsEndless, Steps, at_script, walks, is_endless, demo_program, demo_host, DemoAnswers, demo_program_is_bad, demo_host_is_bad, demo_runs}
use Rattle.gp_cli.specs.Completes.{IsOneOf, Stays}
use Rattle.gp_cli.proofs.Held.{can_read, same_bytes, program_bytes, host_bytes, trace_bytes, script_bytes, too_long, same_trace, sound_program, sound_host, sound_trace, sound_script}

abbrev pub status_of : Said → ℕ
status_of (graph t h) = 0
status_of (failed t) = 1
status_of (demo_done kind size t h) = 0
status_of derivation = 0
status_of no_derivation = 1
status_of (formatted text) = 0
status_of (walked text) = 0
status_of usage = 2
status_of long_program = 3
status_of (bad_program f) = 3
status_of long_host = 4
status_of (bad_host f) = 4
status_of long_trace = 10
status_of (bad_trace line) = 10
status_of long_result = 10
status_of long_script = 11
status_of (bad_script line) = 11
status_of (bound_spent bound) = 5
status_of (number_fault rule kind) = 6
status_of (unread name) = 8

pub shown : {asked : Bool} {said : Said} {s : ℕ} {journal result text : List ℕ} → Shows asked said s journal result text → s ≡ status_of said
shown (graph_shown _ _) = refl
shown (fail_shown _) = refl
shown demo_shown = refl
shown derivation_shown = refl
shown no_derivation_shown = refl
shown formatted_shown = refl
shown walked_shown = refl
shown usage_shown = refl
shown long_program_shown = refl
shown bad_program_shown = refl
shown long_host_shown = refl
shown bad_host_shown = refl
shown long_trace_shown = refl
shown bad_trace_shown = refl
shown long_result_shown = refl
shown long_script_shown = refl
shown bad_script_shown = refl
shown bound_shown = refl
shown number_shown = refl
shown unread_shown = refl

-- ---- what runs come to

abbrev pub OfRun : ℕ → Type 0
OfRun = IsOneOf (0 ∷ 1 ∷ 5 ∷ 6 ∷ 7 ∷ [])

abbrev pub OfDemo : ℕ → Type 0
OfDemo = IsOneOf (0 ∷ 1 ∷ 3 ∷ 4 ∷ 5 ∷ 6 ∷ 7 ∷ [])

module _ {bound seed : ℕ} {p : Program} {names : List Name} {g : Graph} where
  pub of_run : {said : Said} → Comes bound seed p names g said → OfRun (status_of said)
  of_run (gives _) = inl refl
  of_run (fails _) = inr (inl refl)
  of_run (is_spent _ _ _ _) = inr (inr (inl refl))
  of_run (is_faulty _ _ _) = inr (inr (inr (inl refl)))

  of_its_run : (k : DemoCommand) {said : Said} → Comes bound seed p names g said → OfDemo (status_of (of_demo_run k said))
  of_its_run k (gives _) = inl refl
  of_its_run k (fails _) = inr (inl refl)
  of_its_run k (is_spent _ _ _ _) = inr (inr (inr (inr (inl refl))))
  of_its_run k (is_faulty _ _ _) = inr (inr (inr (inr (inr (inl refl)))))

  of_endless : (Good : ℕ → Type 0) {said : Said} → Good 5 → Good 6 → Comes bound seed p names g said → IsEndless said → Good (status_of said)
  of_endless Good five six (gives _) e = absurd e
  of_endless Good five six (fails _) e = absurd e
  of_endless Good five six (is_spent _ _ _ _) e = five
  of_endless Good five six (is_faulty _ _ _) e = six

module _ {k : DemoCommand} where
  pub of_demo_answer : {said : Said} → DemoAnswers k said → OfDemo (status_of said)
  of_demo_answer (demo_program_is_bad _) = inr (inr (inl refl))
  of_demo_answer (demo_host_is_bad _ _) = inr (inr (inr (inl refl)))
  of_demo_answer (demo_runs _ _ x) = of_its_run k x

  pub of_demo_program : {f : ProgramFault} {said : Said} → TextsHaveNoFault → IsFaultyText (demo_program k) f → DemoAnswers k said → status_of said ≡ 3
  of_demo_program faultless f (demo_program_is_bad _) = refl
  of_demo_program faultless f (demo_host_is_bad {p = p} t _) = absurd (faultless (demo_program k) p _ t.text f)
  of_demo_program faultless f (demo_runs {p = p} t _ _) = absurd (faultless (demo_program k) p _ t.text f)

  pub of_demo_host : {p : Program} {f : HostFault} {said : Said} → TextsHaveNoFault → IsProgramText (demo_program k) p → IsHostFault (demo_host k) f → DemoAnswers k said → status_of said ≡ 4
  of_demo_host {p} faultless t f (demo_program_is_bad {f = e} x) = absurd (faultless (demo_program k) p e t x)
  of_demo_host faultless t f (demo_host_is_bad _ _) = refl
  of_demo_host faultless t f (demo_runs {g = g} _ h _) = absurd (no_fault (demo_host k) g _ h f)

-- ---- what comes of files: good statuses, where a file that is there and is not read has one

abbrev pub MayBeUnread : KnownFiles → KnownFiles → (ℕ → Type 0) → Type 0
MayBeUnread old new Good = (name : Name) (bytes : List ℕ) → HasFile old.content name bytes → CannotRead old new name → Good 8

pub never_unread : {old new : KnownFiles} (Good : ℕ → Type 0) → Stays old.faults new.faults → MayBeUnread old new Good
never_unread Good n name bytes h u = absurd (can_read bytes n h u)

module _ {old new : KnownFiles} {held : Content} (known : old.content ≡ Some held) (Good : ℕ → Type 0) (unread_well : MayBeUnread old new Good) where
  -- nothing else is answered in place of what is sound
  program_passes : {name : Name} {p : Program} {names : List Name} {said : Said} → TextsHaveNoFault → HasProgram old.content name p names → StopsAtProgram old new name said → Good (status_of said)
  program_passes faultless h (program_is_long l) = absurd (sound_program known faultless h (has_long_program l))
  program_passes faultless h (program_is_bad b x) = absurd (sound_program known faultless h (has_bad_program b x))
  program_passes faultless h (program_is_unread u) = unread_well _ h.bytes h.has.file u

  host_passes : {name : Name} {g : Graph} {said : Said} → HasHost old.content name g → StopsAtHost old new name said → Good (status_of said)
  host_passes h (host_is_long l) = absurd (sound_host known h (has_long_host l))
  host_passes h (host_is_bad b x) = absurd (sound_host known h (has_bad_host b x))
  host_passes h (host_is_unread u) = unread_well _ h.bytes h.has.file u

  trace_passes : {name : Name} {version : Version} {items : List Item} {said : Said} → HasTrace old.content name version items → StopsAtTrace old new name said → Good (status_of said)
  trace_passes h (trace_is_long l) = absurd (sound_trace known h (has_long_trace l))
  trace_passes h (trace_is_bad b x) = absurd (sound_trace known h (has_bad_trace b x))
  trace_passes h (trace_is_unread u) = unread_well _ h.bytes h.has.file u

  result_passes : {name : Name} {bytes : List ℕ} {said : Said} → HasBytes old.content name bytes → StopsAtResult old new name said → Good (status_of said)
  result_passes h (result_is_long l) = absurd (too_long known h l)
  result_passes {bytes = bytes} h (result_is_unread u) = unread_well _ bytes h.file u

  script_passes : {name : Name} {lines : List Line} {said : Said} → HasScript old.content name lines → StopsAtScript old new name said → Good (status_of said)
  script_passes h (script_is_long l) = absurd (sound_script known h (has_long_script l))
  script_passes h (script_is_bad b x) = absurd (sound_script known h (has_bad_script b x))
  script_passes h (script_is_unread u) = unread_well _ h.bytes h.has.file u

  -- what is at fault has its own status
  program_stops : {name : Name} {said : Said} → Good 3 → HasFaultyProgram old.content name → StopsAtProgram old new name said → Good (status_of said)
  program_stops three f (program_is_long _) = three
  program_stops three f (program_is_bad _ _) = three
  program_stops three f (program_is_unread u) = let b = program_bytes f in unread_well _ b.0 b.1 u

  host_stops : {name : Name} {said : Said} → Good 4 → HasFaultyHost old.content name → StopsAtHost old new name said → Good (status_of said)
  host_stops four f (host_is_long _) = four
  host_stops four f (host_is_bad _ _) = four
  host_stops four f (host_is_unread u) = let b = host_bytes f in unread_well _ b.0 b.1 u

  trace_stops : {name : Name} {said : Said} → Good 10 → HasFaultyTrace old.content name → StopsAtTrace old new name said → Good (status_of said)
  trace_stops ten f (trace_is_long _) = ten
  trace_stops ten f (trace_is_bad _ _) = ten
  trace_stops ten f (trace_is_unread u) = let b = trace_bytes f in unread_well _ b.0 b.1 u

  result_stops : {name : Name} {said : Said} → Good 10 → HasLongFile old.content name → StopsAtResult old new name said → Good (status_of said)
  result_stops ten f (result_is_long _) = ten
  result_stops ten f (result_is_unread u) = unread_well _ f.bytes f.file u

  script_stops : {name : Name} {said : Said} → Good 11 → HasFaultyScript old.content name → StopsAtScript old new name said → Good (status_of said)
  script_stops eleven f (script_is_long _) = eleven
  script_stops eleven f (script_is_bad _ _) = eleven
  script_stops eleven f (script_is_unread u) = let b = script_bytes f in unread_well _ b.0 b.1 u

  -- ---- a program and a host, and then the rest

  module _ {program host : Name} {Rest : Program → List Name → Graph → Said → Type 0} (faultless : TextsHaveNoFault) where
    pub of_both : {p : Program} {names : List Name} {g : Graph} {said : Said} → HasProgram old.content program p names → HasHost old.content host g →
        ((q : Program) (others : List Name) (h : Graph) → HasProgram old.content program q others → HasHost old.content host h → Rest q others h said → Good (status_of said)) →
        OfBoth old new program host Rest said → Good (status_of said)
    of_both hp hh rest (at_program x) = program_passes faultless hp x
    of_both hp hh rest (at_host _ x) = host_passes hh x
    of_both hp hh rest (behind_both kp kh x) = rest _ _ _ kp kh x

    pub of_faulty_program : {said : Said} → Good 3 → HasFaultyProgram old.content program → OfBoth old new program host Rest said → Good (status_of said)
    of_faulty_program three f (at_program x) = program_stops three f x
    of_faulty_program three f (at_host h _) = absurd (sound_program known faultless h f)
    of_faulty_program three f (behind_both h _ _) = absurd (sound_program known faultless h f)

    pub of_faulty_host : {p : Program} {names : List Name} {said : Said} → Good 4 → HasProgram old.content program p names → HasFaultyHost old.content host → OfBoth old new program host Rest said → Good (status_of said)
    of_faulty_host four h f (at_program x) = program_passes faultless h x
    of_faulty_host four h f (at_host _ x) = host_stops four f x
    of_faulty_host four h f (behind_both _ k _) = absurd (sound_host known k f)

  -- ---- a trace and a result, and then the check

  module _ {k : CheckCommand} {p : Program} {g : Graph} where
    pub of_check : {version : Version} {items : List Item} {text : List ℕ} {said : Said} → HasTrace old.content k.trace version items → HasBytes old.content k.result text →
        (IsDerivation p g version items text → Good 0) → ((IsDerivation p g version items text → ⊥) → Good 1) → Checks old new k p g said → Good (status_of said)
    of_check ht hr one none (at_trace x) = trace_passes ht x
    of_check ht hr one none (at_result _ x) = result_passes hr x
    of_check {version} {items} {text} ht hr one none (is_derivation {version = w} {items = t} {text = u} kt kr d) =
        let e = same_trace known kt ht in
        one (subst (λ (v : Version). IsDerivation p g v items text) e.0
        (subst (λ (s : List Item). IsDerivation p g w s text) e.1
        (subst (λ (b : List ℕ). IsDerivation p g w t b) (same_bytes old.content k.result u text known kr.file hr.file) d)))
    of_check {version} {items} {text} ht hr one none (is_none {version = w} {items = t} {text = u} kt kr n) =
        let e = same_trace known ht kt in
        none (λ d. n (subst (λ (v : Version). IsDerivation p g v t u) e.0
        (subst (λ (s : List Item). IsDerivation p g version s u) e.1
        (subst (λ (b : List ℕ). IsDerivation p g version items b) (same_bytes old.content k.result text u known hr.file kr.file) d))))

    pub of_faulty_trace : {said : Said} → Good 10 → HasFaultyTrace old.content k.trace → Checks old new k p g said → Good (status_of said)
    of_faulty_trace ten f (at_trace x) = trace_stops ten f x
    of_faulty_trace ten f (at_result h _) = absurd (sound_trace known h f)
    of_faulty_trace ten f (is_derivation h _ _) = absurd (sound_trace known h f)
    of_faulty_trace ten f (is_none h _ _) = absurd (sound_trace known h f)

    pub of_long_result : {version : Version} {items : List Item} {said : Said} → Good 10 → HasTrace old.content k.trace version items → HasLongFile old.content k.result → Checks old new k p g said → Good (status_of said)
    of_long_result ten h f (at_trace x) = trace_passes h x
    of_long_result ten h f (at_result _ x) = result_stops ten f x
    of_long_result ten h f (is_derivation _ b _) = absurd (too_long known b f)
    of_long_result ten h f (is_none _ b _) = absurd (too_long known b f)

  -- ---- a script, and then the run

  module _ {k : StepCommand} {p : Program} {names : List Name} {g : Graph} where
    pub of_step : {lines : List Line} {said : Said} → HasScript old.content k.script lines → Good 0 → Good 5 → Good 6 → Steps old new k p names g said → Good (status_of said)
    of_step hs good five six (at_script x) = script_passes hs x
    of_step hs good five six (walks _ _ _ _) = good
    of_step hs good five six (is_endless _ c e) = of_endless Good five six c e

    pub of_faulty_script : {said : Said} → Good 11 → HasFaultyScript old.content k.script → Steps old new k p names g said → Good (status_of said)
    of_faulty_script eleven f (at_script x) = script_stops eleven f x
    of_faulty_script eleven f (walks h _ _ _) = absurd (sound_script known h f)
    of_faulty_script eleven f (is_endless h _ _) = absurd (sound_script known h f)
