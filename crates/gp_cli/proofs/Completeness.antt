-- From the cause to the status of the top call.
use Rattle.std.proofs.Common.{◌≡◌, ℕ, ◌<◌, List, [], ◌∷◌, Some, refl, sym, ap, subst, arith, inl, inr}
use Rattle.std.proofs.lemmas.Option.{option_and_then_some}
use Rattle.gp_io.specs.Outside.{Content, KnownFiles, KnownSink}
use Rattle.gp_values.specs.Names.{Name}
use Rattle.gp_values.specs.Graph.{Graph}
use Rattle.gp_syntax.specs.Run.{Program, Item}
use Rattle.gp_reader.specs.Laws.{TextsHaveNoFault, TextsHaveOneProgram, TreesHaveNoFault}
use Rattle.gp_fmt.specs.Laws.{CanonicalTextsAreRead, CanonicalTextsMeanTheSame, CanonicalTextsStay}
use Rattle.gp_derivation.specs.Derivation.{IsDerivation}
use Rattle.gp_trace.specs.declared.version.Version.{Version}
use Rattle.gp_trace.specs.declared.version.Version.TheVariants.{Two}
use Rattle.gp_words.specs.CommandLine.{CheckCommand, run, demo, check, fmt, step, command_of}
use Rattle.gp_cli.specs.Texts.{Said}
use Rattle.gp_cli.specs.Inputs.{HasBytes, HasProgram, HasProgramTree, HasHost, HasTrace}
use Rattle.gp_cli.specs.Answer.{IsTrue, Answered, replied, no_memory, out_fault, err_fault}
use Rattle.gp_cli.specs.Completes.{IsOneOf, Stays, NoSinkFails, NothingFails, Refuses, RunCompletes, CheckCompletes, ChecksRuns, TellsDerivation, FmtCompletes, FormatsTheSame, FormatsAgain, StepCompletes, DemoCompletes, RefusesWords, files_of, RefusesProgram, RefusesHost, RefusesTrace, RefusesResult, RefusesScript, RefusesTree, RefusesDemoProgram, RefusesDemoHost, TellsFaults, Completes}
use Rattle.gp_cli.specs.Written.{TakesAll}
use Rattle.gp_cli.proofs.Held.{same_program, same_host}
use Rattle.gp_cli.proofs.Causes.{status_of, shown, OfRun, OfDemo, of_run, of_demo_answer, of_demo_program, of_demo_host, MayBeUnread, never_unread, of_both, of_faulty_program, of_faulty_host, of_check, of_faulty_trace, of_long_result, of_step, of_faulty_script}
use Rattle.gp_cli.proofs.Commands.{by_command, no_command, both_of_command}
use Rattle.gp_cli.proofs.Formats.{of_tree, of_treeless, is_written, read_back, writes_the_same, gives_again}
use Rattle.gp_cli.proofs.Ran.{derived}

-- what holds of the texts of programs
pub record Laws : Type 0 where
  pub faultless : TextsHaveNoFault
  pub one_program : TextsHaveOneProgram
  pub trees : TreesHaveNoFault
  pub read : CanonicalTextsAreRead
  pub mean : CanonicalTextsMeanTheSame
  pub stay : CanonicalTextsStay

stayed : {before now : KnownSink} {pieces : List (List ℕ)} → TakesAll before now pieces → before.faults < now.faults → ⊥
stayed t h = let e = t.faultless in omega arith

abbrev OfCheck : ℕ → Type 0
OfCheck = IsOneOf (0 ∷ 1 ∷ 7 ∷ [])

abbrev OfStep : ℕ → Type 0
OfStep = IsOneOf (0 ∷ 5 ∷ 6 ∷ 7 ∷ [])

fmts_the_same : {words : List Name} {old new : KnownFiles} → CanonicalTextsAreRead → CanonicalTextsMeanTheSame → FormatsTheSame words old new
fmts_the_same read mean k journal result text w r = writes_the_same read mean k w r

module _ {words : List Name} {old new : KnownFiles} {out_old out_new err_old err_new : KnownSink} where
  -- ---- what is written: a reply, want of memory, or a failed write

  refuses : {s : ℕ} (code : ℕ) (of_devices : List ℕ) (NoneFails : Type 0) → IsOneOf (code ∷ 7 ∷ of_devices) 9 → (NoneFails → NoSinkFails out_old out_new err_old err_new) →
      ((said : Said) → IsTrue words old new said → IsOneOf (code ∷ 7 ∷ of_devices) (status_of said) × (NoneFails → status_of said ≡ code)) →
      Answered words old new out_old out_new err_old err_new s → Refuses code of_devices NoneFails s
  refuses code of_devices NoneFails nine sinks good (replied r _ _) =
      let g = good r.said r.is_true in subst (Refuses code of_devices NoneFails) (sym (shown r.shows)) (g.0, λ n. inl (g.1 n))
  refuses code of_devices NoneFails nine sinks good (no_memory _ _) = (inr (inl refl), λ n. inr (inl refl))
  refuses code of_devices NoneFails nine sinks good (out_fault _ c _) = (nine, λ n. absurd ((sinks n).out c.rose))
  refuses code of_devices NoneFails nine sinks good (err_fault _ _ c) = (nine, λ n. absurd ((sinks n).err c.rose))

  refuses_unread : {s : ℕ} (code : ℕ) → ((Good : ℕ → Type 0) → Good code → MayBeUnread old new Good → (said : Said) → IsTrue words old new said → Good (status_of said)) →
      Answered words old new out_old out_new err_old err_new s → Refuses code (8 ∷ 9 ∷ []) (NothingFails old new out_old out_new err_old err_new) s
  refuses_unread code good a =
      let Same : ℕ → Type 0 = λ t. t ≡ code in
      refuses code (8 ∷ 9 ∷ []) (NothingFails old new out_old out_new err_old err_new) (inr (inr (inr (inl refl)))) (λ n. n.sinks)
      (λ said is.
      (good (IsOneOf (code ∷ 7 ∷ 8 ∷ 9 ∷ [])) (inl refl) (λ name bytes h u. inr (inr (inl refl))) said is, λ n. good Same refl (never_unread Same n.files) said is)) a

  refuses_surely : {s : ℕ} (code : ℕ) → ((said : Said) → IsTrue words old new said → status_of said ≡ code) → Answered words old new out_old out_new err_old err_new s →
      Refuses code (9 ∷ []) (NoSinkFails out_old out_new err_old err_new) s
  refuses_surely code good a = refuses code (9 ∷ []) (NoSinkFails out_old out_new err_old err_new) (inr (inr (inl refl))) (λ n. n) (λ said is. (inl (good said is), λ n. good said is)) a

  answers_well : {s : ℕ} → (Good : ℕ → Type 0) → Good 7 → ((said : Said) → IsTrue words old new said → Good (status_of said)) →
      Stays out_old.faults out_new.faults → Stays err_old.faults err_new.faults → Answered words old new out_old out_new err_old err_new s → Good s
  answers_well Good seven good not_out not_err (replied r _ _) = subst Good (sym (shown r.shows)) (good r.said r.is_true)
  answers_well Good seven good not_out not_err (no_memory _ _) = seven
  answers_well Good seven good not_out not_err (out_fault _ c _) = absurd (not_out c.rose)
  answers_well Good seven good not_out not_err (err_fault _ _ c) = absurd (not_err c.rose)

  -- ---- what is sound

  runs_complete : {s : ℕ} → TextsHaveNoFault → Answered words old new out_old out_new err_old err_new s → RunCompletes words old new out_old out_new err_old err_new s
  runs_complete faultless a held k p names g known w hp hh n not_out not_err =
      answers_well OfRun (inr (inr (inr (inr (inl refl)))))
      (λ said is. of_both known OfRun (never_unread OfRun n) faultless hp hh (λ q others h kp kh x. of_run x) (by_command (run k) w is)) not_out not_err a

  -- the status is one of these, of which 0 has this cause, and so has 1
  checked : {s : ℕ} → (Good : ℕ → Type 0) → Good 7 → TextsHaveNoFault → TextsHaveOneProgram → Answered words old new out_old out_new err_old err_new s → {held : Content} {k : CheckCommand} {p : Program} {names : List Name} {g : Graph}
      {version : Version} {items : List Item} {text : List ℕ} → old.content ≡ Some held → command_of words ≡ Some (check k) → HasProgram old.content k.program p names → HasHost old.content k.host g →
      HasTrace old.content k.trace version items → HasBytes old.content k.result text → Stays old.faults new.faults → Stays out_old.faults out_new.faults → Stays err_old.faults err_new.faults →
      (IsDerivation p g version items text → Good 0) → ((IsDerivation p g version items text → ⊥) → Good 1) → Good s
  checked Good seven faultless one_program a {k = k} {p = p} {g = g} {version = version} {items = items} {text = text} known w hp hh ht hr n not_out not_err zero one =
      let never = never_unread Good n in
      answers_well Good seven
      (λ said is. of_both known Good never faultless hp hh
      (λ q others h kp kh x.
      let same_p = same_program known one_program hp kp in
      let same_g = same_host known hh kh in
      of_check known Good never ht hr
      (λ d. zero (subst (λ (z : Program). IsDerivation z g version items text) (sym same_p) (subst (λ (z : Graph). IsDerivation q z version items text) (sym same_g) d)))
      (λ none. one (λ d. none (subst (λ (z : Graph). IsDerivation q z version items text) same_g (subst (λ (z : Program). IsDerivation z g version items text) same_p d)))) x)
      (by_command (check k) w is)) not_out not_err a

  checks_complete : {s : ℕ} → TextsHaveNoFault → TextsHaveOneProgram → Answered words old new out_old out_new err_old err_new s → CheckCompletes words old new out_old out_new err_old err_new s
  checks_complete faultless one_program a held k p names g version items text known w hp hh ht hr n not_out not_err = record {
    either = checked OfCheck (inr (inr (inl refl))) faultless one_program a known w hp hh ht hr n not_out not_err (λ d. inl refl) (λ none. inr (inl refl));
    derivation = λ d. checked (IsOneOf (0 ∷ 7 ∷ [])) (inr (inl refl)) faultless one_program a known w hp hh ht hr n not_out not_err (λ e. inl refl) (λ none. absurd (none d));
    none = λ no. checked (IsOneOf (1 ∷ 7 ∷ [])) (inr (inl refl)) faultless one_program a known w hp hh ht hr n not_out not_err (λ d. absurd (no d)) (λ none. inl refl);
  }

  checks_run : {s : ℕ} → TextsHaveNoFault → TextsHaveOneProgram → Answered words old new out_old out_new err_old err_new s → ChecksRuns words old new out_old out_new err_old err_new s
  checks_run faultless one_program a held k program host journal result known w written bp bh bt br n not_out not_err =
      let d = derived written in
      let hp : HasProgram old.content k.program d.p _ = record { bytes = program; has = bp; tells = record { text = d.of_program; names = refl } } in
      let hh : HasHost old.content k.host d.g = record { bytes = host; has = bh; text = d.of_host } in
      let ht : HasTrace old.content k.trace Two d.items = record { bytes = journal; has = bt; text = d.of_trace } in
      (checks_complete faultless one_program a held k d.p _ d.g Two d.items result known w hp hh ht br n not_out not_err).derivation d.derivation

  fmts_complete : {s : ℕ} → TreesHaveNoFault → Answered words old new out_old out_new err_old err_new s → FmtCompletes words old new out_old out_new err_old err_new s
  fmts_complete faultless a held k tree known w h n not_out not_err =
      let Good : ℕ → Type 0 = IsOneOf (0 ∷ 7 ∷ []) in
      answers_well Good (inr (inl refl)) (λ said is. of_tree known Good (never_unread Good n) faultless h (inl refl) (by_command (fmt k) w is)) not_out not_err a

  fmts_again : {s : ℕ} → TreesHaveNoFault → CanonicalTextsAreRead → CanonicalTextsStay → Answered words old new out_old out_new err_old err_new s → FormatsAgain words old new out_old out_new err_old err_new s
  fmts_again faultless read stay a held k result known w f b n not_out not_err =
      let f = is_written f in
      let h : HasProgramTree old.content k.program f.tree = record { bytes = result; has = b; has_tree = read_back read f } in
      (fmts_complete faultless a held k f.tree known w h n not_out not_err, gives_again k stay known w f b)

  steps_complete : {s : ℕ} → TextsHaveNoFault → Answered words old new out_old out_new err_old err_new s → StepCompletes words old new out_old out_new err_old err_new s
  steps_complete faultless a held k p names g lines known w hp hh hs n not_out not_err =
      let never = never_unread OfStep n in
      answers_well OfStep (inr (inr (inr (inl refl))))
      (λ said is. of_both known OfStep never faultless hp hh (λ q others h kp kh x. of_step known OfStep never hs (inl refl) (inr (inl refl)) (inr (inr (inl refl))) x) (by_command (step k) w is)) not_out not_err a

  demos_complete : {s : ℕ} → Answered words old new out_old out_new err_old err_new s → DemoCompletes words out_old out_new err_old err_new s
  demos_complete a k w not_out not_err =
      answers_well OfDemo (inr (inr (inr (inr (inr (inr (inl refl))))))) (λ said is. of_demo_answer (by_command (demo k) w is)) not_out not_err a

  -- ---- what is refused

  words_refuse : {s : ℕ} → Answered words old new out_old out_new err_old err_new s → RefusesWords words out_old out_new err_old err_new s
  words_refuse a w = refuses_surely 2 (λ said is. ap status_of (no_command w is)) a

  programs_refuse : {s : ℕ} → TextsHaveNoFault → Answered words old new out_old out_new err_old err_new s → RefusesProgram words old new out_old out_new err_old err_new s
  programs_refuse faultless a held program host known files f =
      option_and_then_some files_of (command_of words) (program, host) files (λ c w e.
      refuses_unread 3 (λ Good three unread said is. of_faulty_program known Good unread faultless three f (both_of_command c e (by_command c w is)).1) a)

  hosts_refuse : {s : ℕ} → TextsHaveNoFault → Answered words old new out_old out_new err_old err_new s → RefusesHost words old new out_old out_new err_old err_new s
  hosts_refuse faultless a held program host p names known files hp f =
      option_and_then_some files_of (command_of words) (program, host) files (λ c w e.
      refuses_unread 4 (λ Good four unread said is. of_faulty_host known Good unread faultless four hp f (both_of_command c e (by_command c w is)).1) a)

  traces_refuse : {s : ℕ} → TextsHaveNoFault → Answered words old new out_old out_new err_old err_new s → RefusesTrace words old new out_old out_new err_old err_new s
  traces_refuse faultless a held k p names g known w hp hh f =
      refuses_unread 10 (λ Good ten unread said is. of_both known Good unread faultless hp hh (λ q others h kp kh x. of_faulty_trace known Good unread ten f x) (by_command (check k) w is)) a

  results_refuse : {s : ℕ} → TextsHaveNoFault → Answered words old new out_old out_new err_old err_new s → RefusesResult words old new out_old out_new err_old err_new s
  results_refuse faultless a held k p names g version items known w hp hh ht f =
      refuses_unread 10 (λ Good ten unread said is. of_both known Good unread faultless hp hh (λ q others h kp kh x. of_long_result known Good unread ten ht f x) (by_command (check k) w is)) a

  scripts_refuse : {s : ℕ} → TextsHaveNoFault → Answered words old new out_old out_new err_old err_new s → RefusesScript words old new out_old out_new err_old err_new s
  scripts_refuse faultless a held k p names g known w hp hh f =
      refuses_unread 11 (λ Good eleven unread said is. of_both known Good unread faultless hp hh (λ q others h kp kh x. of_faulty_script known Good unread eleven f x) (by_command (step k) w is)) a

  trees_refuse : {s : ℕ} → TreesHaveNoFault → Answered words old new out_old out_new err_old err_new s → RefusesTree words old new out_old out_new err_old err_new s
  trees_refuse faultless a held k known w f =
      refuses_unread 3 (λ Good three unread said is. of_treeless known Good unread faultless three f (by_command (fmt k) w is)) a

  demo_programs_refuse : {s : ℕ} → TextsHaveNoFault → Answered words old new out_old out_new err_old err_new s → RefusesDemoProgram words out_old out_new err_old err_new s
  demo_programs_refuse faultless a k f w x = refuses_surely 3 (λ said is. of_demo_program faultless x (by_command (demo k) w is)) a

  demo_hosts_refuse : {s : ℕ} → TextsHaveNoFault → Answered words old new out_old out_new err_old err_new s → RefusesDemoHost words out_old out_new err_old err_new s
  demo_hosts_refuse faultless a k p f w t x = refuses_surely 4 (λ said is. of_demo_host faultless t x (by_command (demo k) w is)) a

  -- ---- and failed writes

  out_tells : {s : ℕ} → Answered words old new out_old out_new err_old err_new s → TellsFaults out_old out_new s
  out_tells (replied _ o _) h = absurd (stayed o h)
  out_tells (no_memory o _) h = absurd (stayed o h)
  out_tells (out_fault _ _ _) h = refl
  out_tells (err_fault _ o _) h = refl

  err_tells : {s : ℕ} → Answered words old new out_old out_new err_old err_new s → TellsFaults err_old err_new s
  err_tells (replied _ _ e) h = absurd (stayed e h)
  err_tells (no_memory _ e) h = absurd (stayed e h)
  err_tells (out_fault _ _ _) h = refl
  err_tells (err_fault _ _ _) h = refl

  pub completes : {s : ℕ} → Laws → Answered words old new out_old out_new err_old err_new s → Completes words old new out_old out_new err_old err_new s
  completes laws a = record {
    runs = runs_complete laws.faultless a;
    checks = checks_complete laws.faultless laws.one_program a;
    checks_runs = checks_run laws.faultless laws.one_program a;
    formats = fmts_complete laws.trees a;
    formats_the_same = fmts_the_same laws.read laws.mean;
    formats_again = fmts_again laws.trees laws.read laws.stay a;
    steps = steps_complete laws.faultless a;
    demos = demos_complete a;
    words_refused = words_refuse a;
    program_refused = programs_refuse laws.faultless a;
    host_refused = hosts_refuse laws.faultless a;
    trace_refused = traces_refuse laws.faultless a;
    result_refused = results_refuse laws.faultless a;
    script_refused = scripts_refuse laws.faultless a;
    tree_refused = trees_refuse laws.trees a;
    demo_program_refused = demo_programs_refuse laws.faultless a;
    demo_host_refused = demo_hosts_refuse laws.faultless a;
    out_faults = out_tells a;
    err_faults = err_tells a;
  }
