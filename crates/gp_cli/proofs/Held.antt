-- Files whose content is known: what a file has is one thing, and is not at fault too.
use Rattle.std.proofs.Common.{◌≡◌, ℕ, List, length, ap, subst, arith}
use Rattle.std.specs.Prelude.{Option, Some, None}
use Rattle.std.specs.FinMap as map
use Rattle.gp_io.specs.Outside.{Content, KnownFiles, Rose, HasFile, LacksFile}
use Rattle.gp_values.specs.Names.{Name}
use Rattle.gp_values.specs.Graph.{Graph}
use Rattle.gp_syntax.specs.declared.tree.Ast.{Ast}
use Rattle.gp_syntax.specs.Run.{Program, Item}
use Rattle.gp_reader.specs.Program.{HasTree, IsProgramText}
use Rattle.gp_reader.specs.Laws.{TextsHaveNoFault, TextsHaveOneProgram, TreesHaveNoFault}
use Rattle.gp_hostfile.specs.Host.{IsHostText}
use Rattle.gp_hostfile.proofs.Hosts.{one_host, no_fault}
use Rattle.gp_trace.specs.declared.version.Version.{Version}
use Rattle.gp_trace.specs.Reading.{IsTraceOf}
use Rattle.gp_trace.proofs.Told.{told, breaks_told}
use Rattle.gp_derivation.specs.declared.line.Line.{Line}
use Rattle.gp_derivation.specs.Script.{IsScript}
use Rattle.gp_derivation.proofs.Words.{breaks_once}
use Rattle.gp_cli.specs.Inputs.{HasBytes, HasLongFile, CannotRead, risen, lacking, HasProgram, HasProgramTree, HasHost, HasTrace, HasScript, HasFaultyProgram, has_long_program, has_bad_program, HasTreelessProgram, has_long_text, has_no_tree, HasFaultyHost, has_long_host, has_bad_host, HasFaultyTrace, has_long_trace, has_bad_trace, HasFaultyScript, has_long_script, has_bad_script}

pub same_bytes : {held : Content} (content : Option Content) (name : Name) (a b : List ℕ) → content ≡ Some held → HasFile content name a → HasFile content name b → a ≡ b
same_bytes None name a b known h k = absurd cc
same_bytes (Some files) name a b known h k =
    let p : map.get files name ≡ Some a = h in
    let q : map.get files name ≡ Some b = k in
    cc

-- ---- a file that is there is not read at a fault alone

not_both : (content : Option Content) (name : Name) (bytes : List ℕ) → HasFile content name bytes → LacksFile content name → ⊥
not_both None name bytes h l = l
not_both (Some files) name bytes h l =
    let p : map.get files name ≡ Some bytes = h in
    let q : map.get files name ≡ None = l in
    absurd cc

pub can_read : {old new : KnownFiles} {name : Name} (bytes : List ℕ) → (Rose old.faults new.faults → ⊥) → HasFile old.content name bytes → CannotRead old new name → ⊥
can_read bytes n h (risen r) = n r
can_read {old} {new} {name} bytes n h (lacking l) = not_both old.content name bytes h l

module _ {content : Option Content} {name : Name} where
  pub program_bytes : HasFaultyProgram content name → (bytes : List ℕ) × HasFile content name bytes
  program_bytes (has_long_program f) = (f.bytes, f.file)
  program_bytes (has_bad_program {bytes} b x) = (bytes, b.file)

  pub tree_bytes : HasTreelessProgram content name → (bytes : List ℕ) × HasFile content name bytes
  tree_bytes (has_long_text f) = (f.bytes, f.file)
  tree_bytes (has_no_tree {bytes} b x) = (bytes, b.file)

  pub host_bytes : HasFaultyHost content name → (bytes : List ℕ) × HasFile content name bytes
  host_bytes (has_long_host f) = (f.bytes, f.file)
  host_bytes (has_bad_host {bytes} b x) = (bytes, b.file)

  pub trace_bytes : HasFaultyTrace content name → (bytes : List ℕ) × HasFile content name bytes
  trace_bytes (has_long_trace f) = (f.bytes, f.file)
  trace_bytes (has_bad_trace {bytes} b x) = (bytes, b.file)

  pub script_bytes : HasFaultyScript content name → (bytes : List ℕ) × HasFile content name bytes
  script_bytes (has_long_script f) = (f.bytes, f.file)
  script_bytes (has_bad_script {bytes} b x) = (bytes, b.file)

module _ {content : Option Content} {held : Content} (known : content ≡ Some held) {name : Name} where
  pub too_long : {bytes : List ℕ} → HasBytes content name bytes → HasLongFile content name → ⊥
  too_long {bytes} h l =
      let e = ap length (same_bytes content name bytes l.bytes known h.file l.file) in
      let a = h.short in
      let b = l.long in
      omega arith

  -- ---- a text is of one program, of one host, of one trace, and of one script

  pub program_again : {p : Program} {names : List Name} (bytes : List ℕ) → HasFile content name bytes → HasProgram content name p names → IsProgramText bytes p
  program_again {p} bytes f h = subst (λ (b : List ℕ). IsProgramText b p) (same_bytes content name h.bytes bytes known h.has.file f) h.tells.text

  pub tree_again : {tree : Ast} (bytes : List ℕ) → HasFile content name bytes → HasProgramTree content name tree → HasTree bytes tree
  tree_again {tree} bytes f h = subst (λ (b : List ℕ). HasTree b tree) (same_bytes content name h.bytes bytes known h.has.file f) h.has_tree

  pub host_again : {g : Graph} (bytes : List ℕ) → HasFile content name bytes → HasHost content name g → IsHostText bytes g
  host_again {g} bytes f h = subst (λ (b : List ℕ). IsHostText b g) (same_bytes content name h.bytes bytes known h.has.file f) h.text

  trace_again : {version : Version} {t : List Item} (bytes : List ℕ) → HasFile content name bytes → HasTrace content name version t → IsTraceOf bytes version t
  trace_again {version} {t} bytes f h = subst (λ (b : List ℕ). IsTraceOf b version t) (same_bytes content name h.bytes bytes known h.has.file f) h.text

  script_again : {lines : List Line} (bytes : List ℕ) → HasFile content name bytes → HasScript content name lines → IsScript bytes lines
  script_again {lines} bytes f h = subst (λ (b : List ℕ). IsScript b lines) (same_bytes content name h.bytes bytes known h.has.file f) h.text

  pub same_program : {p q : Program} {names others : List Name} → TextsHaveOneProgram → HasProgram content name p names → HasProgram content name q others → p ≡ q
  same_program {p} {q} one h k = one h.bytes p q h.tells.text (program_again h.bytes h.has.file k)

  pub same_host : {g h : Graph} → HasHost content name g → HasHost content name h → g ≡ h
  same_host {g} {h} a b = one_host a.bytes g h a.text (host_again a.bytes a.has.file b)

  pub same_trace : {v w : Version} {s t : List Item} → HasTrace content name v s → HasTrace content name w t → (v ≡ w) × (s ≡ t)
  same_trace {v} {w} {s} {t} a b = told a.bytes v w s t a.text (trace_again a.bytes a.has.file b)

  -- ---- and has no fault

  pub sound_program : {p : Program} {names : List Name} → TextsHaveNoFault → HasProgram content name p names → HasFaultyProgram content name → ⊥
  sound_program faultless h (has_long_program f) = too_long h.has f
  sound_program {p} faultless h (has_bad_program {bytes} {f} b x) = faultless bytes p f (program_again bytes b.file h) x

  pub sound_tree : {tree : Ast} → TreesHaveNoFault → HasProgramTree content name tree → HasTreelessProgram content name → ⊥
  sound_tree faultless h (has_long_text f) = too_long h.has f
  sound_tree {tree} faultless h (has_no_tree {bytes} {f} b x) = faultless bytes tree f (tree_again bytes b.file h) x

  pub sound_host : {g : Graph} → HasHost content name g → HasFaultyHost content name → ⊥
  sound_host h (has_long_host f) = too_long h.has f
  sound_host {g} h (has_bad_host {bytes} {f} b x) = no_fault bytes g f (host_again bytes b.file h) x

  pub sound_trace : {version : Version} {t : List Item} → HasTrace content name version t → HasFaultyTrace content name → ⊥
  sound_trace h (has_long_trace f) = too_long h.has f
  sound_trace {version} {t} h (has_bad_trace {bytes} {line} b x) = (breaks_told bytes).none version t line (trace_again bytes b.file h) x

  pub sound_script : {lines : List Line} → HasScript content name lines → HasFaultyScript content name → ⊥
  sound_script h (has_long_script f) = too_long h.has f
  sound_script {lines} h (has_bad_script {bytes} {line} b x) = (breaks_once bytes).none lines line (script_again bytes b.file h) x
