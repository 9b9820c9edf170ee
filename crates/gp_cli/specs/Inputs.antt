-- What the files of a command hold, as far as they are read, and what is answered in place of one.
use Rattle.std.specs.Prelude.{◌≡◌, ℕ, ◌^◌, ◌≤◌, ◌<◌, List, length, map, Option}
use Rattle.gp_io.specs.Outside.{Content, KnownFiles, Rose, HasFile, LacksFile}
use Rattle.gp_values.specs.Names.{Name}
use Rattle.gp_values.specs.Graph.{Graph}
use Rattle.gp_syntax.specs.declared.tree.Ast.{Ast}
use Rattle.gp_syntax.specs.Declaration.{Declaration}
use Rattle.gp_syntax.specs.Run.{Program, Item}
use Rattle.gp_reader.specs.declared.fault.ProgramFault.{ProgramFault}
use Rattle.gp_reader.specs.Program.{HasTree, IsProgramText, IsFaultyText, IsTreelessText, declared_rules}
use Rattle.gp_hostfile.specs.declared.fault.HostFault.{HostFault}
use Rattle.gp_hostfile.specs.Host.{IsHostText, IsHostFault}
use Rattle.gp_trace.specs.declared.version.Version.{Version}
use Rattle.gp_trace.specs.Reading.{IsTraceOf, BreaksAt}
use Rattle.gp_derivation.specs.declared.line.Line.{Line}
use Rattle.gp_derivation.specs.Script.{IsScript}
use Rattle.gp_derivation.specs.Script as script
use Rattle.gp_cli.specs.Texts.{Said, long_program, bad_program, long_host, bad_host, long_trace, bad_trace, long_result, long_script, bad_script, unread}

-- the greatest number of bytes of a file
abbrev pub limit : ℕ
limit = 2 ^ 28

-- ---- texts

-- the bytes are the text of this program, whose rules have these names
pub record TellsProgram (bytes : List ℕ) (p : Program) (rule_names : List Name) : Type 0 where
  pub text : IsProgramText bytes p
  pub names : rule_names ≡ map (λ (d : Declaration). d.name) (declared_rules text.tree)

-- ---- files

-- the file of that name has these bytes, at most the limit of them
pub record HasBytes (content : Option Content) (name : Name) (bytes : List ℕ) : Type 0 where
  pub file : HasFile content name bytes
  pub short : length bytes ≤ limit

-- the file has more bytes than the limit
pub record HasLongFile (content : Option Content) (name : Name) : Type 0 where
  pub bytes : List ℕ
  pub file : HasFile content name bytes
  pub long : limit < length bytes

-- the file cannot be read: the count of the files' faults rose, or the known content lacks it
pub data CannotRead (old new : KnownFiles) (name : Name) : Type 0 where
  risen : Rose old.faults new.faults → CannotRead old new name
  lacking : LacksFile old.content name → CannotRead old new name

-- its bytes are this program, whose rules have these names
pub record HasProgram (content : Option Content) (name : Name) (p : Program) (rule_names : List Name) : Type 0 where
  pub bytes : List ℕ
  pub has : HasBytes content name bytes
  pub tells : TellsProgram bytes p rule_names

-- its bytes have this tree
pub record HasProgramTree (content : Option Content) (name : Name) (tree : Ast) : Type 0 where
  pub bytes : List ℕ
  pub has : HasBytes content name bytes
  pub has_tree : HasTree bytes tree

-- its bytes are this host graph
pub record HasHost (content : Option Content) (name : Name) (g : Graph) : Type 0 where
  pub bytes : List ℕ
  pub has : HasBytes content name bytes
  pub text : IsHostText bytes g

-- its bytes are the trace of these items, in this version
pub record HasTrace (content : Option Content) (name : Name) (version : Version) (items : List Item) : Type 0 where
  pub bytes : List ℕ
  pub has : HasBytes content name bytes
  pub text : IsTraceOf bytes version items

-- its bytes are the script of these lines
pub record HasScript (content : Option Content) (name : Name) (lines : List Line) : Type 0 where
  pub bytes : List ℕ
  pub has : HasBytes content name bytes
  pub text : IsScript bytes lines

-- it is longer than the limit, or its bytes have a fault of a program's text
pub data HasFaultyProgram (content : Option Content) (name : Name) : Type 0 where
  has_long_program : HasLongFile content name → HasFaultyProgram content name
  has_bad_program : {bytes : List ℕ} {f : ProgramFault} → HasBytes content name bytes → IsFaultyText bytes f → HasFaultyProgram content name

-- it is longer than the limit, or its bytes have no tree
pub data HasTreelessProgram (content : Option Content) (name : Name) : Type 0 where
  has_long_text : HasLongFile content name → HasTreelessProgram content name
  has_no_tree : {bytes : List ℕ} {f : ProgramFault} → HasBytes content name bytes → IsTreelessText bytes f → HasTreelessProgram content name

-- it is longer than the limit, or its bytes have a fault of a host's text
pub data HasFaultyHost (content : Option Content) (name : Name) : Type 0 where
  has_long_host : HasLongFile content name → HasFaultyHost content name
  has_bad_host : {bytes : List ℕ} {f : HostFault} → HasBytes content name bytes → IsHostFault bytes f → HasFaultyHost content name

-- it is longer than the limit, or a line of it is not of the form of its place
pub data HasFaultyTrace (content : Option Content) (name : Name) : Type 0 where
  has_long_trace : HasLongFile content name → HasFaultyTrace content name
  has_bad_trace : {bytes : List ℕ} {line : ℕ} → HasBytes content name bytes → BreaksAt bytes line → HasFaultyTrace content name

-- it is longer than the limit, or a line of it is none of the words of scripts
pub data HasFaultyScript (content : Option Content) (name : Name) : Type 0 where
  has_long_script : HasLongFile content name → HasFaultyScript content name
  has_bad_script : {bytes : List ℕ} {line : ℕ} → HasBytes content name bytes → script.BreaksAt bytes line → HasFaultyScript content name

-- ---- what is answered in place of a file

-- in place of a program
pub data StopsAtProgram (old new : KnownFiles) (name : Name) : Said → Type 0 where
  program_is_long : HasLongFile old.content name → StopsAtProgram old new name long_program
  program_is_bad : {bytes : List ℕ} {f : ProgramFault} → HasBytes old.content name bytes → IsFaultyText bytes f → StopsAtProgram old new name (bad_program f)
  program_is_unread : CannotRead old new name → StopsAtProgram old new name (unread name)

-- and in place of a host
pub data StopsAtHost (old new : KnownFiles) (name : Name) : Said → Type 0 where
  host_is_long : HasLongFile old.content name → StopsAtHost old new name long_host
  host_is_bad : {bytes : List ℕ} {f : HostFault} → HasBytes old.content name bytes → IsHostFault bytes f → StopsAtHost old new name (bad_host f)
  host_is_unread : CannotRead old new name → StopsAtHost old new name (unread name)

-- of a trace
pub data StopsAtTrace (old new : KnownFiles) (name : Name) : Said → Type 0 where
  trace_is_long : HasLongFile old.content name → StopsAtTrace old new name long_trace
  trace_is_bad : {bytes : List ℕ} {line : ℕ} → HasBytes old.content name bytes → BreaksAt bytes line → StopsAtTrace old new name (bad_trace line)
  trace_is_unread : CannotRead old new name → StopsAtTrace old new name (unread name)

-- and of a result, which may be any text
pub data StopsAtResult (old new : KnownFiles) (name : Name) : Said → Type 0 where
  result_is_long : HasLongFile old.content name → StopsAtResult old new name long_result
  result_is_unread : CannotRead old new name → StopsAtResult old new name (unread name)

-- of a script
pub data StopsAtScript (old new : KnownFiles) (name : Name) : Said → Type 0 where
  script_is_long : HasLongFile old.content name → StopsAtScript old new name long_script
  script_is_bad : {bytes : List ℕ} {line : ℕ} → HasBytes old.content name bytes → script.BreaksAt bytes line → StopsAtScript old new name (bad_script line)
  script_is_unread : CannotRead old new name → StopsAtScript old new name (unread name)

-- and of the tree of a program
pub data StopsAtTree (old new : KnownFiles) (name : Name) : Said → Type 0 where
  tree_is_long : HasLongFile old.content name → StopsAtTree old new name long_program
  tree_is_none : {bytes : List ℕ} {f : ProgramFault} → HasBytes old.content name bytes → IsTreelessText bytes f → StopsAtTree old new name (bad_program f)
  tree_is_unread : CannotRead old new name → StopsAtTree old new name (unread name)

-- A program and a host are read, and then comes what is done with both. The order is: program read, program, host read,
-- host, the rest.
pub data OfBoth (old new : KnownFiles) (program host : Name) (Rest : Program → List Name → Graph → Said → Type 0) : Said → Type 0 where
  at_program : {said : Said} → StopsAtProgram old new program said → OfBoth old new program host Rest said
  at_host : {p : Program} {rule_names : List Name} {said : Said} → HasProgram old.content program p rule_names → StopsAtHost old new host said →
      OfBoth old new program host Rest said
  behind_both : {p : Program} {rule_names : List Name} {g : Graph} {said : Said} → HasProgram old.content program p rule_names → HasHost old.content host g →
      Rest p rule_names g said → OfBoth old new program host Rest said
