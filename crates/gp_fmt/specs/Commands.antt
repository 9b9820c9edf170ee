-- The tokens of commands.
use Rattle.std.specs.Prelude.{ℕ, Bool, true, false, nat_lt, if◌then◌else◌, List, [], ◌∷◌, ◌++◌}
use Rattle.std.specs.List.{flat_map}
use Rattle.gp_tokens.specs.declared.keyword.Keyword.{Keyword}
use Rattle.gp_tokens.specs.declared.keyword.Keyword.TheVariants as words
use Rattle.gp_tokens.specs.declared.token.Kind.TheVariants as k
use Rattle.gp_values.specs.Names.{Name}
use Rattle.gp_syntax.specs.declared.tree.CommandTree.{CommandTree}
use Rattle.gp_syntax.specs.declared.tree.CommandTree.TheOpen.{CommandTree-F}
use Rattle.gp_syntax.specs.declared.tree.CommandTree.TheFolds.{fold-CommandTree}
use Rattle.gp_fmt.specs.declared.piece.Piece.{Piece}
use Rattle.gp_fmt.specs.declared.piece.Piece.TheVariants as p
use Rattle.gp_fmt.specs.Expressions.{in_parentheses, in_parentheses_if}

-- How a command is written, loosest first: `;`, then `if` and `try`, then `or`, then what may stand anywhere; of these a
-- call may stand before `!` as it is; and `skip`, which is not written where a part may be missing.
pub data Form : Type 0 where
  sequence : Form
  branching : Form
  choice : Form
  simple : Form
  call : Form
  nothing : Form

abbrev pub level : Form → ℕ
level sequence = 0
level branching = 1
level choice = 2
level other = 3

pub record CommandPart : Type 0 where
  pub form : Form
  pub pieces : List Piece

-- Where the grammar has no other way, it stands in parentheses: in a chain of `;` a chain of `;`; where a part of `if` or
-- `try` stands, also `if` and `try`; and in a chain of `or` whatever has parts.
abbrev pub in_sequence : CommandPart → List Piece
in_sequence x = in_parentheses_if (nat_lt (level x.form) (level branching)) x.pieces

abbrev pub in_branch : CommandPart → List Piece
in_branch x = in_parentheses_if (nat_lt (level x.form) (level choice)) x.pieces

abbrev pub in_choice : CommandPart → List Piece
in_choice x = in_parentheses_if (nat_lt (level x.form) (level simple)) x.pieces

-- before `!`: a call as it is
abbrev pub is_call : Form → Bool
is_call call = true
is_call other = false

abbrev pub in_loop : CommandPart → List Piece
in_loop x = if is_call x.form then x.pieces else in_parentheses x.pieces

-- a part that may be missing, behind its word: `skip` is not written
abbrev pub is_nothing : Form → Bool
is_nothing nothing = true
is_nothing other = false

abbrev pub optional : Keyword → CommandPart → List Piece
optional word x = if is_nothing x.form then [] else p.Word word ∷ in_branch x

abbrev pub names_behind : List Name → List Piece
names_behind names = flat_map (λ n. p.Sign k.Comma ∷ p.Name n ∷ []) names

-- names with commas between them
abbrev pub names : List Name → List Piece
names [] = []
names (n ∷ ns) = p.Name n ∷ names_behind ns

abbrev pub in_braces : List Piece → List Piece
in_braces pieces = p.Sign k.OpenBrace ∷ pieces ++ p.Sign k.CloseBrace ∷ []

-- the set of one rule is that rule
abbrev pub called : List Name → List Piece
called (n ∷ []) = p.Name n ∷ []
called ns = in_braces (names ns)

abbrev pub command_step : CommandTree-F CommandPart → CommandPart
command_step (CommandTree-F.Call ns) = record { form = call; pieces = called ns }
command_step (CommandTree-F.Procedure n) = record { form = call; pieces = p.Name n ∷ [] }
command_step (CommandTree-F.Seq x xs) = record { form = sequence; pieces = in_sequence x ++ flat_map (λ y. p.Sign k.Semicolon ∷ in_sequence y) xs }
command_step (CommandTree-F.If c x y) = record { form = branching; pieces = p.Word words.If ∷ in_branch c ++ p.Word words.Then ∷ in_branch x ++ optional words.Else y }
command_step (CommandTree-F.Try c x y) = record { form = branching; pieces = p.Word words.Try ∷ in_branch c ++ optional words.Then x ++ optional words.Else y }
command_step (CommandTree-F.Loop x) = record { form = simple; pieces = in_loop x ++ p.Sign k.Exclamation ∷ [] }
command_step (CommandTree-F.Or x xs) = record { form = choice; pieces = in_choice x ++ flat_map (λ y. p.Word words.Or ∷ in_choice y) xs }
command_step CommandTree-F.Skip = record { form = nothing; pieces = p.Word words.Skip ∷ [] }
command_step CommandTree-F.Fail = record { form = simple; pieces = p.Word words.Fail ∷ [] }
command_step CommandTree-F.Break = record { form = simple; pieces = p.Word words.Break ∷ [] }

unfoldable pub part_of_command : CommandTree → CommandPart
part_of_command = fold-CommandTree CommandPart command_step

abbrev pub command : CommandTree → List Piece
command c = (part_of_command c).pieces
