-- The grammar of commands.
use Rattle.std.specs.Prelude.{ℕ, zero, suc, Bool, true, false, List, [], ◌∷◌}
use Rattle.gp_tokens.specs.declared.token.Token.{Token}
use Rattle.gp_tokens.specs.declared.want.Want.{Want}
use Rattle.gp_tokens.specs.declared.want.Want.TheVariants as wants
use Rattle.gp_tokens.specs.Grammar.{Grammar, One, Made, At, Absent, Separated, Never, ◌followed_by◌}
use Rattle.gp_tokens.specs.SignWants.{open_sign, close_sign, open_brace, close_brace, comma, semicolon, exclamation}
use Rattle.gp_values.specs.Names.{Name}
use Rattle.gp_syntax.specs.declared.tree.CommandTree.{CommandTree}
use Rattle.gp_syntax.specs.declared.tree.CommandTree.TheVariants as commands
use Rattle.gp_expressions.specs.Signs.{or_word, if_word, then_word, else_word, try_word, skip_word, fail_word, break_word}
use Rattle.gp_expressions.specs.Expressions.{name, inner, behind}
use Rattle.gp_expressions.specs.Conditions.{means}

-- a chain of the first and the further commands; one command is no chain
abbrev pub grouped : (CommandTree → List CommandTree → CommandTree) → List CommandTree → CommandTree
grouped make [] = commands.Skip
grouped make (p ∷ []) = p
grouped make (p ∷ q ∷ ps) = make p (q ∷ ps)

-- [RuleName {"," RuleName}]
unfoldable pub rule_names : Grammar (List Name)
rule_names = At wants.RuleName (Separated comma (name wants.RuleName)) (Absent [])

abbrev pub call_of : List Name → CommandTree
call_of names = commands.Call names

abbrev pub call_of_one : Name → CommandTree
call_of_one n = commands.Call (n ∷ [])

abbrev pub procedure_call : Name → CommandTree
procedure_call n = commands.Procedure n

-- ["!"]
unfoldable pub bang : Grammar Bool
bang = At exclamation (Made (means true) (One exclamation)) (Absent false)

abbrev pub looped : CommandTree × Bool → CommandTree
looped (p, true) = commands.Loop p
looped (p, false) = p

module _ (sequence : Grammar CommandTree) where
  -- "(" ComSeq ")" | RuleName | "{" [RuleName {"," RuleName}] "}" | ProcName
  unfoldable pub repeatable : Grammar CommandTree
  repeatable =
      At open_sign (Made inner (One open_sign followed_by sequence followed_by One close_sign))
      (At open_brace (Made call_of (Made inner (One open_brace followed_by rule_names followed_by One close_brace)))
      (At wants.RuleName (Made call_of_one (name wants.RuleName)) (Made procedure_call (name wants.ProcedureName))))

  -- Simple = "(" ComSeq ")" ["!"] | SetCall ["!"] | ProcName ["!"] | "break" | "skip" | "fail"
  unfoldable pub simple_in : Grammar CommandTree
  simple_in =
      At break_word (Made (means commands.Break) (One break_word))
      (At skip_word (Made (means commands.Skip) (One skip_word))
      (At fail_word (Made (means commands.Fail) (One fail_word)) (Made looped (repeatable followed_by bang))))

abbrev pub if_of : Token × (CommandTree × (CommandTree × CommandTree)) → CommandTree
if_of (_, (condition, (p, q))) = commands.If condition p q

abbrev pub try_of : Token × (CommandTree × (CommandTree × CommandTree)) → CommandTree
try_of (_, (condition, (p, q))) = commands.Try condition p q

module _ (simple : Grammar CommandTree) where
  -- Block = Simple {"or" Simple}
  unfoldable pub block : Grammar CommandTree
  block = Made (grouped commands.Or) (Separated or_word simple)

  -- ["then" Block], ["else" Block]: skip where it is missing
  unfoldable pub part : Want → Grammar CommandTree
  part word = At word (behind word block) (Absent commands.Skip)

  -- Com = Block | "if" Block "then" Block ["else" Block] | "try" Block ["then" Block] ["else" Block]
  unfoldable pub command : Grammar CommandTree
  command =
      At if_word (Made if_of (One if_word followed_by block followed_by behind then_word block followed_by part else_word))
      (At try_word (Made try_of (One try_word followed_by block followed_by part then_word followed_by part else_word)) block)

  -- ComSeq = Com {";" Com}
  unfoldable pub sequence : Grammar CommandTree
  sequence = Made (grouped commands.Seq) (Separated semicolon command)

-- the number is the room: one less at each parenthesis
unfoldable pub simple : ℕ → Grammar CommandTree
simple zero = Never
simple (suc n) = simple_in (sequence (simple n))

-- ComSeq, with so much room
abbrev pub commands_of : ℕ → Grammar CommandTree
commands_of n = sequence (simple n)
