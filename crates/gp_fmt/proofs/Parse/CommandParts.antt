-- Each form of command is read again where its parts are.
use Rattle.std.proofs.Common.{◌≡◌, ℕ, zero, suc, ◌≤◌, Bool, true, false, List, [], ◌∷◌, refl, sym, ap, subst, ◌∙◌, arith, ltb-false}
use Rattle.std.specs.Prelude.{nat_lt, if◌then◌else◌}
use Rattle.std.specs.List.{AllByRecursion}
use Rattle.gp_tokens.specs.declared.keyword.Keyword.{Keyword}
use Rattle.gp_tokens.specs.declared.keyword.Keyword.TheVariants as words
use Rattle.gp_tokens.specs.declared.token.Kind.TheVariants as k
use Rattle.gp_tokens.specs.declared.token.Token.{Token}
use Rattle.gp_tokens.specs.Kinds.{same_kind}
use Rattle.gp_values.specs.Names.{Name}
use Rattle.gp_tokens.specs.declared.want.Want.TheVariants as wants
use Rattle.gp_tokens.specs.Wants.{meets}
use Rattle.gp_tokens.specs.Grammar.{Grammar, shape_of}
use Rattle.gp_tokens.specs.Shape.{other, absent, second_of}
use Rattle.gp_tokens.specs.SignWants.{open_brace, close_brace, semicolon}
use Rattle.gp_syntax.specs.declared.tree.CommandTree.{CommandTree}
use Rattle.gp_syntax.specs.declared.tree.CommandTree.TheVariants as commands
use Rattle.gp_syntax.specs.declared.tree.CommandTree.TheOpen.{CommandTree-F}
use Rattle.gp_syntax.specs.declared.tree.CommandTree.TheFolds.{fold-roll-CommandTree}
use Rattle.gp_expressions.specs.Signs.{or_word, skip_word, fail_word, break_word}
use Rattle.gp_expressions.specs.Expressions.{inner, behind}
use Rattle.gp_expressions.specs.Conditions.{means}
use Rattle.gp_program.specs.Commands.{rule_names, call_of, call_of_one, procedure_call, bang, repeatable, simple_in, block, part, command, sequence, simple, commands_of}
use Rattle.gp_fmt.specs.declared.piece.Piece.{Piece}
use Rattle.gp_fmt.specs.declared.piece.Piece.TheVariants as p
use Rattle.gp_fmt.specs.Expressions.{in_parentheses, in_parentheses_if}
use Rattle.gp_fmt.specs.Commands.{Form, CommandPart, level, is_call, is_nothing, in_sequence, in_branch, in_choice, in_loop, optional, names, in_braces, called, command_step, part_of_command}
use Rattle.gp_fmt.specs.Commands as form
use Rattle.gp_fmt.proofs.Parse.Printed.{token_at, Reads, Anything, some, made_into, made_reads, one_reads, other_reads, absent_reads, behind_takes, sign_takes}
use Rattle.gp_fmt.proofs.Parse.Names.{IsNamed, name_reads}
use Rattle.gp_fmt.proofs.Parse.Rooms.{Roomy, anywhere, becomes, deeper}
use Rattle.gp_fmt.proofs.Parse.Chains.{one_alone}
use Rattle.gp_fmt.proofs.Parse.Levels.{descend}
use Rattle.gp_fmt.proofs.Parse.Lists.{names_read, names_well}
use Rattle.gp_fmt.proofs.Parse.Spelling.{AreWell, well_append, enclosed_well, enclosed_if_well, open_brace_well, close_brace_well}
use Rattle.gp_fmt.proofs.Parse.Labels.{between_takes, enclosed_takes}

-- ---- levels

abbrev pub command_at : ℕ → ℕ → Grammar CommandTree
command_at zero n = commands_of n
command_at (suc zero) n = command (simple n)
command_at (suc (suc zero)) n = block (simple n)
command_at _ n = simple n

module _ (n : ℕ) (ts rest : List Token) (c : CommandTree) where
  block_of : shape_of (simple n) ts rest c → shape_of (block (simple n)) ts rest c
  unfolding block
  block_of h = record { of = c ∷ []; shape = one_alone or_word _ ts rest c h; made = refl }

  command_of : shape_of (block (simple n)) ts rest c → shape_of (command (simple n)) ts rest c
  unfolding command
  command_of h = other (other h)

  sequence_of : shape_of (command (simple n)) ts rest c → shape_of (commands_of n) ts rest c
  unfolding sequence
  sequence_of h = record { of = c ∷ []; shape = one_alone semicolon _ ts rest c h; made = refl }

  looser : (l : ℕ) → shape_of (command_at (suc l) n) ts rest c → shape_of (command_at l n) ts rest c
  looser zero h = sequence_of h
  looser (suc zero) h = command_of h
  looser (suc (suc zero)) h = block_of h
  looser (suc (suc (suc l))) h = h

  at_looser : (l k : ℕ) → k ≤ l → shape_of (command_at l n) ts rest c → shape_of (command_at k n) ts rest c
  at_looser l k le h = descend (λ l. shape_of (command_at l n) ts rest c) looser l k le h

-- The pieces are well spelled, and read again as the command: at the level of the part, and a call also before `!`. What is
-- not written is `skip`.
pub record IsGoodCommandPart (x : CommandPart) (c : CommandTree) : Type 0 where
  pub well : AreWell x.pieces
  pub reads : Roomy (λ m n. Reads x.pieces (shape_of (command_at (level x.form) n)) c)
  pub repeated : is_call x.form ≡ true → Roomy (λ m n. Reads x.pieces (shape_of (repeatable (commands_of n))) c)
  pub skipped : is_nothing x.form ≡ true → c ≡ commands.Skip

abbrev pub IsGoodCommand : CommandTree → Type 0
IsGoodCommand c = IsGoodCommandPart (part_of_command c) c

pub good_by : (x : CommandPart) (c : CommandTree) → part_of_command c ≡ x → IsGoodCommandPart x c → IsGoodCommand c
good_by x c same h = subst (λ (x : CommandPart). IsGoodCommandPart x c) (sym same) h

-- ---- calls

once_reads : (ps : List Piece) (n : ℕ) (c : CommandTree) → Reads ps (shape_of (repeatable (commands_of n))) c → Reads ps (shape_of (simple (suc n))) c
unfolding simple simple_in bang
once_reads ps n c h =
    other_reads _ _ _ _ (other_reads _ _ _ _ (other_reads _ _ _ _ (λ ts rest q. record { of = (c, false); shape = record { mid = rest; first = h ts rest q; second = other absent }; made = refl })))

call_part : (ps : List Piece) (c : CommandTree) → AreWell ps → ((n : ℕ) → Reads ps (shape_of (repeatable (commands_of n))) c) → IsGoodCommandPart (record { form = form.call; pieces = ps }) c
call_part ps c w h = record {
  well = w;
  reads = deeper (λ m n. Unit {0}) (λ m n. Reads ps (shape_of (simple n)) c) (λ m n _. once_reads ps n c (h n)) (anywhere _ (λ m n. tt));
  repeated = λ _. anywhere _ (λ m n. h n);
  skipped = λ e. absurd cc;
}

rule_names_read : (ns : List Name) → AllByRecursion (IsNamed wants.RuleName) ns → Reads (names ns) (shape_of rule_names) ns
unfolding rule_names
rule_names_read [] hs = other_reads _ _ _ _ (absent_reads [])
rule_names_read (n ∷ ns) hs = one_reads _ _ _ _ (names_read wants.RuleName n ns hs.0 hs.1)

braces_read : (ns : List Name) (n : ℕ) → AllByRecursion (IsNamed wants.RuleName) ns → Reads (in_braces (names ns)) (shape_of (repeatable (commands_of n))) (commands.Call ns)
unfolding repeatable meets same_kind
braces_read ns n hs =
    other_reads _ _ _ _ (one_reads _ _ _ _ (made_reads _ call_of _ ns (made_into _ inner _ (λ (x : Token × (List Name × Token)). (x.1.0 ≡ ns) × Anything x.1.1) ns (λ x j. j.0)
    (between_takes (p.Sign k.OpenBrace) (p.Sign k.CloseBrace) open_brace close_brace (λ start. refl) (λ start. refl) (names ns) _ (λ x. x ≡ ns) (some _ _ ns (rule_names_read ns hs))))))

called_reads : (ns : List Name) → AllByRecursion (IsNamed wants.RuleName) ns → (n : ℕ) → Reads (called ns) (shape_of (repeatable (commands_of n))) (commands.Call ns)
unfolding repeatable
called_reads [] hs n = braces_read [] n hs
called_reads (r ∷ []) hs n = other_reads _ _ _ _ (other_reads _ _ _ _ (one_reads _ _ _ _ (made_reads _ call_of_one _ r (name_reads wants.RuleName r hs.0))))
called_reads (r ∷ s ∷ ns) hs n = braces_read (r ∷ s ∷ ns) n hs

braces_well : (ns : List Name) → AllByRecursion (IsNamed wants.RuleName) ns → AreWell (in_braces (names ns))
braces_well ns hs = (open_brace_well, well_append (names ns) _ (names_well wants.RuleName ns hs) (close_brace_well, tt))

called_well : (ns : List Name) → AllByRecursion (IsNamed wants.RuleName) ns → AreWell (called ns)
called_well [] hs = braces_well [] hs
called_well (r ∷ []) hs = (hs.0.word, tt)
called_well (r ∷ s ∷ ns) hs = braces_well (r ∷ s ∷ ns) hs

pub good_call : (ns : List Name) → AllByRecursion (IsNamed wants.RuleName) ns → IsGoodCommand (commands.Call ns)
unfolding part_of_command
good_call ns hs =
    good_by (record { form = form.call; pieces = called ns }) (commands.Call ns) (ap part_of_command (sym (commands.rolls-Call ns)) ∙ fold-roll-CommandTree CommandPart command_step (CommandTree-F.Call ns))
    (call_part (called ns) (commands.Call ns) (called_well ns hs) (called_reads ns hs))

procedure_reads : (r : Name) → IsNamed wants.ProcedureName r → (n : ℕ) → Reads (p.Name r ∷ []) (shape_of (repeatable (commands_of n))) (commands.Procedure r)
unfolding repeatable
procedure_reads r h n = other_reads _ _ _ _ (other_reads _ _ _ _ (other_reads _ _ _ _ (made_reads _ procedure_call _ r (name_reads wants.ProcedureName r h))))

pub good_procedure : (r : Name) → IsNamed wants.ProcedureName r → IsGoodCommand (commands.Procedure r)
unfolding part_of_command
good_procedure r h =
    good_by (record { form = form.call; pieces = p.Name r ∷ [] }) (commands.Procedure r) (ap part_of_command (sym (commands.rolls-Procedure r)) ∙ fold-roll-CommandTree CommandPart command_step (CommandTree-F.Procedure r))
    (call_part (p.Name r ∷ []) (commands.Procedure r) (h.word, tt) (procedure_reads r h))

-- ---- words

module _ (n : ℕ) where
  break_reads : Reads (p.Word words.Break ∷ []) (shape_of (simple (suc n))) commands.Break
  unfolding simple simple_in meets same_kind
  break_reads = one_reads _ _ _ _ (made_into _ (means commands.Break) _ Anything _ (λ x _. refl) (sign_takes (p.Word words.Break) break_word (λ start. refl)))

  skip_reads : Reads (p.Word words.Skip ∷ []) (shape_of (simple (suc n))) commands.Skip
  unfolding simple simple_in meets same_kind
  skip_reads = other_reads _ _ _ _ (one_reads _ _ _ _ (made_into _ (means commands.Skip) _ Anything _ (λ x _. refl) (sign_takes (p.Word words.Skip) skip_word (λ start. refl))))

  fail_reads : Reads (p.Word words.Fail ∷ []) (shape_of (simple (suc n))) commands.Fail
  unfolding simple simple_in meets same_kind
  fail_reads = other_reads _ _ _ _ (other_reads _ _ _ _ (one_reads _ _ _ _ (made_into _ (means commands.Fail) _ Anything _ (λ x _. refl) (sign_takes (p.Word words.Fail) fail_word (λ start. refl)))))

pub good_break : IsGoodCommand commands.Break
unfolding part_of_command
good_break =
    good_by (record { form = form.simple; pieces = p.Word words.Break ∷ [] }) commands.Break (ap part_of_command (sym commands.rolls-Break) ∙ fold-roll-CommandTree CommandPart command_step CommandTree-F.Break)
    (record { well = (tt, tt); reads = deeper (λ m n. Unit {0}) (λ m n. Reads (p.Word words.Break ∷ []) (shape_of (simple n)) commands.Break) (λ m n _. break_reads n) (anywhere _ (λ m n. tt)); repeated = λ e. absurd cc; skipped = λ e. absurd cc })

pub good_skip : IsGoodCommand commands.Skip
unfolding part_of_command
good_skip =
    good_by (record { form = form.nothing; pieces = p.Word words.Skip ∷ [] }) commands.Skip (ap part_of_command (sym commands.rolls-Skip) ∙ fold-roll-CommandTree CommandPart command_step CommandTree-F.Skip)
    (record { well = (tt, tt); reads = deeper (λ m n. Unit {0}) (λ m n. Reads (p.Word words.Skip ∷ []) (shape_of (simple n)) commands.Skip) (λ m n _. skip_reads n) (anywhere _ (λ m n. tt)); repeated = λ e. absurd cc; skipped = λ _. refl })

pub good_fail : IsGoodCommand commands.Fail
unfolding part_of_command
good_fail =
    good_by (record { form = form.simple; pieces = p.Word words.Fail ∷ [] }) commands.Fail (ap part_of_command (sym commands.rolls-Fail) ∙ fold-roll-CommandTree CommandPart command_step CommandTree-F.Fail)
    (record { well = (tt, tt); reads = deeper (λ m n. Unit {0}) (λ m n. Reads (p.Word words.Fail ∷ []) (shape_of (simple n)) commands.Fail) (λ m n _. fail_reads n) (anywhere _ (λ m n. tt)); repeated = λ e. absurd cc; skipped = λ e. absurd cc })

-- ---- parts in parentheses

enclosed_command : (ps : List Piece) (n : ℕ) (c : CommandTree) → Reads ps (shape_of (commands_of n)) c → Reads (in_parentheses ps) (shape_of (repeatable (commands_of n))) c
unfolding repeatable
enclosed_command ps n c h = one_reads _ _ _ _ (made_into _ inner _ (λ (x : Token × (CommandTree × Token)). (x.1.0 ≡ c) × Anything x.1.1) c (λ x j. j.0) (enclosed_takes ps _ c h))

module _ (x : CommandPart) (c : CommandTree) (h : IsGoodCommandPart x c) where
  pub as_sequence : Roomy (λ m n. Reads x.pieces (shape_of (commands_of n)) c)
  as_sequence = becomes (λ m n. Reads x.pieces (shape_of (command_at (level x.form) n)) c) _ (λ m n r ts rest q. at_looser n ts rest c (level x.form) 0 (omega arith) (r ts rest q)) h.reads

  in_parentheses_reads : Roomy (λ m n. Reads (in_parentheses x.pieces) (shape_of (simple n)) c)
  in_parentheses_reads =
      deeper (λ m n. Reads x.pieces (shape_of (commands_of n)) c) (λ m n. Reads (in_parentheses x.pieces) (shape_of (simple n)) c)
      (λ m n r. once_reads (in_parentheses x.pieces) n c (enclosed_command x.pieces n c r)) as_sequence

  pub placed_reads : (bound : ℕ) → bound ≤ 3 → Roomy (λ m n. Reads (in_parentheses_if (nat_lt (level x.form) bound) x.pieces) (shape_of (command_at bound n)) c)
  placed_reads bound le = go (nat_lt (level x.form) bound) refl
    where
      go : (b : Bool) → nat_lt (level x.form) bound ≡ b → Roomy (λ m n. Reads (in_parentheses_if b x.pieces) (shape_of (command_at bound n)) c)
      go true _ = becomes (λ m n. Reads (in_parentheses x.pieces) (shape_of (simple n)) c) _ (λ m n r ts rest q. at_looser n ts rest c 3 bound le (r ts rest q)) in_parentheses_reads
      go false same =
          let above : bound ≤ level x.form = ltb-false (level x.form) bound same in
          becomes (λ m n. Reads x.pieces (shape_of (command_at (level x.form) n)) c) _ (λ m n r ts rest q. at_looser n ts rest c (level x.form) bound above (r ts rest q)) h.reads

  pub placed_well : (bound : ℕ) → AreWell (in_parentheses_if (nat_lt (level x.form) bound) x.pieces)
  placed_well bound = enclosed_if_well (nat_lt (level x.form) bound) x.pieces h.well

  pub branch_reads : Roomy (λ m n. Reads (in_branch x) (shape_of (block (simple n))) c)
  branch_reads = placed_reads 2 (omega arith)

  -- before `!`
  pub loop_operand : Roomy (λ m n. Reads (in_loop x) (shape_of (repeatable (commands_of n))) c)
  loop_operand = go (is_call x.form) refl
    where
      go : (b : Bool) → is_call x.form ≡ b → Roomy (λ m n. Reads (if b then x.pieces else in_parentheses x.pieces) (shape_of (repeatable (commands_of n))) c)
      go true same = h.repeated same
      go false _ = becomes (λ m n. Reads x.pieces (shape_of (commands_of n)) c) _ (λ m n r. enclosed_command x.pieces n c r) as_sequence

  pub loop_well : AreWell (in_loop x)
  loop_well = go (is_call x.form)
    where
      go : (b : Bool) → AreWell (if b then x.pieces else in_parentheses x.pieces)
      go true = h.well
      go false = enclosed_well x.pieces h.well

-- ---- parts that may be missing

pub block_behind : (word : Keyword) → ((start : ℕ) → meets (wants.Keyword word) (token_at (p.Word word) start) ≡ true) → (ps : List Piece) (n : ℕ) (c : CommandTree) → Reads ps (shape_of (block (simple n))) c
    → Reads (p.Word word ∷ ps) (shape_of (behind (wants.Keyword word) (block (simple n)))) c
block_behind word met ps n c r = made_into _ second_of _ (λ (x : Token × CommandTree). x.1 ≡ c) c (λ x j. j) (behind_takes (p.Word word) ps (wants.Keyword word) _ (λ x. x ≡ c) met (some _ _ c r))

missing_reads : (word : Keyword) (n : ℕ) → Reads [] (shape_of (part (simple n) (wants.Keyword word))) commands.Skip
unfolding part
missing_reads word n = other_reads _ _ _ _ (absent_reads commands.Skip)

written_reads : (word : Keyword) → ((start : ℕ) → meets (wants.Keyword word) (token_at (p.Word word) start) ≡ true) → (ps : List Piece) (n : ℕ) (c : CommandTree) → Reads ps (shape_of (block (simple n))) c
    → Reads (p.Word word ∷ ps) (shape_of (part (simple n) (wants.Keyword word))) c
unfolding part
written_reads word met ps n c r = one_reads _ _ _ _ (block_behind word met ps n c r)

pub optional_reads : (word : Keyword) → ((start : ℕ) → meets (wants.Keyword word) (token_at (p.Word word) start) ≡ true) → (x : CommandPart) (c : CommandTree) → IsGoodCommandPart x c
    → Roomy (λ m n. Reads (optional word x) (shape_of (part (simple n) (wants.Keyword word))) c)
optional_reads word met x c h = go (is_nothing x.form) refl
  where
    go : (b : Bool) → is_nothing x.form ≡ b → Roomy (λ m n. Reads (if b then [] else p.Word word ∷ in_branch x) (shape_of (part (simple n) (wants.Keyword word))) c)
    go true same = anywhere _ (λ m n. subst (λ c. Reads [] (shape_of (part (simple n) (wants.Keyword word))) c) (sym (h.skipped same)) (missing_reads word n))
    go false _ = becomes (λ m n. Reads (in_branch x) (shape_of (block (simple n))) c) _ (λ m n r. written_reads word met (in_branch x) n c r) (branch_reads x c h)

pub optional_well : (word : Keyword) (x : CommandPart) (c : CommandTree) → IsGoodCommandPart x c → AreWell (optional word x)
optional_well word x c h = go (is_nothing x.form)
  where
    go : (b : Bool) → AreWell (if b then [] else p.Word word ∷ in_branch x)
    go true = tt
    go false = (tt, placed_well x c h 2)
