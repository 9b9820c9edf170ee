-- Commands with parts are read again.
use Rattle.std.proofs.Common.{◌≡◌, ℕ, suc, ◌≤◌, true, List, [], ◌∷◌, ◌++◌, flat_map, append_assoc, refl, sym, ap, subst, ◌∙◌, arith}
use Rattle.std.specs.Prelude.{nat_lt}
use Rattle.std.specs.List.{AllByRecursion}
use Rattle.gp_tokens.specs.declared.keyword.Keyword.TheVariants as words
use Rattle.gp_tokens.specs.declared.token.Kind.TheVariants as k
use Rattle.gp_tokens.specs.declared.token.Token.{Token}
use Rattle.gp_tokens.specs.Kinds.{same_kind}
use Rattle.gp_tokens.specs.Wants.{meets}
use Rattle.gp_tokens.specs.Grammar.{shape_of}
use Rattle.gp_tokens.specs.SignWants.{semicolon, exclamation}
use Rattle.gp_syntax.specs.declared.tree.CommandTree.{CommandTree}
use Rattle.gp_syntax.specs.declared.tree.CommandTree.TheVariants as commands
use Rattle.gp_syntax.specs.declared.tree.CommandTree.TheOpen.{CommandTree-F}
use Rattle.gp_syntax.specs.declared.tree.CommandTree.TheFolds.{fold-roll-CommandTree}
use Rattle.gp_expressions.specs.Signs.{or_word, if_word, then_word, else_word, try_word}
use Rattle.gp_expressions.specs.Conditions.{means}
use Rattle.gp_program.specs.Commands.{grouped, bang, looped, repeatable, simple_in, if_of, try_of, block, part, command, sequence, simple, commands_of}
use Rattle.gp_fmt.specs.declared.piece.Piece.{Piece}
use Rattle.gp_fmt.specs.declared.piece.Piece.TheVariants as p
use Rattle.gp_fmt.specs.Expressions.{in_parentheses_if}
use Rattle.gp_fmt.specs.Commands.{Form, CommandPart, level, in_sequence, in_branch, in_choice, in_loop, optional, command_step, part_of_command}
use Rattle.gp_fmt.specs.Commands as form
use Rattle.gp_fmt.specs.inside.Spelled.{IsWellSpelled}
use Rattle.gp_fmt.proofs.Parse.Printed.{Reads, Anything, some, made_into, made_reads, one_reads, other_reads, then_reads, then_takes, behind_takes, sign_takes}
use Rattle.gp_fmt.proofs.Parse.Rooms.{Roomy, becomes, deeper, together, all_roomy}
use Rattle.gp_fmt.proofs.Parse.Lists.{separated_same}
use Rattle.gp_fmt.proofs.Parse.Spelling.{AreWell, well_append, well_flat, all_into, flat_map-map, semicolon_well, exclamation_well}
use Rattle.gp_fmt.proofs.Parse.CommandParts.{command_at, IsGoodCommandPart, IsGoodCommand, good_by, placed_reads, placed_well, branch_reads, loop_operand, loop_well, block_behind, optional_reads, optional_well}

-- ---- loops

loop_reads : (ps : List Piece) (n : ℕ) (c : CommandTree) → Reads ps (shape_of (repeatable (commands_of n))) c → Reads (ps ++ p.Sign k.Exclamation ∷ []) (shape_of (simple (suc n))) (commands.Loop c)
unfolding simple simple_in bang meets same_kind
loop_reads ps n c h =
    other_reads _ _ _ _ (other_reads _ _ _ _ (other_reads _ _ _ _ (made_reads _ looped _ (c, true) (then_reads ps (p.Sign k.Exclamation ∷ []) _ _ c true h
    (one_reads _ _ _ _ (made_into _ (means true) _ Anything true (λ x _. refl) (sign_takes (p.Sign k.Exclamation) exclamation (λ start. refl))))))))

pub good_loop : (c : CommandTree) → IsGoodCommand c → IsGoodCommand (commands.Loop c)
unfolding part_of_command
good_loop c h =
    good_by (record { form = form.simple; pieces = in_loop (part_of_command c) ++ p.Sign k.Exclamation ∷ [] }) (commands.Loop c) (ap part_of_command (sym (commands.rolls-Loop c)) ∙ fold-roll-CommandTree CommandPart command_step (CommandTree-F.Loop c))
    (record {
      well = well_append (in_loop (part_of_command c)) (p.Sign k.Exclamation ∷ []) (loop_well (part_of_command c) c h) (exclamation_well, tt);
      reads = deeper (λ m n. Reads (in_loop (part_of_command c)) (shape_of (repeatable (commands_of n))) c) (λ m n. Reads (in_loop (part_of_command c) ++ p.Sign k.Exclamation ∷ []) (shape_of (simple n)) (commands.Loop c))
          (λ m n r. loop_reads (in_loop (part_of_command c)) n c r) (loop_operand (part_of_command c) c h);
      repeated = λ e. absurd cc;
      skipped = λ e. absurd cc;
    })

-- ---- if and try

if_reads : (n : ℕ) (cs xs ys : List Piece) (c x y : CommandTree) → Reads cs (shape_of (block (simple n))) c → Reads xs (shape_of (block (simple n))) x → Reads ys (shape_of (part (simple n) else_word)) y
    → Reads (p.Word words.If ∷ (cs ++ (p.Word words.Then ∷ (xs ++ ys)))) (shape_of (command (simple n))) (commands.If c x y)
unfolding command meets same_kind
if_reads n cs xs ys c x y f g h =
    one_reads _ _ _ _ (made_into _ if_of _ (λ (z : Token × (CommandTree × (CommandTree × CommandTree))). (z.1.0 ≡ c) × ((z.1.1.0 ≡ x) × (z.1.1.1 ≡ y))) (commands.If c x y) (λ z j i. commands.If (j.0 i) (j.1.0 i) (j.1.1 i))
    (behind_takes (p.Word words.If) (cs ++ (p.Word words.Then ∷ (xs ++ ys))) if_word _ (λ (z : CommandTree × (CommandTree × CommandTree)). (z.0 ≡ c) × ((z.1.0 ≡ x) × (z.1.1 ≡ y))) (λ start. refl)
    (then_takes cs (p.Word words.Then ∷ (xs ++ ys)) _ _ (λ z. z ≡ c) (λ (z : CommandTree × CommandTree). (z.0 ≡ x) × (z.1 ≡ y)) (some _ _ c f)
    (then_takes (p.Word words.Then ∷ xs) ys _ _ (λ z. z ≡ x) (λ z. z ≡ y) (some _ _ x (block_behind words.Then (λ start. refl) xs n x g)) (some _ _ y h)))))

try_reads : (n : ℕ) (cs xs ys : List Piece) (c x y : CommandTree) → Reads cs (shape_of (block (simple n))) c → Reads xs (shape_of (part (simple n) then_word)) x → Reads ys (shape_of (part (simple n) else_word)) y
    → Reads (p.Word words.Try ∷ (cs ++ (xs ++ ys))) (shape_of (command (simple n))) (commands.Try c x y)
unfolding command meets same_kind
try_reads n cs xs ys c x y f g h =
    other_reads _ _ _ _ (one_reads _ _ _ _ (made_into _ try_of _ (λ (z : Token × (CommandTree × (CommandTree × CommandTree))). (z.1.0 ≡ c) × ((z.1.1.0 ≡ x) × (z.1.1.1 ≡ y))) (commands.Try c x y) (λ z j i. commands.Try (j.0 i) (j.1.0 i) (j.1.1 i))
    (behind_takes (p.Word words.Try) (cs ++ (xs ++ ys)) try_word _ (λ (z : CommandTree × (CommandTree × CommandTree)). (z.0 ≡ c) × ((z.1.0 ≡ x) × (z.1.1 ≡ y))) (λ start. refl)
    (then_takes cs (xs ++ ys) _ _ (λ z. z ≡ c) (λ (z : CommandTree × CommandTree). (z.0 ≡ x) × (z.1 ≡ y)) (some _ _ c f)
    (then_takes xs ys _ _ (λ z. z ≡ x) (λ z. z ≡ y) (some _ _ x g) (some _ _ y h))))))

module _ (c x y : CommandTree) (h : IsGoodCommand c) (g : IsGoodCommand x) (f : IsGoodCommand y) where
  else_reads : Roomy (λ m n. Reads (optional words.Else (part_of_command y)) (shape_of (part (simple n) else_word)) y)
  unfolding meets same_kind
  else_reads = optional_reads words.Else (λ start. refl) (part_of_command y) y f

  then_part_reads : Roomy (λ m n. Reads (optional words.Then (part_of_command x)) (shape_of (part (simple n) then_word)) x)
  unfolding meets same_kind
  then_part_reads = optional_reads words.Then (λ start. refl) (part_of_command x) x g

  abbrev if_pieces : List Piece
  if_pieces = p.Word words.If ∷ (in_branch (part_of_command c) ++ (p.Word words.Then ∷ (in_branch (part_of_command x) ++ optional words.Else (part_of_command y))))

  abbrev try_pieces : List Piece
  try_pieces = p.Word words.Try ∷ (in_branch (part_of_command c) ++ (optional words.Then (part_of_command x) ++ optional words.Else (part_of_command y)))

  if_part : IsGoodCommandPart (record { form = form.branching; pieces = if_pieces }) (commands.If c x y)
  if_part = record {
    well = (tt, well_append (in_branch (part_of_command c)) (p.Word words.Then ∷ (in_branch (part_of_command x) ++ optional words.Else (part_of_command y))) (placed_well (part_of_command c) c h 2) (tt, well_append (in_branch (part_of_command x)) (optional words.Else (part_of_command y)) (placed_well (part_of_command x) x g 2) (optional_well words.Else (part_of_command y) y f)));
    reads =
        becomes (λ m n. Reads (in_branch (part_of_command c)) (shape_of (block (simple n))) c × (Reads (in_branch (part_of_command x)) (shape_of (block (simple n))) x × Reads (optional words.Else (part_of_command y)) (shape_of (part (simple n) else_word)) y)) (λ m n. Reads if_pieces (shape_of (command (simple n))) (commands.If c x y))
        (λ m n r. if_reads n _ _ _ c x y r.0 r.1.0 r.1.1)
        (together (λ m n. Reads (in_branch (part_of_command c)) (shape_of (block (simple n))) c) (λ m n. Reads (in_branch (part_of_command x)) (shape_of (block (simple n))) x × Reads (optional words.Else (part_of_command y)) (shape_of (part (simple n) else_word)) y) (branch_reads (part_of_command c) c h)
        (together (λ m n. Reads (in_branch (part_of_command x)) (shape_of (block (simple n))) x) (λ m n. Reads (optional words.Else (part_of_command y)) (shape_of (part (simple n) else_word)) y) (branch_reads (part_of_command x) x g) else_reads));
    repeated = λ e. absurd cc;
    skipped = λ e. absurd cc;
  }

  try_part : IsGoodCommandPart (record { form = form.branching; pieces = try_pieces }) (commands.Try c x y)
  try_part = record {
    well = (tt, well_append (in_branch (part_of_command c)) (optional words.Then (part_of_command x) ++ optional words.Else (part_of_command y)) (placed_well (part_of_command c) c h 2) (well_append (optional words.Then (part_of_command x)) (optional words.Else (part_of_command y)) (optional_well words.Then (part_of_command x) x g) (optional_well words.Else (part_of_command y) y f)));
    reads =
        becomes (λ m n. Reads (in_branch (part_of_command c)) (shape_of (block (simple n))) c × (Reads (optional words.Then (part_of_command x)) (shape_of (part (simple n) then_word)) x × Reads (optional words.Else (part_of_command y)) (shape_of (part (simple n) else_word)) y)) (λ m n. Reads try_pieces (shape_of (command (simple n))) (commands.Try c x y))
        (λ m n r. try_reads n _ _ _ c x y r.0 r.1.0 r.1.1)
        (together (λ m n. Reads (in_branch (part_of_command c)) (shape_of (block (simple n))) c) (λ m n. Reads (optional words.Then (part_of_command x)) (shape_of (part (simple n) then_word)) x × Reads (optional words.Else (part_of_command y)) (shape_of (part (simple n) else_word)) y) (branch_reads (part_of_command c) c h)
        (together (λ m n. Reads (optional words.Then (part_of_command x)) (shape_of (part (simple n) then_word)) x) (λ m n. Reads (optional words.Else (part_of_command y)) (shape_of (part (simple n) else_word)) y) then_part_reads else_reads));
    repeated = λ e. absurd cc;
    skipped = λ e. absurd cc;
  }

  pub good_if : IsGoodCommand (commands.If c x y)
  unfolding part_of_command
  good_if = good_by (record { form = form.branching; pieces = if_pieces }) (commands.If c x y)
      (ap part_of_command (sym (commands.rolls-If c x y)) ∙ (fold-roll-CommandTree CommandPart command_step (CommandTree-F.If c x y)
      ∙ ap (λ (l : List Piece). record { form = form.branching; pieces = p.Word words.If ∷ l }) (append_assoc (in_branch (part_of_command c)) (p.Word words.Then ∷ in_branch (part_of_command x)) (optional words.Else (part_of_command y))))) if_part

  pub good_try : IsGoodCommand (commands.Try c x y)
  unfolding part_of_command
  good_try = good_by (record { form = form.branching; pieces = try_pieces }) (commands.Try c x y)
      (ap part_of_command (sym (commands.rolls-Try c x y)) ∙ (fold-roll-CommandTree CommandPart command_step (CommandTree-F.Try c x y)
      ∙ ap (λ (l : List Piece). record { form = form.branching; pieces = p.Word words.Try ∷ l }) (append_assoc (in_branch (part_of_command c)) (optional words.Then (part_of_command x)) (optional words.Else (part_of_command y))))) try_part

-- ---- chains

-- the members stand at this level
module _ (sign : Piece) (sign_well : IsWellSpelled sign) (bound : ℕ) (le : bound ≤ 3) (x : CommandTree) (ys : List CommandTree) where
  abbrev placed : CommandTree → List Piece
  placed c = in_parentheses_if (nat_lt (level (part_of_command c).form) bound) (part_of_command c).pieces

  abbrev pieces : List Piece
  pieces = placed x ++ flat_map (λ y. sign ∷ placed y) ys

  abbrev MemberReads : CommandTree → ℕ → ℕ → Type 0
  MemberReads c m n = Reads (placed c) (shape_of (command_at bound n)) c

  chain_well : IsGoodCommand x → AllByRecursion IsGoodCommand ys → AreWell pieces
  chain_well h hs =
      well_append (placed x) _ (placed_well (part_of_command x) x h bound)
      (well_flat (λ y. sign ∷ placed y) ys (all_into IsGoodCommand (λ y. AreWell (sign ∷ placed y)) (λ y g. (sign_well, placed_well (part_of_command y) y g bound)) ys hs))

  chain_reads : (R : ℕ → ℕ → Type 0) → ((m n : ℕ) → MemberReads x m n → AllByRecursion (λ y. MemberReads y m n) ys → R m n) → IsGoodCommand x → AllByRecursion IsGoodCommand ys → Roomy R
  chain_reads R read h hs =
      becomes (λ m n. MemberReads x m n × AllByRecursion (λ y. MemberReads y m n) ys) R (λ m n r. read m n r.0 r.1)
      (together (MemberReads x) (λ m n. AllByRecursion (λ y. MemberReads y m n) ys) (placed_reads (part_of_command x) x h bound le)
      (all_roomy MemberReads ys (all_into IsGoodCommand (λ y. Roomy (MemberReads y)) (λ y g. placed_reads (part_of_command y) y g bound le) ys hs)))

seq_is : (x : CommandTree) (ys : List CommandTree) → part_of_command (commands.Seq x ys) ≡ record { form = form.sequence; pieces = in_sequence (part_of_command x) ++ flat_map (λ y. p.Sign k.Semicolon ∷ in_sequence (part_of_command y)) ys }
unfolding part_of_command
seq_is x ys =
    ap part_of_command (sym (commands.rolls-Seq x ys)) ∙ (fold-roll-CommandTree CommandPart command_step (CommandTree-F.Seq x ys)
    ∙ ap (λ (l : List Piece). record { form = form.sequence; pieces = in_sequence (part_of_command x) ++ l }) (flat_map-map (λ y. p.Sign k.Semicolon ∷ in_sequence y) part_of_command ys))

or_is : (x : CommandTree) (ys : List CommandTree) → part_of_command (commands.Or x ys) ≡ record { form = form.choice; pieces = in_choice (part_of_command x) ++ flat_map (λ y. p.Word words.Or ∷ in_choice (part_of_command y)) ys }
unfolding part_of_command
or_is x ys =
    ap part_of_command (sym (commands.rolls-Or x ys)) ∙ (fold-roll-CommandTree CommandPart command_step (CommandTree-F.Or x ys)
    ∙ ap (λ (l : List Piece). record { form = form.choice; pieces = in_choice (part_of_command x) ++ l }) (flat_map-map (λ y. p.Word words.Or ∷ in_choice y) part_of_command ys))

pub good_seq : (x y : CommandTree) (ys : List CommandTree) → IsGoodCommand x → AllByRecursion IsGoodCommand (y ∷ ys) → IsGoodCommand (commands.Seq x (y ∷ ys))
unfolding sequence meets same_kind
good_seq x y ys h hs =
    subst (λ (z : CommandPart). IsGoodCommandPart z (commands.Seq x (y ∷ ys))) (sym (seq_is x (y ∷ ys))) (record {
      well = chain_well (p.Sign k.Semicolon) semicolon_well 1 (omega arith) x (y ∷ ys) h hs;
      reads = chain_reads (p.Sign k.Semicolon) semicolon_well 1 (omega arith) x (y ∷ ys)
          (λ m n. Reads (in_sequence (part_of_command x) ++ flat_map (λ y. p.Sign k.Semicolon ∷ in_sequence (part_of_command y)) (y ∷ ys)) (shape_of (commands_of n)) (commands.Seq x (y ∷ ys)))
          (λ m n r rs. made_reads _ (grouped commands.Seq) _ (x ∷ y ∷ ys) (separated_same (p.Sign k.Semicolon) semicolon (λ start. refl) (shape_of (command (simple n))) (λ c. in_sequence (part_of_command c)) x (y ∷ ys) r rs)) h hs;
      repeated = λ e. absurd cc;
      skipped = λ e. absurd cc;
    })

pub good_or : (x y : CommandTree) (ys : List CommandTree) → IsGoodCommand x → AllByRecursion IsGoodCommand (y ∷ ys) → IsGoodCommand (commands.Or x (y ∷ ys))
unfolding block meets same_kind
good_or x y ys h hs =
    subst (λ (z : CommandPart). IsGoodCommandPart z (commands.Or x (y ∷ ys))) (sym (or_is x (y ∷ ys))) (record {
      well = chain_well (p.Word words.Or) tt 3 (omega arith) x (y ∷ ys) h hs;
      reads = chain_reads (p.Word words.Or) tt 3 (omega arith) x (y ∷ ys)
          (λ m n. Reads (in_choice (part_of_command x) ++ flat_map (λ y. p.Word words.Or ∷ in_choice (part_of_command y)) (y ∷ ys)) (shape_of (block (simple n))) (commands.Or x (y ∷ ys)))
          (λ m n r rs. made_reads _ (grouped commands.Or) _ (x ∷ y ∷ ys) (separated_same (p.Word words.Or) or_word (λ start. refl) (shape_of (simple n)) (λ c. in_choice (part_of_command c)) x (y ∷ ys) r rs)) h hs;
      repeated = λ e. absurd cc;
      skipped = λ e. absurd cc;
    })
