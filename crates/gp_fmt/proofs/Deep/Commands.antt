-- Commands, nested no deeper than their texts.
use Rattle.std.proofs.Common.{◌≡◌, ℕ, zero, suc, ◌≤◌, Bool, true, false, nat_lt, nat_le, if◌then◌else◌, List, [], ◌∷◌, ◌++◌, map, refl, sym, ◌∙◌, ap, ap₂, subst, append-nil, arith, ltb-true, ltb-false, leb-true, leb-false}
use Rattle.std.specs.Prelude.{flat_map}
use Rattle.gp_tokens.specs.declared.token.Token.{Token}
use Rattle.gp_tokens.specs.declared.token.Kind.TheVariants as k
use Rattle.gp_tokens.specs.declared.keyword.Keyword.{Keyword}
use Rattle.gp_tokens.specs.declared.keyword.Keyword.TheVariants as words
use Rattle.gp_values.specs.Names.{Name}
use Rattle.gp_tokens.specs.declared.want.Want.{Want}
use Rattle.gp_tokens.specs.declared.want.Want.TheVariants as wants
use Rattle.gp_tokens.specs.Grammar.{Grammar, shape_of}
use Rattle.gp_tokens.specs.Fits.{AllExcluded}
use Rattle.gp_tokens.specs.Shape.{Shape, Is, ◌then◌, one, other, Absent, absent}
use Rattle.gp_tokens.specs.SignWants.{open_sign, close_sign, open_brace, close_brace, comma, semicolon, exclamation}
use Rattle.gp_syntax.specs.declared.tree.CommandTree.{CommandTree}
use Rattle.gp_syntax.specs.declared.tree.CommandTree.TheVariants as commands
use Rattle.gp_expressions.specs.Signs.{or_word, if_word, then_word, else_word, try_word, skip_word, fail_word, break_word}
use Rattle.gp_program.specs.Commands.{grouped, rule_names, call_of, bang, looped, repeatable, simple_in, if_of, try_of, block, part, command, sequence, simple, commands_of}
use Rattle.gp_program.specs.declared.depth.Role.{Role}
use Rattle.gp_program.specs.declared.depth.Role.TheVariants as role
use Rattle.gp_fmt.specs.declared.piece.Piece.{Piece}
use Rattle.gp_fmt.specs.declared.piece.Piece.TheVariants as p
use Rattle.gp_fmt.specs.Expressions.{in_parentheses, in_parentheses_if}
use Rattle.gp_fmt.specs.Commands.{level, call, CommandPart, in_branch, in_loop, is_call, is_nothing, optional, names_behind, names, in_braces, part_of_command, command as command_pieces}
use Rattle.gp_fmt.proofs.Deep.Roles.{piece_role, keyword_role, roles, roles_append, name_role, loud}
use Rattle.gp_fmt.proofs.Deep.Quiet.{quiet_comma, quiet_semicolon, quiet_exclamation, quiet_rule_name, quiet_procedure_name, quiet_or, quiet_if, quiet_then, quiet_else, quiet_try, quiet_skip, quiet_fail, quiet_break}
use Rattle.gp_fmt.proofs.Deep.Texts.{AreSpelled, IsDeeper, then_deeper, dropped_deeper, recast, wrap, wrapped_deeper, unwrapped_deeper, kind_sign, Covers, other_covers, opening_covers, closing_covers, name_covers, seen_covers, either_covers, absent_covers, loud_covers, separated, separated_covers}
use Rattle.gp_fmt.proofs.Forms.{of-Call, of-Procedure, of-Seq, of-Either, of-If, of-Try, of-Loop, of-Skip, of-Fail, of-Break}
use Rattle.gp_fmt.proofs.Deep.Parts.{IsParted, Parts, member_roles, roles_if, operand_deeper, looser, tight, bracketed, chain_parts}

abbrev pub command_level : CommandTree → ℕ
command_level x = level (part_of_command x).form

abbrev pub command_roles : CommandTree → List Role
command_roles x = roles (command_pieces x)

abbrev command_parts : ℕ → Shape CommandTree → Type 0
command_parts l R = Parts l command_level command_roles R

moved : {l : ℕ} {x y : CommandTree} {ts rest : List Token} → y ≡ x → IsParted l (command_level x) (command_roles x) ts rest → IsParted l (command_level y) (command_roles y) ts rest
moved {l} {x} {y} {ts} {rest} e h = subst (λ z. IsParted l (command_level z) (command_roles z) ts rest) (sym e) h

-- ---- names

pub names_roles : (ns : List Name) → flat_map (λ n. role.Other ∷ name_role n ∷ []) ns ≡ roles (names_behind ns)
names_roles [] = refl
names_roles (n ∷ ns) = ap (λ m. role.Other ∷ name_role n ∷ m) (names_roles ns)

pub all_names : (ns : List Name) → separated role.Other (λ n. name_role n ∷ []) ns ≡ roles (names ns)
all_names [] = refl
all_names (n ∷ ns) = ap (λ m. name_role n ∷ m) (names_roles ns)

some_names : (ts rest : List Token) (n : Name) (ns : List Name) → AreSpelled ts → shape_of rule_names ts rest (n ∷ ns) → IsDeeper true 0 0 (roles (names (n ∷ ns))) ts rest
unfolding rule_names
some_names ts rest n ns s (one d) = recast (all_names (n ∷ ns)) ((separated_covers comma quiet_comma (name_covers wants.RuleName 0 refl quiet_rule_name)).covers ts rest (n ∷ ns) s d)
some_names ts rest n ns s (other d) = absurd (absurd_absent d)
  where
    none_is : {ts rest : List Token} {xs : List Name} → Absent [] ts rest xs → xs ≡ []
    none_is absent = refl

    absurd_absent : Absent [] ts rest (n ∷ ns) → ⊥
    absurd_absent d = let e = none_is d in cc

names_covers : Covers false 0 0 (shape_of rule_names) (λ ns. roles (names ns))
unfolding rule_names
names_covers = either_covers (loud_covers (seen_covers _ all_names (separated_covers comma quiet_comma (name_covers wants.RuleName 0 refl quiet_rule_name)))) (absent_covers 0 [] _ refl)

-- ---- what `!` may stand behind

record IsLooped (x : CommandTree) (ts rest : List Token) : Type 0 where
  parted : IsParted 3 (command_level x) (command_roles x) ts rest
  loop : IsDeeper true 0 0 (roles (in_loop (part_of_command x))) ts rest

moved_loop : {x y : CommandTree} {ts rest : List Token} → y ≡ x → IsLooped x ts rest → IsLooped y ts rest
moved_loop {x} {y} {ts} {rest} e h = subst (λ z. IsLooped z ts rest) (sym e) h

-- a call
call_looped : (x : CommandTree) {ps : List Piece} {ts rest : List Token} → part_of_command x ≡ record { form = call; pieces = ps } → IsDeeper true 0 0 (roles ps) ts rest → IsLooped x ts rest
call_looped x h d =
    let le : 3 ≤ command_level x = omega (arith, ap (λ (z : CommandPart). level z.form) h) in
    record { parted = tight le (recast (ap (λ (z : CommandPart). roles z.pieces) (sym h)) d); loop = recast (ap (λ (z : CommandPart). roles (in_loop z)) (sym h)) d }

-- in parentheses
loop_roles : (b : Bool) (ps : List Piece) {ts rest : List Token} → IsDeeper true 0 0 (roles ps) ts rest → IsDeeper true 0 0 (wrap (roles ps)) ts rest → IsDeeper true 0 0 (roles (if b then ps else in_parentheses ps)) ts rest
loop_roles true ps d w = d
loop_roles false ps d w = recast (sym (roles_if true ps)) w

enclosed_looped : (x : CommandTree) {ts inside last rest : List Token} {t t' : Token} → AreSpelled ts → Is open_sign ts inside t → IsDeeper true 0 0 (command_roles x) inside last → Is close_sign last rest t' → IsLooped x ts rest
enclosed_looped x {ts} {inside} {last} {rest} s o d c =
    let b : IsParted (suc (command_level x)) (command_level x) (command_roles x) ts rest = bracketed s o d c in
    record { parted = bracketed s o d c; loop = loop_roles (is_call (part_of_command x).form) (command_pieces x) b.bare (b.wrapped (omega arith)) }

-- in braces
braces_roles : (ns : List Name) → wrap (roles (names ns)) ≡ roles (in_braces (names ns))
braces_roles ns = ap (λ m. role.Opening ∷ m) (sym (roles_append (names ns) (p.Sign k.CloseBrace ∷ [])))

braces_looped : (ns : List Name) (ts inside last rest : List Token) (t t' : Token) → AreSpelled ts → Is open_brace ts inside t → shape_of rule_names inside last ns → Is close_brace last rest t' → IsLooped (commands.Call ns) ts rest
braces_looped ns ts inside last rest t t' s o d c = go ns d
  where
    opening : IsDeeper true 0 1 (role.Opening ∷ []) ts inside
    opening = (opening_covers k.OpenBrace 0 (λ n. refl)).covers ts inside t s o

    wrapped : (ns : List Name) → shape_of rule_names inside last ns → IsDeeper true 0 0 (roles (in_braces (names ns))) ts rest
    wrapped ns d =
        let e = names_covers.covers inside last ns opening.left d in
        recast (braces_roles ns) (wrapped_deeper opening e ((closing_covers k.CloseBrace 0 (λ n. refl)).covers last rest t' e.left c))

    go : (ns : List Name) → shape_of rule_names inside last ns → IsLooped (commands.Call ns) ts rest
    go [] d = call_looped (commands.Call []) (of-Call []) (wrapped [] d)
    go (n ∷ []) d =
        call_looped (commands.Call (n ∷ [])) (of-Call (n ∷ []))
        (unwrapped_deeper (kind_sign k.OpenBrace role.Opening (λ n. refl) o) (some_names inside last n [] opening.left d) (kind_sign k.CloseBrace role.Closing (λ n. refl) c))
    go (n ∷ m ∷ ms) d = call_looped (commands.Call (n ∷ m ∷ ms)) (of-Call (n ∷ m ∷ ms)) (wrapped (n ∷ m ∷ ms) d)

module _ (h : Grammar CommandTree) (q : command_parts 0 (shape_of h)) where
  repeatable_looped : (ts rest : List Token) (x : CommandTree) → AreSpelled ts → shape_of (repeatable h) ts rest x → IsLooped x ts rest
  unfolding repeatable
  repeatable_looped ts rest x s (one d) =
      let a = (opening_covers k.OpenParenthesis 0 (λ n. refl)).covers ts d.shape.mid d.of.0 s d.shape.first in
      let b = (q.parts d.shape.mid d.shape.second.mid d.of.1.0 a.left d.shape.second.first).bare in
      moved_loop d.made (enclosed_looped d.of.1.0 s d.shape.first b d.shape.second.second)
  repeatable_looped ts rest x s (other (one d)) =
      let f = d.shape.shape in
      moved_loop (d.made ∙ ap call_of d.shape.made) (braces_looped d.shape.of.1.0 ts f.mid f.second.mid rest d.shape.of.0 d.shape.of.1.1 s f.first f.second.first f.second.second)
  repeatable_looped ts rest x s (other (other (one d))) = moved_loop d.made (call_looped (commands.Call (d.of ∷ [])) (of-Call (d.of ∷ [])) ((name_covers wants.RuleName 0 refl quiet_rule_name).covers ts rest d.of s d.shape))
  repeatable_looped ts rest x s (other (other (other d))) = moved_loop d.made (call_looped (commands.Procedure d.of) (of-Procedure d.of) ((name_covers wants.ProcedureName 0 refl quiet_procedure_name).covers ts rest d.of s d.shape))

  looped_parted : (ts mid rest : List Token) (x : CommandTree) (b : Bool) → IsLooped x ts mid → shape_of bang mid rest b → IsParted 3 (command_level (looped (x, b))) (command_roles (looped (x, b))) ts rest
  unfolding bang
  looped_parted ts mid rest x b o (one d) =
      let e = (other_covers exclamation 0 quiet_exclamation).covers mid rest d.of o.loop.left d.shape in
      let le : 3 ≤ command_level (commands.Loop x) = omega (arith, ap (λ (z : CommandPart). level z.form) (of-Loop x)) in
      let see = sym (roles_append (in_loop (part_of_command x)) (p.Sign k.Exclamation ∷ [])) ∙ ap (λ (z : CommandPart). roles z.pieces) (sym (of-Loop x)) in
      moved (ap (λ c. looped (x, c)) d.made) (tight le (recast see (then_deeper o.loop e)))
  looped_parted ts mid _ x _ o (other absent) = o.parted

  word_parted : (x : CommandTree) {ts rest : List Token} (w : CommandPart) → level w.form ≡ 3 → part_of_command x ≡ w → IsDeeper true 0 0 (roles w.pieces) ts rest → IsParted 3 (command_level x) (command_roles x) ts rest
  word_parted x w l h d = let le : 3 ≤ command_level x = omega (arith, l, ap (λ (z : CommandPart). level z.form) h) in tight le (recast (ap (λ (z : CommandPart). roles z.pieces) (sym h)) d)

  simple_parts : command_parts 3 (shape_of (simple_in h))
  unfolding simple_in
  simple_parts = record { parts = go }
    where
      go : (ts rest : List Token) (x : CommandTree) → AreSpelled ts → shape_of (simple_in h) ts rest x → IsParted 3 (command_level x) (command_roles x) ts rest
      go ts rest x s (one d) = moved d.made (word_parted commands.Break _ refl of-Break ((other_covers break_word 0 quiet_break).covers ts rest d.of s d.shape))
      go ts rest x s (other (one d)) = moved d.made (word_parted commands.Skip _ refl of-Skip ((other_covers skip_word 0 quiet_skip).covers ts rest d.of s d.shape))
      go ts rest x s (other (other (one d))) = moved d.made (word_parted commands.Fail _ refl of-Fail ((other_covers fail_word 0 quiet_fail).covers ts rest d.of s d.shape))
      go ts rest x s (other (other (other d))) =
          moved d.made (looped_parted ts d.shape.mid rest d.of.0 d.of.1 (repeatable_looped ts d.shape.mid d.of.0 s d.shape.first) d.shape.second)

-- ---- chains

same_test : (a b : ℕ) → nat_lt a (suc b) ≡ nat_le a b
same_test a b = go (nat_lt a (suc b)) (nat_le a b) refl refl
  where
    go : (x y : Bool) → nat_lt a (suc b) ≡ x → nat_le a b ≡ y → x ≡ y
    go true true e f = refl
    go false false e f = refl
    go true false e f = let l = ltb-true a (suc b) e in let m = leb-false a b f in absurd (omega (arith, l, m))
    go false true e f = let l = ltb-false a (suc b) e in let m = leb-true a b f in absurd (omega (arith, l, m))

-- a member of a chain of this level
abbrev chained_by : ℕ → CommandPart → List Piece
chained_by l x = in_parentheses_if (nat_lt (level x.form) (suc l)) x.pieces

member_is : (l : ℕ) (x : CommandPart) → roles (chained_by l x) ≡ member_roles l (level x.form) (roles x.pieces)
member_is l x = roles_if (nat_lt (level x.form) (suc l)) x.pieces ∙ ap (λ b. if b then wrap (roles x.pieces) else roles x.pieces) (same_test (level x.form) l)

command_flat : (sign : Piece) (l : ℕ) (xs : List CommandTree)
    → roles (flat_map (λ y. sign ∷ chained_by l y) (map part_of_command xs)) ≡ flat_map (λ z. piece_role sign ∷ member_roles l (command_level z) (command_roles z)) xs
command_flat sign l [] = refl
command_flat sign l (x ∷ xs) =
    ap (λ m. piece_role sign ∷ m) (roles_append (chained_by l (part_of_command x)) (flat_map (λ y. sign ∷ chained_by l y) (map part_of_command xs)) ∙ ap₂ (λ a b. a ++ b) (member_is l (part_of_command x)) (command_flat sign l xs))

command_chain : (sign : Piece) (l : ℕ) (x : CommandTree) (xs : List CommandTree)
    → roles (chained_by l (part_of_command x) ++ flat_map (λ y. sign ∷ chained_by l y) (map part_of_command xs)) ≡ member_roles l (command_level x) (command_roles x) ++ flat_map (λ z. piece_role sign ∷ member_roles l (command_level z) (command_roles z)) xs
command_chain sign l x xs = roles_append (chained_by l (part_of_command x)) (flat_map (λ y. sign ∷ chained_by l y) (map part_of_command xs)) ∙ ap₂ (λ a b. a ++ b) (member_is l (part_of_command x)) (command_flat sign l xs)

module _ (h : Grammar CommandTree) (q : command_parts 3 (shape_of h)) where
  block_parts : command_parts 2 (shape_of (block h))
  unfolding block
  block_parts =
      chain_parts command_level command_roles 2 or_word quiet_or (grouped commands.Or) (λ x. refl) (λ x y ys. ap (λ (z : CommandPart). level z.form) (of-Either x (y ∷ ys)))
      (λ x y ys. ap (λ (z : CommandPart). roles z.pieces) (of-Either x (y ∷ ys)) ∙ command_chain (p.Word words.Or) 2 x (y ∷ ys)) q

  -- a part of `if` or `try`
  branch_covers : Covers true 0 0 (shape_of (block h)) (λ x. roles (in_branch (part_of_command x)))
  branch_covers = record { covers = λ ts rest x s d. recast (sym (roles_if _ (command_pieces x))) (operand_deeper (block_parts.parts ts rest x s d)) }

  -- a part that may be missing, behind what stands before it
  optional_deeper : (word : Keyword) (w : Want) → keyword_role word ≡ role.Other → AllExcluded w loud → {ps : List Role} (ts mid rest : List Token) (x : CommandTree) → IsDeeper true 0 0 ps ts mid → shape_of (part h w) mid rest x
      → IsDeeper true 0 0 (ps ++ roles (optional word (part_of_command x))) ts rest
  unfolding part
  optional_deeper word w r e {ps} ts mid rest x f (one d) =
      subst (λ z. IsDeeper true 0 0 (ps ++ roles (optional word (part_of_command z))) ts rest) (sym d.made) (go (is_nothing (part_of_command d.of.1).form))
    where
      a : IsDeeper true 0 0 (role.Other ∷ []) mid d.shape.mid
      a = (other_covers w 0 e).covers mid d.shape.mid d.of.0 f.left d.shape.first

      whole : IsDeeper true 0 0 (role.Other ∷ roles (in_branch (part_of_command d.of.1))) mid rest
      whole = then_deeper a (branch_covers.covers d.shape.mid rest d.of.1 a.left d.shape.second)

      go : (b : Bool) → IsDeeper true 0 0 (ps ++ roles (if b then [] else p.Word word ∷ in_branch (part_of_command d.of.1))) ts rest
      go true = recast (sym (append-nil ps)) (dropped_deeper f whole)
      go false = recast (ap (λ m. ps ++ m ∷ roles (in_branch (part_of_command d.of.1))) (sym r)) (then_deeper f whole)
  optional_deeper word w r e {ps} ts mid _ _ f (other absent) = recast (sym (append-nil ps) ∙ ap (λ (z : CommandPart). ps ++ roles (optional word z)) (sym of-Skip)) f

  if_roles : (c x y : CommandTree)
      → (role.Other ∷ roles (in_branch (part_of_command c)) ++ role.Other ∷ roles (in_branch (part_of_command x))) ++ roles (optional words.Else (part_of_command y)) ≡ command_roles (commands.If c x y)
  if_roles c x y =
      let f = p.Word words.If ∷ in_branch (part_of_command c) in
      let g = p.Word words.Then ∷ in_branch (part_of_command x) in
      let o = optional words.Else (part_of_command y) in
      ap (λ m. m ++ roles o) (sym (roles_append f g)) ∙ sym (roles_append (f ++ g) o) ∙ ap (λ (z : CommandPart). roles z.pieces) (sym (of-If c x y))

  try_roles : (c x y : CommandTree)
      → ((role.Other ∷ roles (in_branch (part_of_command c))) ++ roles (optional words.Then (part_of_command x))) ++ roles (optional words.Else (part_of_command y)) ≡ command_roles (commands.Try c x y)
  try_roles c x y =
      let f = p.Word words.Try ∷ in_branch (part_of_command c) in
      let g = optional words.Then (part_of_command x) in
      let o = optional words.Else (part_of_command y) in
      ap (λ m. m ++ roles o) (sym (roles_append f g)) ∙ sym (roles_append (f ++ g) o) ∙ ap (λ (z : CommandPart). roles z.pieces) (sym (of-Try c x y))

  single_parts : command_parts 1 (shape_of (command h))
  unfolding command
  single_parts = record { parts = go }
    where
      go : (ts rest : List Token) (x : CommandTree) → AreSpelled ts → shape_of (command h) ts rest x → IsParted 1 (command_level x) (command_roles x) ts rest
      go ts rest x s (one d) =
          let f = d.shape in
          let t = f.second.second in
          let a = (other_covers if_word 0 quiet_if).covers ts f.mid d.of.0 s f.first in
          let b = branch_covers.covers f.mid f.second.mid d.of.1.0 a.left f.second.first in
          let w = (other_covers then_word 0 quiet_then).covers f.second.mid t.first.shape.mid t.first.of.0 b.left t.first.shape.first in
          let v = branch_covers.covers t.first.shape.mid t.mid t.first.of.1 w.left t.first.shape.second in
          let v' = recast (ap (λ z. roles (in_branch (part_of_command z))) (sym t.first.made)) v in
          let o = optional_deeper words.Else else_word refl quiet_else ts t.mid rest d.of.1.1.1 (then_deeper a (then_deeper b (then_deeper w v'))) t.second in
          let le : 1 ≤ command_level (if_of d.of) = omega (arith, ap (λ (z : CommandPart). level z.form) (of-If d.of.1.0 d.of.1.1.0 d.of.1.1.1)) in
          moved d.made (tight le (recast (if_roles d.of.1.0 d.of.1.1.0 d.of.1.1.1) o))
      go ts rest x s (other (one d)) =
          let f = d.shape in
          let t = f.second.second in
          let a = (other_covers try_word 0 quiet_try).covers ts f.mid d.of.0 s f.first in
          let b = branch_covers.covers f.mid f.second.mid d.of.1.0 a.left f.second.first in
          let g = optional_deeper words.Then then_word refl quiet_then ts f.second.mid t.mid d.of.1.1.0 (then_deeper a b) t.first in
          let o = optional_deeper words.Else else_word refl quiet_else ts t.mid rest d.of.1.1.1 g t.second in
          let le : 1 ≤ command_level (try_of d.of) = omega (arith, ap (λ (z : CommandPart). level z.form) (of-Try d.of.1.0 d.of.1.1.0 d.of.1.1.1)) in
          moved d.made (tight le (recast (try_roles d.of.1.0 d.of.1.1.0 d.of.1.1.1) o))
      go ts rest x s (other (other d)) = looser (block_parts.parts ts rest x s d)

  sequence_parts : command_parts 0 (shape_of (sequence h))
  unfolding sequence
  sequence_parts =
      chain_parts command_level command_roles 0 semicolon quiet_semicolon (grouped commands.Seq) (λ x. refl) (λ x y ys. ap (λ (z : CommandPart). level z.form) (of-Seq x (y ∷ ys)))
      (λ x y ys. ap (λ (z : CommandPart). roles z.pieces) (of-Seq x (y ∷ ys)) ∙ command_chain (p.Sign k.Semicolon) 0 x (y ∷ ys)) single_parts

-- ---- at each room

all_simple_parts : (n : ℕ) → command_parts 3 (shape_of (simple n))
unfolding simple
all_simple_parts zero = record { parts = λ ts rest x s d. absurd d }
all_simple_parts (suc n) = simple_parts (sequence (simple n)) (sequence_parts (simple n) (all_simple_parts n))

pub commands_covers : (n : ℕ) → Covers true 0 0 (shape_of (commands_of n)) command_roles
commands_covers n = record { covers = λ ts rest x s d. ((sequence_parts (simple n) (all_simple_parts n)).parts ts rest x s d).bare }
