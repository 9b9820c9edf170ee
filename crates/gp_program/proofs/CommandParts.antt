-- A command is what is read behind its first word.
use Rattle.std.proofs.Common.{◌≡◌, true, false, List, [], ◌∷◌, refl}
use Rattle.gp_tokens.specs.declared.token.Token.{Token}
use Rattle.gp_tokens.specs.Grammar.{Grammar}
use Rattle.gp_tokens.specs.Reading.{reader_of, begins, behind}
use Rattle.gp_syntax.specs.declared.tree.CommandTree.{CommandTree}
use Rattle.gp_expressions.specs.Signs.{if_word, try_word}
use Rattle.gp_program.proofs.Turns.{in_turn}
use Rattle.gp_program.specs.Commands.{block, command}
use Rattle.gp_program.specs.inside.Branches.{branches_behind}

pub if_parts : (s : Grammar CommandTree) (ts : List Token) → begins if_word ts ≡ true → reader_of (command s) ts ≡ reader_of (branches_behind false s) (behind if_word ts)
unfolding command branches_behind
if_parts s [] b = absurd cc
if_parts s (t ∷ ts) b = rw b (simp in_turn)

pub try_parts : (s : Grammar CommandTree) (ts : List Token) → begins if_word ts ≡ false → begins try_word ts ≡ true → reader_of (command s) ts ≡ reader_of (branches_behind true s) (behind try_word ts)
unfolding command branches_behind
try_parts s [] a b = absurd cc
try_parts s (t ∷ ts) a b = rw (a, b) (simp in_turn)

pub block_alone : (s : Grammar CommandTree) (ts : List Token) → begins if_word ts ≡ false → begins try_word ts ≡ false → reader_of (command s) ts ≡ reader_of (block s) ts
unfolding command
block_alone s ts a b = rw (a, b) refl
