-- What the tokens of a program are read as is their one tree.
use Rattle.std.proofs.Common.{◌≡◌, ◌≢◌, ℕ, List, [], ◌∷◌, length, Option, Some, None, Ok, Err, refl, ap, subst, arith}
use Rattle.std.specs.Prelude.{Result}
use Rattle.gp_tokens.specs.declared.token.Token.{Token}
use Rattle.gp_tokens.specs.Reading.{reader_of}
use Rattle.gp_program.specs.Depth.{IsShallow, FindsDepth, outside}
use Rattle.gp_program.specs.inside.Deep.{too_deep_from}
use Rattle.gp_program.proofs.Depths.{finds}
use Rattle.gp_syntax.specs.declared.tree.Ast.{Ast}
use Rattle.gp_expressions.specs.declared.ranged.Ranged.{Ranged}
use Rattle.gp_program.specs.declared.parse.ParseFault.{ParseFault}
use Rattle.gp_program.specs.declared.parse.ParseFault.TheVariants as faults
use Rattle.gp_program.specs.Programs.{program}
use Rattle.gp_program.specs.Program.{IsProgram, IsTree, IsPastRange, ParsesProgram, place_of_start}
use Rattle.gp_program.specs.Laws.{TokensHaveOneTree, TokensHaveAnAnswer}
use Rattle.gp_program.specs.inside.Stages.{all_read, read_by, ReadsTree}
use Rattle.gp_program.proofs.ProgramLaws.{program_sound, program_again}

read_all : {A : Type 0} (x : Option (A × List Token)) (a : A) → all_read x ≡ Some a → x ≡ Some (a, [])
read_all None a h = absurd cc
read_all (Some (b, [])) a h = let e : b ≡ a = cc in rw e refl
read_all (Some (b, u ∷ us)) a h = absurd cc

pub parsed : (tokens : List Token) (x : Ranged Ast) → read_by tokens ≡ Some x → IsProgram tokens x
parsed tokens x e = program_sound (length tokens) tokens (x, []) (read_all (reader_of (program (length tokens)) tokens) x e)

pub read_again : (tokens : List Token) (x : Ranged Ast) → IsProgram tokens x → read_by tokens ≡ Some x
read_again tokens x h = ap all_read (program_again (length tokens) tokens x h)

none_parsed : (tokens : List Token) → read_by tokens ≡ None → (x : Ranged Ast) → IsProgram tokens x → ⊥
none_parsed tokens e x h = let k = read_again tokens x h in absurd cc

pub whole_tree : (tokens : List Token) (x : Ranged Ast) → read_by tokens ≡ Some x → x.past ≡ None → IsTree tokens x.tree
whole_tree tokens x e p = subst (λ (past : Option ℕ). IsProgram tokens (record { tree = x.tree; past = past })) p (parsed tokens x e)

pub past_range : (tokens : List Token) (x : Ranged Ast) (start k : ℕ) → read_by tokens ≡ Some x → x.past ≡ Some start → k ≡ place_of_start start tokens → IsPastRange tokens k
past_range tokens x start k e p q = record {
  tree = x.tree;
  start = start;
  shape = subst (λ (past : Option ℕ). IsProgram tokens (record { tree = x.tree; past = past })) p (parsed tokens x e);
  place = q;
}

pub refused : (tokens : List Token) (e : ParseFault) → IsShallow tokens → ReadsTree tokens (Err e) → ParsesProgram tokens (Err e)
refused tokens (faults.TooDeep k) s h = absurd h
refused tokens (faults.Syntax k) s h = (s, record { none = none_parsed tokens h.0; place = h.1 })
refused tokens (faults.NumberRange k) s h = absurd h
refused tokens faults.NoMemory s h = h

pub shallow : (tokens : List Token) (found : Option ℕ) → FindsDepth tokens (Ok found) → found ≡ None → IsShallow tokens
shallow tokens None h e = h
shallow tokens (Some k) h e = absurd cc

-- ---- laws

pub one_tree : TokensHaveOneTree
one_tree tokens x y h k = let e = read_again tokens x h in let f = read_again tokens y k in cc

answer_of : (tokens : List Token) (read : Option (Ranged Ast)) → read_by tokens ≡ read → IsShallow tokens → (r : Result Ast ParseFault) × (r ≢ Err faults.NoMemory) × ParsesProgram tokens r
answer_of tokens None e s = (Err (faults.Syntax 0), (λ h. absurd cc), (s, record { none = none_parsed tokens e; place = omega arith }))
answer_of tokens (Some x) e s = by x.past refl
  where
    by : (past : Option ℕ) → x.past ≡ past → (r : Result Ast ParseFault) × (r ≢ Err faults.NoMemory) × ParsesProgram tokens r
    by None p = (Ok x.tree, (λ h. absurd cc), (s, whole_tree tokens x e p))
    by (Some start) p = (Err (faults.NumberRange (place_of_start start tokens)), (λ h. absurd cc), (s, past_range tokens x start _ e p refl))

pub an_answer : TokensHaveAnAnswer
an_answer tokens = by (too_deep_from outside tokens) (finds tokens (Ok (too_deep_from outside tokens)) refl)
  where
    by : (found : Option ℕ) → FindsDepth tokens (Ok found) → (r : Result Ast ParseFault) × (r ≢ Err faults.NoMemory) × ParsesProgram tokens r
    by None s = answer_of tokens (read_by tokens) refl s
    by (Some k) d = (Err (faults.TooDeep k), (λ h. absurd cc), d)
