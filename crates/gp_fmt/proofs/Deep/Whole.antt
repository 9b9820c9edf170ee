-- A canonical text is nested no deeper than the text that its tree comes from.
use Rattle.std.proofs.Common.{◌≡◌, ℕ, zero, suc, ◌<◌, ◌≤◌, false, List, [], ◌∷◌, map, take, length, All, None, sym, ◌∙◌, subst, append-nil, arith, add-one}
use Rattle.std.specs.Prelude.{fold}
use Rattle.gp_tokens.specs.declared.token.Token.{Token}
use Rattle.gp_syntax.specs.declared.tree.Ast.{Ast}
use Rattle.gp_program.specs.Depth.{Nesting, role_of, behind, outside, IsShallow}
use Rattle.gp_program.specs.Program.{IsTree}
use Rattle.gp_fmt.specs.Pieces.{AreTokens}
use Rattle.gp_fmt.specs.Canonical.{pieces_of}
use Rattle.gp_fmt.specs.inside.Spelled.{IsSpelledToken}
use Rattle.gp_fmt.proofs.Deep.Nestings.{deep, IsWithin}
use Rattle.gp_fmt.proofs.Deep.Under.{itself}
use Rattle.gp_fmt.proofs.Deep.Roles.{roles, are_roles}
use Rattle.gp_fmt.proofs.Deep.Texts.{IsDeeper}
use Rattle.gp_fmt.proofs.Deep.Programs.{program_covers}

-- behind a nesting, as at the start
record IsShallowBehind (n : Nesting) (ts : List Token) : Type 0 where
  each : (j : ℕ) → j < length ts → deep (fold behind n (take (suc j) ts)) ≤ 64

within_behind : (n : Nesting) (ts : List Token) → IsShallowBehind n ts → IsWithin 64 n (map role_of ts)
within_behind n [] h = tt
within_behind n (t ∷ ts) h = (h.each zero (omega arith), within_behind (behind n t) ts (record { each = λ j lt. h.each (suc j) (omega (arith, lt)) }))

shallow_behind : (n : Nesting) (ts : List Token) → IsWithin 64 n (map role_of ts) → (j : ℕ) → j < length ts → deep (fold behind n (take (suc j) ts)) ≤ 64
shallow_behind n [] f j lt = absurd (omega (arith, lt))
shallow_behind n (t ∷ ts) f zero lt = f.0
shallow_behind n (t ∷ ts) f (suc j) lt = shallow_behind (behind n t) ts f.1 j (omega (arith, lt))

start_within : (tokens : List Token) → IsShallow tokens → IsWithin 64 outside (map role_of tokens)
start_within tokens h = within_behind outside tokens (record { each = λ j lt. rw add-one at (h.shallow j lt) })

start_shallow : (tokens : List Token) → IsWithin 64 outside (map role_of tokens) → IsShallow tokens
start_shallow tokens f = record { shallow = λ j lt. rw add-one (shallow_behind outside tokens f j lt) }

pub no_deeper : (tokens again : List Token) (ast : Ast) → All IsSpelledToken tokens → IsTree tokens ast → IsShallow tokens → AreTokens (pieces_of ast) again → IsShallow again
no_deeper tokens again ast spelled tree h are =
    let d : IsDeeper false 0 0 (roles (pieces_of ast)) tokens [] = (program_covers (length tokens)).covers tokens [] (record { tree = ast; past = None }) (record { spelled = spelled }) tree in
    let whole : map role_of tokens ≡ d.segment = d.split ∙ append-nil d.segment in
    let f : IsWithin 64 outside d.segment = subst (IsWithin 64 outside) whole (start_within tokens h) in
    let u = (d.under.under 64 [] [] outside outside (itself outside) f).within in
    start_shallow again (subst (IsWithin 64 outside) (sym (are_roles (pieces_of ast) again are)) u)
