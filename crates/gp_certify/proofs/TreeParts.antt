-- The parts of a tree fit where it does, and are smaller.
use Rattle.std.proofs.Common.{◌≡◌, ℕ, ◌+◌, ◌-◌, ◌<◌, zero, suc, List, [], ◌∷◌, length, map, slice_index_or, refl, sym, ap, subst, ◌∙◌, arith}
use Rattle.std.proofs.lemmas.List.{length-map}
use Rattle.gp_syntax.specs.declared.command.Command as code
use Rattle.gp_syntax.specs.declared.command.Command.TheVariants as form
use Rattle.gp_syntax.specs.Run.{Command, If, Procedure, Program}
use Rattle.gp_syntax.specs.Scoped.{IsScoped}
use Rattle.gp_syntax.specs.Tree.{command_of}
use Rattle.gp_syntax.proofs.Trees.{command_of-Seq, command_of-If, command_of-Try, command_of-Loop, command_of-Or, command_of-Proc}
use Rattle.gp_certify.specs.declared.table.Chain.{Chain}
use Rattle.gp_certify.specs.declared.table.Chain.TheVariants as chain
use Rattle.gp_certify.specs.Code.{at}
use Rattle.gp_certify.specs.inside.Table.{grouped}
use Rattle.gp_certify.specs.inside.Fits.{Fits, size, sizes, room}
use Rattle.gp_certify.proofs.Scopes.{fits_try, fits_loop, fits_procedure, fits_positive, fits_body}
use Rattle.gp_certify.proofs.Sizes.{size-Seq, size-If, size-Try, size-Loop, size-Or, size-Proc, room_less}

module _ (program : Program) (depth : ℕ) where
  -- what the whole needs, by what it stands for
  stands : (whole : code.Command) (p : Command) → command_of whole ≡ p → Fits program depth (command_of whole) → Fits program depth p
  stands whole p e = subst (λ (c : Command). Fits program depth c) e

  -- r: what is left beside
  module _ (r : ℕ) (whole : code.Command) where
    -- the parts of a chain
    pub record ChainParts (kind : Chain) (first : code.Command) (rest : List code.Command) : Type 0 where
      pub fits : Fits program depth (grouped kind (command_of first) (map command_of rest))
      pub less : r + (1 + size first + sizes rest) < r + size whole

    pub seq_parts : (first : code.Command) (rest : List code.Command) → whole ≡ form.Seq first rest → Fits program depth (command_of whole) → ChainParts chain.Sequence first rest
    seq_parts first rest e h = record { fits = stands whole _ (ap command_of e ∙ command_of-Seq first rest) h; less = (let s : size whole ≡ 2 + size first + sizes rest = ap size e ∙ size-Seq first rest in omega arith) }

    pub or_parts : (first : code.Command) (rest : List code.Command) → whole ≡ form.Or first rest → Fits program depth (command_of whole) → ChainParts chain.Choice first rest
    or_parts first rest e h = record { fits = stands whole _ (ap command_of e ∙ command_of-Or first rest) h; less = (let s : size whole ≡ 2 + size first + sizes rest = ap size e ∙ size-Or first rest in omega arith) }

    -- the parts of an `if` or a `try`
    pub record ThreeParts (k p q : code.Command) : Type 0 where
      pub fits : Fits program depth (If (command_of k) (command_of p) (command_of q))
      pub less : r + (1 + size k + size p + size q) < r + size whole

    pub if_parts : (k p q : code.Command) → whole ≡ form.If k p q → Fits program depth (command_of whole) → ThreeParts k p q
    if_parts k p q e h = record { fits = stands whole _ (ap command_of e ∙ command_of-If k p q) h; less = (let s : size whole ≡ 2 + size k + size p + size q = ap size e ∙ size-If k p q in omega arith) }

    pub try_parts : (k p q : code.Command) → whole ≡ form.Try k p q → Fits program depth (command_of whole) → ThreeParts k p q
    try_parts k p q e h = record { fits = fits_try program depth _ _ _ (stands whole _ (ap command_of e ∙ command_of-Try k p q) h); less = (let s : size whole ≡ 2 + size k + size p + size q = ap size e ∙ size-Try k p q in omega arith) }

    -- the body of a loop
    pub record LoopPart (body : code.Command) : Type 0 where
      pub fits : Fits program depth (command_of body)
      pub less : r + size body < r + size whole

    pub loop_part : (body : code.Command) → whole ≡ form.Loop body → Fits program depth (command_of whole) → LoopPart body
    loop_part body e h = record { fits = fits_loop program depth _ (stands whole _ (ap command_of e ∙ command_of-Loop body) h); less = (let s : size whole ≡ 2 + size body = ap size e ∙ size-Loop body in omega arith) }

    -- the call of a procedure
    pub record CallPart (k : ℕ) : Type 0 where
      pub fits : Fits program depth (Procedure k)
      pub less : r + 1 < r + size whole

    pub call_part : (k : ℕ) → whole ≡ form.Proc k → Fits program depth (command_of whole) → CallPart k
    call_part k e h = record { fits = stands whole _ (ap command_of e ∙ command_of-Proc k) h; less = (let s : size whole ≡ 2 = ap size e ∙ size-Proc k in omega arith) }

-- the body of a procedure
pub record BodyPart (program : Program) (procedures : List code.Command) (depth k : ℕ) (body : code.Command) : Type 0 where
  pub named : command_of body ≡ at program.procedures k
  pub fits : Fits program (depth - 1) (command_of body)
  pub less : room procedures (depth - 1) + size body < room procedures depth + 1

named_at : (procedures : List code.Command) (k : ℕ) (d : code.Command) → k < length procedures → command_of (slice_index_or procedures k d) ≡ at (map command_of procedures) k
named_at [] k d l = absurd (omega arith)
named_at (p ∷ ps) zero d l = refl
named_at (p ∷ ps) (suc k) d l = named_at ps k d (omega arith)

pub body_part : (program : Program) (procedures : List code.Command) (depth k : ℕ) (body : code.Command) → program.procedures ≡ map command_of procedures → IsScoped program → Fits program depth (Procedure k) → body ≡ slice_index_or procedures k body → BodyPart program procedures depth k body
body_part program procedures depth k body own scoped h e =
    let l : k < length procedures = (let m = fits_procedure program depth k h in let n : length program.procedures ≡ length procedures = ap length own ∙ length-map procedures command_of in omega arith) in
    let named : command_of body ≡ at program.procedures k = ap command_of e ∙ named_at procedures k body l ∙ ap (λ (ps : List Command). at ps k) (sym own) in
    record {
      named = named;
      fits = subst (λ (c : Command). Fits program (depth - 1) c) (sym named) (fits_body program depth k scoped h);
      less = room_less procedures depth k body (fits_positive program depth k h) l e;
    }
