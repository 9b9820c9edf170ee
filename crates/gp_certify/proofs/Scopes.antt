-- What a command needs of its program, its parts need too.
use Rattle.std.proofs.Common.{◌≡◌, ℕ, zero, suc, ◌-◌, ◌<◌, ◌≤◌, List, [], ◌∷◌, ◌++◌, length, map, slice_get, slice_index_or, Some, Contains, refl, sym, subst, arith}
use Rattle.std.proofs.lemmas.List.Elements.{Contains-append_left, Contains-append_right}
use Rattle.std.proofs.lemmas.Option.{slice_get-get_or}
use Rattle.gp_memory.proofs.Basics.{at_head, in_tail, is_among}
use Rattle.gp_syntax.specs.declared.command.Command as code
use Rattle.gp_syntax.specs.Run.{Command, Call, Seq, If, Try, Loop, Or, Skip, Procedure, Program}
use Rattle.gp_syntax.specs.Scoped.{calls_in, procedures_in, bodies, IsScoped}
use Rattle.gp_syntax.specs.Tree.{command_of}
use Rattle.gp_certify.specs.declared.table.Chain.{Chain}
use Rattle.gp_certify.specs.declared.table.Chain.TheVariants as chain
use Rattle.gp_certify.specs.Code.{at}
use Rattle.gp_certify.specs.inside.Table.{joined, grouped}
use Rattle.gp_certify.specs.inside.Fits.{Fits}

module _ (program : Program) (depth : ℕ) where
  -- what has only calls of another fits where that does
  fits_part : (p q : Command) → ((c : ℕ) → Contains (calls_in q) c → Contains (calls_in p) c) → ((k : ℕ) → Contains (procedures_in q) k → Contains (procedures_in p) k) → Fits program depth p → Fits program depth q
  fits_part p q a b h = record { calls = λ c i. h.calls c (a c i); procedures = λ k i. h.procedures k (b k i); chains = λ k ks i. h.chains k ks (b k i) }

  -- of two behind one another
  fits_first : (p q r : Command) → calls_in r ≡ calls_in p ++ calls_in q → procedures_in r ≡ procedures_in p ++ procedures_in q → Fits program depth r → Fits program depth p
  fits_first p q r e f = fits_part r p (λ c i. rw e (Contains-append_left _ _ c i)) (λ k i. rw f (Contains-append_left _ _ k i))

  fits_second : (p q r : Command) → calls_in r ≡ calls_in p ++ calls_in q → procedures_in r ≡ procedures_in p ++ procedures_in q → Fits program depth r → Fits program depth q
  fits_second p q r e f = fits_part r q (λ c i. rw e (Contains-append_right _ _ c i)) (λ k i. rw f (Contains-append_right _ _ k i))

  -- forms with the same calls
  pub fits_try : (k p q : Command) → Fits program depth (Try k p q) → Fits program depth (If k p q)
  fits_try k p q h = record { calls = h.calls; procedures = h.procedures; chains = h.chains }

  pub fits_loop : (p : Command) → Fits program depth (Loop p) → Fits program depth p
  fits_loop p h = record { calls = h.calls; procedures = h.procedures; chains = h.chains }

  -- a call is of one of the sets
  pub fits_call : (c : ℕ) → Fits program depth (Call c) → c < length program.sets
  fits_call c h = h.calls c (at_head c [])

  -- a condition and its branches
  pub fits_condition : (k p q : Command) → Fits program depth (If k p q) → Fits program depth k
  fits_condition k p q h = fits_first k p (Seq k p) refl refl (fits_first (Seq k p) q (If k p q) refl refl h)

  pub fits_then : (k p q : Command) → Fits program depth (If k p q) → Fits program depth p
  fits_then k p q h = fits_second k p (Seq k p) refl refl (fits_first (Seq k p) q (If k p q) refl refl h)

  pub fits_else : (k p q : Command) → Fits program depth (If k p q) → Fits program depth q
  fits_else k p q = fits_second (Seq k p) q (If k p q) refl refl

  -- the parts of a chain
  joined_first : (kind : Chain) (p q : Command) → Fits program depth (joined kind p q) → Fits program depth p
  joined_first chain.Sequence p q = fits_first p q (Seq p q) refl refl
  joined_first chain.Choice p q = fits_first p q (Or p q) refl refl

  joined_second : (kind : Chain) (p q : Command) → Fits program depth (joined kind p q) → Fits program depth q
  joined_second chain.Sequence p q = fits_second p q (Seq p q) refl refl
  joined_second chain.Choice p q = fits_second p q (Or p q) refl refl

  pub grouped_first : (kind : Chain) (p : Command) (qs : List Command) → Fits program depth (grouped kind p qs) → Fits program depth p
  grouped_first kind p [] h = h
  grouped_first kind p (q ∷ qs) h = joined_first kind p q (grouped_first kind (joined kind p q) qs h)

  grouped_at : (kind : Chain) (p : Command) (qs : List code.Command) (i : ℕ) (d : code.Command) → i < length qs → Fits program depth (grouped kind p (map command_of qs)) → Fits program depth (command_of (slice_index_or qs i d))
  grouped_at kind p [] i d l h = absurd (omega arith)
  grouped_at kind p (q ∷ qs) zero d l h = joined_second kind p (command_of q) (grouped_first kind (joined kind p (command_of q)) (map command_of qs) h)
  grouped_at kind p (q ∷ qs) (suc i) d l h = grouped_at kind (joined kind p (command_of q)) qs i d (omega arith) h

  -- one of the further parts
  pub fits_one : (kind : Chain) (p : Command) (qs : List code.Command) (i : ℕ) (q : code.Command) → i < length qs → q ≡ slice_index_or qs i q → Fits program depth (grouped kind p (map command_of qs)) → Fits program depth (command_of q)
  fits_one kind p qs i q l e h = subst (λ (c : code.Command). Fits program depth (command_of c)) (sym e) (grouped_at kind p qs i q l h)

-- ---- procedures

-- it is one of the program
pub fits_procedure : (program : Program) (depth k : ℕ) → Fits program depth (Procedure k) → k < length program.procedures
fits_procedure program depth k h = h.procedures k (at_head k [])

-- one procedure is a chain
pub fits_positive : (program : Program) (depth k : ℕ) → Fits program depth (Procedure k) → 1 ≤ depth
fits_positive program depth k h = h.chains k [] (at_head k []) tt

-- a chain that begins in the body is one procedure shorter than with this one before it
pub fits_body : (program : Program) (depth k : ℕ) → IsScoped program → Fits program depth (Procedure k) → Fits program (depth - 1) (at program.procedures k)
fits_body program depth k s h =
    let body = at program.procedures k in
    let is : slice_get program.procedures k ≡ Some body = slice_get-get_or program.procedures k Skip (fits_procedure program depth k h) in
    let among : Contains (bodies program) body = in_tail program.main body program.procedures (is_among program.procedures k body is) in
    record {
      calls = λ c i. s.calls body c among i;
      procedures = λ j i. s.procedures body j among i;
      chains = λ j ks i c. (let l : length (k ∷ j ∷ ks) ≤ depth = h.chains k (j ∷ ks) (at_head k []) (record { body = body; is_body = is; calls = i }, c) in omega arith);
    }

-- Main, since no chain of a program has more than 64 procedures
pub fits_main : (program : Program) → IsScoped program → Fits program 64 program.main
fits_main program s =
    let among : Contains (bodies program) program.main = at_head program.main program.procedures in
    record { calls = λ c i. s.calls program.main c among i; procedures = λ k i. s.procedures program.main k among i; chains = λ k ks i c. s.short_chains (k ∷ ks) c }
