-- Calls of procedures, and chains of them, in a program and in the lists of what each procedure calls.
use Rattle.std.proofs.Common.{◌≡◌, ◌⊎◌, inl, inr, ℕ, zero, suc, ◌<◌, ◌≤◌, List, [], ◌∷◌, map, length, get_or, slice_get, Some, option_map, refl, sym, ap, ◌∙◌, subst, arith}
use Rattle.std.specs.Prelude.{Contains}
use Rattle.std.proofs.lemmas.List.{length-map}
use Rattle.std.proofs.lemmas.Option.{slice_get-map, get_or_from_slice_get}
use Rattle.gp_memory.proofs.Basics.{some_at as element}
use Rattle.gp_syntax.specs.Run.{Command, Program}
use Rattle.gp_syntax.specs.Scoped.{procedures_in, CallsProcedure, IsChain, ReachesProcedure}
use Rattle.gp_syntax.specs.Scoped as there
use Rattle.gp_reader.specs.inside.Procedures.{Called, ReachesIn, directly, further, HasChain}
use Rattle.gp_scope.specs.Fault.{IsDeep}

abbrev pub callees_in : List Command → List (List ℕ)
callees_in ps = map procedures_in ps

-- what calls is there
pub calls_from : (callees : List (List ℕ)) (j k : ℕ) → Called callees j k → j < length callees
calls_from [] j k h = absurd (omega (arith, h.1))
calls_from (c ∷ cs) zero k h = omega arith
calls_from (c ∷ cs) (suc j) k h = let l = calls_from cs j k h in omega (arith, l)

body_calls : (ps : List Command) (j : ℕ) (body : Command) → slice_get ps j ≡ Some body → get_or (callees_in ps) j [] ≡ procedures_in body
body_calls ps j body e = get_or_from_slice_get (callees_in ps) j (procedures_in body) [] (slice_get-map procedures_in ps j ∙ ap (option_map procedures_in) e)

module _ (p : Program) where
  abbrev pub callees : List (List ℕ)
  callees = callees_in p.procedures

  pub called : (j k : ℕ) → CallsProcedure p j k → Called callees j k
  called j k c = subst (λ l. Contains l k) (sym (body_calls p.procedures j c.body c.is_body)) c.calls

  pub calls : (j k : ℕ) → Called callees j k → CallsProcedure p j k
  calls j k h =
      let l = calls_from callees j k h in
      let b = element p.procedures j (omega (arith, l, length-map p.procedures procedures_in)) in
      record { body = b.0; is_body = b.1; calls = subst (λ x. Contains x k) (body_calls p.procedures j b.0 b.1) h }

  pub reached : (j k : ℕ) → ReachesProcedure p j k → ReachesIn callees j k
  reached j k (there.directly c) = directly (called j k c)
  reached j k (there.further {k = i} r c) = further (reached j i r) (called i k c)

  pub reaches : (j k : ℕ) → ReachesIn callees j k → ReachesProcedure p j k
  reaches j k (directly c) = there.directly (calls j k c)
  reaches j k (further {k = i} r c) = there.further (reaches j i r) (calls i k c)

  -- a chain of calls, and one more procedure than it has calls
  long_chain : (ks : List ℕ) (k n : ℕ) → IsChain p (k ∷ ks) → n ≤ length ks → HasChain callees n k
  long_chain ks k zero c le = tt
  long_chain [] k (suc n) c le = absurd (omega (arith, le))
  long_chain (j ∷ ks) k (suc n) c le = (j, (called k j c.0, long_chain ks j n c.1 (omega (arith, le))))

  chain_of : (n k : ℕ) → HasChain callees n k → (ks : List ℕ) × (IsChain p (k ∷ ks) × (length ks ≡ n))
  chain_of zero k h = ([], (tt, refl))
  chain_of (suc n) k h = let r = chain_of n h.0 h.1.1 in (h.0 ∷ r.0, ((calls k h.0 h.1.0, r.1.0), ap suc r.1.1))

  pub deep_chain : (k n : ℕ) → n ≡ 64 → IsDeep p k → HasChain callees n k
  deep_chain k n e d = long_chain d.0 k n d.1.0 (let lt = d.1.1 in omega (arith, lt, e))

  pub chain_deep : (k n : ℕ) → n ≡ 64 → HasChain callees n k → IsDeep p k
  chain_deep k n e h = let r = chain_of n k h in let l = r.1.1 in (r.0, (r.1.0, omega (arith, l, e)))

-- ---- a procedure that reaches itself

module _ (cs : List (List ℕ)) where
  first_call : (j l : ℕ) → ReachesIn cs j l → (i : ℕ) × (Called cs j i × ((i ≡ l) ⊎ ReachesIn cs i l))
  first_call j l (directly c) = (l, (c, inl refl))
  first_call j l (further {k = k} r c) = let f = first_call j k r in (f.0, (f.1.0, inr (elim f.1.1 [ inl e ↦ directly (subst (λ x. Called cs x l) (sym e) c) | inr h ↦ further h c ])))

  -- begins chains of any length, and so does each that reaches it
  pub goes_on : (l : ℕ) → ReachesIn cs l l → (n j : ℕ) → ReachesIn cs j l → HasChain cs n j
  goes_on l s zero j r = tt
  goes_on l s (suc n) j r = let f = first_call j l r in (f.0, (f.1.0, elim f.1.1 [ inl e ↦ subst (HasChain cs n) (sym e) (goes_on l s n l s) | inr h ↦ goes_on l s n f.0 h ]))

  pub reach_from : (j l : ℕ) → ReachesIn cs j l → j < length cs
  reach_from j l r = let f = first_call j l r in calls_from cs j f.0 f.1.0
