-- Assignments with one value more or less.
use Rattle.std.proofs.Common.{subst, take, drop, ◌≡◌, ℕ, zero, suc, true, ◌+◌, length, List, [], ◌∷◌, ◌++◌, sym, ◌∙◌}
use Rattle.std.specs.Prelude.{Option, Some, slice_get, slice_set}
use Rattle.std.specs.List.{refill}
use Rattle.std.proofs.lemmas.List.{length-set}
use Rattle.gp_memory.proofs.Basics.{take_front}
use Rattle.gp_values.specs.declared.atom.Atom.{Atom}
use Rattle.gp_syntax.specs.declared.kinds.VariableType.{VariableType}
use Rattle.gp_syntax.specs.Assigned.{IsInTypes, declared_type}
use Rattle.gp_syntax.specs.Value.{is_of}

-- what the places hold, once one is written
written : (P : ℕ → List Atom → Type 0) (vs : List (Option (List Atom))) (i : ℕ) (o : Option (List Atom)) → ((x : ℕ) (v : List Atom) → slice_get vs x ≡ Some (Some v) → P x v) → ((v : List Atom) → o ≡ Some v → P i v)
    → (x : ℕ) (v : List Atom) → slice_get (slice_set vs i o) x ≡ Some (Some v) → P x v
written P [] i o old new x v h = old x v h
written P (w ∷ vs) zero o old new zero v h = new v cc
written P (w ∷ vs) zero o old new (suc x) v h = old (suc x) v h
written P (w ∷ vs) (suc i) o old new zero v h = old zero v h
written P (w ∷ vs) (suc i) o old new (suc x) v h = written (λ k. P (suc k)) vs i o (λ k. old (suc k)) new x v h

pub still_in_types : (types : List VariableType) (vs now : List (Option (List Atom))) (i : ℕ) (o : Option (List Atom)) → now ≡ slice_set vs i o → IsInTypes (record { types = types; values = vs })
    → ((v : List Atom) → o ≡ Some v → is_of (declared_type (record { types = types; values = vs }) i) v ≡ true) → IsInTypes (record { types = types; values = now })
still_in_types types vs now i o e h new = rw e (record {
  count = length-set vs i o ∙ h.count;
  in_types = written (λ x v. is_of (declared_type (record { types = types; values = vs }) x) v ≡ true) vs i o h.in_types new;
})

-- a list that is lent and comes back with one place written
pub written_back : {X : Type 0} (xs lent : List X) (i : ℕ) (x : X) → lent ≡ xs → refill (length xs) xs (slice_set lent i x) ≡ slice_set xs i x
written_back xs lent i x e =
    let now = slice_set xs i x in
    let whole : take (length xs) (now ++ drop (length now) xs) ≡ now = subst (λ n. take n (now ++ drop (length now) xs) ≡ now) (length-set xs i x) (take_front now (drop (length now) xs)) in
    subst (λ l. refill (length xs) xs (slice_set l i x) ≡ now) (sym e) whole
