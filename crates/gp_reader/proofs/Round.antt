-- A round over the procedures, up to one of them.
use borrow.Author.Count.{below_more}
use Rattle.std.proofs.Common.{◌≡◌, ◌⊎◌, inl, inr, ℕ, suc, ◌+◌, ◌<◌, ◌≤◌, Bool, true, false, List, length, get_or, slice_get, Some, refl, sym, ap, ◌∙◌, subst, arith}
use Rattle.std.proofs.Math.ListN.{set}
use Rattle.std.specs.Prelude.{slice_index_or}
use Rattle.std.proofs.lemmas.List.{length-set}
use Rattle.std.proofs.lemmas.Option.{slice_get_within}
use Rattle.gp_syntax.specs.Run.{Command}
use Rattle.gp_reader.specs.inside.Procedures.{IsMarked}
use Rattle.gp_reader.specs.inside.Visits.{unmarked}
use Rattle.gp_reader.specs.inside.Judged.{breaks_by, AreBreaking, AreAllBreaking, FindsMore}
use Rattle.gp_reader.proofs.Visits.{marked_still, marked_before, marked_here, one_less}
use Rattle.gp_reader.proofs.Breaking.{breaks_so}

-- those of which the body breaks are marked, up to a procedure
abbrev AllUpTo : List Command → List Bool → ℕ → Type 0
AllUpTo procedures marks i = (j : ℕ) → j < i → (body : Command) → slice_get procedures j ≡ Some body → breaks_by marks body ≡ true → IsMarked marks j

pub record Round (procedures : List Command) (old now : List Bool) (more : Bool) (i : ℕ) : Type 0 where
  pub count : length now ≡ length old
  pub sound : AreBreaking procedures old → AreBreaking procedures now
  pub same : more ≡ false → now ≡ old
  pub done : more ≡ false → AllUpTo procedures now i
  pub fewer : more ≡ true → unmarked now < unmarked old

pub round_begins : (procedures : List Command) (old : List Bool) → Round procedures old old false 0
round_begins procedures old = record { count = refl; sound = λ h. h; same = λ _. refl; done = λ _ j lt. absurd (omega (arith, lt)); fewer = λ e. cc }

-- one that is marked already, or whose body does not break
pub round_passes : (procedures : List Command) (old now : List Bool) (more : Bool) (i : ℕ) (body : Command) → slice_get procedures i ≡ Some body → (breaks_by now body ≡ true → IsMarked now i) → Round procedures old now more i → Round procedures old now more (i + 1)
round_passes procedures old now more i body at known r = record {
  count = r.count;
  sound = r.sound;
  same = r.same;
  done = λ e. below_more (λ j. (b : Command) → slice_get procedures j ≡ Some b → breaks_by now b ≡ true → IsMarked now j) i (r.done e) (λ b s h. known (subst (λ x. breaks_by now x ≡ true) (some_same b s) h));
  fewer = r.fewer;
}
  where
    some_same : (b : Command) → slice_get procedures i ≡ Some b → b ≡ body
    some_same b s = let e : Some b ≡ Some body = sym s ∙ at in cc

-- one that is found
pub round_finds : (procedures : List Command) (old now : List Bool) (more : Bool) (i : ℕ) (body : Command) → slice_get procedures i ≡ Some body → i < length now → get_or now i false ≡ false → breaks_by now body ≡ true
    → unmarked now ≤ unmarked old → Round procedures old now more i → Round procedures old (set now i true) true (i + 1)
round_finds procedures old now more i body at lt e h le r = record {
  count = length-set now i true ∙ r.count;
  sound = λ s k m. elim (marked_before now i k m) [ inl d ↦ r.sound s k d | inr q ↦ (body, (subst (λ n. slice_get procedures n ≡ Some body) q at, breaks_so procedures now (r.sound s) body h)) ];
  same = λ x. cc;
  done = λ x. cc;
  fewer = λ _. let o = one_less now i lt e in omega (arith, o, le);
}

-- marks are not taken away
pub no_more_unmarked : (procedures : List Command) (old now : List Bool) (more : Bool) (i : ℕ) → Round procedures old now more i → unmarked now ≤ unmarked old
no_more_unmarked procedures old now true i r = let l = r.fewer refl in omega (arith, l)
no_more_unmarked procedures old now false i r = let e = ap unmarked (r.same refl) in omega (arith, e)

pub round_ends : (procedures : List Command) (old now : List Bool) (more : Bool) (i : ℕ) → length procedures ≤ i → Round procedures old now more i → FindsMore procedures old now more
round_ends procedures old now more i le r = record {
  count = r.count;
  sound = r.sound;
  done = λ e k body s. let w = slice_get_within procedures k body s in r.done e k (omega (arith, w, le)) body s;
  fewer = r.fewer;
}
