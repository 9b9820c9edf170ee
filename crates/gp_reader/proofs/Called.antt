-- What calls lead to.
use borrow.Author.Count.{below_more}
use Rattle.std.proofs.Math.ListN.{get_or-append}
use Rattle.std.proofs.lemmas.List.{get_or_push}
use Rattle.std.proofs.Common.{length-append, ◌++◌, ◌≡◌, ℕ, zero, suc, ◌+◌, ◌<◌, ◌≤◌, Bool, true, false, List, [], ◌∷◌, length, get_or, replicate, refl, sym, ap, ◌∙◌, subst, arith}
use Rattle.std.specs.Prelude.{Contains, slice_index_or}
use Rattle.std.proofs.lemmas.List.Elements.{Contains-get_or}
use Rattle.gp_reader.proofs.Lists.{place_of_element}
use Rattle.gp_reader.specs.inside.Procedures.{Called, InRange, ReachesIn, directly, further, IsFirstIn, IsMarked, HasChain, MarksChains}
use Rattle.gp_reader.specs.inside.Visits.{CallsMarked, GoesDown, LeadsDown, rank_of}

-- one call more
pub one_more : (callees : List (List ℕ)) (n : ℕ) (marks longer : List Bool) → InRange callees → MarksChains callees n marks → length longer ≡ length callees
    → ((k : ℕ) → k < length callees → IsMarked longer k → CallsMarked (slice_index_or callees k []) marks)
    → ((k : ℕ) → k < length callees → CallsMarked (slice_index_or callees k []) marks → IsMarked longer k)
    → MarksChains callees (suc n) longer
one_more callees n marks longer range m count to from = record {
  count = count;
  marked = λ k lt h. let c = to k lt h in (c.0, (c.1.0, m.marked c.0 (range k c.0 c.1.0) c.1.1));
  chains = λ k lt h. from k lt (h.0, (h.1.0, m.chains h.0 (range k h.0 h.1.0) h.1.1));
}

-- a rank that never rises is below that of a procedure from which each call goes down
pub goes_below : (callees : List (List ℕ)) (ranks : List ℕ) (j k : ℕ) → GoesDown callees ranks → LeadsDown callees ranks j → ReachesIn callees j k → rank_of ranks k < rank_of ranks j
goes_below callees ranks j k down first (directly c) = first k c
goes_below callees ranks j k down first (further {k = m} r c) =
    let before = goes_below callees ranks j m down first r in
    let step = down m k c in
    omega (arith, before, step)

-- just those below a place are marked that call a marked one
pub record MarksUpTo (callees : List (List ℕ)) (marks : List Bool) (i : ℕ) (longer : List Bool) : Type 0 where
  pub count : length longer ≡ i
  pub marked : (k : ℕ) → k < i → IsMarked longer k → CallsMarked (slice_index_or callees k []) marks
  pub all : (k : ℕ) → k < i → CallsMarked (slice_index_or callees k []) marks → IsMarked longer k

pub one_marked : (callees : List (List ℕ)) (marks : List Bool) (i : ℕ) (old new : List Bool) (b : Bool) → MarksUpTo callees marks i old → new ≡ old ++ b ∷ []
    → (b ≡ true → CallsMarked (slice_index_or callees i []) marks) → (CallsMarked (slice_index_or callees i []) marks → b ≡ true) → MarksUpTo callees marks (i + 1) new
one_marked callees marks i old new b m e to from = record {
  count = ap length e ∙ length-append old (b ∷ []) ∙ ap (λ n. n + 1) m.count;
  marked = below_more (λ k. IsMarked new k → CallsMarked (slice_index_or callees k []) marks) i (λ k lt h. m.marked k lt (sym (before k lt) ∙ h)) (λ h. to (sym here ∙ h));
  all = below_more (λ k. CallsMarked (slice_index_or callees k []) marks → IsMarked new k) i (λ k lt h. before k lt ∙ m.all k lt h) (λ h. here ∙ from h);
}
  where
    before : (k : ℕ) → k < i → get_or new k false ≡ get_or old k false
    before k lt = let l : k < length old = omega (arith, m.count, lt) in ap (λ xs. get_or xs k false) e ∙ get_or-append old (b ∷ []) false k l

    here : get_or new i false ≡ b
    here = ap (λ xs. get_or xs i false) e ∙ ap (λ n. get_or (old ++ b ∷ []) n false) (sym m.count) ∙ get_or_push old b false (length old) refl

-- an element of what a procedure calls
pub called_at : (callees : List (List ℕ)) (k i : ℕ) (items : List ℕ) → items ≡ get_or callees k [] → i < length items → Called callees k (get_or items i 0)
called_at callees k i items e lt = subst (λ l. Contains l (get_or items i 0)) e (Contains-get_or items i 0 lt)

-- what is known of each place is known of each callee
pub of_each : (callees : List (List ℕ)) (k : ℕ) (items : List ℕ) (P : ℕ → Type 0) → items ≡ get_or callees k [] → ((i : ℕ) → i < length items → P (get_or items i 0)) → (j : ℕ) → Called callees k j → P j
of_each callees k items P e all j c =
    let at = place_of_element items j (subst (λ l. Contains l j) (sym e) c) in
    subst P at.2 (all at.0 at.1)

pub none_recurs : (callees : List (List ℕ)) (ranks : List ℕ) (k : ℕ) → GoesDown callees ranks → LeadsDown callees ranks k → ReachesIn callees k k → ⊥
none_recurs callees ranks k down leads r = let l = goes_below callees ranks k k down leads r in omega (arith, l)

pub none_unmarked : (callees : List (List ℕ)) (marks : List Bool) (k : ℕ) → (ReachesIn callees k k → IsMarked marks k) → get_or marks k false ≡ false → ReachesIn callees k k → ⊥
none_unmarked callees marks k all e r = let h : get_or marks k false ≡ true = all r in cc
