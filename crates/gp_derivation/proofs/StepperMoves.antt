-- One item, forward and back.
use Rattle.std.proofs.Common.{◌≡◌, ℕ, zero, suc, ◌+◌, ◌<◌, List, [], ◌∷◌, ◌++◌, length, take, drop, Some, slice_get, add-one, sym, subst, ap, refl, ◌∙◌, arith}
use Rattle.std.proofs.lemmas.Option.{same_Some}
use Rattle.gp_memory.proofs.Basics.{drop_suc as dropped_next}
use Rattle.gp_values.specs.Graph.{Graph}
use Rattle.gp_syntax.specs.declared.found.Item as trees
use Rattle.gp_syntax.specs.Rule.{Rule}
use Rattle.gp_syntax.specs.Run.{Item, Stepped, Turned, Back}
use Rattle.gp_journal.specs.Trail.{Trail, back_by, root_from, rooted}
use Rattle.gp_journal.specs.Leads.{Goes, Leads}
use Rattle.gp_journal.specs.Journal.{Journal, IsJournalOf, items_of}
use Rattle.gp_journal.proofs.Replays.{leads_more, rooted_back}
use Rattle.gp_derivation.specs.Stepper.{Stepper, at_start, before_first, IsStepperOf, IsMoved}
use Rattle.gp_derivation.specs.inside.Stands.{GoesOnly}

pub taken_next : {X : Type 0} (xs : List X) (n : ℕ) (x : X) → slice_get xs n ≡ Some x → take (suc n) xs ≡ take n xs ++ x ∷ []
taken_next [] n x e = absurd cc
taken_next (y ∷ xs) zero x e = ap (λ z. z ∷ []) (same_Some y x e)
taken_next (y ∷ xs) (suc n) x e = ap (λ l. y ∷ l) (taken_next xs n x e)

pub leads_last : (rules : List Rule) (is : List Item) (i : Item) (t u : Trail) → Leads rules (is ++ i ∷ []) t u → (v : Trail) × Leads rules is t v × Goes rules i v u
leads_last rules [] i t u w = (t, refl, subst (Goes rules i t) (sym w.2) w.1)
leads_last rules (j ∷ is) i t u w = let r = leads_last rules is i w.0 u w.2 in (r.0, (w.0, w.1, r.1), r.2)

goes_rooted : (rules : List Rule) (i : Item) (t u : Trail) → Goes rules i t u → rooted u ≡ rooted t
goes_rooted rules (Stepped m) t u g = ap rooted g.2
goes_rooted rules Turned t u g = ap rooted g
goes_rooted rules (Back k) t u g = ap rooted g.1 ∙ rooted_back k t

-- ---- at the start

back_all : (g : Graph) (bs : List Graph) (c : ℕ) → back_by (length bs) (record { graph = g; before = bs; caught = c }) ≡ record { graph = root_from g bs; before = []; caught = c }
back_all g [] c = refl
back_all g (b ∷ bs) c = back_all b bs c

pub starts : (j : Journal) (t u : Trail) (k : ℕ) (is : List trees.Item) → t ≡ j.trail → k ≡ length t.before → u ≡ back_by k t → is ≡ j.items → record { items = is; place = 0; trail = u } ≡ at_start j
starts j t u k is same deep back e =
    let root : u ≡ rooted j.trail = back ∙ ap (λ n. back_by n t) deep ∙ back_all t.graph t.before t.caught ∙ ap rooted same in
    λ i. record { items = e i; place = 0; trail = root i }

pub of_journal : (rules : List Rule) (j : Journal) → IsJournalOf rules j → IsStepperOf rules (at_start j)
of_journal rules j w = record { within = omega arith; before = refl; end = j.trail; behind = w }

-- of items that lead from a host
pub of_items : (rules : List Rule) (t end : Trail) (is : List trees.Item) → Leads rules (items_of is) (rooted t) end → IsStepperOf rules (before_first (rooted t) is)
of_items rules t end is w = record { within = omega arith; before = refl; end = end; behind = w }

-- ---- at a place

abbrev pub at : List trees.Item → ℕ → Trail → Stepper
at is n t = record { items = is; place = n; trail = t }

module _ (rules : List Rule) (is : List trees.Item) (n : ℕ) (i : Item) (e : slice_get (items_of is) n ≡ Some i) where
  -- ---- forward

  pub onward : (t : Trail) → IsStepperOf rules (at is n t) → (end : Trail) × Leads rules (i ∷ drop (suc n) (items_of is)) t end
  onward t s = (s.end, subst (λ l. Leads rules l t s.end) (dropped_next (items_of is) n i e) s.behind)

  pub goes_next : (t : Trail) → IsStepperOf rules (at is n t) → (v : Trail) × Goes rules i t v
  goes_next t s = let o = onward t s in (o.1.0, o.1.1)

  pub moved_forward : (t u : Trail) → n < length is → IsStepperOf rules (at is n t) → GoesOnly rules i t u → IsMoved rules (at is n t) (at is (n + 1) u) (n + 1)
  moved_forward t u l s g =
      let o = onward t s in
      let r = goes_rooted rules i t u g.goes in
      record {
        items = refl;
        root = ap (λ (x : Trail). x.graph) r;
        place_is = refl;
        of_rules = record {
          within = omega arith;
          before = rw (add-one, taken_next (items_of is) n i e, r) (leads_more rules (take n (items_of is)) i (rooted t) t u s.before g.goes);
          end = o.0;
          behind = rw add-one (subst (λ v. Leads rules (drop (suc n) (items_of is)) v o.0) (g.only o.1.0 o.1.1) o.1.2);
        };
      }

  -- ---- back

  pub goes_before : (t : Trail) → IsStepperOf rules (at is (n + 1) t) → (v : Trail) × Leads rules (take n (items_of is)) (rooted t) v × Goes rules i v t
  goes_before t s =
      let w : Leads rules (take n (items_of is) ++ i ∷ []) (rooted t) t = subst (λ l. Leads rules l (rooted t) t) (ap (λ k. take k (items_of is)) (let z : n + 1 ≡ suc n = omega arith in z) ∙ taken_next (items_of is) n i e) s.before in
      leads_last rules (take n (items_of is)) i (rooted t) t w

  pub moved_back : (t v : Trail) → n < length is → IsStepperOf rules (at is (n + 1) t) → Leads rules (take n (items_of is)) (rooted t) v → Goes rules i v t → IsMoved rules (at is (n + 1) t) (at is n v) n
  moved_back t v l s w g =
      let r = goes_rooted rules i v t g in
      record {
        items = refl;
        root = ap (λ (x : Trail). x.graph) (sym r);
        place_is = refl;
        of_rules = record {
          within = omega arith;
          before = subst (λ x. Leads rules (take n (items_of is)) x v) r w;
          end = s.end;
          behind = rw (dropped_next (items_of is) n i e) (t, g, subst (λ k. Leads rules (drop k (items_of is)) t s.end) (let z : n + 1 ≡ suc n = omega arith in z) s.behind);
        };
      }
