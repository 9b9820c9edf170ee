-- Items, one after another.
use Rattle.std.proofs.Common.{◌≡◌, ℕ, zero, suc, ◌+◌, ◌<◌, ◌≤◌, List, [], ◌∷◌, ◌++◌, length, take, drop, get_or, drop-cons, add-one, sym, subst, ap, refl, ◌∙◌}
use Rattle.std.proofs.Math.Seq.{take-suc}
use Rattle.gp_values.specs.Graph.{Graph}
use Rattle.gp_syntax.specs.declared.found.Item.{Item}
use Rattle.gp_syntax.specs.Rule.{Rule}
use Rattle.gp_syntax.specs.Run as meant
use Rattle.gp_syntax.specs.Tree.{item_of}
use Rattle.gp_journal.specs.Trail.{Trail, root_from, undone, undone_of, back_by, rooted}
use Rattle.std.proofs.lemmas.List.{length-map}
use Rattle.gp_journal.specs.Leads.{Goes, Leads, CaughtUp}
use Rattle.gp_journal.specs.Journal.{items_of}

pub caught_undone : (g : Graph) (bs : List Graph) (c : ℕ) → (undone_of g bs c).caught ≡ c
caught_undone g [] c = refl
caught_undone g (b ∷ bs) c = refl

pub caught_back : (k : ℕ) (t : Trail) → (back_by k t).caught ≡ t.caught
caught_back zero t = refl
caught_back (suc k) t = caught_back k (undone t) ∙ caught_undone t.graph t.before t.caught

rooted_undone : (g : Graph) (bs : List Graph) (c : ℕ) → rooted (undone_of g bs c) ≡ record { graph = root_from g bs; before = []; caught = c }
rooted_undone g [] c = refl
rooted_undone g (b ∷ bs) c = refl

pub rooted_back : (k : ℕ) (t : Trail) → rooted (back_by k t) ≡ rooted t
rooted_back zero t = refl
rooted_back (suc k) t = rooted_back k (undone t) ∙ rooted_undone t.graph t.before t.caught

pub leads_more : (rules : List Rule) (is : List meant.Item) (i : meant.Item) (t u v : Trail) → Leads rules is t u → Goes rules i u v → Leads rules (is ++ i ∷ []) t v
leads_more rules [] i t u v w g = (v, subst (λ x. Goes rules i x v) w g, refl)
leads_more rules (j ∷ is) i t u v w g = (w.0, w.1, leads_more rules is i w.0 u v w.2 g)

items-append : (is js : List Item) → items_of (is ++ js) ≡ items_of is ++ items_of js
items-append [] js = refl
items-append (i ∷ is) js = ap (λ l. item_of i ∷ l) (items-append is js)

pub goes_on : (rules : List Rule) (is : List Item) (i : Item) (t u : Trail) → Leads rules (items_of is) (rooted t) t → Goes rules (item_of i) t u → rooted u ≡ rooted t → Leads rules (items_of (is ++ i ∷ [])) (rooted u) u
goes_on rules is i t u w g e =
    rw (items-append is (i ∷ [])) (subst (λ r. Leads rules (items_of is ++ item_of i ∷ []) r u) (sym e) (leads_more rules (items_of is) (item_of i) (rooted t) t u w g))

split_off : (rules : List Rule) (is : List Item) (n : ℕ) (i : Item) (t u : Trail) → drop n is ≡ i ∷ drop (suc n) is → Leads rules (items_of (drop n is)) t u → (v : Trail) × Goes rules (item_of i) t v × Leads rules (items_of (drop (suc n) is)) v u
split_off rules is n i t u here w = subst (λ l. Leads rules (items_of l) t u) here w

here_at : (is : List Item) (n : ℕ) (i : Item) → n < length is → i ≡ get_or is n i → drop n is ≡ i ∷ drop (suc n) is
here_at is n i l e = drop-cons is n i l ∙ ap (λ z. z ∷ drop (suc n) is) (sym e)

pub next_goes : (rules : List Rule) (is : List Item) (n : ℕ) (i : Item) (t : Trail) → n < length is → i ≡ get_or is n i → ((u : Trail) × Leads rules (items_of (drop n is)) t u) → (u : Trail) × Goes rules (item_of i) t u
next_goes rules is n i t l e w = let s = split_off rules is n i t w.0 (here_at is n i l e) w.1 in (s.0, s.1)

taken_more : (is : List Item) (n : ℕ) (i : Item) → n < length is → i ≡ get_or is n i → items_of (take (suc n) is) ≡ items_of (take n is) ++ item_of i ∷ []
taken_more is n i l e = ap items_of (take-suc is n i l ∙ ap (λ z. take n is ++ z ∷ []) (sym e)) ∙ items-append (take n is) (i ∷ [])

pub one_more : (rules : List Rule) (is : List Item) (n : ℕ) (i : Item) (first t v : Trail) → n < length is → i ≡ get_or is n i → ((u : Trail) × Leads rules (items_of (drop n is)) t u) → Leads rules (items_of (take n is)) first t
    → Goes rules (item_of i) t v → ((u : Trail) → Goes rules (item_of i) t u → u ≡ v)
    → record { onward : (u : Trail) × Leads rules (items_of (drop (n + 1) is)) v u; so_far : Leads rules (items_of (take (n + 1) is)) first v }
one_more rules is n i first t v l e w past g only =
    let s = split_off rules is n i t w.0 (here_at is n i l e) w.1 in
    record {
      onward = rw add-one (w.0, subst (λ m. Leads rules (items_of (drop (suc n) is)) m w.0) (only s.0 s.1) s.2);
      so_far = rw (add-one, taken_more is n i l e) (leads_more rules (items_of (take n is)) (item_of i) first t v past g);
    }

pub taken_of : (is : List Item) (n : ℕ) → take n (items_of is) ≡ items_of (take n is)
taken_of is zero = refl
taken_of [] (suc n) = refl
taken_of (i ∷ is) (suc n) = ap (λ l. item_of i ∷ l) (taken_of is n)

-- a trail that tells how many items it made
pub caught_up : (rules : List Rule) (is : List Item) (n : ℕ) (first t : Trail) (g : Graph) (bs : List Graph) {c : ℕ} → n ≤ length is → record { graph = g; before = bs; caught = c } ≡ t → t.caught ≡ first.caught → Leads rules (items_of (take n is)) first t
    → CaughtUp rules (items_of is) first (record { graph = g; before = bs; caught = n })
caught_up rules is n first t g bs {c = c} l e same w =
    let s : c ≡ first.caught = ap (λ (x : Trail). x.caught) e ∙ same in
    let u : Leads rules (items_of (take n is)) first (record { graph = g; before = bs; caught = first.caught }) = subst (λ k. Leads rules (items_of (take n is)) first (record { graph = g; before = bs; caught = k })) s (subst (Leads rules (items_of (take n is)) first) (sym e) w) in
    record { within = rw (length-map is item_of) l; leads = subst (λ z. Leads rules z first (record { graph = g; before = bs; caught = first.caught })) (sym (taken_of is n)) u }
