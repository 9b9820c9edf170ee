-- Items, one more at a time.
use Rattle.std.proofs.Common.{◌≡◌, ℕ, suc, ◌+◌, ◌<◌, List, [], ◌∷◌, ◌++◌, length, take, get_or, add-one, sym, ap, refl, ◌∙◌}
use Rattle.std.proofs.Math.Seq.{take-suc}
use Rattle.gp_syntax.specs.declared.found.Item.{Item}
use Rattle.gp_syntax.specs.Rule.{Rule}
use Rattle.gp_syntax.specs.Tree.{item_of}
use Rattle.gp_journal.specs.Trail.{Trail}
use Rattle.gp_journal.specs.Leads.{Goes, Leads}
use Rattle.gp_journal.specs.Journal.{items_of}
use Rattle.gp_journal.proofs.Replays.{leads_more}

items_append : (is js : List Item) → items_of (is ++ js) ≡ items_of is ++ items_of js
items_append [] js = refl
items_append (i ∷ is) js = ap (λ l. item_of i ∷ l) (items_append is js)

taken_more : (is : List Item) (n : ℕ) (i : Item) → n < length is → i ≡ get_or is n i → items_of (take (suc n) is) ≡ items_of (take n is) ++ item_of i ∷ []
taken_more is n i l e = ap items_of (take-suc is n i l ∙ ap (λ z. take n is ++ z ∷ []) (sym e)) ∙ items_append (take n is) (i ∷ [])

pub leads_on : (rules : List Rule) (is : List Item) (n : ℕ) (i : Item) (first t v : Trail) → n < length is → i ≡ get_or is n i → Leads rules (items_of (take n is)) first t → Goes rules (item_of i) t v
    → Leads rules (items_of (take (n + 1) is)) first v
leads_on rules is n i first t v l e past g = rw (add-one, taken_more is n i l e) (leads_more rules (items_of (take n is)) (item_of i) first t v past g)
