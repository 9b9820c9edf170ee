-- Items that were brought up to date, or break at one of them.
use Rattle.std.proofs.Common.{◌≡◌, ℕ, zero, suc, ◌+◌, ◌≤◌, ◌<◌, List, [], ◌∷◌, ◌++◌, length, take, get_or, add-one, sym, subst, ap, refl, ◌∙◌, arith}
use Rattle.std.proofs.Math.Seq.{take-suc}
use Rattle.gp_memory.proofs.Basics.{take_long}
use Rattle.gp_values.specs.Graph.{Graph}
use Rattle.gp_syntax.specs.declared.found.Item.{Item as ItemTree}
use Rattle.gp_syntax.specs.Rule.{Rule}
use Rattle.gp_syntax.specs.Run.{Item, live}
use Rattle.gp_syntax.specs.Tree.{item_of}
use Rattle.gp_journal.proofs.Replays.{taken_of}
use Rattle.gp_journal.specs.Journal.{items_of}
use Rattle.gp_derivation.specs.declared.replay.Replay.{Replay}
use Rattle.gp_derivation.specs.StepAnew.{ReplaysAnew}
use Rattle.gp_derivation.specs.Upgrade.{IsUpgrade, BreaksAtItem}
use Rattle.gp_derivation.specs.inside.Standing.{StandsIn, ReplaysToNone}
use Rattle.gp_derivation.proofs.Stacks.{length-tables, items-more}

pub as_high : (rules : List Rule) (host : Graph) (s : List Item) (x : Replay) → StandsIn rules host s x → length x.table.before ≡ length x.trail.before
as_high rules host s x st = length-tables rules host (live s) (live (items_of x.items.items)) x.table.now x.trail.graph x.table.before x.trail.before st.led

pub one_more : (is : List ItemTree) (n : ℕ) (i : ItemTree) → n < length is → i ≡ get_or is n i → items_of (take (n + 1) is) ≡ items_of (take n is) ++ item_of i ∷ []
one_more is n i l e = rw add-one (ap items_of (take-suc is n i l ∙ ap (λ z. take n is ++ z ∷ []) (sym e)) ∙ items-more (take n is) i)

taken_twice : {X : Type 0} (k n : ℕ) (xs : List X) → k ≤ n → take k (take n xs) ≡ take k xs
taken_twice zero n xs l = refl
taken_twice (suc k) zero xs l = absurd (omega arith)
taken_twice (suc k) (suc n) [] l = refl
taken_twice (suc k) (suc n) (x ∷ xs) l = ap (λ ys. x ∷ ys) (taken_twice k n xs (omega arith))

pub is_upgrade : (rules : List Rule) (host : Graph) (is : List ItemTree) (n : ℕ) (x : Replay) → length is ≤ n → StandsIn rules host (items_of (take n is)) x → IsUpgrade rules host (items_of is) (items_of x.items.items)
is_upgrade rules host is n x l st =
    let w : StandsIn rules host (items_of is) x = subst (λ js. StandsIn rules host (items_of js) x) (take_long n is l) st in
    record { items = w.items; beginnings = w.beginnings }

pub breaks : (rules : List Rule) (host : Graph) (is : List ItemTree) (n : ℕ) (i : ItemTree) (x : Replay) → n < length is → i ≡ get_or is n i → StandsIn rules host (items_of (take n is)) x → ReplaysToNone rules host (items_of (take n is) ++ item_of i ∷ [])
    → BreaksAtItem rules host (items_of is) n
breaks rules host is n i x l e st none = record {
  before = λ k w.
      let b = st.beginnings k in
      let same : take k (items_of (take n is)) ≡ take k (items_of is) = ap (take k) (sym (taken_of is n)) ∙ taken_twice k n (items_of is) w in
      (b.was, subst (λ s. ReplaysAnew rules host s b.was) same b.replays_anew);
  none = λ g w. none g (subst (λ s. ReplaysAnew rules host s g) (taken_of is (n + 1) ∙ one_more is n i l e) w);
}
