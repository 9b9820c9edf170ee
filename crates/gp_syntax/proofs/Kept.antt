-- The test of a kept node is exact.
use Rattle.std.proofs.Common.{◌≡◌, ℕ, ◌==◌, Bool, List, Option, Some, None, slice_get, Decides, refl, sym, ap, subst, true≢false}
use Rattle.std.specs.List.{list_any}
use Rattle.std.proofs.lemmas.Bool.Decides.{Decides-eqb, Decides-like, Decides-by_or}
use Rattle.std.proofs.lemmas.Option.{slice_get_within, get_or_from_slice_get}
use Rattle.gp_memory.proofs.Basics.{some_at as element, some_same}
use Rattle.gp_syntax.specs.Rule.{Rule, RightNode, IsKept, is_origin, is_kept}

Decides-some_element : {X : Type 0} (xs : List X) (t : X → Bool) (Q : X → Type 0) → ((x : X) → Decides (t x) (Q x)) → Decides (list_any t xs) ((j : ℕ) × (x : X) × (slice_get xs j ≡ Some x) × Q x)
Decides-some_element xs t Q each =
    Decides-like (list_any t xs)
    (λ h. let e = element xs h.0 h.1 in (h.0, e.0, e.1, subst Q (get_or_from_slice_get xs h.0 e.0 e.0 e.1) (h.2 e.0)))
    (λ h. (h.0, slice_get_within xs h.0 h.1 h.2, λ d. subst Q (sym (get_or_from_slice_get xs h.0 h.1 d h.2)) h.3))
    (Decides-by_or t Q (list_any t) each refl (λ _ _. refl) xs)

pub Decides-origin : (o : Option ℕ) (i : ℕ) → Decides (is_origin i o) (o ≡ Some i)
Decides-origin None i = (λ e. absurd (true≢false (sym e)), λ e. absurd cc)
Decides-origin (Some k) i = Decides-like (k == i) (λ e. ap (λ z. Some z) e) some_same (Decides-eqb k i)

pub Decides-kept : (r : Rule) (i : ℕ) → Decides (is_kept r i) (IsKept r i)
Decides-kept r i = Decides-some_element r.right_nodes (λ (q : RightNode). is_origin i q.origin) (λ q. q.origin ≡ Some i) (λ q. Decides-origin q.origin i)
