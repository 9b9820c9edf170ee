-- How a trail is held, after each call.
use Rattle.std.proofs.Common.{◌≡◌, ℕ, suc, ◌≤◌, List, [], ◌∷◌, ◌++◌, reverse, length, sym, subst, ap, refl, ◌∙◌, arith}
use Rattle.std.specs.Prelude.{Some, None, Option, Result, Ok, Err, OnOk, slice_get, slice_index_or, map}
use Rattle.std.specs.Option.{option_map}
use Rattle.std.proofs.lemmas.List.{reverse-append}
use Rattle.std.proofs.lemmas.Option.{none-some, slice_get-map, get_or_from_slice_get}
use Rattle.gp_memory.proofs.Basics.{some_same}
use Rattle.gp_values.specs.Graph.{Graph, IsGraph}
use Rattle.gp_syntax.specs.declared.rule.RuleParts.{RuleParts}
use Rattle.gp_syntax.specs.Assigned.{PartialAssignment, assigned_of}
use Rattle.gp_syntax.specs.Rule.{Rule, Found}
use Rattle.gp_syntax.specs.Step.{Step}
use Rattle.gp_syntax.specs.Step as steps
use Rattle.gp_unify.specs.Matched.{IsAssignment}
use Rattle.gp_syntax.specs.Run.{Stepped}
use Rattle.gp_syntax.specs.Tree.{rule_of_tree}
use Rattle.gp_step.specs.declared.inverse.Inverse.{Inverse}
use Rattle.gp_syntax.specs.WellFormed.{IsWellFormed}
use Rattle.gp_step.specs.After.{after}
use Rattle.gp_step.proofs.Afters.{only_steps, numbered}
use Rattle.gp_step.specs.Undo.{undone_by}
use Rattle.gp_journal.specs.Trail.{Trail, led, led_by, advanced, undone, undone_of, back_by}
use Rattle.gp_journal.specs.Leads.{AppliesBy, AppliesWith, StepsBy, Goes}
use Rattle.gp_journal.specs.inside.Held.{befores}

pub one_before : (us : List (List Inverse)) (u : List Inverse) (g h : Graph) → undone_by u h ≡ g → befores (reverse (us ++ u ∷ [])) h ≡ g ∷ befores (reverse us) g
one_before us u g h back = ap (λ l. befores l h) (reverse-append us (u ∷ [])) ∙ (λ i. back i ∷ befores (reverse us) (back i))

pub advanced_is : (rules : List Rule) (us : List (List Inverse)) (u : List Inverse) (g h : Graph) (m : Found) (r : Rule) (c : ℕ)
    → slice_get rules m.rule ≡ Some r → h ≡ after r g m → undone_by u h ≡ g
    → record { graph = h; before = befores (reverse (us ++ u ∷ [])) h; caught = c } ≡ advanced rules (record { graph = g; before = befores (reverse us) g; caught = c }) m
advanced_is rules us u g h m r c rule step back =
    let one : h ≡ led_by (slice_get rules m.rule) g m = step ∙ ap (λ o. led_by o g m) (sym rule) in
    let two = one_before us u g h back in
    λ i. record { graph = one i; before = two i; caught = c }

pub length-befores : (us : List (List Inverse)) (g : Graph) → length (befores us g) ≡ length us
length-befores [] g = refl
length-befores (u ∷ us) g = ap suc (length-befores us (undone_by u g))

shorter : (n : ℕ) (g : Graph) (bs : List Graph) (c : ℕ) → suc n ≤ length bs → n ≤ length (undone_of g bs c).before
shorter n g [] c h = absurd (omega arith)
shorter n g (b ∷ bs) c h = omega arith

pub back_step : (j n : ℕ) (t end : Trail) → j ≡ suc n → j ≤ length t.before → back_by j t ≡ end
    → record { left : n ≤ length (undone t).before; same : back_by n (undone t) ≡ end }
back_step j n t end e left same = record {
  left = shorter n t.graph t.before t.caught (omega arith);
  same = subst (λ (k : ℕ). back_by k t ≡ end) e same;
}

-- what was advanced has its own graph
pub led_itself : (rules : List Rule) (t u : Trail) (m : Found) → u ≡ advanced rules t m → u ≡ led t u.graph
led_itself rules t u m e = e ∙ sym (ap (led t) (ap (λ (x : Trail). x.graph) e))

-- ---- by the rule of its number

pub rule_at : (rules : List RuleParts) (n : ℕ) (r : RuleParts) (q : Rule) → r ≡ slice_index_or rules n r → slice_get (map rule_of_tree rules) n ≡ Some q → rule_of_tree r ≡ q
rule_at rules n r q is e = by (slice_get rules n) refl
  where
    by : (o : Option RuleParts) → slice_get rules n ≡ o → rule_of_tree r ≡ q
    by None i = absurd (none-some q (sym (slice_get-map rule_of_tree rules n ∙ ap (option_map rule_of_tree) i) ∙ e))
    by (Some p) i =
        let s : r ≡ p = is ∙ get_or_from_slice_get rules n p r i in
        ap rule_of_tree s ∙ some_same (sym (slice_get-map rule_of_tree rules n ∙ ap (option_map rule_of_tree) i) ∙ e)

pub applies_with : (rules : List Rule) (g : Graph) (m : Found) (p : PartialAssignment) → AppliesWith rules g m p → AppliesBy rules g m
applies_with rules g m p a = record { rule = a.rule; is_rule = a.is_rule; applies = (assigned_of p, a.applies) }

pub applies_here : (rules : List RuleParts) (n : ℕ) (r : RuleParts) (g : Graph) (m : Found) (p : PartialAssignment) → r ≡ slice_index_or rules n r → n ≡ m.rule → AppliesWith (map rule_of_tree rules) g m p
    → steps.AppliesBy (rule_of_tree r) g m (assigned_of p) × IsAssignment (rule_of_tree r) (assigned_of p) p
applies_here rules n r g m p is num a =
    let e = rule_at rules m.rule r a.rule (is ∙ ap (λ k. slice_index_or rules k r) num) a.is_rule in
    (subst (λ q. steps.AppliesBy q g m (assigned_of p)) (sym e) a.applies, subst (λ q. IsAssignment q (assigned_of p) p) (sym e) a.told)

pub steps_by : (rules : List RuleParts) (n : ℕ) (r : RuleParts) (g h : Graph) (m : Found) → r ≡ slice_index_or rules n r → n ≡ m.rule → AppliesBy (map rule_of_tree rules) g m → Step (rule_of_tree r) g m h → StepsBy (map rule_of_tree rules) g m h
steps_by rules n r g h m is num a s =
    let e = rule_at rules m.rule r a.rule (is ∙ ap (λ k. slice_index_or rules k r) num) a.is_rule in
    record { rule = a.rule; is_rule = a.is_rule; step = subst (λ q. Step q g m h) e s }

pub only_by : (rules : List RuleParts) (n : ℕ) (r : RuleParts) (g h : Graph) (m : Found) → r ≡ slice_index_or rules n r → n ≡ m.rule → ((k : Graph) → Step (rule_of_tree r) g m k → k ≡ h) → (k : Graph) → StepsBy (map rule_of_tree rules) g m k → k ≡ h
only_by rules n r g h m is num only k s =
    let e = rule_at rules m.rule r s.rule (is ∙ ap (λ j. slice_index_or rules j r) num) s.is_rule in
    only k (subst (λ q. Step q g m k) (sym e) s.step)

pub advanced_by : (rules : List RuleParts) (n : ℕ) (r : RuleParts) (us : List (List Inverse)) (u : List Inverse) (g h : Graph) (m : Found) (c : ℕ) → r ≡ slice_index_or rules n r → n ≡ m.rule → AppliesBy (map rule_of_tree rules) g m
    → h ≡ after (rule_of_tree r) g m → undone_by u h ≡ g
    → record { graph = h; before = befores (reverse (us ++ u ∷ [])) h; caught = c } ≡ advanced (map rule_of_tree rules) (record { graph = g; before = befores (reverse us) g; caught = c }) m
advanced_by rules n r us u g h m c is num a step back =
    let e = rule_at rules m.rule r a.rule (is ∙ ap (λ k. slice_index_or rules k r) num) a.is_rule in
    advanced_is (map rule_of_tree rules) us u g h m a.rule c a.is_rule (step ∙ ap (λ q. after q g m) e) back

-- ---- what an item leads to

pub goes_by_step : (rules : List Rule) (t u : Trail) (m : Found) → u ≡ advanced rules t m → StepsBy rules t.graph m u.graph → Goes rules (Stepped m) t u
goes_by_step rules t u m e s = (u.graph, s, led_itself rules t u m e)

pub only_by_step : (rules : List Rule) (t u : Trail) (m : Found) → u ≡ advanced rules t m → ((h : Graph) → StepsBy rules t.graph m h → h ≡ u.graph) → (v : Trail) → Goes rules (Stepped m) t v → v ≡ u
only_by_step rules t u m e only v g = g.2 ∙ ap (led t) (only g.0 g.1) ∙ sym (led_itself rules t u m e)

on_both : {X E : Type 0} (r : Result X E) (P Q R : Type 0) → OnOk r P → OnOk r Q → (P → Q → R) → OnOk r R
on_both (Ok x) P Q R p q f = f p q
on_both (Err e) P Q R p q f = tt

pub on_step : {X E : Type 0} (r : Result X E) (rules : List Rule) (t u : Trail) (m : Found) → OnOk r (u ≡ advanced rules t m) → OnOk r (StepsBy rules t.graph m u.graph) → OnOk r (Goes rules (Stepped m) t u)
on_step r rules t u m e s = on_both r _ _ _ e s (λ a b. goes_by_step rules t u m a b)

pub on_only_step : {X E : Type 0} (r : Result X E) (rules : List Rule) (t u : Trail) (m : Found) → OnOk r (u ≡ advanced rules t m) → OnOk r ((h : Graph) → StepsBy rules t.graph m h → h ≡ u.graph)
    → OnOk r ((v : Trail) → Goes rules (Stepped m) t v → v ≡ u)
on_only_step r rules t u m e s = on_both r _ _ _ e s (λ a b. only_by_step rules t u m a b)

pub only_after : {X E : Type 0} (o : Result X E) (r : Rule) (g h : Graph) (m : Found) → IsWellFormed r → IsGraph g → OnOk o (h ≡ after r g m) → OnOk o ((k : Graph) → Step r g m k → k ≡ h)
only_after (Ok x) r g h m c w e = λ k s. only_steps r g m c (numbered g w) k s ∙ sym e
only_after (Err x) r g h m c w e = tt
