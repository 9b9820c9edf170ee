-- What an item makes of an upgrade, by the rules in memory.
use Rattle.std.proofs.Common.{◌≡◌, ℕ, ◌+◌, ◌≤◌, ◌<◌, ◌^◌, List, [], ◌∷◌, ◌++◌, map, length, sym, subst, ap, refl, ◌∙◌, arith}
use Rattle.std.specs.Prelude.{Option, Some, None, slice_get, slice_index_or, is_none, count_by}
use Rattle.std.specs.Option.{option_map}
use Rattle.std.proofs.lemmas.List.{length-map}
use Rattle.std.proofs.lemmas.Option.{none-some, slice_get-map, slice_get_within, slice_get_read}
use Rattle.gp_memory.proofs.Basics.{some_same}
use Rattle.gp_values.specs.Graph.{Graph, IsGraph}
use Rattle.gp_syntax.specs.declared.rule.RuleParts.{RuleParts}
use Rattle.gp_syntax.specs.declared.found.Item.TheVariants as trees
use Rattle.gp_syntax.specs.Rule.{Found, kept_edges}
use Rattle.gp_syntax.specs.Step.{Applies}
use Rattle.gp_syntax.specs.WellFormed.{IsWellFormed}
use Rattle.gp_syntax.specs.Run.{Item, Stepped}
use Rattle.gp_syntax.specs.Tree.{rule_of_tree}
use Rattle.gp_step.specs.Halves.{images_from}
use Rattle.gp_journal.specs.Trail.{Trail, advanced}
use Rattle.gp_journal.specs.Leads.{AppliesBy, StepsBy}
use Rattle.gp_journal.proofs.Trails.{rule_at}
use Rattle.gp_derivation.specs.declared.replay.Replay.{Replay}
use Rattle.gp_derivation.specs.inside.Table.{found_today, stepped}
use Rattle.gp_derivation.specs.inside.Standing.{StandsIn, ReplaysToNone, Makes}
use Rattle.gp_derivation.proofs.Renumbered.{found_parts}
use Rattle.gp_derivation.proofs.Standings.{none_step}

-- ---- the rule of a number

pub same_rule : (t : List (Option ℕ)) (m n : Found) → found_today t m ≡ Some n → n.rule ≡ m.rule
same_rule t m n f = sym (ap (λ (x : Found). x.rule) (found_parts t m n f).2)

pub rule_there : (rules : List RuleParts) (n : ℕ) (r : RuleParts) → n < length rules → r ≡ slice_index_or rules n r → slice_get (map rule_of_tree rules) n ≡ Some (rule_of_tree r)
rule_there rules n r l is = slice_get-map rule_of_tree rules n ∙ ap (option_map rule_of_tree) (slice_get_read rules (length rules) n r refl l is)

pub applies_by : (rules : List RuleParts) (g : Graph) (m n : Found) (r : RuleParts) (k : ℕ) → k ≡ m.rule → n.rule ≡ m.rule → k < length rules → r ≡ slice_index_or rules k r → Applies (rule_of_tree r) g n → AppliesBy (map rule_of_tree rules) g n
applies_by rules g m n r k e f l is a = record { rule = rule_of_tree r; is_rule = ap (slice_get (map rule_of_tree rules)) (f ∙ sym e) ∙ rule_there rules k r l is; applies = a }

-- ---- items that replay to none

pub without_rule : (rules : List RuleParts) (host : Graph) (s : List Item) (m : Found) (x : Replay) → length rules ≤ m.rule → StandsIn (map rule_of_tree rules) host s x → ReplaysToNone (map rule_of_tree rules) host (s ++ Stepped m ∷ [])
without_rule rules host s m x l = none_step (map rule_of_tree rules) host s m x
    (λ r n is f a. let w : m.rule < length (map rule_of_tree rules) = slice_get_within (map rule_of_tree rules) m.rule r is in let e : length (map rule_of_tree rules) ≡ length rules = length-map rules rule_of_tree in absurd (omega arith))

pub without_edge : (rules : List RuleParts) (host : Graph) (s : List Item) (m : Found) (x : Replay) → found_today x.table.now m ≡ None → StandsIn (map rule_of_tree rules) host s x → ReplaysToNone (map rule_of_tree rules) host (s ++ Stepped m ∷ [])
without_edge rules host s m x e = none_step (map rule_of_tree rules) host s m x (λ r n is f a. absurd (none-some n (sym e ∙ f)))

pub without_match : (rules : List RuleParts) (host : Graph) (s : List Item) (m n : Found) (x : Replay) (r : RuleParts) (k : ℕ) → k ≡ m.rule → k < length rules → r ≡ slice_index_or rules k r → found_today x.table.now m ≡ Some n
    → (Applies (rule_of_tree r) x.trail.graph n → ⊥) → StandsIn (map rule_of_tree rules) host s x → ReplaysToNone (map rule_of_tree rules) host (s ++ Stepped m ∷ [])
without_match rules host s m n x r k e l is found never = none_step (map rule_of_tree rules) host s m x
    (λ q o there f a.
    let same_rule : q ≡ rule_of_tree r = some_same (sym there ∙ ap (slice_get (map rule_of_tree rules)) (sym e) ∙ rule_there rules k r l is) in
    let same : o ≡ n = some_same (sym f ∙ found) in
    never (subst (λ z. Applies z x.trail.graph n) same_rule (subst (Applies q x.trail.graph) same a)))

-- ---- a step

pub room_after : (rules : List RuleParts) (n : Found) (g h : Graph) (r : RuleParts) (k next after : ℕ) → k ≡ n.rule → r ≡ slice_index_or rules k r → StepsBy (map rule_of_tree rules) g n h → next ≡ g.next_edge → after ≡ h.next_edge → after < 2 ^ 64
    → next + count_by is_none (kept_edges (rule_of_tree r)) < 2 ^ 64
room_after rules n g h r k next after e is s was now l =
    let same : rule_of_tree r ≡ s.rule = rule_at rules n.rule r s.rule (is ∙ ap (λ j. slice_index_or rules j r) e) s.is_rule in
    let grown : h.next_edge ≡ g.next_edge + count_by is_none (kept_edges s.rule) = s.step.2.next_edge in
    let alike : count_by is_none (kept_edges (rule_of_tree r)) ≡ count_by is_none (kept_edges s.rule) = ap (λ q. count_by is_none (kept_edges q)) same in
    omega arith

pub makes : (rules : List RuleParts) (m n : Found) (x y : Replay) (r : RuleParts) (k next : ℕ) (was made : List ℕ) → IsGraph x.trail.graph → IsWellFormed (rule_of_tree r) → k ≡ n.rule → r ≡ slice_index_or rules k r
    → StepsBy (map rule_of_tree rules) x.trail.graph n y.trail.graph → y.trail ≡ advanced (map rule_of_tree rules) x.trail n → next ≡ x.trail.graph.next_edge → was ≡ m.edges → made ≡ images_from n.edges (kept_edges (rule_of_tree r)) next
    → y.table ≡ stepped x.table was made → y.items.items ≡ x.items.items ++ trees.Step n ∷ [] → Makes (map rule_of_tree rules) m n x y
makes rules m n x y r k next was made g wf num is s adv at old new tab items =
    let e : rule_of_tree r ≡ s.rule = rule_at rules n.rule r s.rule (is ∙ ap (λ j. slice_index_or rules j r) num) s.is_rule in
    let numbers : made ≡ images_from n.edges (kept_edges s.rule) x.trail.graph.next_edge = new ∙ (λ i. images_from n.edges (kept_edges (e i)) (at i)) in
    record {
      rule = s.rule;
      is_rule = s.is_rule;
      well_formed = subst IsWellFormed e wf;
      graph = g;
      step = s.step;
      graphs = ap (λ (t : Trail). t.before) adv;
      tables = tab ∙ (λ i. stepped x.table (old i) (numbers i));
      items = items;
    }
