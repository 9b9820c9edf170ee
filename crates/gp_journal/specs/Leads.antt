-- What items make of a trail, by the rules of a list.
use Rattle.std.specs.Prelude.{◌≡◌, ◌≤◌, List, [], ◌∷◌, Some, slice_get, length, take}
use Rattle.gp_values.specs.Graph.{Graph}
use Rattle.gp_syntax.specs.Assigned.{PartialAssignment, assigned_of}
use Rattle.gp_syntax.specs.Rule.{Rule, Found}
use Rattle.gp_syntax.specs.Step.{Applies, Step}
use Rattle.gp_syntax.specs.Step as steps
use Rattle.gp_syntax.specs.Run.{Item, Stepped, Turned, Back}
use Rattle.gp_unify.specs.Matched.{IsAssignment}
use Rattle.gp_journal.specs.Trail.{Trail, led, back_by}

-- the match applies by the rule of its number
pub record AppliesBy (rules : List Rule) (g : Graph) (m : Found) : Type 0 where
  pub rule : Rule
  pub is_rule : slice_get rules m.rule ≡ Some rule
  pub applies : Applies rule g m

-- and these values are its assignment
pub record AppliesWith (rules : List Rule) (g : Graph) (m : Found) (p : PartialAssignment) : Type 0 where
  pub rule : Rule
  pub is_rule : slice_get rules m.rule ≡ Some rule
  pub applies : steps.AppliesBy rule g m (assigned_of p)
  pub told : IsAssignment rule (assigned_of p) p

-- it leads to this graph
pub record StepsBy (rules : List Rule) (g : Graph) (m : Found) (h : Graph) : Type 0 where
  pub rule : Rule
  pub is_rule : slice_get rules m.rule ≡ Some rule
  pub step : Step rule g m h

-- these matches, the last one first, led to the graph over those before
abbrev pub Led : List Rule → List Found → Graph → List Graph → Type 0
Led rules [] g [] = Unit {0}
Led rules [] g (b ∷ bs) = ⊥
Led rules (m ∷ ms) g [] = ⊥
Led rules (m ∷ ms) g (b ∷ bs) = StepsBy rules b m g × Led rules ms b bs

-- some matches led by these rules from the trail's root graph to it: the trail is of the list of rules
abbrev pub IsTrailOf : List Rule → Trail → Type 0
IsTrailOf rules t = (ms : List Found) × Led rules ms t.graph t.before

-- one item leads from the one trail to the other
abbrev pub Goes : List Rule → Item → Trail → Trail → Type 0
Goes rules (Stepped m) t u = (h : Graph) × StepsBy rules t.graph m h × (u ≡ led t h)
Goes rules Turned t u = u ≡ t
Goes rules (Back k) t u = (k ≤ length t.before) × (u ≡ back_by k t)

-- items do, one after another
abbrev pub Leads : List Rule → List Item → Trail → Trail → Type 0
Leads rules [] t u = u ≡ t
Leads rules (i ∷ is) t u = (v : Trail) × Goes rules i t v × Leads rules is v u

-- the trail is as after so many of the items as it tells
pub record CaughtUp (rules : List Rule) (items : List Item) (t u : Trail) : Type 0 where
  pub within : u.caught ≤ length items
  pub leads : Leads rules (take u.caught items) t (record u { caught = t.caught })
