-- What the rules of a program mean as a system: goals are calls of its rule sets.
use Rattle.std.specs.Prelude.{ℕ, ◌+◌, Bool, false, ◌||◌, nat_eq, if◌then◌else◌, List, [], ◌∷◌, map, length, Option, Some, None, slice_get, All, refl}
use Rattle.std.specs.Option.{option_map_or}
use Rattle.std.specs.Coded.{Coded, code_by, coded×, coded_ℕ, coded_list}
use Rattle.opt_system.specs.Meaning.{Meaning, Judged, applies, faulty, neither}
use Rattle.gp_values.specs.Graph.{Graph}
use Rattle.gp_syntax.specs.declared.rule.RuleParts.{RuleParts}
use Rattle.gp_syntax.specs.contracts.rule.RuleParts.{the_row as rule_row}
use Rattle.gp_syntax.specs.Rule.{Rule, Found}
use Rattle.gp_syntax.specs.Share.{share_of}
use Rattle.gp_syntax.specs.Tree.{rule_of_tree}
use Rattle.gp_syntax.specs.WellFormed.{IsWellFormed}
use Rattle.gp_step.specs.Laws.{IsNumbered}
use Rattle.gp_independence.specs.Laws.{AreIndependent}
use Rattle.gp_match.specs.Judge.{judged}
use Rattle.gp_match.specs.Judge as matches
use Rattle.gp_journal.specs.Trail.{Trail, advanced, undone}
use Rattle.gp_system.specs.declared.goal.CallGoal.{CallGoal}
use Rattle.gp_system.specs.declared.goal.Fault.{Fault}

-- the rules of a program, its rule sets, and how many shares a goal has, less one
pub record RuleSystem : Type 0 where
  pub rules : List RuleParts
  pub sets : List (List ℕ)
  pub further : ℕ

abbrev pub rules_of : RuleSystem → List Rule
rules_of s = map rule_of_tree s.rules

-- whether the number is one of a set
abbrev pub has : ℕ → List ℕ → Bool
has k [] = false
has k (i ∷ set) = nat_eq i k || has k set

abbrev pub with_rule : ℕ → matches.Judged → Judged Fault
with_rule k matches.applies = applies
with_rule k (matches.faulty kind) = faulty (record { rule = k; kind = kind })
with_rule k matches.neither = neither

-- by the rule of the match's number
abbrev pub judged_by : Option Rule → Graph → Found → Judged Fault
judged_by None g m = neither
judged_by (Some r) g m = with_rule m.rule (judged r g m)

-- a rule outside the set judges no match
abbrev pub judged_in : Option (List ℕ) → List Rule → Graph → Found → Judged Fault
judged_in None rules g m = neither
judged_in (Some set) rules g m = if has m.rule set then judged_by (slice_get rules m.rule) g m else neither

abbrev pub share_in : List Rule → ℕ → Found → ℕ
share_in rules shares m = option_map_or (λ r. share_of r m shares) (slice_get rules m.rule) 0

-- The matches are independent by the rules of their numbers. The rules are well-formed, and the graph's numbers in use are
-- below its next ones: so are those of every program and of every graph in memory.
pub record AreIndependentAt (rules : List Rule) (g : Graph) (m n : Found) : Type 0 where
  pub well_formed : All IsWellFormed rules
  pub numbered : IsNumbered g
  pub independent : AreIndependent rules g m n

abbrev pub gp_means : RuleSystem → Meaning Trail Found CallGoal Fault
gp_means s = record {
  judged = λ goal at m. judged_in (slice_get s.sets goal.call) (rules_of s) at.graph m;
  after = advanced (rules_of s);
  undone = undone;
  depth = λ at. length at.before;
  shares = λ goal. s.further + 1;
  share = λ goal m. share_in (rules_of s) (s.further + 1) m;
  mode = λ goal. goal.mode;
  independent = λ at m n. AreIndependentAt (rules_of s) at.graph m n;
}

-- how it is stored in a value that contracts see
abbrev pub system_code : Coded RuleSystem
system_code = code_by (List RuleParts × (List (List ℕ) × ℕ)) (coded× (coded_list rule_row.coded) (coded× (coded_list (coded_list coded_ℕ)) coded_ℕ)) (λ s. (s.rules, (s.sets, s.further))) (λ p. record { rules = p.0; sets = p.1.0; further = p.1.1 }) (λ _. refl)
