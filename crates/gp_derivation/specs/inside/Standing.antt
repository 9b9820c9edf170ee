-- What holds of an upgrade after some items.
use Rattle.std.specs.Prelude.{◌≡◌, ℕ, Bool, MatchBool, List, [], ◌∷◌, ◌++◌, take, Option, Some, slice_get}
use Rattle.gp_values.specs.Graph.{Graph, IsGraph}
use Rattle.gp_syntax.specs.declared.found.Item.TheVariants as items
use Rattle.gp_syntax.specs.Rule.{Rule, Found, kept_edges}
use Rattle.gp_syntax.specs.WellFormed.{IsWellFormed}
use Rattle.gp_syntax.specs.Step.{Step}
use Rattle.gp_syntax.specs.Run.{Item, live}
use Rattle.gp_syntax.specs.Replay.{BacksFit}
use Rattle.gp_step.specs.Halves.{images_from}
use Rattle.gp_journal.specs.Journal.{items_of}
use Rattle.gp_derivation.specs.declared.replay.Replay.{Replay}
use Rattle.gp_derivation.specs.StepAnew.{ReplaysAnew}
use Rattle.gp_derivation.specs.Upgrade.{RenumbersAll, LeadAlike}
use Rattle.gp_derivation.specs.inside.Table.{stepped}
use Rattle.gp_derivation.specs.inside.Led.{Led}

-- the items s, brought up to date as t, lead to this graph and its table, over these graphs and tables
pub record Stands (rules : List Rule) (host : Graph) (s t : List Item) (table : List (Option ℕ)) (h : Graph) (tables : List (List (Option ℕ))) (graphs : List Graph) : Type 0 where
  pub items : RenumbersAll s t
  pub backs_was : BacksFit 0 s
  pub backs_now : BacksFit 0 t
  pub led : Led rules host (live s) (live t) table h tables graphs
  pub beginnings : (n : ℕ) → LeadAlike rules host (take n s) (take n t)

abbrev pub StandsIn : List Rule → Graph → List Item → Replay → Type 0
StandsIn rules host s x = Stands rules host s (items_of x.items.items) x.table.now x.trail.graph x.table.before x.trail.before

-- the items replay to no graph by the step that makes all edges anew
abbrev pub ReplaysToNone : List Rule → Graph → List Item → Type 0
ReplaysToNone rules host s = (g : Graph) → ReplaysAnew rules host s g → ⊥

-- Whatever items an upgrade stands behind, with one more it stands behind these as the other, or these replay to none.
abbrev pub Follows : List Rule → Item → Replay → Replay → Bool → Type 0
Follows rules i x y b =
    MatchBool b ((host : Graph) (s : List Item) → StandsIn rules host s x → StandsIn rules host (s ++ i ∷ []) y)
    ((host : Graph) (s : List Item) → StandsIn rules host s x → ReplaysToNone rules host (s ++ i ∷ []))

-- the step of today's match n of what was the match m was made
pub record Makes (rules : List Rule) (m n : Found) (x y : Replay) : Type 0 where
  pub rule : Rule
  pub is_rule : slice_get rules n.rule ≡ Some rule
  pub well_formed : IsWellFormed rule
  pub graph : IsGraph x.trail.graph
  pub step : Step rule x.trail.graph n y.trail.graph
  pub graphs : y.trail.before ≡ x.trail.graph ∷ x.trail.before
  pub tables : y.table ≡ stepped x.table m.edges (images_from n.edges (kept_edges rule) x.trail.graph.next_edge)
  pub items : y.items.items ≡ x.items.items ++ items.Step n ∷ []
