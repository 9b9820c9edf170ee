-- What holds of trails and journals: their graphs are what their live steps and their items lead to from their root
-- graphs. And what holds of runs: their traces lead as items.
use Rattle.std.specs.Prelude.{◌≡◌, ℕ, Bool, List, ◌++◌, map, length, take}
use Rattle.gp_values.specs.Graph.{Graph}
use Rattle.gp_syntax.specs.Rule.{Rule, Found}
use Rattle.gp_syntax.specs.Run.{Command, Program, Item, Stepped, Ending, graph_at, Run}
use Rattle.gp_syntax.specs.Replay.{Replays}
use Rattle.gp_journal.specs.Trail.{Trail, root_of, fresh}
use Rattle.gp_journal.specs.Leads.{IsTrailOf, Leads}
use Rattle.gp_journal.specs.Journal.{Journal, IsJournalOf, items_of}

-- Some live steps, as many as the trail is deep, replay to its graph.
pub record TrailReplays (rules : List Rule) (t : Trail) : Type 0 where
  pub live : List Found
  pub depth : length live ≡ length t.before
  pub replays : Replays rules (root_of t) (map Stepped live) t.graph

-- Where items lead from a trail on, its live steps and then these items replay.
pub record CatchingUpReplays (rules : List Rule) (t : Trail) (items : List Item) (u : Trail) : Type 0 where
  pub live : List Found
  pub steps : Replays rules (root_of t) (map Stepped live) t.graph
  pub root : root_of u ≡ root_of t
  pub replays : Replays rules (root_of t) (map Stepped live ++ items) u.graph

-- The items of a journal replay to its graph, and each beginning of them to some graph.
pub record JournalReplays (rules : List Rule) (j : Journal) : Type 0 where
  pub whole : Replays rules (root_of j.trail) (items_of j.items) j.trail.graph
  pub beginnings : (n : ℕ) → (h : Graph) × Replays rules (root_of j.trail) (take n (items_of j.items)) h

pub record TrailsAndJournalsReplay : Type 0 where
  pub trails : (rules : List Rule) (t : Trail) → IsTrailOf rules t → TrailReplays rules t
  pub catching_up : (rules : List Rule) (t u : Trail) (items : List Item) → IsTrailOf rules t → Leads rules items t u → CatchingUpReplays rules t items u
  pub journals : (rules : List Rule) (j : Journal) → IsJournalOf rules j → JournalReplays rules j
  -- the trail of a journal is of the list of rules of which the journal is
  pub apart : (rules : List Rule) (j : Journal) → IsJournalOf rules j → IsTrailOf rules j.trail

-- from the trail of this graph the items lead to some trail, which stands at that graph
pub record LeadsTo (rules : List Rule) (g : Graph) (t : List Item) (h : Graph) : Type 0 where
  pub end : Trail
  pub leads : Leads rules t (fresh g) end
  pub graph : end.graph ≡ h

-- the trace of each run leads from the graph where it begins to the one where it ends, each Back to where its steps began
abbrev pub RunsLead : Type 0
RunsLead = (program : Program) (p : Command) (g : Graph) (picks : List Bool) (t : List Item) (x : Ending) → Run program p g picks t x → LeadsTo program.rules g t (graph_at x)
