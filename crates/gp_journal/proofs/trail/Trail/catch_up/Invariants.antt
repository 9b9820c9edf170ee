use Rattle.std.proofs.Common.{◌≡◌, map, take, drop}
use Rattle.gp_syntax.specs.Tree.{rule_of_tree}
use Rattle.gp_journal.specs.Trail.{Trail}
use Rattle.gp_journal.specs.Leads.{Leads}
use Rattle.gp_journal.specs.Journal.{items_of}
use Rattle.gp_journal.proofs.trail.Trail.catch_up.Given as goal

-- what was made, and that what is left can be made
abbrev pub invariant-loop-n : goal.invariant-loop-n
invariant-loop-n l = record {
  onward : (t : Trail) × Leads (map rule_of_tree l.rules) (items_of (drop l.n l.items)) l.self t;
  so_far : Leads (map rule_of_tree l.rules) (items_of (take l.n l.items)) l.initial.self l.self;
  same : l.self.caught ≡ l.initial.self.caught;
}
