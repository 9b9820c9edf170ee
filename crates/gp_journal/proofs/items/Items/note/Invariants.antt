use Rattle.std.proofs.Common.{◌≡◌, ◌≤◌, ◌+◌, ◌*◌, ◌++◌, reverse, length, vec_len, vec_capacity}
use Rattle.gp_journal.specs.Journal.{noted}
use Rattle.gp_journal.specs.inside.Items.{items_each}
use Rattle.gp_journal.proofs.items.Items.note.Given as goal

abbrev pub invariant-notes : goal.invariant-notes
invariant-notes l = record {
  so_far : l.self-inside.items.items ++ noted l.mode (reverse l.left.items) ≡ l.fn.self.items ++ noted l.mode l.fn.founds.items;
  backs : l.self-inside.backs ≡ l.fn.self.backs;
  room : vec_len l.self-inside.items + l.self-inside.backs + length l.left.items * items_each l.mode ≤ vec_capacity l.self-inside.items;
}

abbrev pub decreases-notes : goal.decreases-notes
decreases-notes l = goal.left-notes l
