use Rattle.gp_system.proofs.Pursuits.{on_used_but, on_used_all, on_used_once}
use Rattle.gp_system.proofs.notes.note_used.Goals as goal

pub returns-then-used-eq1-clause-items : goal.returns-then-used-eq1-clause-items
returns-then-used-eq1-clause-items c =
    on_used_but c.note_but_last_turn.result c.args.mode c.args.items.now.items c.note_but_last_turn.new.items.items c.args.entries.items c.args.used c.in-Saturate.is c.requires c.if-used-eq1.true c.note_but_last_turn.ensures.items

pub returns-in-Once-clause-items : goal.returns-in-Once-clause-items
returns-in-Once-clause-items c = on_used_once c.note.result c.args.mode c.args.items.now.items c.note.new.self.items c.args.entries.items c.args.used c.in-Once.is c.requires c.note.ensures.ok

pub returns-else-used-eq1-clause-items : goal.returns-else-used-eq1-clause-items
returns-else-used-eq1-clause-items c =
    on_used_all c.note-in-Saturate.result c.args.mode c.args.items.now.items c.note-in-Saturate.new.self.items c.args.entries.items c.args.used c.in-Saturate.is c.requires c.if-used-eq1.false c.note-in-Saturate.ensures.ok
