use Rattle.std.proofs.Common.{◌∙◌, [], ◌∷◌, ◌++◌, ap}
use Rattle.gp_system.proofs.Pursuits.{on_noted_last}
use Rattle.gp_system.proofs.notes.note_but_last_turn.Goals as goal

pub returns-clause-items : goal.returns-clause-items
returns-clause-items c =
    on_noted_last c.note-2.result c.args.items.now.items c.note.new.self.items c.note-2.new.self.items c.args.entries.items c.pop.new.self.items c.push_reserved.new.self.items c.in-Some.found c.in-Some.ensures.items
    (c.push_reserved.ensures.items ∙ ap (λ l. l ++ c.in-Some.found ∷ []) c.in_ok-last.ensures.items) c.in_ok-note.ensures.ok c.note-2.ensures.ok
