use Rattle.std.proofs.Common.{refl}
use Rattle.gp_cli.proofs.top.gp2_main.Goals as goal

pub returns-in-Err-clause-refused : goal.returns-in-Err-clause-refused
returns-in-Err-clause-refused g c = rw (c.in-Err.is, c.code.ensures) (record { no_memory = refl; unread = refl; out_unwritten = refl; err_unwritten = refl })

pub returns-in-Ok-clause-complete : goal.returns-in-Ok-clause-complete
returns-in-Ok-clause-complete g c = rw (c.in-Ok.is, ← c.deref.ensures.value) c.answer_words.ensures.complete

pub returns-in-Ok-clause-unread : goal.returns-in-Ok-clause-unread
returns-in-Ok-clause-unread g c = rw (c.in-Ok.is, ← c.deref.ensures.value) c.answer_words.ensures.unread
