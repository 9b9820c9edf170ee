-- The texts of an answer, and of one that stands on one side alone.
use Rattle.std.specs.Prelude.{◌≡◌, ℕ, Bool, List, []}
use Rattle.gp_cli.specs.declared.status.Status.{Status}
use Rattle.gp_cli.specs.declared.reply.Reply.{Reply}
use Rattle.gp_cli.specs.declared.said.Said.{Said}
use Rattle.gp_cli.specs.Texts as texts
use Rattle.gp_cli.specs.Texts.{Shows}
use Rattle.gp_cli.specs.Statuses.{status_code}
use Rattle.gp_cli.specs.Said.{Tells}

-- the texts of an answer with this status: this one on err alone
pub record IsOnErr (status : Status) (text : List ℕ) (r : Reply) : Type 0 where
  pub status_is : r.status ≡ status
  pub journal : r.journal.items ≡ []
  pub result : r.result.items ≡ []
  pub err : r.err.items ≡ text

-- and these on out alone
pub record IsOnOut (status : Status) (journal text : List ℕ) (r : Reply) : Type 0 where
  pub status_is : r.status ≡ status
  pub journal_is : r.journal.items ≡ journal
  pub result : r.result.items ≡ text
  pub err : r.err.items ≡ []

-- the status and the texts show this answer
abbrev pub IsReply : Bool → texts.Said → Reply → Type 0
IsReply asked said r = Shows asked said (status_code r.status) r.journal.items r.result.items r.err.items

-- each answer that the value tells
abbrev pub IsReplyTo : Said → Reply → Type 0
IsReplyTo s r = (asked : Bool) (said : texts.Said) → Tells asked s said → IsReply asked said r
