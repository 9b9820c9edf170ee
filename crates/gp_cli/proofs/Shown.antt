-- From the texts of an answer to what it shows.
use Rattle.std.proofs.Common.{◌≡◌, ℕ, Bool, true, false, List, [], Some, None, subst}
use Rattle.gp_syntax.specs.Run.{Item}
use Rattle.gp_trace.specs.declared.version.Version.TheVariants.{Two}
use Rattle.gp_trace.specs.Reading.{IsTraceOf}
use Rattle.gp_system.specs.Ended.{kept_if}
use Rattle.gp_cli.specs.declared.reply.Reply.{Reply}
use Rattle.gp_cli.specs.declared.status.Status.{Status}
use Rattle.gp_cli.specs.Texts.{Said, IsJournal, asked_for, not_asked_for, Shows}
use Rattle.gp_cli.specs.inside.Sides.{IsOnErr, IsOnOut, IsReply}
use Rattle.gp_cli.specs.Statuses.{status_code}

module _ {asked : Bool} {said : Said} {status : Status} where
  pub on_err_shown : {text : List ℕ} {r : Reply} → Shows asked said (status_code status) [] [] text → IsOnErr status text r → IsReply asked said r
  on_err_shown s h = rw (h.status_is, h.journal, h.result, h.err) s

  pub on_out_shown : {journal text : List ℕ} {r : Reply} → Shows asked said (status_code status) journal text [] → IsOnOut status journal text r → IsReply asked said r
  on_out_shown s h = rw (h.status_is, h.journal_is, h.result, h.err) s

-- ---- the journal, where the items are kept and where they are not

one_trace : (s t : List Item) → Some s ≡ Some t → s ≡ t
one_trace s t e = cc

pub kept_shown : {text : List ℕ} (s : List Item) → IsTraceOf text Two s → (asked : Bool) (t : List Item) → Some s ≡ kept_if asked t → IsJournal t asked text
kept_shown {text} s h true t e = asked_for (subst (λ (u : List Item). IsTraceOf text Two u) (one_trace s t e) h)
kept_shown s h false t e = absurd cc

pub none_shown : (asked : Bool) (t : List Item) → None ≡ kept_if asked t → IsJournal t asked []
none_shown true t e = absurd cc
none_shown false t e = not_asked_for
