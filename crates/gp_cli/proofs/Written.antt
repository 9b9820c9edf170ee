-- From what is delivered to what the top call answers.
use Rattle.std.proofs.Common.{ℕ, List}
use Rattle.gp_io.specs.Outside.{KnownFiles, KnownSink, piece_of}
use Rattle.gp_values.specs.Names.{Name}
use Rattle.gp_cli.specs.Answer.{Replies, replied, no_memory, out_fault, err_fault, Answered}
use Rattle.gp_cli.specs.Written.{out_pieces}
use Rattle.gp_cli.specs.inside.Parts.{Delivers, whole, out_cut, err_cut}
use Rattle.gp_cli.proofs.Pieces.{takes_nothing}

pub delivered : {words : List Name} {old new : KnownFiles} {s : ℕ} {journal result text : List ℕ} {out_old out_new err_old err_new : KnownSink} {status : ℕ} →
    Replies words old new s journal result text → Delivers s (out_pieces journal result) (piece_of text) out_old out_new err_old err_new status →
    Answered words old new out_old out_new err_old err_new status
delivered r (whole o e) = replied r o e
delivered r (out_cut o e) = out_fault r o e
delivered r (err_cut o e) = err_fault r o e

pub silent : {words : List Name} {old new : KnownFiles} (o e : KnownSink) → Answered words old new o o e e 7
silent o e = no_memory (takes_nothing o) (takes_nothing e)
