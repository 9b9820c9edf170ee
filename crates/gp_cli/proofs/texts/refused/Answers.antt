use Rattle.std.proofs.lemmas.Result.{IfOk-weaker}
use Rattle.gp_cli.specs.Texts.{usage_shown, long_program_shown, long_host_shown, long_trace_shown, long_result_shown, long_script_shown, bad_program_shown, bad_host_shown, bad_trace_shown, bad_script_shown, unread_shown}
use Rattle.gp_cli.proofs.Shown.{on_err_shown}
use Rattle.gp_cli.proofs.texts.refused.Goals as goal

pub returns-in-Usage : goal.returns-in-Usage
returns-in-Usage c = rw c.in-Usage.is (IfOk-weaker c.refusal.result _ _ (λ r h asked. on_err_shown usage_shown h) c.refusal.ensures)

pub returns-in-LongProgram : goal.returns-in-LongProgram
returns-in-LongProgram c = rw c.in-LongProgram.is (IfOk-weaker c.refusal-in-LongProgram.result _ _ (λ r h asked. on_err_shown long_program_shown h) c.refusal-in-LongProgram.ensures)

pub returns-in-LongHost : goal.returns-in-LongHost
returns-in-LongHost c = rw c.in-LongHost.is (IfOk-weaker c.refusal-in-LongHost.result _ _ (λ r h asked. on_err_shown long_host_shown h) c.refusal-in-LongHost.ensures)

pub returns-in-LongTrace : goal.returns-in-LongTrace
returns-in-LongTrace c = rw c.in-LongTrace.is (IfOk-weaker c.refusal-in-LongTrace.result _ _ (λ r h asked. on_err_shown long_trace_shown h) c.refusal-in-LongTrace.ensures)

pub returns-in-LongResult : goal.returns-in-LongResult
returns-in-LongResult c = rw c.in-LongResult.is (IfOk-weaker c.refusal-in-LongResult.result _ _ (λ r h asked. on_err_shown long_result_shown h) c.refusal-in-LongResult.ensures)

pub returns-in-LongScript : goal.returns-in-LongScript
returns-in-LongScript c = rw c.in-LongScript.is (IfOk-weaker c.refusal-in-LongScript.result _ _ (λ r h asked. on_err_shown long_script_shown h) c.refusal-in-LongScript.ensures)

pub returns-in-BadProgram : goal.returns-in-BadProgram
returns-in-BadProgram c = rw c.in-BadProgram.is (IfOk-weaker c.told.result _ _ (λ r h asked. on_err_shown bad_program_shown h) (c.told.ensures _ c.program_line.ensures))

pub returns-in-BadHost : goal.returns-in-BadHost
returns-in-BadHost c = rw c.in-BadHost.is (IfOk-weaker c.told-in-BadHost.result _ _ (λ r h asked. on_err_shown bad_host_shown h) (c.told-in-BadHost.ensures _ c.host_line.ensures))

pub returns-in-BadTrace : goal.returns-in-BadTrace
returns-in-BadTrace c = rw c.in-BadTrace.is (IfOk-weaker c.told-in-BadTrace.result _ _ (λ r h asked. on_err_shown bad_trace_shown h) (c.told-in-BadTrace.ensures _ c.trace_line.ensures))

pub returns-in-BadScript : goal.returns-in-BadScript
returns-in-BadScript c = rw c.in-BadScript.is (IfOk-weaker c.told-in-BadScript.result _ _ (λ r h asked. on_err_shown bad_script_shown h) (c.told-in-BadScript.ensures _ c.script_line.ensures))

pub returns-in-Unread : goal.returns-in-Unread
returns-in-Unread c = rw c.in-Unread.is (IfOk-weaker c.told-in-Unread.result _ _ (λ r h asked. on_err_shown unread_shown h) (c.told-in-Unread.ensures _ c.read_text.ensures))
