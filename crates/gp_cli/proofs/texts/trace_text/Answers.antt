use Rattle.gp_cli.proofs.texts.trace_text.Goals as goal

pub returns : goal.returns
returns c = record {
  text_is = rw (c.as_slice.ensures, c.new-text.ensures.items) at c.in_ok-write_trace.ensures.ok;
  held = rw c.as_slice.ensures at c.in_ok-write_trace.ensures.held;
}
