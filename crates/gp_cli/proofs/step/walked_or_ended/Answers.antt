use Rattle.gp_cli.proofs.step.walked_or_ended.Goals as goal

pub walked-requires : goal.walked-requires
walked-requires c = rw (c.as_slice-rules.ensures, c.parts.ensures.value) (rw c.in-Graph.is at c.requires.walk)

pub walked-requires-in-Fail : goal.walked-requires-in-Fail
walked-requires-in-Fail c = rw (c.as_slice-rules.ensures, c.parts.ensures.value) (rw c.in-Fail.is at c.requires.walk)

pub returns-in-Graph : goal.returns-in-Graph
returns-in-Graph c = rw c.in-Graph.is (rw (c.as_slice-rules.ensures, c.parts.ensures.value) at c.walked.ensures)

pub returns-in-Fail : goal.returns-in-Fail
returns-in-Fail c = rw c.in-Fail.is (rw (c.as_slice-rules.ensures, c.parts.ensures.value) at c.walked-in-Fail.ensures)
