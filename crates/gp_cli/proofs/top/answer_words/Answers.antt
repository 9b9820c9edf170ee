use Rattle.gp_cli.proofs.Written.{delivered, silent}
use Rattle.gp_cli.proofs.Completeness.{Laws, completes}
use Rattle.gp_cli.proofs.top.answer_words.Goals as goal

pub returns-in-Ok-clause-answered : goal.returns-in-Ok-clause-answered
returns-in-Ok-clause-answered g c = delivered c.in-Ok.ensures.replies c.deliver.ensures

pub returns-in-Ok-clause-complete : goal.returns-in-Ok-clause-complete
returns-in-Ok-clause-complete g c =
    let laws : Laws = record {
      faultless = c.texts_have_one_fault.ensures.none;
      one_program = c.texts_have_one_program.ensures;
      trees = c.texts_have_one_tree.ensures.none;
      read = c.canonical_texts_are_read.ensures;
      mean = c.canonical_texts_mean_the_same.ensures;
      stay = c.canonical_texts_stay.ensures;
    } in
    completes laws (delivered c.in-Ok.ensures.replies c.deliver.ensures)

pub returns-in-Err-clause-answered : goal.returns-in-Err-clause-answered
returns-in-Err-clause-answered g c = rw c.code.ensures (silent _ _)

pub returns-in-Err-clause-complete : goal.returns-in-Err-clause-complete
returns-in-Err-clause-complete g c =
    let laws : Laws = record {
      faultless = c.texts_have_one_fault.ensures.none;
      one_program = c.texts_have_one_program.ensures;
      trees = c.texts_have_one_tree.ensures.none;
      read = c.canonical_texts_are_read.ensures;
      mean = c.canonical_texts_mean_the_same.ensures;
      stay = c.canonical_texts_stay.ensures;
    } in
    rw c.code.ensures (completes laws (silent _ _))
