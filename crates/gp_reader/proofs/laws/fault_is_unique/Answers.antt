use Rattle.gp_reader.proofs.Faults.{one_fault, scoped, programs_have_none}
use Rattle.gp_reader.proofs.laws.fault_is_unique.Goals as goal

pub returns-clause-one : goal.returns-clause-one
returns-clause-one c = one_fault

pub returns-clause-none : goal.returns-clause-none
returns-clause-none c = programs_have_none

pub returns-clause-faultless : goal.returns-clause-faultless
returns-clause-faultless c = λ os rules free e. scoped os free rules e
