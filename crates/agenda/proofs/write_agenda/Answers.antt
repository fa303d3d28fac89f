use Rattle.agenda.proofs.Entries.{agenda_one}
use Rattle.agenda.proofs.write_agenda.Goals as goal

pub returns-in_err-check-clause-one : goal.returns-in_err-check-clause-one
returns-in_err-check-clause-one c = agenda_one c.args.gates.now

pub returns-clause-one : goal.returns-clause-one
returns-clause-one c = agenda_one c.args.gates.now
