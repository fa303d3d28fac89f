use Rattle.schedule.specs.Schedules.{starts_too_early}
use Rattle.schedule.proofs.early.check_early.Given as goal

abbrev pub ghost-first_pair : goal.ghost-first_pair
ghost-first_pair a = starts_too_early
