use Rattle.schedule.specs.Schedules.{overlaps}
use Rattle.schedule.proofs.overlap.check_overlap.Given as goal

abbrev pub ghost-first_pair : goal.ghost-first_pair
ghost-first_pair a = overlaps
