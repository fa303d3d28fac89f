-- The law of what runs are refused for, as a rule. Assumes nothing.
use Rattle.register.proofs.Refusals.{running_fair}

pub ruleset fair_rules = (running_fair)
