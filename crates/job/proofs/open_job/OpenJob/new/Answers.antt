use Rattle.job.proofs.Lives.{histories_keep}
use Rattle.job.proofs.open_job.OpenJob.new.Goals as goal

pub returns-in_err-store-clause-law : goal.returns-in_err-store-clause-law
returns-in_err-store-clause-law c = histories_keep

pub returns-clause-law : goal.returns-clause-law
returns-clause-law c = histories_keep
