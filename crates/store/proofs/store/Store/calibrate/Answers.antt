use Rattle.std.proofs.lemmas.Result.{err_from_is_err_and}
use Rattle.calibration.specs.Calibrations.{calibrating_refusal}
use Rattle.store.specs.Stores.{store_plan}
use Rattle.store.proofs.Refused.{refused_alike}
use Rattle.store.proofs.store.Store.calibrate.Goals as goal

pub returns-in_err-set-clause-answer : goal.returns-in_err-set-clause-answer
returns-in_err-set-clause-answer c =
    let p = err_from_is_err_and c.from_residual.result c.from_residual.ensures.1 in
    rw (p.1, p.2) (refused_alike (calibrating_refusal (store_plan c.args.self.now).machine c.args.cell c.args.values) tt c.args.cell c.in_err-set.field-0.0 c.in_err-set.ensures.answer)
