use Rattle.std.proofs.lemmas.Result.{IfOk-weaker}
use Rattle.solo_run.proofs.WholeSolo.{ran-so, together, faults-are, counted, tells, total}
use Rattle.solo_run.proofs.solo.run_solo.Goals as goal

pub returns-in-Ok-clause-ran : goal.returns-in-Ok-clause-ran
returns-in-Ok-clause-ran g c = IfOk-weaker c.run_made.result _ _ (λ ran did. ran-so did) c.run_made.ensures.did

pub returns-in-Ok-clause-together : goal.returns-in-Ok-clause-together
returns-in-Ok-clause-together g c = IfOk-weaker c.run_made.result _ _ (λ ran did. together did) c.run_made.ensures.did

pub returns-in-Ok-clause-faults : goal.returns-in-Ok-clause-faults
returns-in-Ok-clause-faults g c = IfOk-weaker c.run_made.result _ _ (λ ran did. faults-are did) c.run_made.ensures.did

pub returns-in-Ok-clause-counted : goal.returns-in-Ok-clause-counted
returns-in-Ok-clause-counted g c = IfOk-weaker c.run_made.result _ _ (λ ran did. counted did) c.run_made.ensures.did

pub returns-in-Ok-clause-tells : goal.returns-in-Ok-clause-tells
returns-in-Ok-clause-tells g c =
    IfOk-weaker c.run_made.result _ _ (λ ran did cards keys plan c_told k_told opens fits. tells did cards keys plan c_told k_told opens fits)
    c.run_made.ensures.did

pub returns-in-Ok-clause-total : goal.returns-in-Ok-clause-total
returns-in-Ok-clause-total g c = IfOk-weaker c.run_made.result _ _ (λ ran did. total did) c.run_made.ensures.did
