use Rattle.enclave.proofs.Steps.{store_fails}
use Rattle.enclave.proofs.run.store.Goals as goal

pub returns-in_default : goal.returns-in_default
returns-in_default c = store_fails _ _ _ _ c.first_page.ensures _ c.translate.ensures c.in_default.is (c.fault.ensures _)
