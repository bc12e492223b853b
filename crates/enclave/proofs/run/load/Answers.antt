use Rattle.enclave.proofs.Steps.{load_fails}
use Rattle.enclave.proofs.run.load.Goals as goal

pub returns-in_default : goal.returns-in_default
returns-in_default c = load_fails _ _ _ _ c.first_page.ensures c.translate.ensures c.in_default.is (c.fault.ensures _)
