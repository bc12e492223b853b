-- What calls 1, 9, 32, 38 and 40 are for: n, a random word, and a run that begins or ends. Assumes nothing.
use mathlib.Core.Path.{refl, ap}
use native.Mathlib.Omega.{arith}
use Rattle.answer.specs.Answer.{Out}
use Rattle.system.specs.Calls.{get_phys_pages, enter_thread}
use Rattle.attesting.specs.Calls.{get_random}
use Rattle.enclave.specs.Calls.{exit, fault}
use Rattle.records.specs.Records.{arg}
use Rattle.calls.specs.Table.{calls, lookup}
use Rattle.promises.specs.Jobs.{GetPhysPagesIsFor, EnterIsFor, GetRandomIsFor, ExitIsFor, FaultIsFor}
use Rattle.promises.proofs.Opened.{opened, effect, acted}
use Rattle.promises.proofs.Moved.System.{entering}
use Rattle.promises.proofs.Moved.Enclave.{ending}

pub get_phys_pages_is_for : GetPhysPagesIsFor
unfolding lookup calls get_phys_pages
get_phys_pages_is_for b M L W ok did = ap (λ (o : Out). o.ans) (opened refl did)

pub get_random_is_for : GetRandomIsFor
unfolding lookup calls get_random
get_random_is_for b M L W ok did = ap (λ (o : Out). o.ans) (opened refl did)

pub enter_is_for : EnterIsFor
unfolding lookup calls enter_thread
enter_is_for b M L W ok did =
    let (z, e) = effect refl did refl in
    rw e (record { runs = (entering (arg W 1) ok z).runs; registers = refl })

pub exit_is_for : ExitIsFor
unfolding lookup calls exit
exit_is_for b M L W ok did = rw (opened refl did) (record { nobody = (ending ok).nobody; answer = refl })

pub fault_is_for : FaultIsFor
unfolding lookup calls fault
fault_is_for b M L W a ok r asks z =
    rw (acted refl b M L W refl (λ n. omega (arith, r.word)) asks z) (record { nobody = (ending ok).nobody; answer = refl })
