-- What calls 8, 11 and 12 are for: a space is final, is stopped, and a page is free again. Assumes nothing.
use Prim.Native.Nat.{◌+◌}
use mathlib.Core.Path.{refl}
use native.Mathlib.Omega.{arith}
use Rattle.memory.proofs.Frames.{wiped_same}
use Rattle.building.specs.Calls.{finalise}
use Rattle.system.specs.Calls.{stop, remove}
use Rattle.records.specs.Records.{arg}
use Rattle.calls.specs.Table.{calls, lookup}
use Rattle.kept.proofs.Facts.Bridge.{page_in}
use Rattle.promises.specs.Jobs.{FinaliseIsFor, StopIsFor, RemoveIsFor}
use Rattle.promises.proofs.Opened.{effect}
use Rattle.promises.proofs.Moved.Building.{closing}
use Rattle.promises.proofs.Moved.System.{stopping, removing}

pub finalise_is_for : FinaliseIsFor
unfolding lookup calls finalise
finalise_is_for b M L W ok did = let (z, e) = effect refl did refl in rw e (closing (arg W 1) ok z).now

pub stop_is_for : StopIsFor
unfolding lookup calls stop
stop_is_for b M L W ok did = let (z, e) = effect refl did refl in rw e (stopping (arg W 1) ok z).now

pub remove_is_for : RemoveIsFor
unfolding lookup calls remove
remove_is_for b M L W ok did =
    let p = arg W 1 in
    let (z, e) = effect refl did refl in
    let x = removing p ok z in
    rw e (record { is_free = x.new 0 (omega arith); record_zero = x.new; zero = wiped_same M (b.secure + p) (page_in ok p x.p_below) })
