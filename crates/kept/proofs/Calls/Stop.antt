-- Call 11, Stop a, keeps what acceptance demands. Assumes nothing.
use Prim.Native.Nat.{ℕ}
use mathlib.Core.Path.{◌≡◌}
use mathlib.Core.List.{List}
use native.Mathlib.Omega.{arith}
use Rattle.machine.specs.declared.Machine.{Machine}
use Rattle.ledger.specs.Names.{running_word, stopped}
use Rattle.ledger.specs.Ledger.{header, put}
use Rattle.ledger.proofs.Views.{put_same, put_word}
use Rattle.answer.specs.Answer.{as_code, done}
use Rattle.answer.proofs.Laws.{kept_by_call, passes_as}
use Rattle.accept.specs.Accept.{Accepted}
use Rattle.system.specs.Calls.{stop}
use Rattle.kept.proofs.Facts.Bridge.{exact, record_in, header_by}
use Rattle.kept.proofs.Facts.Wrote.{wrote_put, wrote_exact}
use Rattle.kept.proofs.Layers.Settle.{settle_kept}

pub kept_stop : (b : Machine) (M L : List ℕ) (a : ℕ) → header L running_word ≡ 0 → Accepted b M L → Accepted b (stop b M L a).mem (stop b M L a).led
unfolding stop
kept_stop b M L a nobody ok =
    kept_by_call (Accepted b) (as_code b L a) M L (done M (put L a 3 stopped)) ok
    (λ z.
    let (al, type) = passes_as b L a z in
    let x = wrote_put L a 3 stopped (omega arith) in
    let word = put_word L a 3 stopped in
    let now = put_same L a 3 stopped (omega (arith, record_in ok a al)) in
    settle_kept ok al type x (λ k n _. word k n) (omega arith) (λ z. omega arith) (λ _. now)
    (header_by ok (wrote_exact (exact ok) x al (λ z. omega arith) (λ z. omega (arith, word 0 (λ e. omega arith)))) (λ k lo hi. x.head k hi)
    (λ t e. absurd (omega (arith, x.head 0 (omega arith))))))
