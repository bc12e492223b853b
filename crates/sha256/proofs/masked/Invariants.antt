-- `masked` masks the words one by one. The invariant: those passed are masked, the others stand. Assumes nothing.
use Rattle.std.proofs.Common.{◌≡◌, ◌++◌, map, take, drop}
use Rattle.sha256.specs.Sha256.{◌⊕◌}
use Rattle.sha256.proofs.masked.Given as goal

abbrev pub invariant-loop-w : goal.invariant-loop-w
invariant-loop-w l = l.w-items ≡ map (λ w. w ⊕ l.pad) (take l.w-index l.fn.k) ++ drop l.w-index l.fn.k
