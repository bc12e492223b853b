use Prim.Native.Nat.{ℕ}
use mathlib.Core.Path.{◌≡◌, ap}
use mathlib.Core.List.{List, [], ◌∷◌, ◌++◌}
use native.Mathlib.Omega.{arith}
use lib.ListN.{length, take, set}
use Rattle.std.proofs.Common.{append-nil}
use Rattle.std.proofs.lemmas.List.{set_split, drop_all}
use Rattle.enclave.proofs.run.suspended_words.Goals as goal

last_set : (xs ws : List ℕ) (v w : ℕ) → length ws ≡ 17 → xs ≡ ws → v ≡ w → set (xs ++ []) 16 v ≡ take 16 ws ++ (w ∷ [])
last_set xs ws v w long e f =
    cc (append-nil xs, set_split ws 16 v (omega arith), drop_all 17 ws (omega arith))

pub returns : goal.returns
returns c = ap (λ (xs : List ℕ). 1 ∷ xs) (last_set _ _ _ _ c.told-regs c.copy_from_slice.ensures.after c.top_four.ensures)
