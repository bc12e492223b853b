-- What Boot leaves on box A is accepted, whatever the key and the word that the memory held. Assumes nothing.
use Prim.Native.Nat.{ℕ, ◌+◌, ◌*◌}
use mathlib.Core.Path.{◌≡◌}
use mathlib.Core.Logic.{inr}
use mathlib.Core.List.{List}
use native.Mathlib.Omega.{arith}
use lib.ListN.{length, replicate, length-replicate}
use Rattle.words.specs.Words.{record_words}
use Rattle.machine.specs.Machine.{header_words, Fits}
use Rattle.accept.specs.Accept.{Accepted}
use Rattle.boot.specs.Boot.{fresh_ledger, fresh_memory}
use Rattle.boot.proofs.Fresh.{fresh_accepted}
use Rattle.box_a.specs.Shift.{box_a}

fits : Fits box_a
fits =
    record {
      frames_low = omega arith;
      frames_high = omega arith;
      pages_low = omega arith;
      pages_high = omega arith;
      monitors_low = omega arith;
      secure_below = omega arith;
      monitor_below = omega arith;
      apart = inr (omega arith);
    }

-- the words of its ledger
abbrev words : ℕ
words = header_words + record_words * box_a.pages

pub accepted_a : (key : List ℕ) (v : ℕ) → length key ≡ 8 → Accepted box_a (fresh_memory box_a (replicate 16384 v)) (fresh_ledger box_a key)
accepted_a key v e =
    fresh_accepted box_a key (replicate 16384 v) (replicate words 0)
    (record {
      lent = record { fits = fits; memory = length-replicate 16384 v; ledger = length-replicate {A = ℕ} words 0 };
      has_key_words = e;
    })
