-- Document 01, "Calls, checks left to right": the table. Assumes nothing.
use Rattle.std.specs.Prelude.{ℕ, List, [], ◌∷◌, eqb}
use Rattle.words.specs.Words.{pick}
use Rattle.machine.specs.declared.Machine.{Machine}
use Rattle.answer.specs.Answer.{Out}
use Rattle.building.specs.Calls.{init_addr_space, init_thread, init_table, alloc_spare, map_secure, map_insecure, finalise}
use Rattle.system.specs.Calls.{get_phys_pages, enter_thread, resume, stop, remove, free_pages}
use Rattle.attesting.specs.Calls.{get_random, attest, verify}
use Rattle.enclave.specs.Calls.{spare_table, map_data, unmap_data, exit, interrupt, fault, load, store}
use Rattle.records.specs.Records.{arg, args}

-- a row: number, how many arguments, what it does
pub record Row : Type 0 where
  pub number : ℕ
  pub arguments : ℕ
  pub acts : Machine → List ℕ → List ℕ → List ℕ → Out

abbrev pub row : ℕ → ℕ → (Machine → List ℕ → List ℕ → List ℕ → Out) → Row
row i k f = record { number = i; arguments = k; acts = f }

unfoldable pub calls : List Row
calls =
    row 1 0 (λ b M L W. get_phys_pages b M L)
    ∷ row 2 2 (λ b M L W. init_addr_space b M L (arg W 1) (arg W 2))
    ∷ row 3 3 (λ b M L W. init_thread b M L (arg W 1) (arg W 2) (arg W 3))
    ∷ row 4 3 (λ b M L W. init_table b M L (arg W 1) (arg W 2) (arg W 3))
    ∷ row 5 2 (λ b M L W. alloc_spare b M L (arg W 1) (arg W 2))
    ∷ row 6 4 (λ b M L W. map_secure b M L (arg W 1) (arg W 2) (arg W 3) (arg W 4))
    ∷ row 7 3 (λ b M L W. map_insecure b M L (arg W 1) (arg W 2) (arg W 3))
    ∷ row 8 1 (λ b M L W. finalise b M L (arg W 1))
    ∷ row 9 4 (λ b M L W. enter_thread b M L (arg W 1) (arg W 2) (arg W 3) (arg W 4))
    ∷ row 10 1 (λ b M L W. resume b M L (arg W 1))
    ∷ row 11 1 (λ b M L W. stop b M L (arg W 1))
    ∷ row 12 1 (λ b M L W. remove b M L (arg W 1))
    ∷ row 13 0 (λ b M L W. free_pages b M L)
    ∷ row 32 1 (λ b M L W. get_random M L (arg W 1))
    ∷ row 33 8 (λ b M L W. attest M L (args W 1 8))
    ∷ row 34 24 (λ b M L W. verify M L (args W 1 8) (args W 9 8) (args W 17 8))
    ∷ row 35 2 (λ b M L W. spare_table b M L (arg W 1) (arg W 2))
    ∷ row 36 2 (λ b M L W. map_data b M L (arg W 1) (arg W 2))
    ∷ row 37 1 (λ b M L W. unmap_data b M L (arg W 1))
    ∷ row 38 1 (λ b M L W. exit M L (arg W 1))
    ∷ row 39 17 (λ b M L W. interrupt M L (args W 1 17))
    ∷ row 40 0 (λ b M L W. fault M L)
    ∷ row 41 1 (λ b M L W. load b M L (arg W 1))
    ∷ row 42 2 (λ b M L W. store b M L (arg W 1) (arg W 2))
    ∷ []

-- the row of number i: one that has it, or none
pub data Found : Type 0 where
  no_row : Found
  the_row : Row → Found

unfoldable pub lookup : ℕ → List Row → Found
lookup i [] = no_row
lookup i (r ∷ rs) = pick (eqb i r.number) (the_row r) (lookup i rs)
