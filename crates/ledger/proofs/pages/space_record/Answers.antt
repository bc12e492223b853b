use Rattle.std.proofs.Common.{◌≡◌, ℕ, ◌+◌, List, ◌∷◌, ◌++◌, length, take, replicate, rules, sym, ap, ◌∙◌}
use lib.Seq.{take-append-add}
use Rattle.words.specs.Words.{padded}
use Rattle.ledger.proofs.pages.space_record.Goals as goal

-- the hash, and the zeros behind it
fitted : (h : List ℕ) → length h ≡ 8 → h ++ replicate 18 0 ≡ take 26 (h ++ replicate 32 0)
fitted h e = sym (ap (λ (n : ℕ). take (n + 18) (h ++ replicate 32 0)) (sym e) ∙ take-append-add h (replicate 32 0) 18)

pub returns : goal.returns
unfolding padded
returns c =
    let x = c.args in
    rw (c.three-r.ensures, c.copy_from_slice.ensures.after)
    (ap (λ (h : List ℕ). 1 ∷ x.a ∷ x.f ∷ 0 ∷ 1 ∷ 0 ∷ h) (fitted x.h (search rules)))
