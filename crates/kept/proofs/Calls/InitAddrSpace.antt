-- Call 2, InitAddrSpace a, f, keeps what acceptance demands. Assumes nothing.
use Prim.Native.Nat.{ℕ, ◌+◌, ◌≤◌, ◌<◌}
use mathlib.Core.Path.{◌≡◌, refl, sym, ap, ◌∙◌}
use mathlib.Core.List.{List, [], ◌∷◌}
use mathlib.Core.Logic.{◌⊎◌, ⊎_elim, inl, inr}
use native.Mathlib.Omega.{arith}
use lib.ListN.{length}
use Rattle.machine.specs.declared.Machine.{Machine}
use Rattle.machine.specs.Machine.{header_words, map_words, map_start}
use Rattle.sha256.specs.Sha256.{H0}
use Rattle.ledger.specs.Names.{free, space, first_level, building}
use Rattle.ledger.specs.Ledger.{header, rec, occupy}
use Rattle.ledger.proofs.Effects.{length-occupy, occupy_header, occupy_same, occupy_other}
use Rattle.answer.specs.Answer.{done}
use Rattle.answer.proofs.Laws.{kept_by_call}
use Rattle.accept.specs.Accept.{Accepted}
use Rattle.building.specs.Calls.{init_addr_space_code, new_space, init_addr_space}
use Rattle.building.proofs.Laws.{passes_init_addr_space}
use Rattle.kept.proofs.Layers.Frame.{runs_kept}
use Rattle.kept.proofs.Layers.NewSpace.{Founds, open_kept}
use Rattle.kept.proofs.Facts.Exact.{occupy_exact}
use Rattle.kept.proofs.Facts.Bridge.{exact, bit_in, record_in, accepted, header_kept}

length-H0 : length H0 ≡ 8
unfolding H0
length-H0 = refl

module _ {b : Machine} {M L : List ℕ} (ok : Accepted b M L) {a f : ℕ} (al : a < b.pages) (fl : f < b.pages)
    (af : rec L a 0 ≡ free) (ff : rec L f 0 ≡ free) (ne : a ≡ f → ⊥) where
  abbrev words : List ℕ
  words = space ∷ a ∷ f ∷ building ∷ 1 ∷ 0 ∷ H0

  abbrev half : List ℕ
  half = occupy L a words

  ff' : rec half f 0 ≡ free
  ff' = occupy_other L a words (bit_in ok a al) f 0 (λ e. ne (sym e)) (omega arith) ∙ ff

  pub founds : Founds b (rec L) (rec (new_space L a f)) a f H0
  unfolding new_space
  founds =
      record {
        space_words = λ k l.
            occupy_other half f (first_level ∷ a ∷ []) (bit_in ok f fl) a k ne l ∙ occupy_same L a words (bit_in ok a al) (record_in ok a al) k l;
        first_words = occupy_same half f (first_level ∷ a ∷ []) (bit_in ok f fl) (rw (length-occupy L a words) (record_in ok f fl));
        others = λ q na nf k kl.
            occupy_other half f (first_level ∷ a ∷ []) (bit_in ok f fl) q k nf kl ∙ occupy_other L a words (bit_in ok a al) q k na kl;
      }

  new_space_kept : Accepted b M (new_space L a f)
  unfolding new_space
  new_space_kept =
      let outside : (k : ℕ) → k < header_words → (k < map_start) ⊎ (map_start + map_words ≤ k)
      → header (occupy half f (first_level ∷ a ∷ [])) k ≡ header L k
      = λ k l o.
      occupy_header half f (first_level ∷ a ∷ []) k l (λ e. ⊎_elim (λ y. omega arith) (λ y. omega (arith, bit_in ok f fl)) o)
      ∙ occupy_header L a words k l (λ e. ⊎_elim (λ y. omega arith) (λ y. omega (arith, bit_in ok a al)) o) in
      accepted ok refl (length-occupy half f (first_level ∷ a ∷ []) ∙ length-occupy L a words)
      (open_kept al fl af ff length-H0 ok.rules founds
      (header_kept ok
      (occupy_exact (occupy_exact (exact ok) a al words af (λ z. omega arith)) f fl (first_level ∷ a ∷ []) ff' (λ z. omega arith))
      (outside 0 (omega arith) (inl (omega arith)))
      (λ k lo hi. outside k hi (inr lo))
      (λ t.
      runs_kept ok.rules
      (λ q l o.
      let nz : (p : ℕ) → rec L p 0 ≡ free → q ≡ p → ⊥ = λ p z e. let y = ap (λ (y : ℕ). rec L y 0) e in ⊎_elim (λ u. omega arith) (λ u. omega arith) o in
      let s = founds.others q (nz a af) (nz f ff) in
      (s 0 (omega arith), s 1 (omega arith), s 3 (omega arith))))))

pub kept_init_addr_space : (b : Machine) (M L : List ℕ) (a f : ℕ) → Accepted b M L
    → Accepted b (init_addr_space b M L a f).mem (init_addr_space b M L a f).led
unfolding init_addr_space
kept_init_addr_space b M L a f ok =
    kept_by_call (Accepted b) (init_addr_space_code b L a f) M L (done M (new_space L a f)) ok
    (λ z. let (al, fl, af, ff, ne) = passes_init_addr_space b L a f z in new_space_kept ok al fl af ff ne)
