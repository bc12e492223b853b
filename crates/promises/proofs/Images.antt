-- The services of images are settled, 18 comes exactly when it is said to, and a block is laid down as it is said. Assumes nothing.
use Prim.Native.Nat.{ℕ, ◌+◌, ◌-◌, ◌*◌, ◌%◌, ◌^◌, ◌≤◌, ◌<◌}
use mathlib.Core.Path.{◌≡◌, refl, sym, ap, subst, ◌∙◌}
use mathlib.Core.Bool.{Bool, true, false}
use mathlib.Core.Logic.{◌⊎◌, ⊎_elim, inl, inr}
use mathlib.Core.List.{List, [], ◌∷◌, ◌++◌}
use native.Mathlib.Omega.{arith}
use native.Mathlib.Nat.{mod-eq_of_lt}
use lib.Dec.{eqb}
use borrow.Author.Tests.{eqb-true, eqb-false}
use lib.ListN.{length, get_or, set, get_or-eq_default}
use Rattle.words.specs.Words.{pick, bit, sum_below, list_below}
use Rattle.words.specs.Bytes.{AreWords, AreBytes, bytes_of, little_endian, word_at}
use Rattle.words.proofs.Cases.{lt_or_ge}
use Rattle.crc32.specs.Crc32.{mirrored, bit_in, bits_in, bytes_in, crc32}
use Rattle.crc32.proofs.Laws.{check_value}
use Rattle.crc32.proofs.Bursts.{burst}
use Rattle.crc32.proofs.Division.{is_the_standards, only_one}
use Rattle.machine.specs.declared.Machine.{Machine}
use Rattle.machine.specs.Machine.{Fits, Lent, frame_words}
use Rattle.memory.specs.Memory.{frame}
use Rattle.accept.specs.Accept.{free_flag, map_word}
use Rattle.boot.specs.Boot.{fresh_map, fresh_ledger}
use Rattle.image.specs.Image.{total, total_word, image_of, payload, body, sealed, block_of}
use Rattle.image.specs.Service.{BlocksCounted, BlockWritten, BlockRead, BlockRead.good, BlockRead.bad, BlockRead.over, BlockRead.not_fitting, ReadingEnded, told}
use Rattle.words.proofs.Endian.{word_drop}
use Rattle.image.proofs.Placed.{length_image_of, image_ledger}
use Rattle.image.proofs.Spare.{image_frame, filled_others}
use Rattle.image.proofs.Inside.{total_holds, total_least, total_fits, total_word_fits}
use Rattle.image.proofs.Good.{length-block, small_block, block_word, block_number, block_payload, block_check}
use Rattle.promises.specs.Terms.{OfSecure}
use Rattle.promises.specs.Settled.{Given}
use Rattle.promises.specs.Images.{ImagesAreSettled, ImagesEighteenExactlyWhen, ImagesRefuseAlone, Again, ProgressTells, LaidDown, BlocksAreLaidDown, ChecksAreSeen, FirstBlockOfBoxA}
use Rattle.promises.proofs.Settled.{given, lent}

-- ---- settled: of two outcomes the reasons agree, or contradict each other
counted : {b : Machine} {r r' : ℕ} → BlocksCounted b r → BlocksCounted b r' → r ≡ r'
counted (BlocksCounted.done _ e) (BlocksCounted.done _ e') = e ∙ sym e'
counted (BlocksCounted.done x _) (BlocksCounted.not_fitting y _) = absurd (y x)
counted (BlocksCounted.not_fitting x _) (BlocksCounted.done y _) = absurd (x y)
counted (BlocksCounted.not_fitting _ e) (BlocksCounted.not_fitting _ e') = e ∙ sym e'

written : {b : Machine} {M L B B₁ B₂ : List ℕ} {number j r r' : ℕ}
    → BlockWritten b M L number j B r B₁ → BlockWritten b M L number j B r' B₂ → (r ≡ r') × (B₁ ≡ B₂)
written (BlockWritten.done _ e o) (BlockWritten.done _ e' o') = (e ∙ sym e', o ∙ sym o')
written (BlockWritten.done x _ _) (BlockWritten.not_fitting y _ _) = absurd (y x)
written (BlockWritten.not_fitting x _ _) (BlockWritten.done y _ _) = absurd (x y)
written (BlockWritten.not_fitting _ e o) (BlockWritten.not_fitting _ e' o') = (e ∙ sym e', o ∙ sym o')

read : {b : Machine} {M L P B M₁ L₁ P₁ M₂ L₂ P₂ : List ℕ} {r r' : ℕ}
    → BlockRead b M L P B r M₁ L₁ P₁ → BlockRead b M L P B r' M₂ L₂ P₂ → (r ≡ r') × (M₁ ≡ M₂) × (L₁ ≡ L₂) × (P₁ ≡ P₂)
read (good _ _ _ e m l p) (good _ _ _ e' m' l' p') = (e ∙ sym e', m ∙ sym m', l ∙ sym l', p ∙ sym p')
read (good _ _ x _ _ _ _) (bad _ _ y _ _ _ _) = absurd (y x)
read (good _ x _ _ _ _ _) (over _ y _ _ _ _) = absurd (y x)
read (good x _ _ _ _ _ _) (not_fitting y _ _ _ _) = absurd (y x)
read (bad _ _ x _ _ _ _) (good _ _ y _ _ _ _) = absurd (x y)
read (bad _ _ _ e m l p) (bad _ _ _ e' m' l' p') = (e ∙ sym e', m ∙ sym m', l ∙ sym l', p ∙ sym p')
read (bad _ x _ _ _ _ _) (over _ y _ _ _ _) = absurd (y x)
read (bad x _ _ _ _ _ _) (not_fitting y _ _ _ _) = absurd (y x)
read (over _ x _ _ _ _) (good _ y _ _ _ _ _) = absurd (x y)
read (over _ x _ _ _ _) (bad _ y _ _ _ _ _) = absurd (x y)
read (over _ _ e m l p) (over _ _ e' m' l' p') = (e ∙ sym e', m ∙ sym m', l ∙ sym l', p ∙ sym p')
read (over x _ _ _ _ _) (not_fitting y _ _ _ _) = absurd (y x)
read (not_fitting x _ _ _ _) (good y _ _ _ _ _ _) = absurd (x y)
read (not_fitting x _ _ _ _) (bad y _ _ _ _ _ _) = absurd (x y)
read (not_fitting x _ _ _ _) (over y _ _ _ _ _) = absurd (x y)
read (not_fitting _ e m l p) (not_fitting _ e' m' l' p') = (e ∙ sym e', m ∙ sym m', l ∙ sym l', p ∙ sym p')

ended : {b : Machine} {M L P P₁ P₂ : List ℕ} {r r' : ℕ} → ReadingEnded b M L P r P₁ → ReadingEnded b M L P r' P₂ → (r ≡ r') × (P₁ ≡ P₂)
ended (ReadingEnded.yes _ _ _ _ e p) (ReadingEnded.yes _ _ _ _ e' p') = (e ∙ sym e', p ∙ sym p')
ended (ReadingEnded.yes _ _ x _ _ _) (ReadingEnded.missing _ _ y _ _) = absurd (omega arith)
ended (ReadingEnded.yes _ _ _ x _ _) (ReadingEnded.refused _ _ _ y _ _) = absurd (y x)
ended (ReadingEnded.yes _ x _ _ _ _) (ReadingEnded.over _ y _ _) = absurd (y x)
ended (ReadingEnded.yes x _ _ _ _ _) (ReadingEnded.not_fitting y _ _) = absurd (y x)
ended (ReadingEnded.missing _ _ x _ _) (ReadingEnded.yes _ _ y _ _ _) = absurd (omega arith)
ended (ReadingEnded.missing _ _ _ e p) (ReadingEnded.missing _ _ _ e' p') = (e ∙ sym e', p ∙ sym p')
ended (ReadingEnded.missing _ _ x _ _) (ReadingEnded.refused _ _ y _ _ _) = absurd (omega arith)
ended (ReadingEnded.missing _ x _ _ _) (ReadingEnded.over _ y _ _) = absurd (y x)
ended (ReadingEnded.missing x _ _ _ _) (ReadingEnded.not_fitting y _ _) = absurd (y x)
ended (ReadingEnded.refused _ _ _ x _ _) (ReadingEnded.yes _ _ _ y _ _) = absurd (x y)
ended (ReadingEnded.refused _ _ x _ _ _) (ReadingEnded.missing _ _ y _ _) = absurd (omega arith)
ended (ReadingEnded.refused _ _ _ _ e p) (ReadingEnded.refused _ _ _ _ e' p') = (e ∙ sym e', p ∙ sym p')
ended (ReadingEnded.refused _ x _ _ _ _) (ReadingEnded.over _ y _ _) = absurd (y x)
ended (ReadingEnded.refused x _ _ _ _ _) (ReadingEnded.not_fitting y _ _) = absurd (y x)
ended (ReadingEnded.over _ x _ _) (ReadingEnded.yes _ y _ _ _ _) = absurd (x y)
ended (ReadingEnded.over _ x _ _) (ReadingEnded.missing _ y _ _ _) = absurd (x y)
ended (ReadingEnded.over _ x _ _) (ReadingEnded.refused _ y _ _ _ _) = absurd (x y)
ended (ReadingEnded.over _ _ e p) (ReadingEnded.over _ _ e' p') = (e ∙ sym e', p ∙ sym p')
ended (ReadingEnded.over x _ _ _) (ReadingEnded.not_fitting y _ _) = absurd (y x)
ended (ReadingEnded.not_fitting x _ _) (ReadingEnded.yes y _ _ _ _ _) = absurd (x y)
ended (ReadingEnded.not_fitting x _ _) (ReadingEnded.missing y _ _ _ _) = absurd (x y)
ended (ReadingEnded.not_fitting x _ _) (ReadingEnded.refused y _ _ _ _ _) = absurd (x y)
ended (ReadingEnded.not_fitting x _ _) (ReadingEnded.over y _ _ _) = absurd (x y)
ended (ReadingEnded.not_fitting _ e p) (ReadingEnded.not_fitting _ e' p') = (e ∙ sym e', p ∙ sym p')

pub images_are_settled : ImagesAreSettled
images_are_settled =
    record {
      blocks = λ b r r' x y. counted x y;
      write = λ b M L number j B r r' B₁ B₂ x y. written x y;
      read = λ b M L P B r r' M₁ L₁ P₁ M₂ L₂ P₂ x y. read x y;
      end = λ b M L P r r' P₁ P₂ x y. ended x y;
    }

-- ---- 18 exactly when; refusals move nothing
pub outside_secure : {b : Machine} {f : ℕ} → (OfSecure b f → ⊥) → (f < b.secure) ⊎ (b.secure + b.pages ≤ f)
outside_secure {b} {f} n =
    ⊎_elim inl (λ h. ⊎_elim (λ g. absurd (n (record { from = h; to = g }))) inr (lt_or_ge f (b.secure + b.pages))) (lt_or_ge f b.secure)

pub told_is : (a : ℕ) → (told a ≡ 25) ⊎ (told a ≡ 26)
told_is a = go (eqb a 26)
  where
    go : (t : Bool) → (◌≡◌ {A = ℕ} (pick t 26 25) 25) ⊎ (◌≡◌ {A = ℕ} (pick t 26 25) 26)
    go true = inr refl
    go false = inl refl

counts : {b : Machine} {T : ℕ} → BlocksCounted b T → Fits b → T ≡ total b
counts (BlocksCounted.done f e) g = e
counts (BlocksCounted.not_fitting n e) g = absurd (n g)

pub images_eighteen_exactly_when : ImagesEighteenExactlyWhen
images_eighteen_exactly_when =
    record {
      no_box = no_box;
      box = box;
      counted = λ b r x f. counts x f;
      write_done = write_done;
      write_18 = write_18;
      read_18 = read_18;
      read_other = read_other;
      end_18 = end_18;
      end_other = end_other;
    }
  where
    no_box : (b : Machine) (r : ℕ) → BlocksCounted b r → (Fits b → ⊥) → r ≡ 0
    no_box b r (BlocksCounted.done f e) n = absurd (n f)
    no_box b r (BlocksCounted.not_fitting _ e) n = e

    box : (b : Machine) (r : ℕ) → BlocksCounted b r → Fits b
        → (64 + 32 * b.pages + 1024 * b.pages ≤ 124 * r) × (124 * r < 64 + 32 * b.pages + 1024 * b.pages + 124)
    box b r x f = (omega (arith, counts x f, total_holds b), omega (arith, counts x f, total_least b))

    write_done : (b : Machine) (M L : List ℕ) (number j : ℕ) (B : List ℕ) (r T : ℕ) (B' : List ℕ)
        → BlockWritten b M L number j B r B' → BlocksCounted b T → Given b M L → j < T → length B ≡ 512 → r ≡ 0
    write_done b M L number j B r T B' (BlockWritten.done f e o) c g t s = e
    write_done b M L number j B r T B' (BlockWritten.not_fitting n e o) c g t s =
        absurd (n (record { lent = lent g; index = omega (arith, counts c (lent g).fits); size = s }))

    write_18 : (b : Machine) (M L : List ℕ) (number j : ℕ) (B : List ℕ) (r T : ℕ) (B' : List ℕ)
        → BlockWritten b M L number j B r B' → BlocksCounted b T → (Given b M L × (j < T) × (length B ≡ 512) → ⊥) → r ≡ 18
    write_18 b M L number j B r T B' (BlockWritten.done f e o) c n =
        absurd (n (given f.lent, omega (arith, counts c f.lent.fits, f.index), f.size))
    write_18 b M L number j B r T B' (BlockWritten.not_fitting _ e o) c n = e

    read_18 : (b : Machine) (M L P B : List ℕ) (r : ℕ) (M' L' P' : List ℕ)
        → BlockRead b M L P B r M' L' P' → (Given b M L × (length P ≡ 4) → ⊥) → r ≡ 18
    read_18 b M L P B r M' L' P' (good f _ _ _ _ _ _) n = absurd (n (given f.lent, f.progress))
    read_18 b M L P B r M' L' P' (bad f _ _ _ _ _ _) n = absurd (n (given f.lent, f.progress))
    read_18 b M L P B r M' L' P' (over f _ _ _ _ _) n = absurd (n (given f.lent, f.progress))
    read_18 b M L P B r M' L' P' (not_fitting _ e _ _ _) n = e

    read_other : (b : Machine) (M L P B : List ℕ) (r : ℕ) (M' L' P' : List ℕ)
        → BlockRead b M L P B r M' L' P' → Given b M L → length P ≡ 4 → (r ≡ 0) ⊎ ((r ≡ 25) ⊎ (r ≡ 26))
    read_other b M L P B r M' L' P' (good _ _ _ e _ _ _) g s = inl e
    read_other b M L P B r M' L' P' (bad _ _ _ e _ _ _) g s = inr (inl e)
    read_other b M L P B r M' L' P' (over _ _ e _ _ _) g s = inr (⊎_elim (λ t. inl (e ∙ t)) (λ t. inr (e ∙ t)) (told_is (get_or P 0 0)))
    read_other b M L P B r M' L' P' (not_fitting n _ _ _ _) g s = absurd (n (record { lent = lent g; progress = s }))

    end_18 : (b : Machine) (M L P : List ℕ) (r : ℕ) (P' : List ℕ)
        → ReadingEnded b M L P r P' → (Given b M L × (length P ≡ 4) → ⊥) → r ≡ 18
    end_18 b M L P r P' (ReadingEnded.yes f _ _ _ _ _) n = absurd (n (given f.lent, f.progress))
    end_18 b M L P r P' (ReadingEnded.missing f _ _ _ _) n = absurd (n (given f.lent, f.progress))
    end_18 b M L P r P' (ReadingEnded.refused f _ _ _ _ _) n = absurd (n (given f.lent, f.progress))
    end_18 b M L P r P' (ReadingEnded.over f _ _ _) n = absurd (n (given f.lent, f.progress))
    end_18 b M L P r P' (ReadingEnded.not_fitting _ e _) n = e

    end_other : (b : Machine) (M L P : List ℕ) (r : ℕ) (P' : List ℕ)
        → ReadingEnded b M L P r P' → Given b M L → length P ≡ 4 → (r ≡ 0) ⊎ ((r ≡ 25) ⊎ (r ≡ 26))
    end_other b M L P r P' (ReadingEnded.yes _ _ _ _ e _) g s = inl e
    end_other b M L P r P' (ReadingEnded.missing _ _ _ e _) g s = inr (inl e)
    end_other b M L P r P' (ReadingEnded.refused _ _ _ _ e _) g s = inr (inr e)
    end_other b M L P r P' (ReadingEnded.over _ _ e _) g s = inr (⊎_elim (λ t. inl (e ∙ t)) (λ t. inr (e ∙ t)) (told_is (get_or P 0 0)))
    end_other b M L P r P' (ReadingEnded.not_fitting n _ _) g s = absurd (n (record { lent = lent g; progress = s }))

pub images_refuse_alone : ImagesRefuseAlone
images_refuse_alone = record { write_18 = write_18; read_18 = read_18; end_18 = end_18; spare = spare; said_again = said_again; others = others }
  where
    write_18 : (b : Machine) (M L : List ℕ) (number j : ℕ) (B B' : List ℕ) → BlockWritten b M L number j B 18 B' → B' ≡ B
    write_18 b M L number j B B' (BlockWritten.done f e o) = absurd (omega arith)
    write_18 b M L number j B B' (BlockWritten.not_fitting n e o) = o

    spare : (b : Machine) (M L P B : List ℕ) (r : ℕ) (M' L' P' : List ℕ) → BlockRead b M L P B r M' L' P' → (r ≡ 0 → ⊥) → (M' ≡ M) × (L' ≡ L)
    spare b M L P B r M' L' P' (good _ _ _ e _ _ _) n = absurd (n e)
    spare b M L P B r M' L' P' (bad _ _ _ _ m l _) n = (m, l)
    spare b M L P B r M' L' P' (over _ _ _ m l _) n = (m, l)
    spare b M L P B r M' L' P' (not_fitting _ _ m l _) n = (m, l)

    said_again : (b : Machine) (M L P B : List ℕ) (r : ℕ) (M' L' P' : List ℕ)
        → BlockRead b M L P B r M' L' P' → (get_or P 0 0 ≡ 0 → ⊥) → (M' ≡ M) × (L' ≡ L) × (P' ≡ P)
    said_again b M L P B r M' L' P' (good _ z _ _ _ _ _) n = absurd (n z)
    said_again b M L P B r M' L' P' (bad _ z _ _ _ _ _) n = absurd (n z)
    said_again b M L P B r M' L' P' (over _ _ _ m l p) n = (m, l, p)
    said_again b M L P B r M' L' P' (not_fitting _ _ m l p) n = (m, l, p)

    read_18 : (b : Machine) (M L P B M' L' P' : List ℕ) → BlockRead b M L P B 18 M' L' P' → (M' ≡ M) × (L' ≡ L) × (P' ≡ P)
    read_18 b M L P B M' L' P' (good _ _ _ e _ _ _) = absurd (omega arith)
    read_18 b M L P B M' L' P' (bad _ _ _ e _ _ _) = absurd (omega arith)
    read_18 b M L P B M' L' P' (over _ _ e m l p) = (m, l, p)
    read_18 b M L P B M' L' P' (not_fitting _ _ m l p) = (m, l, p)

    end_18 : (b : Machine) (M L P P' : List ℕ) → ReadingEnded b M L P 18 P' → P' ≡ P
    end_18 b M L P P' (ReadingEnded.yes _ _ _ _ e p) = p
    end_18 b M L P P' (ReadingEnded.missing _ _ _ e p) = absurd (omega arith)
    end_18 b M L P P' (ReadingEnded.refused _ _ _ _ e p) = absurd (omega arith)
    end_18 b M L P P' (ReadingEnded.over _ _ e p) = p
    end_18 b M L P P' (ReadingEnded.not_fitting _ _ p) = p

    others : (b : Machine) (M L P B : List ℕ) (r : ℕ) (M' L' P' : List ℕ) → BlockRead b M L P B r M' L' P'
        → (f k : ℕ) → (OfSecure b f → ⊥) → k < frame_words → frame M' f k ≡ frame M f k
    others b M L P B r M' L' P' (good f _ g e m l p) h k n kl =
        ap (λ (x : List ℕ). frame x h k) m ∙ filled_others b M L (get_or P 1 0) B f.lent g.due h k (outside_secure n) kl
    others b M L P B r M' L' P' (bad _ _ _ _ m _ _) h k n kl = ap (λ (x : List ℕ). frame x h k) m
    others b M L P B r M' L' P' (over _ _ _ m _ _) h k n kl = ap (λ (x : List ℕ). frame x h k) m
    others b M L P B r M' L' P' (not_fitting _ _ m _ _) h k n kl = ap (λ (x : List ℕ). frame x h k) m

-- ---- the progress words
told_again : (a : ℕ) → Again a (told a)
told_again a = go (eqb a 26) refl
  where
    go : (t : Bool) → eqb a 26 ≡ t → Again a (told a)
    go true e = inl (eqb-true a 26 e, ap (λ (t : Bool). pick {A = ℕ} t 26 25) e)
    go false e = inr (eqb-false a 26 e, ap (λ (t : Bool). pick {A = ℕ} t 26 25) e)

pub progress_tells : ProgressTells
progress_tells = record { read_again = read_again; end_again = end_again; read_leaves = read_leaves; end_leaves = end_leaves }
  where
    read_again : (b : Machine) (M L P B : List ℕ) (r : ℕ) (M' L' P' : List ℕ) → BlockRead b M L P B r M' L' P'
        → Given b M L → length P ≡ 4 → (get_or P 0 0 ≡ 0 → ⊥) → Again (get_or P 0 0) r
    read_again b M L P B r M' L' P' (good _ z _ _ _ _ _) g s n = absurd (n z)
    read_again b M L P B r M' L' P' (bad _ z _ _ _ _ _) g s n = absurd (n z)
    read_again b M L P B r M' L' P' (over _ _ e _ _ _) g s n = subst (Again (get_or P 0 0)) (sym e) (told_again (get_or P 0 0))
    read_again b M L P B r M' L' P' (not_fitting k _ _ _ _) g s n = absurd (k (record { lent = lent g; progress = s }))

    end_again : (b : Machine) (M L P : List ℕ) (r : ℕ) (P' : List ℕ) → ReadingEnded b M L P r P'
        → Given b M L → length P ≡ 4 → (get_or P 0 0 ≡ 0 → ⊥) → Again (get_or P 0 0) r × (P' ≡ P)
    end_again b M L P r P' (ReadingEnded.yes _ z _ _ _ _) g s n = absurd (n z)
    end_again b M L P r P' (ReadingEnded.missing _ z _ _ _) g s n = absurd (n z)
    end_again b M L P r P' (ReadingEnded.refused _ z _ _ _ _) g s n = absurd (n z)
    end_again b M L P r P' (ReadingEnded.over _ _ e p) g s n = (subst (Again (get_or P 0 0)) (sym e) (told_again (get_or P 0 0)), p)
    end_again b M L P r P' (ReadingEnded.not_fitting k _ _) g s n = absurd (k (record { lent = lent g; progress = s }))

    read_leaves : (b : Machine) (M L P B : List ℕ) (r : ℕ) (M' L' P' : List ℕ)
        → BlockRead b M L P B r M' L' P' → Given b M L → length P ≡ 4 → get_or P 0 0 ≡ 0
        → ((r ≡ 0) × (P' ≡ set (set P 1 (get_or P 1 0 + 1)) 2 (word_at B 0))) ⊎ ((r ≡ 25) × (P' ≡ set P 0 25))
    read_leaves b M L P B r M' L' P' (good _ _ _ e _ _ p) g s z = inl (e, p)
    read_leaves b M L P B r M' L' P' (bad _ _ _ e _ _ p) g s z = inr (e, p)
    read_leaves b M L P B r M' L' P' (over _ n _ _ _ _) g s z = absurd (n z)
    read_leaves b M L P B r M' L' P' (not_fitting k _ _ _ _) g s z = absurd (k (record { lent = lent g; progress = s }))

    end_leaves : (b : Machine) (M L P : List ℕ) (r : ℕ) (P' : List ℕ)
        → ReadingEnded b M L P r P' → Given b M L → length P ≡ 4 → get_or P 0 0 ≡ 0
        → ((r ≡ 0) × (P' ≡ P)) ⊎ ((r ≡ 0 → ⊥) × (P' ≡ set P 0 r))
    end_leaves b M L P r P' (ReadingEnded.yes _ _ _ _ e p) g s z = inl (e, p)
    end_leaves b M L P r P' (ReadingEnded.missing _ _ _ e p) g s z = inr (λ o. omega arith, p ∙ ap (set P 0) (sym e))
    end_leaves b M L P r P' (ReadingEnded.refused _ _ _ _ e p) g s z = inr (λ o. omega arith, p ∙ ap (set P 0) (sym e))
    end_leaves b M L P r P' (ReadingEnded.over _ n _ _) g s z = absurd (n z)
    end_leaves b M L P r P' (ReadingEnded.not_fitting k _ _) g s z = absurd (k (record { lent = lent g; progress = s }))

-- ---- a block is laid down as it is said
pub blocks_are_laid_down : BlocksAreLaidDown
unfolding total_word
blocks_are_laid_down b M L number j B B' (BlockWritten.not_fitting n e o) nl small = absurd (omega arith)
blocks_are_laid_down b M L number j B B' (BlockWritten.done f e o) nl small = rw o laid
  where
    l : Lent b M L
    l = f.lent

    total_is : word_at (block_of b M L number j) 2 ≡ total b + 65536
    total_is = block_word b M L number j 2 (omega arith) ∙ mod-eq_of_lt (total_word_fits b l.fits)

    word : (i : ℕ) → i < 124 → word_at (block_of b M L number j) (3 + i) ≡ get_or (image_of b M L) (124 * j + i) 0
    word i il = block_payload b M L number j i il ∙ mod-eq_of_lt (small (124 * j + i))

    laid : LaidDown b M L number j (block_of b M L number j)
    laid =
        record {
          size = length-block b M L number j;
          bytes = small_block b M L number j;
          numbered = block_number b M L number j nl;
          index = block_word b M L number j 1 (omega arith) ∙ mod-eq_of_lt (omega (arith, total_fits b l.fits, f.index));
          blocks = total b;
          total = total_is;
          enough = total_holds b;
          no_more = total_least b;
          ledger = λ i il h. word i il ∙ image_ledger b M L l (124 * j + i) h;
          frames = λ i p k il pl kl e.
              word i il
              ∙ ap (λ (x : ℕ). get_or (image_of b M L) x 0) e
              ∙ image_frame b M L l p k pl kl;
          fill = λ i il h. word i il ∙ get_or-eq_default (image_of b M L) 0 {n = 124 * j + i} (omega (arith, length_image_of b M L l));
          check = sym (block_check b M L number j);
        }

-- ---- the check
pub checks_are_seen : ChecksAreSeen
checks_are_seen =
    record {
      published = check_value;
      standard = is_the_standards;
      only_one = only_one;
      bursts = λ A B k x y p q c d same. burst A B 508 k x y p q (c ∙ sym (word_drop A 127 0)) (d ∙ sym (word_drop B 127 0)) same;
    }

pub first_block_of_box_a : FirstBlockOfBoxA
unfolding block_of sealed body payload image_of total_word total little_endian bytes_of word_at crc32 bytes_in bits_in bit_in mirrored sum_below bit fresh_ledger fresh_map list_below map_word free_flag
first_block_of_box_a = (refl, refl, refl, refl)
