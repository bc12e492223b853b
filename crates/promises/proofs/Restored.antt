-- An image read back: how far a reading has come, block by block; the reader's yes, the first bad block, the round trip; and what holds from a
-- restored state on. Assumes nothing.
use Prim.Native.Nat.{ℕ, zero, suc, ◌+◌, ◌-◌, ◌*◌, ◌/◌, ◌%◌, ◌^◌, ◌≤◌, ◌<◌}
use mathlib.Core.Path.{◌≡◌, refl, sym, ap, subst, ◌∙◌}
use mathlib.Core.Logic.{◌⊎◌, ⊎_elim, inl, inr}
use mathlib.Core.List.{List, [], ◌∷◌, ◌++◌}
use native.Mathlib.Omega.{arith}
use native.Mathlib.Nat.{mod-eq_of_lt}
use lib.ListN.{length, get_or, set, length-append, length-set, get_or-append, get_or-eq_default}
use lib.Seq.{ext_get_or, get_or-append_seam, get_or-set_same, get_or-set_other}
use Rattle.words.specs.Bytes.{AreWords, AreBytes, word_at}
use Rattle.words.proofs.Cases.{lt_or_ge, same_or}
use Rattle.machine.specs.declared.Machine.{Machine}
use Rattle.machine.specs.Machine.{frame_words, Insecure, Lent}
use Rattle.memory.specs.Memory.{frame}
use Rattle.accept.specs.Accept.{Accepted}
use Rattle.image.specs.Image.{image_words, total, image_of, body, sealed, block_of}
use Rattle.image.specs.Reader.{Good, answer_of, came_of, number_of, payload_of, with_block, memory_of, ledger_of}
use Rattle.image.specs.Service.{told, BlockWritten, BlockRead, BlockRead.good, BlockRead.bad, BlockRead.over, BlockRead.not_fitting, ReadingEnded}
use Rattle.words.proofs.Endian.{word_small}
use Rattle.image.proofs.Inside.{total_holds}
use Rattle.image.proofs.Placed.{length_image_of, placed_before, placed_in, placed_after, length-payload_of, payload_of_at}
use Rattle.image.proofs.Spare.{image_same, same_ledger, same_frames, filled_lent, filled_image, filled_others}
use Rattle.image.proofs.Good.{small_block, block_number, block_payload, good_of_block, block_of_good}
use Rattle.kept.proofs.Layers.Contents.{stores_kept}
use Rattle.kept.proofs.Facts.Bridge.{accepted}
use Rattle.promises.specs.Terms.{OfSecure}
use Rattle.promises.specs.Kept.{Outside}
use Rattle.promises.specs.Restored.{Reading, Reading.begin, Reading.next, Ended, block_at, AllBytes, WholeImage, ImageYes, IsBlock, Bad, Bad.missing, Bad.one_more, Bad.other, FirstBad, SpareHolds, FirstBadBlock, SameWords, ImageRoundTrip, AcceptanceReadsSecureAlone, Life, Life.begun, Life.lived, Life.restored, Restored}
use Rattle.promises.proofs.Images.{outside_secure, told_is}
use Rattle.promises.proofs.Kept.{history_keeps}
use Rattle.promises.proofs.Access.{reached_alone}

-- ---- blocks lent, and one more
abbrev more : List (List ℕ) → List ℕ → List (List ℕ)
more Bs B = Bs ++ (B ∷ [])

length_more : (Bs : List (List ℕ)) (B : List ℕ) → length (more Bs B) ≡ length Bs + 1
length_more Bs B = length-append Bs (B ∷ [])

more_before : (Bs : List (List ℕ)) (B : List ℕ) (i : ℕ) → i < length Bs → block_at (more Bs B) i ≡ block_at Bs i
more_before Bs B i l = get_or-append Bs (B ∷ []) [] i l

more_last : (Bs : List (List ℕ)) (B : List ℕ) → block_at (more Bs B) (length Bs) ≡ B
more_last Bs B = get_or-append_seam Bs B [] []

-- the number of block 0
abbrev first_number : List (List ℕ) → ℕ
first_number Bs = word_at (block_at Bs 0) 0

-- ---- the spare, as others change insecure frames, and as one block more is lent
module _ {b : Machine} {M₀ L₀ : List ℕ} {Bs : List (List ℕ)} {j : ℕ} {M L : List ℕ} (h : SpareHolds b M₀ L₀ Bs j M L) where
  outside_lent : {M₁ : List ℕ} → Outside b M M₁ → Lent b M₁ L
  outside_lent x = record { fits = h.lent.fits; memory = x.size ∙ h.lent.memory; ledger = h.lent.ledger }

  outside_secures : {M₁ : List ℕ} → Outside b M M₁ → (p k : ℕ) → p < b.pages → k < frame_words → frame M₁ (b.secure + p) k ≡ frame M (b.secure + p) k
  outside_secures x p k pl kl =
      x.others (b.secure + p) k (omega (arith, h.lent.fits.secure_below)) (λ i. ⊎_elim (λ y. omega arith) (λ y. omega arith) i.not_secure) kl

  holds_outside : {M₁ : List ℕ} → Outside b M M₁ → SpareHolds b M₀ L₀ Bs j M₁ L
  holds_outside {M₁} x =
      let same = image_same b M L M₁ L h.lent (outside_lent x) (λ k l. refl) (outside_secures x) in
      record {
        lent = outside_lent x;
        before = λ p l m. same p m ∙ h.before p l m;
        rest = λ p l m. same p m ∙ h.rest p l m;
        others = λ f k fl s i kl. x.others f k fl i kl ∙ h.others f k fl s i kl;
      }

  holds_more : (B : List ℕ) → j ≤ length Bs → SpareHolds b M₀ L₀ (more Bs B) j M L
  holds_more B jl =
      record {
        lent = h.lent;
        before = λ p l m. h.before p l m ∙ ap (λ (x : List ℕ). word_at x (3 + p % 124)) (sym (more_before Bs B (p / 124) (omega arith)));
        rest = h.rest;
        others = h.others;
      }

-- ---- a good block: the spare holds one payload more
holds_good : {b : Machine} {M₀ L₀ : List ℕ} {Bs : List (List ℕ)} {M L : List ℕ} (B : List ℕ) → SpareHolds b M₀ L₀ Bs (length Bs) M L → length Bs < total b
    → SpareHolds b M₀ L₀ (more Bs B) (length Bs + 1) (memory_of b M (with_block b M L (length Bs) B)) (ledger_of b (with_block b M L (length Bs) B))
holds_good {b} {M₀} {L₀} {Bs} {M} {L} B h due =
    record {
      lent = filled_lent b M L j B h.lent due;
      before = λ p l m. filled_image b M L j B h.lent due p m ∙ ⊎_elim (older p m) (λ g. newer p l m g) (lt_or_ge p (124 * j));
      rest = λ p l m.
          filled_image b M L j B h.lent due p m
          ∙ placed_after b I j (payload_of B) long due (length-payload_of B) p (omega arith) m
          ∙ h.rest p (omega arith) m;
      others = λ f k fl s i kl. filled_others b M L j B h.lent due f k (outside_secure s) kl ∙ h.others f k fl s i kl;
    }
  where
    j : ℕ
    j = length Bs

    I : List ℕ
    I = image_of b M L

    long : length I ≡ image_words b
    long = length_image_of b M L h.lent

    older : (p : ℕ) → p < image_words b → p < 124 * length Bs
        → get_or (with_block b M L (length Bs) B) p 0 ≡ word_at (block_at (more Bs B) (p / 124)) (3 + p % 124)
    older p m l =
        placed_before b I j (payload_of B) long due (length-payload_of B) p l
        ∙ h.before p l m
        ∙ ap (λ (x : List ℕ). word_at x (3 + p % 124)) (sym (more_before Bs B (p / 124) (omega arith)))

    newer : (p : ℕ) → p < 124 * (length Bs + 1) → p < image_words b → 124 * length Bs ≤ p
        → get_or (with_block b M L (length Bs) B) p 0 ≡ word_at (block_at (more Bs B) (p / 124)) (3 + p % 124)
    newer p l m g =
        let k : ℕ = p % 124 in
        let q : p / 124 ≡ length Bs = omega arith in
        let e : p ≡ 124 * length Bs + k = omega arith in
        ap (λ (x : ℕ). get_or (with_block b M L j B) x 0) e
        ∙ placed_in b I j (payload_of B) long due (length-payload_of B) k (omega arith) (omega arith)
        ∙ payload_of_at B k (omega arith)
        ∙ ap (λ (x : List ℕ). word_at x (3 + p % 124)) (sym (ap (λ (x : ℕ). block_at (more Bs B) x) q ∙ more_last Bs B))

-- ---- how far a reading has come
abbrev GoodUpTo : Machine → List (List ℕ) → ℕ → Type 0
GoodUpTo b Bs j = (i : ℕ) → i < j → Good b i (first_number Bs) (block_at Bs i)

-- every block was good, or one was bad and all before it were good
data Come (b : Machine) (M₀ L₀ : List ℕ) (Bs : List (List ℕ)) (M L P : List ℕ) : Type 0 where
  well : length P ≡ 4 → answer_of P ≡ 0 → came_of P ≡ length Bs → length Bs ≤ total b → ((length Bs ≡ 0 → ⊥) → number_of P ≡ first_number Bs)
      → GoodUpTo b Bs (length Bs) → SpareHolds b M₀ L₀ Bs (length Bs) M L → Come b M₀ L₀ Bs M L P
  ill : (j : ℕ) → length P ≡ 4 → answer_of P ≡ 25 → came_of P ≡ j → j < length Bs → GoodUpTo b Bs j → (Good b j (first_number Bs) (block_at Bs j) → ⊥)
      → SpareHolds b M₀ L₀ Bs j M L → Come b M₀ L₀ Bs M L P

-- a block that is good after one number is good after another, where it is the same or the block is the first
renumber : {b : Machine} {j n : ℕ} {B : List ℕ} (m : ℕ) → ((j ≡ 0 → ⊥) → n ≡ m) → Good b j n B → Good b j m B
renumber m same g =
    record {
      whole = g.whole;
      due = g.due;
      index = g.index;
      check = g.check;
      fill = g.fill;
      one_number = λ z. g.one_number z ∙ same z;
      totals = g.totals;
    }

-- with one block more, the number of block 0 is the same where there was one
number_more : (Bs : List (List ℕ)) (B : List ℕ) → (length Bs ≡ 0 → ⊥) → first_number (more Bs B) ≡ first_number Bs
number_more Bs B n = ap (λ (x : List ℕ). word_at x 0) (more_before Bs B 0 (omega arith))

module _ {b : Machine} (Bs : List (List ℕ)) (B : List ℕ) (i : ℕ) (l : i < length Bs) where
  good_more : Good b i (first_number Bs) (block_at Bs i) → Good b i (first_number (more Bs B)) (block_at (more Bs B) i)
  good_more g =
      subst (Good b i (first_number (more Bs B))) (sym (more_before Bs B i l)) (renumber (first_number (more Bs B)) (λ z. sym (number_more Bs B (λ e. omega arith))) g)

  good_less : Good b i (first_number (more Bs B)) (block_at (more Bs B) i) → Good b i (first_number Bs) (block_at Bs i)
  good_less g =
      subst (Good b i (first_number Bs)) (more_before Bs B i l) (renumber (first_number Bs) (λ z. number_more Bs B (λ e. omega arith)) g)

-- the last of them is the one that was lent last
good_last : {b : Machine} (Bs : List (List ℕ)) (B : List ℕ) (n : ℕ) → ((length Bs ≡ 0 → ⊥) → n ≡ first_number Bs) → Good b (length Bs) n B
    → Good b (length Bs) (first_number (more Bs B)) (block_at (more Bs B) (length Bs))
good_last {b} Bs B n same g =
    subst (Good b (length Bs) (first_number (more Bs B))) (sym (more_last Bs B)) (renumber (first_number (more Bs B)) (λ z. same z ∙ sym (number_more Bs B z)) g)

good_unlast : {b : Machine} (Bs : List (List ℕ)) (B : List ℕ) (n : ℕ) → ((length Bs ≡ 0 → ⊥) → n ≡ first_number Bs)
    → Good b (length Bs) (first_number (more Bs B)) (block_at (more Bs B) (length Bs)) → Good b (length Bs) n B
good_unlast {b} Bs B n same g =
    subst (Good b (length Bs) n) (more_last Bs B) (renumber n (λ z. number_more Bs B z ∙ sym (same z)) g)

-- the progress words after a good block, and after a bad one
module _ (P : List ℕ) (size : length P ≡ 4) (c n : ℕ) where
  good_answer : answer_of (set (set P 1 c) 2 n) ≡ answer_of P
  good_answer = get_or-set_other (set P 1 c) 2 0 n 0 (λ e. omega arith) ∙ get_or-set_other P 1 0 c 0 (λ e. omega arith)

  good_came : came_of (set (set P 1 c) 2 n) ≡ c
  good_came = get_or-set_other (set P 1 c) 2 1 n 0 (λ e. omega arith) ∙ get_or-set_same P 1 c 0 (omega arith)

  good_seen : number_of (set (set P 1 c) 2 n) ≡ n
  good_seen = get_or-set_same (set P 1 c) 2 n 0 (omega (arith, length-set P 1 c))

  good_size : length (set (set P 1 c) 2 n) ≡ 4
  good_size = length-set (set P 1 c) 2 n ∙ length-set P 1 c ∙ size

  bad_answer : answer_of (set P 0 c) ≡ c
  bad_answer = get_or-set_same P 0 c 0 (omega arith)

  bad_came : came_of (set P 0 c) ≡ came_of P
  bad_came = get_or-set_other P 0 1 c 0 (λ e. omega arith)

-- ---- one block more
number_last : {b : Machine} (Bs : List (List ℕ)) (B : List ℕ) (n : ℕ) → ((length Bs ≡ 0 → ⊥) → n ≡ first_number Bs) → Good b (length Bs) n B
    → word_at B 0 ≡ first_number (more Bs B)
number_last Bs B n same g =
    ⊎_elim
    (λ z. ap (λ (x : List ℕ). word_at x 0) (sym (more_last Bs B) ∙ ap (block_at (more Bs B)) z))
    (λ z. g.one_number z ∙ same z ∙ sym (number_more Bs B z))
    (same_or (length Bs) 0)

goods_last : {b : Machine} (Bs : List (List ℕ)) (B : List ℕ) (n : ℕ) → ((length Bs ≡ 0 → ⊥) → n ≡ first_number Bs) → Good b (length Bs) n B
    → GoodUpTo b Bs (length Bs) → GoodUpTo b (more Bs B) (length (more Bs B))
goods_last {b} Bs B n same g goods i l =
    ⊎_elim
    (λ h. good_more Bs B i h (goods i h))
    (λ h.
    let e : length Bs ≡ i = omega (arith, length_more Bs B) in
    subst (λ (k : ℕ). Good b k (first_number (more Bs B)) (block_at (more Bs B) k)) e (good_last Bs B n same g))
    (lt_or_ge i (length Bs))

come_next : {b : Machine} {M₀ L₀ : List ℕ} {Bs : List (List ℕ)} {M M₁ L P M' L' P' : List ℕ} {r : ℕ} (B : List ℕ)
    → Come b M₀ L₀ Bs M L P → Outside b M M₁ → BlockRead b M₁ L P B r M' L' P' → Come b M₀ L₀ (more Bs B) M' L' P'
come_next {b} {Bs} {P} B (well size z came few seen goods h) x (good f _ g e m l p) =
    let g' : Good b (length Bs) (number_of P) B = subst (λ (c : ℕ). Good b c (number_of P) B) came g in
    let n : ℕ = word_at B 0 in
    rw (m, l, p)
    (well (good_size P size (came_of P + 1) n) (good_answer P size (came_of P + 1) n ∙ z)
    (good_came P size (came_of P + 1) n ∙ omega (arith, length_more Bs B))
    (omega (arith, length_more Bs B, g'.due))
    (λ _. good_seen P size (came_of P + 1) n ∙ number_last Bs B (number_of P) seen g')
    (goods_last Bs B (number_of P) seen g' goods)
    (rw (came, length_more Bs B) (holds_good B (holds_outside h x) g'.due)))
come_next {b} {Bs} {P} B (well size z came few seen goods h) x (bad f _ n e m l p) =
    rw (m, l, p)
    (ill (length Bs) (length-set P 0 25 ∙ size) (bad_answer P size 25 0) (bad_came P size 25 0 ∙ came) (omega (arith, length_more Bs B))
    (λ i il. good_more Bs B i il (goods i il))
    (λ g. n (subst (λ (c : ℕ). Good b c (number_of P) B) (sym came) (good_unlast Bs B (number_of P) seen g)))
    (holds_more (holds_outside h x) B (omega arith)))
come_next B (well size z came few seen goods h) x (over f n e m l p) = absurd (n z)
come_next B (well size z came few seen goods h) x (not_fitting n e m l p) = absurd (n (record { lent = outside_lent h x; progress = size }))
come_next B (ill j size a came jl goods n h) x (good f z g e m l p) = absurd (omega arith)
come_next B (ill j size a came jl goods n h) x (bad f z g e m l p) = absurd (omega arith)
come_next {Bs} B (ill j size a came jl goods n h) x (over f _ e m l p) =
    rw (m, l, p)
    (ill j size a came (omega (arith, length_more Bs B)) (λ i il. good_more Bs B i (omega arith) (goods i il)) (λ g. n (good_less Bs B j jl g))
    (holds_more (holds_outside h x) B (omega arith)))
come_next B (ill j size a came jl goods n h) x (not_fitting k e m l p) = absurd (k (record { lent = outside_lent h x; progress = size }))

-- ---- a reading
come : {b : Machine} {M₀ L₀ : List ℕ} {Bs : List (List ℕ)} {M L P : List ℕ} → Lent b M₀ L₀ → Reading b M₀ L₀ Bs M L P → Come b M₀ L₀ Bs M L P
come l begin =
    well refl refl refl (omega arith) (λ n. absurd (n refl)) (λ i il. absurd (omega arith))
    (record { lent = l; before = λ p pl m. absurd (omega arith); rest = λ p pl m. refl; others = λ f k fl s i kl. refl })
come l (next Bs M M₁ L P B r M' L' P' reading x read) = come_next B (come l reading) x read

-- ---- good blocks are blocks of an image, that of the spare that holds them; and no other blocks are
module _ {b : Machine} (Bs : List (List ℕ)) (small : AllBytes Bs) where
  is_block : {M₀ L₀ M L : List ℕ} {j : ℕ} (i : ℕ) → SpareHolds b M₀ L₀ Bs j M L → i < j → Good b i (first_number Bs) (block_at Bs i)
      → block_at Bs i ≡ block_of b M L (first_number Bs) i
  is_block {M₀} {L₀} {M} {L} {j} i h il g =
      block_of_good b M L i (first_number Bs) (block_at Bs i) (small i) h.lent g stands ∙ ap (λ (n : ℕ). block_of b M L n i) number
    where
      stands : (k : ℕ) → k < 124 → 124 * i + k < image_words b → get_or (image_of b M L) (124 * i + k) 0 ≡ word_at (block_at Bs i) (3 + k)
      stands k kl m =
          let q : (124 * i + k) / 124 ≡ i = omega arith in
          let t : (124 * i + k) % 124 ≡ k = omega arith in
          h.before (124 * i + k) (omega arith) m ∙ rw (q, t)

      number : word_at (block_at Bs i) 0 ≡ first_number Bs
      number = ⊎_elim (λ z. ap (λ (x : ℕ). word_at (block_at Bs x) 0) z) g.one_number (same_or i 0)

  good_block : (j : ℕ) → j < total b → IsBlock b (first_number Bs) j (block_at Bs j) → Good b j (first_number Bs) (block_at Bs j)
  good_block j t k =
      subst (Good b j (first_number Bs)) (sym k.is) (good_of_block (first_number Bs) j (first_number Bs) k.lent (word_small (block_at Bs 0) 0 (small 0)) t (λ _. refl))

  -- where all up to j are good, no place before j is bad
  none_before : {M₀ L₀ M L : List ℕ} {j : ℕ} → j ≤ length Bs → j ≤ total b → SpareHolds b M₀ L₀ Bs j M L → GoodUpTo b Bs j → (i : ℕ) → i < j → Bad b Bs i → ⊥
  none_before jl jt h goods i il (missing a t) = omega arith
  none_before jl jt h goods i il (one_more t a) = omega arith
  none_before {M = M} {L = L} jl jt h goods i il (other a t n) = n (record { memory = M; ledger = L; lent = h.lent; is = is_block i h il (goods i il) })

  -- and none at all where they are as many as there should be
  none : {M₀ L₀ M L : List ℕ} → length Bs ≡ total b → SpareHolds b M₀ L₀ Bs (length Bs) M L → GoodUpTo b Bs (length Bs) → (i : ℕ) → Bad b Bs i → ⊥
  none e h goods i (missing a t) = omega arith
  none e h goods i (one_more t a) = omega arith
  none e h goods i (other a t n) = none_before (omega arith) (omega arith) h goods i a (other a t n)

  -- the first block that is not good is a bad place
  bad_at : (j : ℕ) → j < length Bs → (Good b j (first_number Bs) (block_at Bs j) → ⊥) → Bad b Bs j
  bad_at j jl n = ⊎_elim (λ t. other jl t (λ k. n (good_block j t k))) (λ t. one_more t jl) (lt_or_ge j (total b))

goods_few : {b : Machine} (Bs : List (List ℕ)) (j : ℕ) → GoodUpTo b Bs j → j ≤ total b
goods_few Bs zero goods = omega arith
goods_few Bs (suc j) goods = (goods j (omega arith)).due

-- ---- the end of a reading: a yes, the first bad place, or acceptance's no
data Outcome (b : Machine) (M₀ L₀ : List ℕ) (Bs : List (List ℕ)) (r : ℕ) (M L P : List ℕ) : Type 0 where
  whole : length Bs ≡ total b → GoodUpTo b Bs (length Bs) → SpareHolds b M₀ L₀ Bs (length Bs) M L → ((r ≡ 0) × Accepted b M L) ⊎ ((r ≡ 26) × (Accepted b M L → ⊥))
      → Outcome b M₀ L₀ Bs r M L P
  broken : r ≡ 25 → FirstBad b Bs (came_of P) → SpareHolds b M₀ L₀ Bs (came_of P) M L → Outcome b M₀ L₀ Bs r M L P

outcome : (b : Machine) (M₀ L₀ : List ℕ) (Bs : List (List ℕ)) (r : ℕ) (M L P : List ℕ) → Lent b M₀ L₀ → AllBytes Bs → Ended b M₀ L₀ Bs r M L P
    → Outcome b M₀ L₀ Bs r M L P
outcome b M₀ L₀ Bs r M L P l small e = go (come l e.reading) e.answered
  where
    go : Come b M₀ L₀ Bs e.left L e.progress → ReadingEnded b M L e.progress r P → Outcome b M₀ L₀ Bs r M L P
    go (well size z c few seen goods h) (ReadingEnded.yes f _ t ok q p) = whole (omega arith) goods (holds_outside h e.aside) (inl (q, ok))
    go (well size z c few seen goods h) (ReadingEnded.refused f _ t n q p) = whole (omega arith) goods (holds_outside h e.aside) (inr (q, n))
    go (well size z c few seen goods h) (ReadingEnded.missing f _ t q p) =
        let came-is : length Bs ≡ came_of P = sym (ap came_of p ∙ bad_came e.progress size 25 0 ∙ c) in
        let held = holds_outside h e.aside in
        broken q
        (subst (FirstBad b Bs) came-is
        (record { bad = missing (omega arith) (omega arith); least = none_before Bs small (omega arith) few held goods }))
        (subst (λ (j : ℕ). SpareHolds b M₀ L₀ Bs j M L) came-is held)
    go (well size z c few seen goods h) (ReadingEnded.over f n q p) = absurd (n z)
    go (well size z c few seen goods h) (ReadingEnded.not_fitting n q p) = absurd (n (record { lent = outside_lent h e.aside; progress = size }))
    go (ill j size a c jl goods n h) (ReadingEnded.over f _ q p) =
        let came-is : j ≡ came_of P = sym (ap came_of p ∙ c) in
        let held = holds_outside h e.aside in
        broken (q ∙ ap told a)
        (subst (FirstBad b Bs) came-is
        (record { bad = bad_at Bs small j jl n; least = none_before Bs small (omega arith) (goods_few Bs j goods) held goods }))
        (subst (λ (j : ℕ). SpareHolds b M₀ L₀ Bs j M L) came-is held)
    go (ill j size a c jl goods n h) (ReadingEnded.yes f z t ok q p) = absurd (omega arith)
    go (ill j size a c jl goods n h) (ReadingEnded.refused f z t k q p) = absurd (omega arith)
    go (ill j size a c jl goods n h) (ReadingEnded.missing f z t q p) = absurd (omega arith)
    go (ill j size a c jl goods n h) (ReadingEnded.not_fitting k q p) = absurd (k (record { lent = outside_lent h e.aside; progress = size }))

-- what a block is answered, by what progress then holds
answered : {b : Machine} {M L P B M' L' P' : List ℕ} {r : ℕ} → length P ≡ 4 → BlockRead b M L P B r M' L' P' → Lent b M L
    → (answer_of P' ≡ 0 → r ≡ 0) × (answer_of P' ≡ 25 → r ≡ 25)
answered {P} {B} s (good f z g e m l p) _ =
    (λ _. e, λ a. absurd (omega (arith, a, ap answer_of p, good_answer P s (came_of P + 1) (word_at B 0), z)))
answered {P} s (bad f z n e m l p) _ = (λ a. absurd (omega (arith, a, ap answer_of p, bad_answer P s 25 0)), λ _. e)
answered s (over f n e m l p) _ = (λ a. absurd (n (sym (ap answer_of p) ∙ a)), λ a. e ∙ ap told (sym (ap answer_of p) ∙ a))
answered s (not_fitting k e m l p) lent = absurd (k (record { lent = lent; progress = s }))

came_lent : {b : Machine} {M₀ L₀ : List ℕ} {Bs : List (List ℕ)} {M L P M₁ : List ℕ} → Come b M₀ L₀ Bs M L P → Outside b M M₁ → (length P ≡ 4) × Lent b M₁ L
came_lent (well size _ _ _ _ _ h) x = (size, outside_lent h x)
came_lent (ill _ size _ _ _ _ _ h) x = (size, outside_lent h x)

at_once : (b : Machine) (M₀ L₀ : List ℕ) (Bs : List (List ℕ)) (M L P M₁ B : List ℕ) (r : ℕ) (M' L' P' : List ℕ) → Lent b M₀ L₀ → AllBytes (more Bs B)
    → Reading b M₀ L₀ Bs M L P → Outside b M M₁ → BlockRead b M₁ L P B r M' L' P'
    → ((r ≡ 0) × ((i : ℕ) → i ≤ length Bs → Bad b (more Bs B) i → ⊥)) ⊎ ((r ≡ 25) × FirstBad b (more Bs B) (came_of P'))
at_once b M₀ L₀ Bs M L P M₁ B r M' L' P' l small reading x read =
    let c : Come b M₀ L₀ Bs M L P = come l reading in
    let (s, ok) = came_lent c x in
    go (come_next B c x read) (answered s read ok)
  where
    go : Come b M₀ L₀ (more Bs B) M' L' P' → (answer_of P' ≡ 0 → r ≡ 0) × (answer_of P' ≡ 25 → r ≡ 25)
        → ((r ≡ 0) × ((i : ℕ) → i ≤ length Bs → Bad b (more Bs B) i → ⊥)) ⊎ ((r ≡ 25) × FirstBad b (more Bs B) (came_of P'))
    go (well size z c few seen goods h) (zeroed, _) =
        inl (zeroed z, λ i il. none_before (more Bs B) small (omega arith) few h goods i (omega (arith, length_more Bs B)))
    go (ill j size a c jl goods n h) (_, told-bad) =
        inr (
          told-bad a,
          subst (FirstBad b (more Bs B)) (sym c)
              (record { bad = bad_at (more Bs B) small j jl n; least = none_before (more Bs B) small (omega arith) (goods_few (more Bs B) j goods) h goods }),
        )

pub first_bad_block : FirstBadBlock
first_bad_block =
    record {
      at_once = at_once;
      names = λ b M₀ L₀ Bs M L P l small e. names (outcome b M₀ L₀ Bs 25 M L P l small e);
      always = λ b M₀ L₀ Bs r j M L P l small e x. always small x (outcome b M₀ L₀ Bs r M L P l small e);
      acceptance = λ b M₀ L₀ Bs M L P l small e. acceptance small (outcome b M₀ L₀ Bs 26 M L P l small e);
      is_not_accepted = λ b M₀ L₀ Bs r M L P l small e n k. is_not_accepted n k (outcome b M₀ L₀ Bs r M L P l small e);
    }
  where
    names : {b : Machine} {M₀ L₀ : List ℕ} {Bs : List (List ℕ)} {M L P : List ℕ} → Outcome b M₀ L₀ Bs 25 M L P
        → FirstBad b Bs (came_of P) × SpareHolds b M₀ L₀ Bs (came_of P) M L
    names (whole s goods h (inl (q, ok))) = absurd (omega arith)
    names (whole s goods h (inr (q, n))) = absurd (omega arith)
    names (broken q first h) = (first, h)

    always : {b : Machine} {M₀ L₀ : List ℕ} {Bs : List (List ℕ)} {r j : ℕ} {M L P : List ℕ} → AllBytes Bs → Bad b Bs j → Outcome b M₀ L₀ Bs r M L P → r ≡ 25
    always {Bs = Bs} {j = j} small x (whole s goods h o) = absurd (none Bs small s h goods j x)
    always small x (broken q first h) = q

    acceptance : {b : Machine} {M₀ L₀ : List ℕ} {Bs : List (List ℕ)} {M L P : List ℕ} → AllBytes Bs → Outcome b M₀ L₀ Bs 26 M L P
        → ((j : ℕ) → Bad b Bs j → ⊥) × (Accepted b M L → ⊥) × SpareHolds b M₀ L₀ Bs (total b) M L
    acceptance small (whole s goods h (inl (q, ok))) = absurd (omega arith)
    acceptance {b} {M₀} {L₀} {Bs} {M} {L} small (whole s goods h (inr (q, n))) =
        (none Bs small s h goods, n, subst (λ (j : ℕ). SpareHolds b M₀ L₀ Bs j M L) s h)
    acceptance small (broken q first h) = absurd (omega arith)

    is_not_accepted : {b : Machine} {M₀ L₀ : List ℕ} {Bs : List (List ℕ)} {r : ℕ} {M L P : List ℕ} → ((j : ℕ) → Bad b Bs j → ⊥) → (Accepted b M L → ⊥)
        → Outcome b M₀ L₀ Bs r M L P → r ≡ 26
    is_not_accepted none k (whole s goods h (inl (q, ok))) = absurd (k ok)
    is_not_accepted none k (whole s goods h (inr (q, n))) = q
    is_not_accepted {P = P} none k (broken q first h) = absurd (none (came_of P) first.bad)

-- ---- acceptance reads the ledger and the secure frames alone
pub acceptance_reads_secure_alone : AcceptanceReadsSecureAlone
acceptance_reads_secure_alone b M M' L ok l same =
    accepted ok (l.memory ∙ sym ok.lent.memory) refl (stores_kept ok.rules (λ q ql _ k kl. same q k ql kl))

-- ---- the yes
-- the words of a spare that holds the blocks of an image are the image's
image_held : {b : Machine} {M₀ L₀ : List ℕ} {Bs : List (List ℕ)} {M L : List ℕ} (w : WholeImage b Bs) → SpareHolds b M₀ L₀ Bs (length Bs) M L
    → (p : ℕ) → p < image_words b → get_or (image_of b M L) p 0 ≡ get_or (image_of b w.memory w.ledger) p 0
image_held {b} {M₀} {L₀} {Bs} {M} {L} w h p pl =
    h.before p (omega (arith, w.count, total_holds b)) pl
    ∙ ap (λ (x : List ℕ). word_at x (3 + p % 124)) (w.each (p / 124) (omega (arith, total_holds b)))
    ∙ block_payload b w.memory w.ledger w.number (p / 124) (p % 124) (omega arith)
    ∙ mod-eq_of_lt (w.words (124 * (p / 124) + p % 124))
    ∙ ap (λ (x : ℕ). get_or (image_of b w.memory w.ledger) x 0) {x = 124 * (p / 124) + p % 124} {y = p} (omega arith)

-- such blocks are none of them bad
whole_good : {b : Machine} {Bs : List (List ℕ)} → WholeImage b Bs → (j : ℕ) → Bad b Bs j → ⊥
whole_good w j (missing a t) = omega (arith, w.count)
whole_good w j (one_more t a) = omega (arith, w.count)
whole_good {b} {Bs} w j (other a t n) =
    n (record { memory = w.memory; ledger = w.ledger; lent = w.lent; is = w.each j t ∙ ap (λ (x : ℕ). block_of b w.memory w.ledger x j) (sym number) })
  where
    number : first_number Bs ≡ w.number
    number = ap (λ (x : List ℕ). word_at x 0) (w.each 0 (omega arith)) ∙ block_number b w.memory w.ledger w.number 0 w.number_word

-- acceptance passes on the spare that holds them
whole_accepted : {b : Machine} {M₀ L₀ : List ℕ} {Bs : List (List ℕ)} {M L : List ℕ} (w : WholeImage b Bs) → SpareHolds b M₀ L₀ Bs (length Bs) M L → Accepted b M L
whole_accepted {b} {M₀} {L₀} {Bs} {M} {L} w h =
    let same = image_held w h in
    let led : L ≡ w.ledger = same_ledger b w.memory w.ledger M L w.lent h.lent same in
    rw led
    (acceptance_reads_secure_alone b w.memory M w.ledger w.accepted (rw led at h.lent)
    (same_frames b w.memory w.ledger M L w.lent h.lent same))

yes_whole : {b : Machine} {M₀ L₀ : List ℕ} {Bs : List (List ℕ)} {M L : List ℕ} → AllBytes Bs → length Bs ≡ total b → GoodUpTo b Bs (length Bs)
    → SpareHolds b M₀ L₀ Bs (length Bs) M L → Accepted b M L → WholeImage b Bs
yes_whole {b} {M₀} {L₀} {Bs} {M} {L} small s goods h ok =
    record {
      number = first_number Bs;
      memory = M;
      ledger = L;
      lent = h.lent;
      words = words;
      number_word = word_small (block_at Bs 0) 0 (small 0);
      count = s;
      each = λ j t. is_block Bs small j h (omega arith) (goods j (omega arith));
      accepted = ok;
    }
  where
    words : AreWords (image_of b M L)
    words p =
        ⊎_elim
        (λ l. rw (h.before p (omega (arith, total_holds b)) l) (word_small (block_at Bs (p / 124)) (3 + p % 124) (small (p / 124))))
        (λ l. rw (get_or-eq_default (image_of b M L) 0 {n = p} (omega (arith, length_image_of b M L h.lent))) (omega arith))
        (lt_or_ge p (image_words b))

pub image_yes : ImageYes
image_yes =
    record {
      exactly = λ b M₀ L₀ Bs r M L P l small e. let o = outcome b M₀ L₀ Bs r M L P l small e in (to small o, from o);
      holds = λ b M₀ L₀ Bs M L P l small e. held (outcome b M₀ L₀ Bs 0 M L P l small e);
    }
  where
    to : {b : Machine} {M₀ L₀ : List ℕ} {Bs : List (List ℕ)} {r : ℕ} {M L P : List ℕ} → AllBytes Bs → Outcome b M₀ L₀ Bs r M L P → r ≡ 0 → WholeImage b Bs
    to small (whole s goods h (inl (q, ok))) z = yes_whole small s goods h ok
    to small (whole s goods h (inr (q, n))) z = absurd (omega arith)
    to small (broken q first h) z = absurd (omega arith)

    from : {b : Machine} {M₀ L₀ : List ℕ} {Bs : List (List ℕ)} {r : ℕ} {M L P : List ℕ} → Outcome b M₀ L₀ Bs r M L P → WholeImage b Bs → r ≡ 0
    from (whole s goods h (inl (q, ok))) w = q
    from (whole s goods h (inr (q, n))) w = absurd (n (whole_accepted w h))
    from {P = P} (broken q first h) w = absurd (whole_good w (came_of P) first.bad)

    held : {b : Machine} {M₀ L₀ : List ℕ} {Bs : List (List ℕ)} {M L P : List ℕ} → Outcome b M₀ L₀ Bs 0 M L P → SpareHolds b M₀ L₀ Bs (total b) M L × Accepted b M L
    held {b} {M₀} {L₀} {Bs} {M} {L} (whole s goods h (inl (q, ok))) = (subst (λ (j : ℕ). SpareHolds b M₀ L₀ Bs j M L) s h, ok)
    held (whole s goods h (inr (q, n))) = absurd (omega arith)
    held (broken q first h) = absurd (omega arith)

-- ---- the round trip
-- what outsiders change is in no block
one_block : (b : Machine) (M N L : List ℕ) (number j : ℕ) → Lent b M L → Outside b M N → block_of b N L number j ≡ block_of b M L number j
unfolding block_of
one_block b M N L number j l x =
    let l' : Lent b N L = record { fits = l.fits; memory = x.size ∙ l.memory; ledger = l.ledger } in
    ap (λ (I : List ℕ). sealed (body b number j I))
    (ext_get_or 0 (image_of b N L) (image_of b M L) (length_image_of b N L l' ∙ sym (length_image_of b M L l))
    (λ p pl.
    image_same b M L N L l l' (λ k kl. refl)
    (λ q k ql kl. x.others (b.secure + q) k (omega (arith, l.fits.secure_below)) (λ i. ⊎_elim (λ y. omega arith) (λ y. omega arith) i.not_secure) kl)
    p (omega (arith, length_image_of b N L l'))))

pub image_round_trip : ImageRoundTrip
image_round_trip b M L number lists mems Bs M₀ L₀ r M' L' P ok words nl count out each l e =
    go (outcome b M₀ L₀ Bs r M' L' P l small e)
  where
    block : (j : ℕ) → j < total b → block_at Bs j ≡ block_of b M L number j
    block j t = written (each j t)
      where
        written : BlockWritten b (mems j) L number j (lists j) 0 (block_at Bs j) → block_at Bs j ≡ block_of b M L number j
        written (BlockWritten.done f z o) = o ∙ one_block b M (mems j) L number j ok.lent (out j t)
        written (BlockWritten.not_fitting n z o) = absurd (omega arith)

    small : AllBytes Bs
    small j =
        ⊎_elim
        (λ t. subst AreBytes (sym (block j t)) (small_block b M L number j))
        (λ t. subst AreBytes (sym (get_or-eq_default Bs [] {n = j} (omega arith))) (λ k. omega arith))
        (lt_or_ge j (total b))

    image : WholeImage b Bs
    image =
        record { number = number; memory = M; ledger = L; lent = ok.lent; words = words; number_word = nl; count = count; each = block; accepted = ok }

    go : Outcome b M₀ L₀ Bs r M' L' P → (r ≡ 0) × SameWords b M L M₀ M' L'
    go (whole s goods h (inl (q, _))) =
        let same = image_held image h in (
          q,
          record {
            ledger = same_ledger b M L M' L' ok.lent h.lent same;
            secure = same_frames b M L M' L' ok.lent h.lent same;
            others = h.others;
          },
        )
    go (whole s goods h (inr (q, n))) = absurd (n (whole_accepted image h))
    go (broken q first h) = absurd (whole_good image (came_of P) first.bad)

-- ---- lives
ended_accepted : {b : Machine} {M L P P' : List ℕ} → ReadingEnded b M L P 0 P' → Accepted b M L
ended_accepted (ReadingEnded.yes f z t ok q p) = ok
ended_accepted (ReadingEnded.missing f z t q p) = absurd (omega arith)
ended_accepted (ReadingEnded.refused f z t n q p) = absurd (omega arith)
ended_accepted {P = P} (ReadingEnded.over f n q p) = ⊎_elim (λ t. absurd (omega arith)) (λ t. absurd (omega arith)) (told_is (answer_of P))
ended_accepted (ReadingEnded.not_fitting n q p) = absurd (omega arith)

life_accepted : (b : Machine) (M L : List ℕ) → Life b M L → Accepted b M L
life_accepted b M L (begun _ _ ok) = ok
life_accepted b M L (lived M₁ L₁ _ _ life h) = history_keeps b M₁ L₁ M L (life_accepted b M₁ L₁ life) h
life_accepted b M L (restored _ _ M' _ _ _ _ life e l same) = acceptance_reads_secure_alone b M' M L (ended_accepted e) l same

pub restored_holds : Restored
restored_holds =
    record {
      accepted = λ b M L P P' e. ended_accepted e;
      always = life_accepted;
      alone = λ b M L a v a' v' d life x y. reached_alone b M L a v a' v' d (life_accepted b M L life) x y;
    }
