-- What Boot leaves: the words of a fresh ledger and of the secure frames, and that acceptance passes. Assumes nothing.
use Prim.Native.Nat.{ℕ, suc, ◌+◌, ◌-◌, ◌*◌, ◌%◌, ◌^◌, ◌≤◌, ◌<◌}
use mathlib.Core.Path.{◌≡◌, refl, sym, ap, ◌∙◌}
use mathlib.Core.Logic.{⊎_elim}
use mathlib.Core.List.{List, [], ◌∷◌, ◌++◌, append_assoc}
use native.Mathlib.Omega.{arith}
use lib.ListN.{length, get_or, drop, replicate, length-append, length-replicate, replicate-append-replicate, get_or-append}
use lib.Seq.{get_or-append-add, take_at, drop_at}
use lib.Pow.{pow_pos}
use Rattle.words.specs.Words.{record_words, paste, list_below}
use Rattle.words.specs.Maps.{word_of}
use Rattle.words.proofs.Bits.{shift}
use Rattle.words.proofs.Cases.{lt_or_ge}
use Rattle.words.proofs.Sums.{sum_ext}
use Rattle.words.proofs.Maps.{map_facts}
use Rattle.words.proofs.Paste.{length-paste, paste_in}
use Rattle.words.proofs.Lists.{length-list_below, list_below_at, zeros_at}
use Rattle.machine.specs.declared.Machine.{Machine}
use Rattle.machine.specs.Machine.{frame_words, header_words, map_words, map_start}
use Rattle.ledger.specs.Names.{running_word}
use Rattle.ledger.specs.Ledger.{header, rec}
use Rattle.memory.specs.Memory.{frame}
use Rattle.accept.specs.Accept.{Words, Zeros, free_flag, map_word, Rules, Accepted}
use Rattle.boot.specs.Boot.{fresh_map, fresh_ledger, fresh_memory, BootFits}

-- ---- word j of the free map, as the code makes it: 32 pages or more from 32 j on, or c of them
module _ (b : Machine) (j : ℕ) where
  pub map_empty : b.pages ≤ 32 * j → 0 ≡ fresh_map b j
  unfolding fresh_map map_word free_flag word_of
  map_empty l = sym ((map_facts map_words).fresh_empty b.pages j l)

  pub map_full : 32 ≤ b.pages - 32 * j → 4294967295 ≡ fresh_map b j
  unfolding fresh_map map_word free_flag word_of
  map_full l = sym ((map_facts map_words).fresh_full b.pages j (omega arith))

  pub map_part : (c : ℕ) → c ≡ b.pages - 32 * j → c < 32 → (1 * 2 ^ c) % 4294967296 - 1 ≡ fresh_map b j
  unfolding fresh_map map_word free_flag word_of
  map_part c e l =
      rw (shift c l)
      (⊎_elim
      (λ m. ap (λ (x : ℕ). 2 ^ x - 1) {x = c} {y = 0} (omega arith) ∙ sym ((map_facts map_words).fresh_empty b.pages j (omega arith)))
      (λ m. sym ((map_facts map_words).fresh_part b.pages j c (omega arith) l))
      (lt_or_ge b.pages (32 * j)))

-- there is something to take 1 from
pub shift_pos : (c : ℕ) → c < 32 → 1 ≤ (1 * 2 ^ c) % 4294967296
shift_pos c l = omega (arith, shift c l, pow_pos c)

-- ---- the fresh ledger
module _ (b : Machine) (key : List ℕ) (eight : length key ≡ 8) where
  abbrev maps : List ℕ
  maps = list_below map_words (fresh_map b)

  abbrev rest : ℕ
  rest = header_words - (map_start + map_words) + record_words * b.pages

  nine : length (0 ∷ key) ≡ map_start
  nine = ap suc eight

  length_maps : length maps ≡ map_words
  length_maps = length-list_below map_words (fresh_map b)

  pub length-fresh_ledger : length (fresh_ledger b key) ≡ header_words + record_words * b.pages
  unfolding fresh_ledger
  length-fresh_ledger = simp (length-append, length-replicate) (omega (arith, length_maps))

  -- past the key, and past the map
  past_key : (i : ℕ) → get_or (fresh_ledger b key) (map_start + i) 0 ≡ get_or (maps ++ replicate rest 0) i 0
  unfolding fresh_ledger
  past_key i =
      ap (λ (x : ℕ). get_or (fresh_ledger b key) (x + i) 0) (sym nine) ∙ get_or-append-add (0 ∷ key) (maps ++ replicate rest 0) i 0

  pub fresh_map_lem : (j : ℕ) → j < map_words → header (fresh_ledger b key) (map_start + j) ≡ fresh_map b j
  unfolding header
  fresh_map_lem j l =
      past_key j ∙ get_or-append maps (replicate rest 0) 0 j (rw length_maps l) ∙ list_below_at map_words (fresh_map b) j l

  past_map : (i : ℕ) → map_start + map_words ≤ i → get_or (fresh_ledger b key) i 0 ≡ 0
  past_map i l =
      ap (λ (x : ℕ). get_or (fresh_ledger b key) x 0) {x = i} {y = map_start + (length maps + (i - (map_start + map_words)))} (omega (arith, length_maps))
      ∙ past_key (length maps + (i - (map_start + map_words)))
      ∙ get_or-append-add maps (replicate rest 0) (i - (map_start + map_words)) 0
      ∙ zeros_at rest (i - (map_start + map_words))

  pub fresh_running : header (fresh_ledger b key) running_word ≡ 0
  unfolding header fresh_ledger
  fresh_running = refl

  pub fresh_header_rest : Zeros (header (fresh_ledger b key)) (map_start + map_words) header_words
  unfolding header
  fresh_header_rest k l m = past_map k l

  pub fresh_rec : (p k : ℕ) → rec (fresh_ledger b key) p k ≡ 0
  unfolding rec
  fresh_rec p k = past_map (header_words + record_words * p + k) (omega arith)

  -- all pages are free
  pub fresh_free : (j : ℕ) → fresh_map b j ≡ map_word b.pages (rec (fresh_ledger b key)) j
  unfolding fresh_map map_word free_flag
  fresh_free j = sum_ext 32 _ _ (λ i l. rw (fresh_rec (32 * j + i) 0))

-- ---- the fresh ledger as the code makes it: zeros, then the key and the map put in their places
between : (xs ys zs vs : List ℕ) (i n : ℕ) → length xs ≡ i → length ys ≡ n → paste (xs ++ (ys ++ zs)) i n vs ≡ xs ++ (vs ++ zs)
unfolding paste
between xs ys zs vs i n p q =
    ap (λ (l : List ℕ). l ++ (vs ++ drop (i + n) (xs ++ (ys ++ zs)))) (take_at xs (ys ++ zs) i p)
    ∙ ap (λ (l : List ℕ). xs ++ (vs ++ l)) (ap (drop (i + n)) (sym (append_assoc xs ys zs)) ∙ drop_at (xs ++ ys) zs (i + n) (omega (arith, length-append xs ys)))

zeros_split : (N R : ℕ) → N ≡ map_start + (map_words + R)
    → replicate {A = ℕ} N 0 ≡ 0 ∷ replicate 8 0 ++ (replicate map_words 0 ++ replicate R 0)
zeros_split N R e =
    ap (λ (x : ℕ). replicate {A = ℕ} x 0) {x = N} {y = suc (8 + (map_words + R))} (omega arith)
    ∙ ap (λ (l : List ℕ). 0 ∷ l)
    (sym (replicate-append-replicate 8 (map_words + R) 0) ∙ ap (λ (l : List ℕ). replicate 8 0 ++ l) (sym (replicate-append-replicate map_words R 0)))

pub ledger_made : {L K J ms : List ℕ} (b : Machine) (key : List ℕ) (N : ℕ) → length key ≡ 8 → N ≡ header_words + record_words * b.pages
    → L ≡ replicate N 0 → K ≡ paste L 1 (length key) key → ms ≡ list_below map_words (fresh_map b) → J ≡ paste K map_start (length ms) ms
    → J ≡ fresh_ledger b key
unfolding fresh_ledger
ledger_made {K} {ms} b key N eight e l k m j =
    let Z : List ℕ = replicate map_words 0 in
    let R : List ℕ = replicate (rest b key eight) 0 in
    let keyed : K ≡ 0 ∷ key ++ (Z ++ R) =
    k
    ∙ ap (λ (x : List ℕ). paste x 1 (length key) key) (l ∙ zeros_split N (rest b key eight) (omega arith))
    ∙ between (0 ∷ []) (replicate 8 0) (Z ++ R) key 1 (length key) refl (sym eight) in
    j
    ∙ ap (λ (x : List ℕ). paste x map_start (length ms) ms) keyed
    ∙ between (0 ∷ key) Z R ms map_start (length ms) (nine b key eight) (sym (ap length m ∙ length_maps b key eight))
    ∙ ap (λ (x : List ℕ). 0 ∷ key ++ (x ++ R)) m

-- ---- the fresh memory
module _ (b : Machine) (M : List ℕ) (l : frame_words * b.secure + frame_words * b.pages ≤ length M) where
  abbrev zeros : List ℕ
  zeros = replicate (frame_words * b.pages) 0

  size : length zeros ≡ frame_words * b.pages
  size = length-replicate {A = ℕ} (frame_words * b.pages) 0

  pub length-fresh_memory : length (fresh_memory b M) ≡ length M
  unfolding fresh_memory
  length-fresh_memory = length-paste M (frame_words * b.secure) (frame_words * b.pages) zeros l size

  pub fresh_frame : (p k : ℕ) → p < b.pages → k < frame_words → frame (fresh_memory b M) (b.secure + p) k ≡ 0
  unfolding frame fresh_memory
  fresh_frame p k h m =
      ap (λ (x : ℕ). get_or (fresh_memory b M) x 0) {x = frame_words * (b.secure + p) + k} {y = frame_words * b.secure + (frame_words * p + k)} (omega arith)
      ∙ paste_in M (frame_words * b.secure) (frame_words * b.pages) zeros l size (frame_words * p + k) (omega arith)
      ∙ zeros_at (frame_words * b.pages) (frame_words * p + k)

-- ---- acceptance: of views where all pages are free and blank, and of what Boot leaves
pub fresh : (b : Machine) (h : ℕ → ℕ) (w m : Words) → h running_word ≡ 0 → Zeros h (map_start + map_words) header_words
    → ((j : ℕ) → j < map_words → h (map_start + j) ≡ map_word b.pages w j)
    → ((p : ℕ) → p < b.pages → Zeros (w p) 0 record_words)
    → ((p : ℕ) → p < b.pages → Zeros (m (b.secure + p)) 0 frame_words)
    → Rules b h w m
fresh b h w m idle rest map recs mem =
    record {
      header = record { runs = λ t e. absurd (omega arith); free_map = map; rest = rest };
      pages = λ p l.
          let z : w p 0 ≡ 0 = recs p l 0 (omega arith) (omega arith) in
          record {
            layout = record {
              known = omega arith;
              is_free = λ e k lo hi. recs p l k (omega arith) hi;
              is_space = λ e. absurd (omega arith);
              is_thread = λ e. absurd (omega arith);
              is_first = λ e. absurd (omega arith);
              is_second = λ e. absurd (omega arith);
              is_data = λ e. absurd (omega arith);
              is_spare = λ e. absurd (omega arith);
            };
            owner = λ nz. absurd (nz z);
            idle = λ e. absurd (omega arith);
            blank = λ t. mem p l;
          };
      spaces = λ a l e. absurd (omega (arith, recs a l 0 (omega arith) (omega arith)));
    }

pub fresh_accepted : (b : Machine) (key M L : List ℕ) → BootFits b key M L → Accepted b (fresh_memory b M) (fresh_ledger b key)
fresh_accepted b key M L f =
    record {
      lent = record {
        fits = f.lent.fits;
        memory = length-fresh_memory b M within ∙ f.lent.memory;
        ledger = length-fresh_ledger b key f.has_key_words;
      };
      rules =
          fresh b (header (fresh_ledger b key)) (rec (fresh_ledger b key)) (frame (fresh_memory b M))
          (fresh_running b key f.has_key_words)
          (fresh_header_rest b key f.has_key_words)
          (λ j l. fresh_map_lem b key f.has_key_words j l ∙ fresh_free b key f.has_key_words j)
          (λ p l k lo hi. fresh_rec b key f.has_key_words p k)
          (λ p l k lo hi. fresh_frame b M within p k l hi);
    }
  where
    within : frame_words * b.secure + frame_words * b.pages ≤ length M
    within = omega (arith, f.lent.memory, f.lent.fits.secure_below)
