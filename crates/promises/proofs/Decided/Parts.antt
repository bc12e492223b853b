-- Each part of the acceptance check with its test: what is lent, the header, the counts, and a page by its type. Assumes nothing.
use Prim.Native.Nat.{ℕ, zero, suc, ◌+◌, ◌-◌, ◌*◌, ◌/◌, ◌%◌, ◌^◌, ◌≤◌, ◌<◌}
use mathlib.Core.Path.{◌≡◌, refl, sym, ◌∙◌}
use mathlib.Core.List.{List}
use native.Mathlib.Omega.{arith}
use lib.ListN.{length}
use Rattle.words.specs.Words.{record_words, word_bits, sum_below}
use Rattle.machine.specs.declared.Machine.{Machine}
use Rattle.machine.specs.Machine.{frame_words, header_words, map_start, map_words, most_frames, most_pages, Fits, Insecure, insecure, Lent}
use Rattle.machine.proofs.Laws.{fitting, insecure_holds, holds_insecure}
use Rattle.mapping.specs.Mapping.{index_of, slot_of, rights_of, well_formed, rights_end, execute_right, most_tables, page_bytes}
use Rattle.mapping.specs.Entry.{legal_entry}
use Rattle.ledger.specs.Names.{free_end, states, running_word, space, thread, first_level, second_level, data_page, building, final, stopped, blocks_word, count_word, data_blocks, entry_word, first_page_word, flags_word, index_word, mapping_word, named_end, owned_end, owner_word, registers_word, space_end, state_word, suspended_word, thread_end, type_word}
use Rattle.ledger.specs.Ledger.{header, rec}
use Rattle.memory.specs.Memory.{frame, words_of}
use Rattle.walk.specs.Walk.{slot_word}
use Rattle.accept.specs.Accept.{SpaceRec, ThreadRec, Is, counted, measured, tally, mapping_of, SlotOk, SlotOk.empty, map_word, Runs, HeaderOk}
use Rattle.accept.specs.Checks.{Wiped, FreePage, SpacePage, Owned, ThreadRules, ThreadPage, Names, Inside, FirstLinks, SecondLinks, Reached, FirstPage, SecondPage, DataPage, SparePage, Page, Pages, Count, Counts}
use Rattle.accept.proofs.FreeMap.{map_past}
use Rattle.accept.proofs.Slots.{names_empty, reached_full, slot_must, slot_outside, slot_inside, insecure_must, inside_must}
use Rattle.accept.proofs.Words.{Shows, page_shown}
use Rattle.promises.proofs.Decided.Tests.{Decided, as_if, equal, less, at_most, passes, never, always, and_then, where_so, where_not, or_else, by_case, ◌and◌, below, Mark, held}
use Rattle.promises.proofs.Decided.Pages.{of_words, zeros, record_zeros, header_zeros, marks_of, all_marks, marks_of_lem, held_word}

-- ---- what is lent
abbrev pub fits : (b : Machine) → Decided (Fits b)
fits b =
    as_if (λ (f, (F, (n, (N, (k, (s, (m, x))))))). fitting b f F n N k s m x)
    (λ x.
    (x.frames_low, (x.frames_high, (x.pages_low, (x.pages_high, (x.monitors_low, (x.secure_below, (x.monitor_below, x.apart))))))))
    (at_most 1 b.frames and at_most b.frames most_frames and at_most 1 b.pages and at_most b.pages most_pages and at_most 1 b.monitors
    and at_most (b.secure + b.pages) b.frames and at_most (b.monitor + b.monitors) b.frames
    and or_else (at_most (b.secure + b.pages) b.monitor) (at_most (b.monitor + b.monitors) b.secure))

abbrev pub lent : (b : Machine) (M L : List ℕ) → Decided (Lent b M L)
lent b M L =
    as_if (λ (f, (m, l)). record { fits = f; memory = m; ledger = l }) (λ x. (x.fits, (x.memory, x.ledger)))
    (fits b and equal (length M) (frame_words * b.frames) and equal (length L) (header_words + record_words * b.pages))

-- ---- pages by type and owner
abbrev pub is_page : (b : Machine) (L : List ℕ) (a t q : ℕ) → Decided (Is b (rec L) a t q)
is_page b L a t q =
    as_if (λ (l, (t, o)). record { below = l; type = t; own = o }) (λ x. (x.below, (x.type, x.own)))
    (less q b.pages and equal (rec L q type_word) t and equal (rec L q owner_word) a)

-- ---- the header
abbrev pub may_run : (b : Machine) (L : List ℕ) (t : ℕ) → Decided (Runs b (rec L) t)
may_run b L t =
    as_if (λ (l, (t, (a, f))). record { below = l; is_thread = t; awake = a; of_final = f })
    (λ x. (x.below, (x.is_thread, (x.awake, x.of_final))))
    (less t b.pages and equal (rec L t type_word) thread and equal (rec L t suspended_word) 0 and equal (rec L (rec L t owner_word) state_word) final)

abbrev pub running : (b : Machine) (L : List ℕ) (v : ℕ) → Decided ((t : ℕ) → v ≡ t + 1 → Runs b (rec L) t)
running b L zero = always (λ t e. absurd (omega arith))
running b L (suc t) = as_if (λ x u e. let same : t ≡ u = omega arith in rw same at x) (λ all. all t (omega arith)) (may_run b L t)

-- (past the last page it is 0, and no page is asked)
abbrev pub map_word_lem : (n : ℕ) (L : List ℕ) (j : ℕ) → Decided (header L (map_start + j) ≡ map_word n (rec L) j)
map_word_lem n L j =
    by_case (at_most n (word_bits * j))
    (λ past.
    as_if (λ x. x ∙ map_past n (rec L) j past) (λ x. x ∙ sym (map_past n (rec L) j past)) (equal (header L (map_start + j)) 0))
    (λ _. equal (header L (map_start + j)) (map_word n (rec L) j))

abbrev pub header_ok : (b : Machine) (L : List ℕ) → Decided (HeaderOk b (header L) (rec L))
header_ok b L =
    as_if (λ (r, (m, z)). record { runs = r; free_map = m; rest = z }) (λ x. (x.runs, (x.free_map, x.rest)))
    (running b L (header L running_word)
    and below (λ j. header L (map_start + j) ≡ map_word b.pages (rec L) j) map_words (λ j _. map_word_lem b.pages L j)
    and header_zeros L (map_start + map_words))

-- ---- the counts of a space
abbrev pub count : (n : ℕ) (L : List ℕ) (a owned blocks : ℕ) → Decided (Count n (rec L) a owned blocks)
count n L a owned blocks =
    as_if (λ (p, (e, r)). record { pages = p; exact = e; room = r }) (λ x. (x.pages, (x.exact, x.room)))
    (equal (rec L a count_word) owned
    and where_so (equal (rec L a state_word) building) (λ _. equal (rec L a blocks_word) blocks)
    and where_not (equal (rec L a state_word) building) (λ _. at_most (rec L a blocks_word) (data_blocks * n)))

abbrev pub counts : (n : ℕ) (L : List ℕ) → Decided (Counts n (rec L))
counts n L =
    below (λ a. rec L a type_word ≡ space → Count n (rec L) a (sum_below n (tally counted (rec L) a)) (sum_below n (tally measured (rec L) a))) n
    (λ a _. where_so (equal (rec L a type_word) space)
    (λ _. count n L a (sum_below n (tally counted (rec L) a)) (sum_below n (tally measured (rec L) a))))

-- ---- the tables
-- what slot i of a first-level page of a may hold
abbrev pub names : (b : Machine) (L : List ℕ) (a i v : ℕ) → Decided (Names b (rec L) a i v)
names b L a i zero = always (record { table = λ T x. absurd (omega arith) })
names b L a i (suc t) =
    as_if (λ x. record { table = λ T q. let same : t ≡ T = omega arith in rw same at x }) (λ x. x.table t (omega arith))
    (is_page b L a second_level t and equal (rec L t index_word) i)

abbrev pub inside : (b : Machine) (L : List ℕ) (a i j f r : ℕ) → Decided (Inside b (rec L) a i j f r)
inside b L a i j f r =
    as_if (λ (l, (p, m)). record { above = l; page = p; map = m }) (λ x. (x.above, (x.page, x.map)))
    (at_most b.secure f and is_page b L a data_page (f - b.secure) and equal (rec L (f - b.secure) mapping_word) (mapping_of i j r))

abbrev pub is_insecure : (b : Machine) (f : ℕ) → Decided (Insecure b f)
is_insecure b f = as_if (insecure_holds b f) (holds_insecure b f) (passes (insecure b f))

-- what slot j of the table with index i of space a may hold
abbrev pub slot : (b : Machine) (L : List ℕ) (a i j v : ℕ) → Decided (SlotOk b (rec L) a i j v)
slot b L a i j zero = always empty
slot b L a i j (suc u) =
    by_case (is_insecure b (suc u / page_bytes))
    (λ is.
    as_if (λ (o, r). slot_outside (suc u) is r o) (λ x. let s = slot_must (λ z. absurd (omega arith)) x in (s.reads, insecure_must s is))
    (equal (suc u % page_bytes % 2) 1 and less (suc u % page_bytes) execute_right))
    (λ is_not.
    as_if (λ (o, (r, x)). slot_inside (suc u) x r o)
    (λ x. let s = slot_must (λ z. absurd (omega arith)) x in (s.reads, (s.small, inside_must s is_not)))
    (equal (suc u % page_bytes % 2) 1 and less (suc u % page_bytes) rights_end and inside b L a i j (suc u / page_bytes) (suc u % page_bytes)))

-- ---- a page, by its type; ps are the marks of all pages
module _ (b : Machine) (M L : List ℕ) (ok : Lent b M L) (ps : List (List Mark)) (e : ps ≡ all_marks b M) where
  module _ (p : ℕ) (l : p < b.pages) where
    pub page_words : Shows (words_of M (b.secure + p)) (frame M (b.secure + p)) frame_words
    page_words = page_shown M (b.secure + p) (omega (arith, ok.memory, ok.fits.secure_below)) refl

    abbrev pub blank_page : Decided (Wiped b (frame M) p)
    blank_page = zeros page_words (marks_of b M ps p) (marks_of_lem b M ps e p) 0 frame_words (omega arith)

    abbrev pub free_page : Decided (FreePage b (rec L) (frame M) p)
    free_page =
        as_if (λ (z, m). record { rest = z; wiped = m }) (λ x. (x.rest, x.wiped))
        (record_zeros L p free_end record_words and blank_page)

    abbrev pub space_record : Decided (SpaceRec b.pages p (rec L p))
    space_record =
        as_if (λ (i, (f, (s, z))). record { itself = i; first = f; state = s; rest = z }) (λ x. (x.itself, (x.first, (x.state, x.rest))))
        (equal (rec L p owner_word) p and less (rec L p first_page_word) b.pages and less (rec L p state_word) states
        and record_zeros L p space_end record_words)

    abbrev pub space_page : Decided (SpacePage b (rec L) (frame M) p)
    space_page =
        as_if (λ (r, (m, f)). record { layout = r; wiped = m; first = f }) (λ x. (x.layout, (x.wiped, x.first)))
        (space_record and blank_page and where_not (equal (rec L p state_word) stopped) (λ _. is_page b L p first_level (rec L p first_page_word)))

    abbrev pub owned : (lo : ℕ) → Decided (Owned b (rec L) lo p)
    owned lo =
        as_if (λ (o, (s, z)). record { owner = o; is_space = s; rest = z }) (λ x. (x.owner, (x.is_space, x.rest)))
        (less (rec L p owner_word) b.pages and equal (rec L (rec L p owner_word) type_word) space
        and record_zeros L p lo record_words)

    abbrev pub thread_record : Decided (ThreadRec (rec L p))
    thread_record =
        as_if (λ (e, (s, (f, z))). record { entry = e; suspended = s; flags = f; rest = z })
        (λ x. (x.entry, (x.suspended, (x.flags, x.rest))))
        (passes (legal_entry (rec L p entry_word)) and less (rec L p suspended_word) 2 and equal (rec L p flags_word % 2 ^ 28) 0
        and record_zeros L p thread_end record_words)

    abbrev pub thread_rules : Decided (ThreadRules (rec L) p)
    thread_rules =
        as_if (λ (r, (i, c)). record { layout = r; idle = i; calm = c }) (λ x. (x.layout, (x.idle, x.calm)))
        (thread_record
        and where_so (equal (rec L p suspended_word) 0) (λ _. record_zeros L p registers_word thread_end)
        and where_so (equal (rec L (rec L p owner_word) state_word) building) (λ _. equal (rec L p suspended_word) 0))

    abbrev pub thread_page : Decided (ThreadPage b (rec L) (frame M) p)
    thread_page =
        as_if (λ (o, (r, m)). record { owned = o; rules = r; wiped = m }) (λ x. (x.owned, (x.rules, x.wiped)))
        (owned thread_end and thread_rules and blank_page)

    abbrev pub spare_page : Decided (SparePage b (rec L) (frame M) p)
    spare_page = as_if (λ (o, m). record { owned = o; wiped = m }) (λ x. (x.owned, x.wiped)) (owned owned_end and blank_page)

    abbrev pub first_links : (a : ℕ) → Decided (FirstLinks b (rec L) (frame M) a p)
    first_links a =
        as_if (λ (o, (n, z)). record { only = o; names = λ i u. n i (omega arith) u; rest = λ k u v. z k v u })
        (λ x. (x.only, (λ k _ u. x.names k u, λ k u v. x.rest k v u)))
        (equal (rec L a first_page_word) p
        and of_words page_words (marks_of b M ps p) (marks_of_lem b M ps e p) (λ i v. i < most_tables → Names b (rec L) a i v)
        (λ i u. names_empty refl) (λ i v. where_so (less i most_tables) (λ _. names b L a i v))
        and of_words page_words (marks_of b M ps p) (marks_of_lem b M ps e p) (λ i v. most_tables ≤ i → v ≡ 0)
        (λ i u. refl) (λ i v. where_so (at_most most_tables i) (λ _. equal v 0)))

    abbrev pub second_links : (a : ℕ) → rec L p index_word < most_tables → Decided (SecondLinks b (rec L) (frame M) a p)
    second_links a h =
        let same = held_word b M ps e (rec L a first_page_word) (rec L p index_word) (omega arith) in
        as_if (λ (n, s). record { named = sym same ∙ n; slots = s }) (λ x. (same ∙ x.named, x.slots))
        (equal (held (marks_of b M ps (rec L a first_page_word)) (rec L p index_word)) (p + 1)
        and of_words page_words (marks_of b M ps p) (marks_of_lem b M ps e p) (SlotOk b (rec L) a (rec L p index_word))
        (λ j. empty) (slot b L a (rec L p index_word)))

    -- the first-level slot holds v
    abbrev pub reached_by : (a v : ℕ) → v ≡ frame M (b.secure + rec L a first_page_word) (index_of (rec L p mapping_word))
        → Decided (Reached b (rec L) (frame M) a p)
    reached_by a zero n = never (λ x. reached_full {d = p} n x refl)
    reached_by a (suc t) n =
        let same = held_word b M ps e t (slot_of (rec L p mapping_word)) (omega arith) in
        as_if (λ s. record { table = t; named = sym n ∙ omega arith; slot = sym same ∙ s })
        (λ x. let u : x.table ≡ t = omega (arith, x.named) in same ∙ rw u at x.slot)
        (equal (held (marks_of b M ps t) (slot_of (rec L p mapping_word))) (slot_word (b.secure + p) (rights_of (rec L p mapping_word))))

    abbrev pub reached : (a : ℕ) → Decided (Reached b (rec L) (frame M) a p)
    reached a =
        reached_by a (held (marks_of b M ps (rec L a first_page_word)) (index_of (rec L p mapping_word)))
        (held_word b M ps e (rec L a first_page_word) (index_of (rec L p mapping_word)) (omega arith))

    abbrev pub first_page : Decided (FirstPage b (rec L) (frame M) p)
    first_page =
        as_if (λ (o, n). record { owned = o; links = n }) (λ x. (x.owned, x.links))
        (owned owned_end and where_not (equal (rec L (rec L p owner_word) state_word) stopped) (λ _. first_links (rec L p owner_word)))

    abbrev pub second_page : Decided (SecondPage b (rec L) (frame M) p)
    second_page =
        as_if (λ (o, (i, n)). record { owned = o; index = i; links = n }) (λ x. (x.owned, (x.index, x.links)))
        (owned named_end
        and and_then (less (rec L p index_word) most_tables)
        (λ i. where_not (equal (rec L (rec L p owner_word) state_word) stopped) (λ _. second_links (rec L p owner_word) i)))

    abbrev pub data_page_lem : Decided (DataPage b (rec L) (frame M) p)
    data_page_lem =
        as_if (λ (o, (f, n)). record { owned = o; formed = f; links = n }) (λ x. (x.owned, (x.formed, x.links)))
        (owned named_end and passes (well_formed (rec L p mapping_word))
        and where_not (equal (rec L (rec L p owner_word) state_word) stopped) (λ _. reached (rec L p owner_word)))

    unfoldable pub page : (t : ℕ) → Decided (Page b (rec L) (frame M) p t)
    unfolding Page
    page zero = free_page
    page (suc zero) = space_page
    page (suc (suc zero)) = thread_page
    page (suc (suc (suc zero))) = first_page
    page (suc (suc (suc (suc zero)))) = second_page
    page (suc (suc (suc (suc (suc zero))))) = data_page_lem
    page (suc (suc (suc (suc (suc (suc zero)))))) = spare_page
    page (suc (suc (suc (suc (suc (suc (suc t))))))) = never (λ x. x)

  abbrev pub pages : Decided (Pages b (rec L) (frame M))
  pages = below (λ p. Page b (rec L) (frame M) p (rec L p type_word)) b.pages (λ p l. page p l (rec L p type_word))
