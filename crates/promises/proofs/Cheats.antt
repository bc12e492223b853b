-- Each cheat is caught on box A as Boot leaves it. Assumes nothing.
use Prim.Native.Nat.{ℕ, suc, ◌+◌, ◌*◌, ◌/◌, ◌<◌}
use mathlib.Core.Path.{◌≡◌, refl, sym, ap, ◌∙◌}
use mathlib.Core.List.{List, ◌∷◌, ◌++◌}
use native.Mathlib.Omega.{arith}
use lib.ListN.{length, get_or, take, drop, replicate, length-replicate}
use lib.Seq.{get_or-take}
use Rattle.words.specs.Words.{record_words, bit, least_below, padded, bit_off, sum_below, or, list_below, all_zero}
use Rattle.machine.specs.declared.Machine.{Machine}
use Rattle.machine.specs.Machine.{map_start}
use Rattle.sha256.specs.Sha256.{H0}
use Rattle.ledger.specs.Names.{count_word, blocks_word}
use Rattle.ledger.specs.Ledger.{header, rec, map_bit, put, puts, anew, map_off, occupy}
use Rattle.answer.specs.Answer.{Out, unless}
use Rattle.answer.proofs.Laws.{by_code}
use Rattle.accept.specs.Accept.{free_flag, map_word, Accepted}
use Rattle.building.specs.Calls.{init_addr_space_code, new_space, init_addr_space}
use Rattle.system.specs.Calls.{free_pages, free_count, lowest_free}
use Rattle.records.specs.Records.{turn_code, form_code}
use Rattle.calls.specs.Table.{lookup, calls}
use Rattle.batch.specs.Batch.{obey, after, batch}
use Rattle.batch.specs.Service.{most_records, BatchFits, Batched}
use Rattle.batch.proofs.Cut.{batch_take, cut}
use Rattle.boot.specs.Boot.{fresh_map, fresh_ledger, fresh_memory}
use Rattle.box_a.specs.Shift.{box_a, row1, row2, row3, row4, row5, row6, row7, row8, shift, asked, answered, played}
use Rattle.box_a.proofs.Fresh.{accepted_a}
use Rattle.promises.specs.Cheats.{Left, Service, Satisfies, Always, RefusesAll, NobodyRefusesAll, HasASingleReply, NobodyHasASingleReply, MovesNothing, NobodyMovesNothing, PlaysAllAtOnce, NobodyPlaysAllAtOnce, Counts, NobodyInventsCounts, MovingNothingKeeps}
use Rattle.promises.proofs.Settled.{answered_first}
use Rattle.promises.proofs.Published.{shift_is_played}

-- what a batch that is done leaves
abbrev left : Out → Left
left o = record { says = 0; mem = o.mem; led = o.led; answers = o.ans }

-- a service that satisfies the relation leaves that
leaves : (S : Service) → Satisfies S → (b : Machine) (M L W A : List ℕ) → BatchFits b M L W A
    → S b M L W A ≡ left (batch b (length W / record_words) M L W)
leaves S sat b M L W A fits = go (S b M L W A) (sat b M L W A)
  where
    go : (o : Left) → Batched b M L W A o.says o.mem o.led o.answers → o ≡ left (batch b (length W / record_words) M L W)
    go o (Batched.done f e p) = ap (λ (r : ℕ). record { says = r; mem = o.mem; led = o.led; answers = o.answers }) e ∙ ap left p
    go o (Batched.not_fitting n e m l a) = absurd (n fits)

-- ---- the first fifteen cases of the shift
shift_words : length (take (record_words * 15) (asked shift)) ≡ record_words * 15
unfolding padded shift asked row1 row2 row3 row4 row5 row6 row7 row8
shift_words = refl

shift_cases : length shift ≡ 15 + 22
unfolding shift row1 row2 row3 row4 row5 row6 row7 row8
shift_cases = refl

counted : (S : Service) → Satisfies S → (M L A : List ℕ) → Accepted box_a M L → length A ≡ record_words * 15
    → Counts (left (batch box_a 15 M L (asked shift))) → Counts (S box_a M L (take (record_words * 15) (asked shift)) A)
counted S sat M L A ok size counts =
    let W = take (record_words * 15) (asked shift) in
    let fits : BatchFits box_a M L W A
    = record { whole = rw shift_words refl; most = omega (arith, shift_words); answers = size ∙ sym shift_words; accepted = ok } in
    let x : S box_a M L W A ≡ left (batch box_a 15 M L (asked shift))
    = leaves S sat box_a M L W A fits ∙ rw shift_words (ap left (batch_take box_a 15 M L (asked shift))) in
    rw x counts

-- the fifteenth, FreePages, leaves the ledger; and it is answered 3 and 5
fifteenth : take record_words (drop (record_words * 14) (asked shift)) ≡ 13 ∷ replicate 31 0
unfolding padded shift asked row1 row2 row3 row4 row5 row6 row7 row8
fifteenth = refl

free_pages_leave : (b : Machine) (M L : List ℕ) → (obey b M L (13 ∷ replicate 31 0)).led ≡ L
unfolding obey lookup calls free_pages
free_pages_leave b M L = by_code M L (λ o. o.led ≡ L) (λ _ _. refl) (form_code L 13 0 (13 ∷ replicate 31 0)) (free_pages b M L) (λ _. refl)

same_ledger : (M L : List ℕ) → (batch box_a 15 M L (asked shift)).led ≡ (batch box_a 14 M L (asked shift)).led
unfolding batch after
same_ledger M L =
    let x = batch box_a 14 M L (asked shift) in
    ap (λ (o : Out). o.led) (cut box_a 14 1 M L (asked shift))
    ∙ ap (λ (W : List ℕ). (obey box_a x.mem x.led W).led) fifteenth
    ∙ free_pages_leave box_a x.mem x.led

said : (get_or (answered shift) (record_words * 14 + 1) 0 ≡ 3) × (get_or (answered shift) (record_words * 14 + 2) 0 ≡ 5)
unfolding padded shift answered row1 row2 row3 row4 row5 row6 row7 row8
said = (refl, refl)

-- ---- asked of box A as Boot leaves it, with a key of zeros: a record of zeros, the space of pages 0 and 1, and FreePages before that
M₀ : List ℕ
M₀ = fresh_memory box_a (replicate 16384 0)

L₀ : List ℕ
L₀ = fresh_ledger box_a (replicate 8 0)

abbrev zeros : List ℕ
zeros = replicate 32 0

abbrev newly : List ℕ
newly = 2 ∷ 0 ∷ 1 ∷ replicate 29 0

abbrev count : List ℕ
count = 13 ∷ replicate 31 0

abbrev one : List ℕ → Out
one W = batch box_a 1 M₀ L₀ W

abbrev two : Out
two = batch box_a 2 M₀ L₀ (count ++ newly)

record Played : Type 0 where
  zeros_refused : get_or (take record_words (one zeros).ans) 0 0 ≡ 19
  newly_done : get_or (take record_words (one newly).ans) 0 0 ≡ 0
  count_still : ((obey box_a M₀ L₀ count).mem ≡ M₀) × ((obey box_a M₀ L₀ count).led ≡ L₀)
  count_before : get_or (take record_words two.ans) 1 0 ≡ 8
  count_after : get_or (padded (obey box_a two.mem two.led count).ans) 1 0 ≡ 6
  newly_there : rec (one newly).led 0 0 ≡ 1
  newly_before : rec L₀ 0 0 ≡ 0

runs : Played
unfolding batch after obey lookup calls form_code turn_code all_zero or unless free_pages free_count lowest_free map_bit least_below init_addr_space init_addr_space_code new_space occupy map_off anew puts put padded rec header bit_off bit H0 fresh_ledger list_below fresh_map map_word free_flag sum_below L₀
runs =
    record {
      zeros_refused = refl;
      newly_done = refl;
      count_still = (refl, refl);
      count_before = refl;
      count_after = refl;
      newly_there = refl;
      newly_before = refl;
    }

-- what a cheat does, it does there
module _ (P : Machine → List ℕ → List ℕ → List ℕ → Left → Type 0) (S : Service) (sat : Satisfies S) (always : Always P S) where
  caught : (k : ℕ) → k < most_records → (W : List ℕ) → length W ≡ record_words * suc k → P box_a M₀ L₀ W (left (batch box_a (suc k) M₀ L₀ W))
  unfolding M₀ L₀
  caught k few W e =
      let A : List ℕ = replicate (record_words * suc k) 0 in
      let n : length W / record_words ≡ suc k = omega arith in
      let fits : BatchFits box_a M₀ L₀ W A
      = record {
        whole = omega arith;
        most = omega arith;
        answers = length-replicate {A = ℕ} (record_words * suc k) 0 ∙ sym e;
        accepted = accepted_a (replicate 8 0) 0 refl;
      } in
      let x : S box_a M₀ L₀ W A ≡ left (batch box_a (suc k) M₀ L₀ W) = leaves S sat box_a M₀ L₀ W A fits ∙ rw n refl in
      rw x at (always box_a M₀ L₀ W A k e (ap (λ (o : Left). o.says) x))

pub nobody_refuses_all : NobodyRefusesAll
nobody_refuses_all S sat always =
    (caught RefusesAll S sat always 0 (omega arith) newly refl).never_done
    (sym (get_or-take record_words (one newly).ans 0 0 (omega arith)) ∙ runs.newly_done)

pub nobody_has_a_single_reply : NobodyHasASingleReply
nobody_has_a_single_reply R S sat always =
    let reply = caught (HasASingleReply R) S sat always in
    let same = ap (λ (l : List ℕ). get_or l 0 0) ((reply 0 (omega arith) newly refl).one_reply ∙ sym (reply 0 (omega arith) zeros refl).one_reply) in
    omega (arith, runs.newly_done, runs.zeros_refused)

pub nobody_moves_nothing : NobodyMovesNothing
nobody_moves_nothing S sat always =
    let same = (caught MovesNothing S sat always 0 (omega arith) newly refl).same_ledger in
    omega (arith, ap (λ (l : List ℕ). rec l 0 0) same, runs.newly_there, runs.newly_before)

pub nobody_plays_all_at_once : NobodyPlaysAllAtOnce
nobody_plays_all_at_once S sat always =
    let same = (caught PlaysAllAtOnce S sat always 1 (omega arith) (count ++ newly) refl).from_the_end runs.count_still.0 runs.count_still.1 in
    omega (arith, ap (λ (l : List ℕ). get_or l 1 0) same, runs.count_before, runs.count_after)

pub nobody_invents_counts : NobodyInventsCounts
unfolding played
nobody_invents_counts S sat key A v e size =
    let M = fresh_memory box_a (replicate 16384 v) in
    let L = fresh_ledger box_a key in
    let t = shift_is_played key v e in
    let all : (i : ℕ) → i < record_words * 15 → get_or (batch box_a 15 M L (asked shift)).ans i 0 ≡ get_or (answered shift) i 0
    = λ i l. answered_first box_a 15 22 M L (asked shift) i l ∙ ap (λ (l : List ℕ). get_or l i 0) (rw shift_cases at t.answers) in
    counted S sat M L A (accepted_a key v e) size
    (record {
      owned = ap (λ (l : List ℕ). rec l 0 count_word) (same_ledger M L) ∙ t.owned;
      blocks = ap (λ (l : List ℕ). rec l 0 blocks_word) (same_ledger M L) ∙ t.blocks;
      free_word = ap (λ (l : List ℕ). header l map_start) (same_ledger M L) ∙ t.free_word;
      free_pages = all (record_words * 14 + 1) (omega arith) ∙ said.0;
      lowest_page = all (record_words * 14 + 2) (omega arith) ∙ said.1;
    })

pub moving_nothing_keeps : MovingNothingKeeps
moving_nothing_keeps S still b M L W A ok = let x = still b M L W A in rw (x.0, x.1) ok
