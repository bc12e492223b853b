-- All that is promised, by demand. Assumes nothing.
use Rattle.promises.specs.Refused.{RefusedMovesNothing, ListCarriesOn, OutcomesStandAlone, EighteenMovesNothing, EmptyMovesNothing}
use Rattle.promises.specs.Settled.{EighteenExactlyWhen, BootIsSettled, AcceptanceIsSettled, BatchIsSettled, BatchIsItsRecords, CutInTwoIsTheSame, FreshGetsAYes}
use Rattle.promises.specs.Numbers.{NumbersAreTheDocuments}
use Rattle.promises.specs.Firsts.{FirstRefusals}
use Rattle.promises.specs.Jobs.{BootIsFor, GetPhysPagesIsFor, InitAddrSpaceIsFor, InitThreadIsFor, InitTableIsFor, AllocSpareIsFor, MapSecureIsFor, MapInsecureIsFor, FinaliseIsFor, EnterIsFor, ResumeIsFor, StopIsFor, RemoveIsFor, FreePagesIsFor, GetRandomIsFor, SpareTableIsFor, MapDataIsFor, UnmapDataIsFor, ExitIsFor, InterruptIsFor, FaultIsFor, StoreIsFor, DoneSaysNoMore}
use Rattle.promises.specs.Else.{NothingElse}
use Rattle.promises.specs.Written.{NothingElseWritten}
use Rattle.promises.specs.Measured.{MeasurementIsSha256}
use Rattle.promises.specs.Tells.{MessageTellsTheBuild, MeasurementTellsTheBuild}
use Rattle.promises.specs.Attested.{AttestIsHmac, VerifyIsHmac, KeyStays, AttestedIsVerified}
use Rattle.promises.specs.Published.{ShiftIsPlayed, AbcIsPublished, JefeIsPublished}
use Rattle.promises.specs.Cheats.{SomebodyServes, NobodyRefusesAll, NobodyHasASingleReply, NobodyMovesNothing, NobodyPlaysAllAtOnce, NobodyInventsCounts, MovingNothingKeeps}
use Rattle.promises.specs.Demands.{AcceptanceDemands}
use Rattle.promises.specs.Entries.{EntriesAreLegal}
use Rattle.promises.specs.Kept.{EveryRecordKeeps, EveryBatchKeeps, OutsidersKeep, HistoryKeeps, FreshIsAccepted, BootLeavesAccepted, BatchLeavesAccepted}
use Rattle.promises.specs.Access.{LoadTouchesOneWord, StoreTouchesOneWord, AccessTellsNoMore, ReachedAlone, ReachedAloneAlways}
use Rattle.promises.specs.Images.{ImagesAreSettled, ImagesEighteenExactlyWhen, ImagesRefuseAlone, ProgressTells, BlocksAreLaidDown, ChecksAreSeen, FirstBlockOfBoxA}
use Rattle.promises.specs.Restored.{ImageYes, FirstBadBlock, ImageRoundTrip, AcceptanceReadsSecureAlone, Restored}
use Rattle.promises.specs.Maps.{MapsOfAnySize, MapOfTheLedger}
use Rattle.promises.specs.Older.{OldImagesAreRefused, OldLedgersAreRefused}
use Rattle.promises.specs.Shut.{MonitorFramesStay, MonitorFramesUnread, OthersPagesStay, RemoveZeroesAlone}

pub record Promises : Type 0 where
  -- demand 1
  pub refused_moves_nothing : RefusedMovesNothing
  pub list_carries_on : ListCarriesOn
  pub outcomes_stand_alone : OutcomesStandAlone
  pub eighteen_moves_nothing : EighteenMovesNothing
  pub empty_moves_nothing : EmptyMovesNothing
  -- demand 2: nothing is left open
  pub eighteen_exactly_when : EighteenExactlyWhen
  pub boot_is_settled : BootIsSettled
  pub acceptance_is_settled : AcceptanceIsSettled
  pub batch_is_settled : BatchIsSettled
  pub batch_is_its_records : BatchIsItsRecords
  pub cut_in_two_is_the_same : CutInTwoIsTheSame
  pub numbers_are_the_documents : NumbersAreTheDocuments
  -- .. the first refusal that applies, and what each call is for
  pub first_refusals : FirstRefusals
  pub boot_is_for : BootIsFor
  pub get_phys_pages_is_for : GetPhysPagesIsFor
  pub init_addr_space_is_for : InitAddrSpaceIsFor
  pub init_thread_is_for : InitThreadIsFor
  pub init_table_is_for : InitTableIsFor
  pub alloc_spare_is_for : AllocSpareIsFor
  pub map_secure_is_for : MapSecureIsFor
  pub map_insecure_is_for : MapInsecureIsFor
  pub finalise_is_for : FinaliseIsFor
  pub enter_is_for : EnterIsFor
  pub resume_is_for : ResumeIsFor
  pub stop_is_for : StopIsFor
  pub remove_is_for : RemoveIsFor
  pub free_pages_is_for : FreePagesIsFor
  pub get_random_is_for : GetRandomIsFor
  pub spare_table_is_for : SpareTableIsFor
  pub map_data_is_for : MapDataIsFor
  pub unmap_data_is_for : UnmapDataIsFor
  pub exit_is_for : ExitIsFor
  pub interrupt_is_for : InterruptIsFor
  pub fault_is_for : FaultIsFor
  pub store_is_for : StoreIsFor
  pub done_says_no_more : DoneSaysNoMore
  pub nothing_else : NothingElse
  pub nothing_else_written : NothingElseWritten
  -- .. measurements and attestations
  pub measurement_is_sha256 : MeasurementIsSha256
  pub message_tells_the_build : MessageTellsTheBuild
  pub measurement_tells_the_build : MeasurementTellsTheBuild
  pub attest_is_hmac : AttestIsHmac
  pub verify_is_hmac : VerifyIsHmac
  pub key_stays : KeyStays
  pub attested_is_verified : AttestedIsVerified
  -- .. worked cases, and cheats
  pub shift_is_played : ShiftIsPlayed
  pub abc_is_published : AbcIsPublished
  pub jefe_is_published : JefeIsPublished
  pub fresh_gets_a_yes : FreshGetsAYes
  pub somebody_serves : SomebodyServes
  pub nobody_refuses_all : NobodyRefusesAll
  pub nobody_has_a_single_reply : NobodyHasASingleReply
  pub nobody_moves_nothing : NobodyMovesNothing
  pub nobody_plays_all_at_once : NobodyPlaysAllAtOnce
  pub nobody_invents_counts : NobodyInventsCounts
  pub moving_nothing_keeps : MovingNothingKeeps
  -- demand 3: acceptance, and that it is kept
  pub acceptance_demands : AcceptanceDemands
  pub entries_are_legal : EntriesAreLegal
  pub every_record_keeps : EveryRecordKeeps
  pub every_batch_keeps : EveryBatchKeeps
  pub outsiders_keep : OutsidersKeep
  pub history_keeps : HistoryKeeps
  pub fresh_is_accepted : FreshIsAccepted
  pub boot_leaves_accepted : BootLeavesAccepted
  pub batch_leaves_accepted : BatchLeavesAccepted
  -- .. what an enclave reaches, and what nobody does
  pub load_touches_one_word : LoadTouchesOneWord
  pub store_touches_one_word : StoreTouchesOneWord
  pub access_tells_no_more : AccessTellsNoMore
  pub reached_alone : ReachedAlone
  pub reached_alone_always : ReachedAloneAlways
  pub monitor_frames_stay : MonitorFramesStay
  pub monitor_frames_unread : MonitorFramesUnread
  pub others_pages_stay : OthersPagesStay
  pub remove_zeroes_alone : RemoveZeroesAlone
  -- #106: saved images
  pub images_are_settled : ImagesAreSettled
  pub images_eighteen_exactly_when : ImagesEighteenExactlyWhen
  pub images_refuse_alone : ImagesRefuseAlone
  pub progress_tells : ProgressTells
  pub blocks_are_laid_down : BlocksAreLaidDown
  pub checks_are_seen : ChecksAreSeen
  pub first_block_of_box_a : FirstBlockOfBoxA
  pub image_yes : ImageYes
  pub first_bad_block : FirstBadBlock
  pub image_round_trip : ImageRoundTrip
  pub acceptance_reads_secure_alone : AcceptanceReadsSecureAlone
  pub restored : Restored
  -- #109: bigger boxes
  pub maps_of_any_size : MapsOfAnySize
  pub map_of_the_ledger : MapOfTheLedger
  pub old_images_are_refused : OldImagesAreRefused
  pub old_ledgers_are_refused : OldLedgersAreRefused
