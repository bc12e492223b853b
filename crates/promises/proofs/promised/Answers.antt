-- The promises hold. Assumes nothing.
use Rattle.promises.proofs.Refused.{refused_moves_nothing, list_carries_on, outcomes_stand_alone, eighteen_moves_nothing, empty_moves_nothing}
use Rattle.promises.proofs.Settled.{eighteen_exactly_when, boot_is_settled, acceptance_is_settled, batch_is_settled, batch_is_its_records, cut_in_two_is_the_same, fresh_gets_a_yes}
use Rattle.promises.proofs.Numbers.{numbers_are_the_documents}
use Rattle.promises.proofs.Firsts.{first_refusals}
use Rattle.promises.proofs.Jobs.Boot.{boot_is_for}
use Rattle.promises.proofs.Jobs.Made.{init_addr_space_is_for, init_thread_is_for, alloc_spare_is_for}
use Rattle.promises.proofs.Jobs.Tables.{init_table_is_for, spare_table_is_for}
use Rattle.promises.proofs.Jobs.Maps.{map_secure_is_for, map_insecure_is_for, map_data_is_for, unmap_data_is_for}
use Rattle.promises.proofs.Jobs.Ended.{finalise_is_for, stop_is_for, remove_is_for}
use Rattle.promises.proofs.Jobs.Plain.{get_phys_pages_is_for, enter_is_for, get_random_is_for, exit_is_for, fault_is_for}
use Rattle.promises.proofs.Jobs.Resume.{resume_is_for}
use Rattle.promises.proofs.Jobs.Free.{free_pages_is_for}
use Rattle.promises.proofs.Jobs.Interrupt.{interrupt_is_for}
use Rattle.promises.proofs.Jobs.Store.{store_is_for}
use Rattle.promises.proofs.Jobs.Silent.{done_says_no_more}
use Rattle.promises.proofs.Else.{nothing_else}
use Rattle.promises.proofs.Written.{nothing_else_written}
use Rattle.promises.proofs.Measured.{measurement_is_sha256}
use Rattle.promises.proofs.Tells.{message_tells_the_build, measurement_tells_the_build}
use Rattle.promises.proofs.Attested.{attest_is_hmac, verify_is_hmac, key_stays, attested_is_verified}
use Rattle.promises.proofs.Published.{shift_is_played, abc_is_published, jefe_is_published}
use Rattle.promises.proofs.Decided.{somebody_serves}
use Rattle.promises.proofs.Cheats.{nobody_refuses_all, nobody_has_a_single_reply, nobody_moves_nothing, nobody_plays_all_at_once, nobody_invents_counts, moving_nothing_keeps}
use Rattle.promises.proofs.Demands.{acceptance_demands}
use Rattle.promises.proofs.Entries.{entries_are_legal}
use Rattle.promises.proofs.Kept.{every_record_keeps, every_batch_keeps, outsiders_keep, history_keeps, fresh_is_accepted, boot_leaves_accepted, batch_leaves_accepted}
use Rattle.promises.proofs.Access.{load_touches_one_word, store_touches_one_word, access_tells_no_more, reached_alone, reached_alone_always}
use Rattle.promises.proofs.Shut.{monitor_frames_stay, monitor_frames_unread, others_pages_stay, remove_zeroes_alone}
use Rattle.promises.proofs.Images.{images_are_settled, images_eighteen_exactly_when, images_refuse_alone, progress_tells, blocks_are_laid_down, checks_are_seen, first_block_of_box_a}
use Rattle.promises.proofs.Maps.{maps_of_any_size, map_of_the_ledger}
use Rattle.promises.proofs.Older.{old_images_are_refused, old_ledgers_are_refused}
use Rattle.promises.proofs.Restored.{image_yes, first_bad_block, image_round_trip, acceptance_reads_secure_alone, restored_holds}
use Rattle.promises.proofs.promised.Goals as goal

pub returns : goal.returns
returns c =
    record {
      refused_moves_nothing = refused_moves_nothing;
      list_carries_on = list_carries_on;
      outcomes_stand_alone = outcomes_stand_alone;
      eighteen_moves_nothing = eighteen_moves_nothing;
      empty_moves_nothing = empty_moves_nothing;
      eighteen_exactly_when = eighteen_exactly_when;
      boot_is_settled = boot_is_settled;
      acceptance_is_settled = acceptance_is_settled;
      batch_is_settled = batch_is_settled;
      batch_is_its_records = batch_is_its_records;
      cut_in_two_is_the_same = cut_in_two_is_the_same;
      numbers_are_the_documents = numbers_are_the_documents;
      first_refusals = first_refusals;
      boot_is_for = boot_is_for;
      get_phys_pages_is_for = get_phys_pages_is_for;
      init_addr_space_is_for = init_addr_space_is_for;
      init_thread_is_for = init_thread_is_for;
      init_table_is_for = init_table_is_for;
      alloc_spare_is_for = alloc_spare_is_for;
      map_secure_is_for = map_secure_is_for;
      map_insecure_is_for = map_insecure_is_for;
      finalise_is_for = finalise_is_for;
      enter_is_for = enter_is_for;
      resume_is_for = resume_is_for;
      stop_is_for = stop_is_for;
      remove_is_for = remove_is_for;
      free_pages_is_for = free_pages_is_for;
      get_random_is_for = get_random_is_for;
      spare_table_is_for = spare_table_is_for;
      map_data_is_for = map_data_is_for;
      unmap_data_is_for = unmap_data_is_for;
      exit_is_for = exit_is_for;
      interrupt_is_for = interrupt_is_for;
      fault_is_for = fault_is_for;
      store_is_for = store_is_for;
      done_says_no_more = done_says_no_more;
      nothing_else = nothing_else;
      nothing_else_written = nothing_else_written;
      measurement_is_sha256 = measurement_is_sha256;
      message_tells_the_build = message_tells_the_build;
      measurement_tells_the_build = measurement_tells_the_build;
      attest_is_hmac = attest_is_hmac;
      verify_is_hmac = verify_is_hmac;
      key_stays = key_stays;
      attested_is_verified = attested_is_verified;
      shift_is_played = shift_is_played;
      abc_is_published = abc_is_published;
      jefe_is_published = jefe_is_published;
      fresh_gets_a_yes = fresh_gets_a_yes;
      somebody_serves = somebody_serves;
      nobody_refuses_all = nobody_refuses_all;
      nobody_has_a_single_reply = nobody_has_a_single_reply;
      nobody_moves_nothing = nobody_moves_nothing;
      nobody_plays_all_at_once = nobody_plays_all_at_once;
      nobody_invents_counts = nobody_invents_counts;
      moving_nothing_keeps = moving_nothing_keeps;
      acceptance_demands = acceptance_demands;
      entries_are_legal = entries_are_legal;
      every_record_keeps = every_record_keeps;
      every_batch_keeps = every_batch_keeps;
      outsiders_keep = outsiders_keep;
      history_keeps = history_keeps;
      fresh_is_accepted = fresh_is_accepted;
      boot_leaves_accepted = boot_leaves_accepted;
      batch_leaves_accepted = batch_leaves_accepted;
      load_touches_one_word = load_touches_one_word;
      store_touches_one_word = store_touches_one_word;
      access_tells_no_more = access_tells_no_more;
      reached_alone = reached_alone;
      reached_alone_always = reached_alone_always;
      monitor_frames_stay = monitor_frames_stay;
      monitor_frames_unread = monitor_frames_unread;
      others_pages_stay = others_pages_stay;
      remove_zeroes_alone = remove_zeroes_alone;
      images_are_settled = images_are_settled;
      images_eighteen_exactly_when = images_eighteen_exactly_when;
      images_refuse_alone = images_refuse_alone;
      progress_tells = progress_tells;
      blocks_are_laid_down = blocks_are_laid_down;
      checks_are_seen = checks_are_seen;
      first_block_of_box_a = first_block_of_box_a;
      image_yes = image_yes;
      first_bad_block = first_bad_block;
      image_round_trip = image_round_trip;
      acceptance_reads_secure_alone = acceptance_reads_secure_alone;
      restored = restored_holds;
      maps_of_any_size = maps_of_any_size;
      map_of_the_ledger = map_of_the_ledger;
      old_images_are_refused = old_images_are_refused;
      old_ledgers_are_refused = old_ledgers_are_refused;
    }
