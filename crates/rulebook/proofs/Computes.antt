-- Every definition that a step computes through, opened by one name. Assumes nothing.
use Rattle.words.specs.Tests.{non, ◌and◌, ◌or◌, ◌⇒◌, all_below, some_below, least_below, sum_below, one_if}
use Rattle.copies.specs.Tables.{short_copies, tokens, next}
use Rattle.copies.specs.Whole.{in_bounds, W1_bounds, W1_copy, W1_sent, W1_release, W1_received, W1_station, W1_series, W1_marks, W2_tokens, W2_values, W2_open, W2_series, W3_at_most, W3_only, W3_station, W3_series, W5_release, W5_kept, W5_received, W5_closed, W5_series}
use Rattle.copies.specs.Steps.{opened, raised, released, sent_off, demoted, shared, dropped, promoted, arrived, deleted, marked, is_spent, is_repeat, matches, no_grant, no_ack}
use Rattle.copies.proofs.Walked.{walked}
use Rattle.jobs.specs.Job.{locks_series, lock_place, is_full, new_place, begun, with_lock, with_draw}
use Rattle.jobs.specs.Slots.{short_jobs, free, close_first, closed_at, count_at}
use Rattle.jobs.specs.Draws.{draws_on, draws_of, committed, shown}
use Rattle.jobs.specs.Whole.{W1_lock, W1_job, W4_exclusive, W4_share, W4_differs, W4_lock, W4_locks, meets, W4_alone, W4_job, W5_lock, W5_job, W1_jobs, W4_jobs, W5_jobs}
use Rattle.rulebook.specs.Tables.{short_tables}
use Rattle.rulebook.specs.Refusals.{SHORT, BAD_EVENT, TAKEN, NONE, DOWN, UP, HELD, FULL, COPY, LOCKED, NO_LOCK, DRAWN, RANGE, WAIT, SPENT, OTHERS, NO_MESSAGE}
use Rattle.rulebook.specs.Steps.{do_open, do_begin, do_lockx, do_locks, do_draw, do_read, do_commit, do_abort, do_send, do_demote, do_share, do_drop, do_promote, do_grant, do_ack, do_crash, do_restart, accepted, judged}
use Rattle.rulebook.specs.Whole.{W4}
use Rattle.rulebook.specs.Run.{run_by, from_empty}
use Rattle.rulebook.proofs.Walked.{W1_walked, W2_walked, W3_walked, W5_walked, whole_walked, effect_walked}

unfoldable pub computes : Unit {0}
unfolding non ◌and◌ ◌or◌ ◌⇒◌ all_below some_below least_below sum_below one_if short_copies tokens next in_bounds W1_bounds W1_copy W1_sent W1_release W1_received W1_station W1_series W1_marks W2_tokens W2_values W2_open W2_series W3_at_most W3_only W3_station W3_series W5_release W5_kept W5_received W5_closed W5_series opened raised released sent_off demoted shared dropped promoted arrived deleted marked is_spent is_repeat matches no_grant no_ack walked locks_series lock_place is_full new_place begun with_lock with_draw short_jobs free close_first closed_at count_at draws_on draws_of committed shown W1_lock W1_job W4_exclusive W4_share W4_differs W4_lock W4_locks meets W4_alone W4_job W5_lock W5_job W1_jobs W4_jobs W5_jobs short_tables SHORT BAD_EVENT TAKEN NONE DOWN UP HELD FULL COPY LOCKED NO_LOCK DRAWN RANGE WAIT SPENT OTHERS NO_MESSAGE do_open do_begin do_lockx do_locks do_draw do_read do_commit do_abort do_send do_demote do_share do_drop do_promote do_grant do_ack do_crash do_restart accepted judged W4 W1_walked W2_walked W3_walked W5_walked whole_walked effect_walked run_by from_empty
computes = tt
