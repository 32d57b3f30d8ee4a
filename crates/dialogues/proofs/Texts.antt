-- The known games as texts: the definitions give the printed lines, byte for byte. Assumes nothing.
use mathlib.Core.Path.{◌≡◌, refl}
use mathlib.Core.List.{map}
use Rattle.plain.specs.Lists.{any, all as all_of, filter, any_below, below, elem, before, from}
use Rattle.plain.specs.Search.{on_path, finishes, step as searchStep, steps, finished, until, states_of, stem_of, cycle_of, verdict}
use Rattle.plain.specs.Layers.{copy, layer_of, state_of, copies, copies_of, next}
use Rattle.plain.specs.Table.{bit, accepts, with_bit, with_mark, without_bit, without_mark, count_below, carried_by, accepting_count, row, printed as printedStates, printed_verdict, budget, final, first_meeting}
use Rattle.plain.specs.Refusals.{first_held, pairs, flat, same_edge, present, bad_size, bad_start, bad_marks, bad_count, outside, repeated, beyond, bad_kinds, full, short_room, load_trial}
use Rattle.plain.specs.Machine.{named, table_of, in_kind, without, apply, conditions, misnamed, change_trial, line_conditions, changes_in, apply_all, named_all, lines_trial, batch_trial, applied, named_by, update_trial, position_in, unexplored, passed_over, keeps_all, kept_part, kept, up_to_kind, to_kinds, kinds_trial, load_answer, trial_of, call_answer, answer_to, table_after, answer_line}
use Rattle.plain.specs.Shortest.{leads, reached, roots, noted, sweep, targets_of, levels, attempt, hunt}
use Rattle.plain.specs.Questions.{out_degree, in_degree, question_trial, hunt_in, lengths_for, short_reply, question_reply, reply_to, reply_line}
use Rattle.line.specs.Fields.{bytes, tab, newline, on_first, parted, lines_of, fields_of}
use Rattle.line.specs.Numbers.{all, is_digit, value_from, value, leading_zero, is_number}
use Rattle.line.specs.Words.{is_word}
use Rattle.line.specs.Records.{same_bytes, words, word_in, word_of, is_kind, fields_fit, worded, from_fields, record_of}
use Rattle.answer.specs.Rendering.{digits_in, decimal, field_of, fields_of as printedFields, line_of, render}
use Rattle.watch.specs.Text.{at_first, before_go, behind_game, request_of, after_go, in_batch, step, printed, whole_lines, counted, output_of, output}
use Rattle.dialogues.specs.Texts.{Dialogue, dialogue, games}

-- one sentence for all games
pub games_printed : map (λ (x : Dialogue). output (bytes x.sent)) games ≡ map (λ (x : Dialogue). map bytes x.written) games
unfolding any all_of filter any_below below elem before from on_path finishes searchStep steps finished until states_of stem_of cycle_of verdict bit accepts with_bit with_mark without_bit without_mark count_below copy layer_of state_of copies copies_of next carried_by accepting_count row printedStates printed_verdict budget final first_meeting first_held pairs same_edge present bad_size bad_start bad_marks bad_count outside repeated beyond bad_kinds full short_room load_trial named table_of in_kind without apply conditions misnamed change_trial line_conditions changes_in apply_all named_all lines_trial batch_trial applied named_by update_trial position_in unexplored passed_over keeps_all kept_part kept up_to_kind to_kinds kinds_trial load_answer trial_of call_answer answer_to table_after answer_line leads reached roots noted sweep targets_of levels attempt hunt out_degree in_degree question_trial hunt_in lengths_for short_reply question_reply reply_to reply_line bytes tab newline on_first parted lines_of fields_of all is_digit value_from value leading_zero is_number is_word same_bytes words word_in word_of is_kind fields_fit worded from_fields record_of digits_in decimal field_of printedFields line_of render flat at_first before_go behind_game request_of after_go in_batch step printed whole_lines counted output_of output dialogue games
games_printed = refl
