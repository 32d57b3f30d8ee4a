-- The definitions give the results of the known games. Checked before all other proofs, by its name: a definition that answers a game otherwise is refused
-- here first. Assumes nothing.
use mathlib.Core.Path.{◌≡◌, refl, ap₂}
use mathlib.Core.List.{List, [], ◌∷◌, map}
use Rattle.plain.specs.Lists.{any, all, filter, any_below, below, elem, before, from}
use Rattle.plain.specs.Search.{on_path, finishes, step, steps, finished, until, states_of, stem_of, cycle_of, verdict}
use Rattle.plain.specs.Layers.{copy, layer_of, state_of, copies, copies_of, next}
use Rattle.plain.specs.Table.{game_of, bit, accepts, with_bit, with_mark, without_bit, without_mark, count_below, carried_by, accepting_count, row, printed, printed_verdict, budget, final, first_meeting}
use Rattle.plain.specs.Refusals.{first_held, pairs, same_edge, present, bad_size, bad_start, bad_marks, bad_count, outside, repeated, beyond, bad_kinds, full, short_room, load_trial}
use Rattle.plain.specs.Machine.{named, table_of, in_kind, without, apply, conditions, misnamed, change_trial, line_conditions, changes_in, apply_all, named_all, lines_trial, batch_trial, applied, named_by, update_trial, position_in, unexplored, passed_over, keeps_all, kept_part, kept, up_to_kind, to_kinds, kinds_trial, load_answer, trial_of, call_answer, answer_to, table_after, answers, answer_line, answer_lines, Line, game_line, none_line, transcript}
use Rattle.plain.specs.Shortest.{leads, reached, roots, noted, sweep, targets_of, levels, attempt, hunt}
use Rattle.plain.specs.Rounds.{reaches, returns, passes_kind, lies_on_round, on_rounds}
use Rattle.plain.specs.Questions.{short, question_trial, hunt_in, lengths_for, short_reply, question_reply, reply_to}
use Rattle.plain.specs.Games.{Known, word_of, marks_of, known_in, known_by, known, lent, game_h, returning, switching, games, Asked, asked_in, asked, short_games, Listing, listing_in, listing, listings}

-- the lines printed for a game
abbrev lines_of : Known → List Line
lines_of k = transcript k.load 512 (map lent k.commands)

-- of each game they are the known ones
abbrev AsKnown : List Known → Type 0
AsKnown [] = Unit {0}
AsKnown (k ∷ ks) = (lines_of k ≡ k.lines) × AsKnown ks

-- Two paying states, one behind the other. The second inner search passes over what the first has marked: twice as many looks as moves, and no more.
two_payers : Known
two_payers = known 4 (0 ∷ 1 ∷ []) (0 ∷ 1 ∷ 1 ∷ 2 ∷ []) [] (game_line 4 2 2 ∷ none_line 4 0 ∷ [])

-- that one, and the known ones
as_known : AsKnown (two_payers ∷ games)
unfolding any all filter any_below elem before from on_path finishes step steps finished until states_of stem_of cycle_of verdict bit accepts with_bit with_mark without_bit without_mark count_below copy layer_of state_of copies copies_of next carried_by accepting_count row printed printed_verdict budget final first_meeting first_held pairs same_edge present bad_size bad_start bad_marks bad_count outside repeated beyond bad_kinds full short_room load_trial named table_of in_kind without apply conditions misnamed change_trial line_conditions changes_in apply_all named_all lines_trial batch_trial applied named_by update_trial position_in unexplored passed_over keeps_all kept_part kept up_to_kind to_kinds kinds_trial load_answer trial_of call_answer answer_to table_after answers answer_line answer_lines transcript word_of marks_of known_in known_by known lent game_h returning switching games two_payers
as_known = (refl, (refl, (refl, (refl, (refl, (refl, (refl, (refl, (refl, (refl, (refl, (refl, (refl, (refl, (refl, (refl, (refl, (refl, (refl, (refl, (refl, (refl, (refl, (refl, (refl, (refl, tt))))))))))))))))))))))))))

all_of : (ks : List Known) → AsKnown ks → map lines_of ks ≡ map (λ (k : Known). k.lines) ks
all_of [] h = refl
all_of (k ∷ ks) h = ap₂ (λ (ls : List Line) (lss : List (List Line)). ls ∷ lss) h.0 (all_of ks h.1)

pub all_games : map (λ (k : Known). transcript k.load 512 (map lent k.commands)) games ≡ map (λ (k : Known). k.lines) games
all_games = all_of games as_known.1

-- ticket 11: the replies of the games for which the shortest round is asked
pub short_games_lem : map (λ (a : Asked). map (λ b. reply_to (short b) (table_of a.load)) a.budgets) short_games ≡ map (λ (a : Asked). a.replies) short_games
unfolding any filter below elem before from on_path step steps states_of stem_of cycle_of verdict bit accepts copy layer_of state_of next carried_by row budget final first_held pairs leads reached roots noted sweep targets_of levels attempt hunt question_trial hunt_in lengths_for short_reply question_reply reply_to table_of word_of marks_of asked_in asked short_games
short_games_lem = refl

-- ticket 12: every state on a round, of each game
pub listed_games : map (λ (l : Listing). on_rounds (game_of (table_of l.load))) listings ≡ map (λ (l : Listing). l.states) listings
unfolding any all filter below bit accepts carried_by row pairs table_of leads reached reaches returns passes_kind lies_on_round on_rounds word_of marks_of listing_in listing listings
listed_games = refl
