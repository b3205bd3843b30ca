-- The night of specs/Eleven.antt, computed. Assumes nothing.
use Prim.Native.Nat.{ℕ, ◌*◌, ◌≤◌}
use mathlib.Core.Path.{refl}
use mathlib.Core.List.{[], ◌∷◌}
use lib.ListN.{length, drop, replicate}
use Rattle.word.specs.Words.{words_of, bytes_of, put, put_words, same}
use Rattle.word.specs.Enables.{byte_of, bit_of, of_bytes, merged}
use Rattle.header.specs.Limits.{limit, limit_bytes, length_ok}
use Rattle.header.specs.Header.{kind_no, byte0_from, header_from, head_of}
use Rattle.message.specs.Faults.{pattern_ok, fault_of}
use Rattle.message.specs.Walk.{step_on, command_of, commands_from, ended, read, request_of}
use Rattle.message.specs.Address.{address_from}
use Rattle.message.specs.Request.{replies}
use Rattle.message.specs.Discovery.{discovery_bytes}
use Rattle.answer.specs.Answer.{status_no, answer_byte, answer_fault, seen_of, look_on, answers_from, judge, answered_words}
use Rattle.answer.specs.Answer.{answer_words}
use Rattle.memory.specs.Moves.{outside, fetches, stores_behind, stores, moves, after_moves, memory_after}
use Rattle.carrying.specs.Answers.{answer_of, answers, answer_to, words_to}
use Rattle.tags.specs.Rule.{expected, rule_of}
use Rattle.tags.specs.Record.{places, fresh_record, holds, words_at, request_at, written, one_more, mark_of}
use Rattle.tags.proofs.Laws.Record.{fresh-fits}
use Rattle.completer.specs.Verdict.{as_kept}
use Rattle.completer.specs.Serving.{answer_by}
use Rattle.initiator.specs.Outcome.{judged_by, ending_at, data_at}
use Rattle.initiator.specs.Asking.{plainly, asked_as, asks_as}
use Rattle.initiator.specs.Places.{sender_ok, has_room, place_in, mark_at, answered_at, waits_for, new_tag, with_one, marked}
use Rattle.initiator.specs.Places.{ending_of, without}
use Rattle.initiator.specs.Sender.{word_ok, next_after, started_at}
use Rattle.exchange.specs.Outcomes.{each, told}
use Rattle.initiator.specs.Sender.{accepted_at, offering, sending, offer_of, send_of, take_of}
use Rattle.exchange.specs.Terms.{Lendable, Sound}
use Rattle.exchange.specs.Example.{output, longer}
use Rattle.exchange.proofs.Checked.{long, least-sound}
use Rattle.exchange.proofs.Example.{output-long, longer-long}
use Rattle.exchange.proofs.Sharp.{times}
use Rattle.eleven.specs.Eleven.{summer, fourth, fifth, eleven, twelfth, figures, Eleven}
use Rattle.eleven.proofs.Checked.{LentIn, AllLent, AllLived?, lives-so}

pub summer-sound : Sound summer
summer-sound = least-sound (0x51 ∷ 0x52 ∷ 0x53 ∷ []) 0 fresh_record refl (fresh-fits fresh_record refl)

-- the buffers of a controller that comes up, full of this byte
pub fresh-long : (byte : ℕ)
    → (places * limit ≤ length (replicate (places * limit) byte))
    × (places * limit_bytes ≤ length (replicate (places * limit_bytes) byte))
fresh-long byte = (long (places * limit) byte, long (places * limit_bytes) byte)

-- what is lent in each life, from the eighth on, from the fourth on, and from the first on
night-lent : Lendable output → Lendable longer → AllLent eleven twelfth
night-lent o g =
    let last : LentIn twelfth = (o, (o, (o, (o, (o, (o, (o, (g, times 1)))))))) in
    let eighth : AllLent (drop 7 eleven) twelfth =
    (times 1, tt, (times 7, tt, ((o, (g, times 1)), tt, (times 5, tt, last)))) in
    let fourth : LentIn fourth = (o, (o, (g, times 2))) in
    let fifth : LentIn fifth = (o, (o, (g, times 2))) in
    let rest : AllLent (drop 3 eleven) twelfth = (fourth, tt, (fifth, tt, (times 7, tt, (times 1, tt, eighth)))) in
    (times 3, tt, (tt, tt, (times 1, fresh-long 7, rest)))

-- the night, computed once for its premises and its end
eleven-played : AllLived? summer eleven twelfth figures
unfolding words_of bytes_of put put_words same byte_of bit_of of_bytes merged kind_no byte0_from header_from head_of pattern_ok
    fault_of step_on address_from command_of commands_from replies ended length_ok read status_no answer_byte answer_fault seen_of
    look_on answers_from judge answered_words answer_words outside fetches stores_behind stores moves after_moves memory_after
    answer_of answers answer_to words_to request_of holds words_at request_at written one_more expected mark_of rule_of as_kept
    answer_by discovery_bytes judged_by ending_at data_at plainly asked_as asks_as sender_ok has_room place_in mark_at answered_at
    waits_for new_tag with_one marked ending_of without accepted_at offering sending offer_of send_of take_of each told
    word_ok next_after started_at
eleven-played = lives-so summer eleven twelfth figures summer-sound (night-lent output-long longer-long) refl

pub eleven-restarts : Eleven
eleven-restarts =
    let p = eleven-played in
    record { sound = summer-sound; allowed = p.before; last = p.last; seen = p.seen }
