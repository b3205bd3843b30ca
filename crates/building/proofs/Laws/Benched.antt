-- Building in figures: computed. Assumes nothing.
use mathlib.Core.Path.{refl}
use Rattle.word.specs.Words.{bytes_of, put, put_words}
use Rattle.header.specs.Header.{kind_no, byte0_from, header_from}
use Rattle.message.specs.Faults.{pattern_ok}
use Rattle.message.specs.Address.{address_in}
use Rattle.message.specs.Request.{command_words, All}
use Rattle.building.specs.Record.{start_ok, byte0_by, fresh_ok, nops_ok, writes_ok, reads_ok, some_ok, reachable}
use Rattle.building.specs.Asked.{command_by, count_fits, fields_ok, narrow_ok, size_by, reply_by, room_fits, command_fault}
use Rattle.building.specs.Build.{opened, begun, add_fault, close_fault, grown, shut, last_set, added, added_to, closed, closed_to}
use Rattle.building.specs.Examples.{begins, adds, closings, NumbersHold}
use Rattle.building.specs.BenchSheet.{bench_out, bench_sheet, refused_begins, messages, BenchHolds}

pub benched : BenchHolds
unfolding bytes_of put put_words kind_no byte0_from header_from pattern_ok address_in command_words All start_ok byte0_by fresh_ok nops_ok writes_ok reads_ok some_ok reachable command_by count_fits fields_ok narrow_ok size_by reply_by room_fits command_fault opened begun add_fault close_fault grown shut last_set added added_to closed closed_to bench_out bench_sheet refused_begins messages
benched =
    record {
      sheet = (record { refused = refl; words = refl }, (record { refused = refl; words = refl }, (record { refused = refl; words = refl }, (record { refused = refl; words = refl }, tt))));
      refused = (record { begin = refl; add = refl; close = refl }, (record { begin = refl; add = refl; close = refl }, (record { begin = refl; add = refl; close = refl }, tt)));
      messages = (record { closes = refl; bytes = refl }, (record { closes = refl; bytes = refl }, (record { closes = refl; bytes = refl }, (record { closes = refl; bytes = refl }, (record { closes = refl; bytes = refl }, (record { closes = refl; bytes = refl }, tt))))));
    }

pub numbered : NumbersHold
unfolding kind_no byte0_from pattern_ok All start_ok byte0_by fresh_ok nops_ok writes_ok reads_ok some_ok reachable count_fits fields_ok narrow_ok size_by reply_by room_fits command_fault opened begun add_fault close_fault begins adds closings
numbered =
    record {
      begins = (refl, (refl, (refl, (refl, (refl, (refl, (refl, (refl, (refl, (refl, tt))))))))));
      adds = (refl, (refl, (refl, (refl, (refl, (refl, (refl, (refl, (refl, (refl, (refl, (refl, (refl, (refl, (refl, (refl, (refl, (refl, (refl, (refl, (refl, (refl, (refl, (refl, (refl, (refl, (refl, (refl, (refl, (refl, (refl, (refl, (refl, (refl, (refl, (refl, (refl, (refl, (refl, (refl, (refl, (refl, (refl, (refl, (refl, (refl, (refl, (refl, (refl, (refl, (refl, (refl, (refl, (refl, (refl, (refl, (refl, (refl, (refl, (refl, (refl, (refl, (refl, (refl, (refl, (refl, (refl, (refl, (refl, tt)))))))))))))))))))))))))))))))))))))))))))))))))))))))))))))))))))));
      closings = (refl, (refl, (refl, (refl, (refl, (refl, (refl, (refl, (refl, (refl, (refl, (refl, (refl, (refl, (refl, (refl, (refl, (refl, (refl, (refl, (refl, (refl, tt))))))))))))))))))))));
    }
