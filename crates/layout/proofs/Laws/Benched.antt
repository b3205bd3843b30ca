-- The layout in figures: computed. Assumes nothing.
use mathlib.Core.Path.{refl}
use Rattle.word.specs.Words.{bytes_of, put}
use Rattle.header.specs.Header.{kind_no, byte0_from, header_from}
use Rattle.message.specs.Address.{address_in}
use Rattle.message.specs.Request.{command_words, request_words, written, All}
use Rattle.layout.specs.Layout.{each_from, row_of, joined, set_up_ok, set_up_fault}
use Rattle.layout.specs.Layout.{row_write, row_read, mark_write, request_at}
use Rattle.layout.specs.Writing.{make_fault, wrote_of, wrote_to}
use Rattle.layout.specs.Examples.{set_ups, makings, shown_rows, shown_out, LayoutShown}

pub layout-shown : LayoutShown
unfolding bytes_of put kind_no byte0_from header_from address_in command_words request_words written All each_from row_of joined
    set_up_ok set_up_fault row_write row_read mark_write request_at make_fault wrote_of wrote_to set_ups makings shown_rows shown_out
layout-shown =
    record {
      set_ups = (refl, (refl, (refl, (refl, (refl, (refl, (refl, (refl, (refl, (refl, (refl, (refl, (refl, (refl, (refl, tt)))))))))))))));
      makings = (refl, (refl, (refl, (refl, (refl, (refl, (refl, (refl, (refl, (refl, tt))))))))));
      table = refl;
      clear = refl;
      first_rows = refl;
      last_row = refl;
      first_back = refl;
      last_back = refl;
      mark = refl;
      clear_made = refl;
      rows_made = refl;
      back_made = refl;
      mark_made = refl;
      output = refl;
    }
