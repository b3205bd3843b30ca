-- What fails, of specs/Failed.antt: computed. Assumes nothing.
use Prim.Native.Nat.{ℕ}
use mathlib.Core.Path.{◌≡◌, refl, sym, ap, ◌∙◌}
use mathlib.Core.Option.{some}
use mathlib.Core.List.{List, [], ◌∷◌}
use native.Mathlib.Omega.{arith}
use lib.ListN.{get_or, replicate}
use Rattle.answer.specs.declared.Status.TheVariants.{Error}
use Rattle.tags.specs.Record.{fresh_record}
use Rattle.tags.proofs.Laws.Record.{fresh-fits}
use Rattle.once.specs.Lives.{unasked, begun}
use Rattle.exchange.specs.Terms.{Sound}
use Rattle.exchange.proofs.Checked.{least-sound}
use Rattle.exchange.proofs.Sharp.{times}
use Rattle.layout.specs.declared.Stage.TheVariants.{Clear}
use Rattle.layout.specs.Layout.{joined, table_of}
use Rattle.table.specs.declared.attempt.Next.TheVariants.{Send, Ended}
use Rattle.table.specs.Promises.{came_to}
use Rattle.trained.specs.Loading.{mark_in, rows_in}
use Rattle.trained.specs.Attempts.{told_bys}
use Rattle.trained.specs.Failing.{did_from, did_all}
use Rattle.eleven.specs.Eleven.{Seen}
use Rattle.eleven.proofs.Checked.{lives?, lives-so}
use Rattle.cut_short.specs.CutShort.{messages, lent_rows, cut, first, holding}
use Rattle.cut_short.specs.Failed.{short, clearing, TooShort, marked, MarkedBefore, failed, FailsAt}
use Rattle.cut_short.proofs.Benched.{playing, laying, attempting, calling}
use Rattle.cut_short.proofs.Checked.{loads?, loads-so}
use Rattle.cut_short.proofs.Example.{rows_words, set-up}

abbrev found : List ℕ
found = holding (replicate 192 0x51) 24

short-sound : Sound short
short-sound = least-sound (replicate 208 0x51) 0 fresh_record refl (fresh-fits fresh_record refl)

marked-sound : Sound marked
marked-sound = least-sound found 0 fresh_record refl (fresh-fits fresh_record refl)

-- what is seen of each of the two lives
abbrev ended : Seen
ended = record { taken = 1; outcomes = failed Error ∷ []; memory = replicate 208 0x51 }

abbrev lost : Seen
lost = record { taken = 0; outcomes = []; memory = found }

record Played : Type 0 where
  cleared : lives? short [] (begun unasked clearing) ≡ some (ended ∷ [])
  clears : loads? 0x40 194 (lent_rows 0) short unasked clearing ≡ some (replicate 4 (replicate 208 0x51))
  lived : lives? marked [] (first 0) ≡ some (lost ∷ [])
  calls : loads? 0x40 194 (lent_rows 0) marked unasked (cut 0 0 (messages 0 0)) ≡ some (replicate 2 found)

played : Played
unfolding calling
played = record { cleared = refl; clears = refl; lived = refl; calls = refl }

not-cleared : came_to (lent_rows 0) (Send Clear) (told_bys (failed Error ∷ [])) ≡ Ended 25
unfolding attempting
not-cleared = refl

pub too_short : TooShort
too_short =
    let p = lives-so short [] (begun unasked clearing) (ended ∷ []) short-sound (times 1) played.cleared in
    let q =
    loads-so 0x40 194 (lent_rows 0) short unasked clearing [] _ short-sound tt (times 1) refl played.clears in
    record {
      trains =
          record {
            sound = short-sound;
            set-up = λ n. set-up;
            words = rows_words;
            before = λ e. let z : ◌≡◌ {A = ℕ} 0 24 = e in absurd (omega arith);
            lived = tt;
            living = p.last;
            loaded = tt;
            loads = q.loads;
          };
      ended =
          ap (λ (l : List Seen). came_to (lent_rows 0) (Send Clear) (told_bys (get_or l 0 lost).outcomes)) p.seen
          ∙ not-cleared;
      is = ap (λ (l : List Seen). (get_or l 0 lost).memory) p.seen;
    }

-- the first word of a table is 1
first_word : (n : ℕ) → get_or (table_of (lent_rows n)) 0 0 ≡ 1
unfolding laying joined
first_word n = refl

pub marked-before : MarkedBefore
marked-before =
    let p = lives-so marked [] (first 0) (lost ∷ []) marked-sound tt played.lived in
    let q =
    loads-so 0x40 194 (lent_rows 0) marked unasked (cut 0 0 (messages 0 0)) [] _ marked-sound tt tt refl
    played.calls in
    let is = ap (λ (l : List Seen). (get_or l 0 lost).memory) p.seen in
    record {
      sound = marked-sound;
      living = p.last;
      loads = q.loads;
      is = is;
      mark = ap (mark_in 0x40) is;
      not =
          λ n e.
          let z : ◌≡◌ {A = ℕ} 0x51 1 =
          ap (λ (m : List ℕ). get_or (rows_in 0x40 m) 0 0) (sym is) ∙ ap (λ (l : List ℕ). get_or l 0 0) e ∙ first_word n in
          absurd (omega arith);
    }

-- the attempts that fail
pub fails-at : FailsAt
unfolding playing attempting did_from did_all
fails-at =
    record {
      clearing = record { ended = refl; is = refl };
      timeout = record { ended = refl; is = refl };
      writing = record { ended = refl; is = refl };
      reading = record { ended = refl; is = refl };
      differing = record { ended = refl; is = refl };
      marking = record { ended = refl; is = refl };
    }
