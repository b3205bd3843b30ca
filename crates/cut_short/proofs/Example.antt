-- The lives of specs/CutShort.antt, computed: each once, as far as it goes. Assumes nothing.
use Prim.Native.Nat.{ℕ, zero, suc, ◌+◌, ◌≤◌, ◌<◌}
use mathlib.Core.Path.{◌≡◌, refl, sym, ap, subst, ◌∙◌}
use mathlib.Core.Option.{some}
use mathlib.Core.List.{List, [], ◌∷◌}
use native.Mathlib.Omega.{arith}
use lib.ListN.{get_or, take, replicate}
use Rattle.word.specs.Words.{Words}
use Rattle.word.proofs.Runs.{below_none, below-cons, below-append}
use Rattle.tags.specs.Record.{fresh_record}
use Rattle.tags.proofs.Laws.Record.{fresh-fits}
use Rattle.completer.specs.Controller.{Controller}
use Rattle.once.specs.World.{Event, World}
use Rattle.once.specs.Lives.{Opening, unasked, asking, begun, restart, Lives}
use Rattle.exchange.specs.Outcomes.{Outcome}
use Rattle.exchange.specs.Ends.{ends}
use Rattle.exchange.specs.Terms.{Sound}
use Rattle.exchange.specs.Example.{output, ok}
use Rattle.exchange.proofs.Checked.{least-sound}
use Rattle.exchange.proofs.Sharp.{times}
use Rattle.lives.specs.Lives.{left}
use Rattle.layout.specs.Layout.{set_up_fault}
use Rattle.layout.specs.declared.Stage.TheVariants.{Clear}
use Rattle.table.specs.declared.attempt.Next.TheVariants.{Send, Done}
use Rattle.table.specs.Promises.{came_to}
use Rattle.trained.specs.Attempts.{told_bys}
use Rattle.trained.specs.Promise.{Training}
use Rattle.trained.proofs.Promise.{at-every-moment}
use Rattle.eleven.specs.Eleven.{at, Seen}
use Rattle.eleven.proofs.Checked.{AllLived?, lives?, lives-so}
use Rattle.cut_short.specs.CutShort.{summer, own, rows, messages, lent_from, lent_rows, AsLaidOut, cut}
use Rattle.cut_short.specs.CutShort.{all, second, holding, Leaves, CutAlone, CutBehind}
use Rattle.cut_short.specs.Failed.{wrote, read_back}
use Rattle.cut_short.proofs.Benched.{laying, attempting, calling}
use Rattle.cut_short.proofs.Checked.{ended, opens?, loads?, Loaded, loads-so, trains-to, memory-at}

summer-sound : Sound summer
summer-sound = least-sound (replicate 210 0x51) 0 fresh_record refl (fresh-fits fresh_record refl)

-- the messages, word by word
pub as-laid-out : AsLaidOut
unfolding laying
as-laid-out = record { first = refl; second = refl }

-- the words that are lent are words
own-words : (n r : ℕ) → r < 0x100 → Words (own n r)
own-words n r h =
    below-cons 4294967296 _ _ (omega arith) (below-cons 4294967296 _ _ (omega arith)
    (below-cons 4294967296 _ _ (omega arith) (below-cons 4294967296 _ _ (omega arith)
    (below-cons 4294967296 _ _ (omega arith) (below-cons 4294967296 _ _ (omega arith)
    (below-cons 4294967296 _ _ (omega arith) (below_none 4294967296)))))))

lent-words : (n k r : ℕ) → r + k ≤ 0x100 → Words (lent_from n r k)
lent-words n zero r h = below_none 4294967296
lent-words n (suc k) r h =
    below-append 4294967296 (own n r) (lent_from n (suc r) k) (own-words n r (omega arith))
    (lent-words n k (suc r) (omega arith))

pub rows_words : (n : ℕ) → Words (lent_rows n)
rows_words n = lent-words n 24 1 (omega arith)

-- the outcomes of life n, the first k of them
abbrev outcomes : ℕ → ℕ → List Outcome
outcomes n k = take k (ok [] ∷ wrote 24 ∷ read_back n 1 24 ∷ ok [] ∷ [])

-- the first life whole, and the second as far as it goes
abbrev over : Lives ends
over = (begun unasked all, restart) ∷ []

abbrev asked : Opening ends
asked = asking [] output [] (at 4)

abbrev most : List (Event ends)
most = cut 4 1 (messages 1 4)

-- what is seen of each at its end; and memory behind each event, from and to this, and then
abbrev seen : List Seen
seen =
    record { taken = 4; outcomes = outcomes 0 4; memory = holding (rows 0 1 24) 24 }
    ∷ record { taken = 4; outcomes = outcomes 1 3; memory = holding (rows 1 1 24) 24 } ∷ []

abbrev round : List ℕ → List ℕ → List (List ℕ) → List (List ℕ)
round from to more = from ∷ from ∷ to ∷ to ∷ more

abbrev of-first : List (List ℕ)
of-first =
    round (holding (replicate 192 0x51) 0x51) (holding (replicate 192 0x51) 0)
    (round (holding (replicate 192 0x51) 0) (holding (rows 0 1 24) 0)
    (round (holding (rows 0 1 24) 0) (holding (rows 0 1 24) 0)
    (round (holding (rows 0 1 24) 0) (holding (rows 0 1 24) 24) [])))

abbrev of-second : List (List ℕ)
of-second =
    round (holding (rows 0 1 24) 24) (holding (rows 0 1 24) 0)
    (round (holding (rows 0 1 24) 0) (holding (rows 1 1 24) 0)
    (round (holding (rows 1 1 24) 0) (holding (rows 1 1 24) 0)
    (holding (rows 1 1 24) 0 ∷ holding (rows 1 1 24) 0 ∷ holding (rows 1 1 24) 24 ∷ [])))

-- all computed
record Played : Type 0 where
  lived : lives? summer over (second 4) ≡ some seen
  first-calls : loads? 0x40 194 (lent_rows 0) summer unasked all ≡ some of-first
  second-asks : opens? 0x40 194 (lent_rows 1) (ended summer unasked all).controller asked most
      ≡ some (holding (rows 0 1 24) 24 ∷ [])
  second-calls : loads? 0x40 194 (lent_rows 1) (ended summer unasked all).controller asked most ≡ some of-second

played : Played
unfolding calling
played = record { lived = refl; first-calls = refl; second-asks = refl; second-calls = refl }

-- the attempt of the first life, by its outcomes
finished : came_to (lent_rows 0) (Send Clear) (told_bys (outcomes 0 4)) ≡ Done
unfolding attempting
finished = refl

-- the premises, of both lives and of the first alone
first-loaded : Loaded 0x40 194 (lent_rows 0) summer unasked all of-first
first-loaded =
    loads-so 0x40 194 (lent_rows 0) summer unasked all [] _ summer-sound tt (times 4) refl played.first-calls

second-loaded : Loaded 0x40 194 (lent_rows 1) (left summer over) asked most of-second
second-loaded =
    subst (λ (c : Controller). Loaded 0x40 194 (lent_rows 1) c asked most of-second)
    (sym (ap (λ (w : World ends). w.controller) first-loaded.is))
    (loads-so 0x40 194 (lent_rows 1) (ended summer unasked all).controller asked most _ _ first-loaded.sound
    (times 1) (times 4) played.second-asks played.second-calls)

lived : AllLived? summer over (second 4) seen
lived = lives-so summer over (second 4) seen summer-sound (times 4, tt, times 5) played.lived

pub set-up : set_up_fault 0x40 194 ≡ 0
unfolding laying
set-up = refl

both : Training 0x40 (λ n. 194) lent_rows summer over (begun asked most)
both =
    record {
      sound = summer-sound;
      set-up = λ n. set-up;
      words = rows_words;
      before = λ e. let z : ◌≡◌ {A = ℕ} 0x51 24 = e in absurd (omega arith);
      lived = lived.before;
      living = lived.last;
      loaded = (first-loaded.loads, tt);
      loads = second-loaded.loads;
    }

alone : Training 0x40 (λ n. 194) lent_rows summer [] (begun unasked all)
alone = (at-every-moment 0x40 (λ n. 194) lent_rows summer []).over (begun unasked all) restart [] (begun asked most) both

-- so far as event n
first-leaves : (n : ℕ) → n < 16 → Leaves [] (begun unasked (take (suc n) all)) (get_or of-first n [])
first-leaves n l =
    record {
      trains = trains-to unasked all alone (suc n);
      is = memory-at unasked all alone n l ∙ ap (λ (m : List (List ℕ)). get_or m n []) first-loaded.seen;
    }

second-leaves : (n : ℕ) → n < 15 → Leaves over (begun asked (take (suc n) most)) (get_or of-second n [])
second-leaves n l =
    record {
      trains = trains-to asked most both (suc n);
      is = memory-at asked most both n l ∙ ap (λ (m : List (List ℕ)). get_or m n []) second-loaded.seen;
    }

pub cut-alone : CutAlone
cut-alone =
    record {
      none = first-leaves 1 (omega arith);
      cleared = first-leaves 2 (omega arith);
      wrote = first-leaves 6 (omega arith);
      compared = first-leaves 10 (omega arith);
      marked = first-leaves 14 (omega arith);
    }

pub cut-behind : CutBehind
cut-behind =
    record {
      finishes =
          ap (λ (l : List Seen). came_to (lent_rows 0) (Send Clear) (told_bys (get_or l 0 nothing).outcomes)) lived.seen
          ∙ finished;
      none = second-leaves 1 (omega arith);
      cleared = second-leaves 2 (omega arith);
      wrote = second-leaves 6 (omega arith);
      compared = second-leaves 10 (omega arith);
      marked = second-leaves 14 (omega arith);
    }
  where
    nothing : Seen
    nothing = record { taken = 0; outcomes = []; memory = [] }
