-- The night of specs/Incident.antt, and the repeat that 12 does not cure, from what Incident/Example.antt computes.
-- Assumes nothing.
use Prim.Native.Nat.{ℕ}
use mathlib.Core.Path.{◌≡◌, refl, sym, ap, subst, ◌∙◌}
use mathlib.Core.Bool.{true}
use mathlib.Core.Option.{some}
use mathlib.Core.List.{List, [], ◌∷◌, ◌++◌}
use native.Mathlib.Omega.{arith}
use lib.ListN.{length, drop, replicate}
use Rattle.header.specs.declared.refusal.Refusal.{Refusal}
use Rattle.header.specs.Refusal.{refusal}
use Rattle.message.specs.Discovery.{discovery_bytes}
use Rattle.tags.specs.Record.{fresh_record}
use Rattle.tags.proofs.Laws.Record.{fresh-fits}
use Rattle.completer.specs.Serving.{after}
use Rattle.completer.specs.Controller.{Controller, After}
use Rattle.completer.proofs.Laws.Called.{refusal-keeps}
use Rattle.initiator.specs.Sender.{idle}
use Rattle.once.specs.World.{World, Event, start}
use Rattle.once.proofs.Checked.{both_true}
use Rattle.exchange.specs.Ends.{ends}
use Rattle.exchange.specs.Terms.{Sound}
use Rattle.exchange.specs.Example.{loader, output, ok}
use Rattle.exchange.specs.Incident.{summer, writes, life, found, rows, mark, second_life, first_writes, numbers}
use Rattle.exchange.specs.Incident.{left_by, half_done, four_held, four_sent, Incident, whole, StaleRepeat}
use Rattle.exchange.proofs.Begins.{begins}
use Rattle.exchange.proofs.Quick.{quick, quick-is, sound-quick}
use Rattle.exchange.proofs.Checked.{below?, below-so, least-sound, Lends, Known, played-so}
use Rattle.exchange.proofs.Example.{output-long}
use Rattle.exchange.proofs.Incident.Example.{each?, Seen, look, Any, lived?, first_events, waiting, Second}
use Rattle.exchange.proofs.Incident.Example.{further, Four, to_the_end, again, Whole, computed}
pub mod Example

-- Messages that are all refused leave the controller as it was.
refused-keep : (c : Controller) (ms : List (List ℕ)) → numbers after c ms ≡ replicate (length ms) 12
    → left_by after c ms ≡ c
refused-keep c [] e = refl
refused-keep c (m ∷ ms) e =
    let n : (after c output m).refusal.number ≡ 12 = cc in
    let k = (refusal-keeps c output m (λ z. omega arith)).controller in
    let r : numbers after c ms ≡ replicate (length ms) 12 = rw k at (ap (λ (l : List ℕ). drop 1 l) e) in
    rw k (refused-keep c ms r)

-- Messages of bytes to an allowed controller, the call being `quick`.
record Quickly (c : Controller) (ms : List (List ℕ)) : Type 0 where
  numbers : numbers after c ms ≡ numbers quick c ms
  left : left_by after c ms ≡ left_by quick c ms
  sound : Sound (left_by after c ms)

calls-quick : (c : Controller) (ms : List (List ℕ)) → Sound c → each? ms ≡ true → Quickly c ms
calls-quick c [] h e = record { numbers = refl; left = refl; sound = h }
calls-quick c (m ∷ ms) h e =
    let p = both_true (below? 256 m) _ e in
    let q = quick-is c output m h output-long in
    let s = sound-quick c output m h output-long (below-so 256 m p.0) in
    let r = calls-quick (quick c output m).controller ms s p.1 in
    record {
      numbers =
          ap (λ (a : After). a.refusal.number ∷ numbers after a.controller ms) q
          ∙ ap (λ (l : List ℕ). (quick c output m).refusal.number ∷ l) r.numbers;
      left = ap (λ (a : After). left_by after a.controller ms) q ∙ r.left;
      sound = subst (λ (a : After). Sound (left_by after a.controller ms)) (sym q) r.sound;
    }

-- a life
module _ (c : Controller) (es : List (Event ends)) where
  abbrev Lived : Seen → Type 0
  Lived end = Known Any (λ w e. true) (λ w e l t. tt) look (start ends c loader) es end

  lived : (end : Seen) → Sound c → Lends es → lived? c es ≡ some end → Lived end
  lived end h l e = played-so Any (λ w e. true) (λ w e l t. tt) look (start ends c loader) es end h l e

summer-sound : Sound summer
summer-sound = least-sound (0 ∷ 0x0501 ∷ 0x0502 ∷ []) 0 fresh_record refl (fresh-fits fresh_record refl)

first-life : Lived summer first_events (ok [] ∷ [], idle 1, half_done)
first-life = lived summer first_events _ summer-sound (output-long, tt) computed.first

second-found : Second found
second-found = subst Second (sym (ap (λ (w : World ends). w.controller) first-life.is)) computed.second

second-life : Lived found (rows after) ([], waiting, 0 ∷ 0x0801 ∷ 0x0502 ∷ [])
second-life = lived found (rows after) _ first-life.sound (output-long, (output-long, tt)) second-found.second

-- no two are told, so the mark is not sent
unmarked-so : (n : ℕ) → n ≡ 0
    → look (life after found (rows after ++ mark after n)) ≡ ([], waiting, 0 ∷ 0x0801 ∷ 0x0502 ∷ [])
unmarked-so n e = rw e second-life.seen

second-ends : look (second_life after) ≡ ([], waiting, 0 ∷ 0x0801 ∷ 0x0502 ∷ [])
second-ends = unmarked-so _ (ap (λ (x : Seen). length x.0) second-life.seen)

-- the lists of messages are bytes: the eleven, those of the life that went on, the four, those of the life that came to
-- its end
bytes : (each? (first_writes 11) ≡ true) × (each? further ≡ true) × (each? four_sent ≡ true) × (each? to_the_end ≡ true)
bytes =
    let p = both_true (each? (first_writes 11)) _ computed.bytes in
    let q = both_true (each? further) _ p.1 in
    let r = both_true (each? four_sent) _ q.1 in
    (p.0, q.0, r.0, r.1)

eleven-refused : numbers after found (first_writes 11) ≡ replicate 11 12
eleven-refused = (calls-quick found (first_writes 11) first-life.sound bytes.0).numbers ∙ second-found.eleven

four-quickly : Quickly found further
four-quickly = calls-quick found further first-life.sound bytes.1

four-held : Four four_held
four-held =
    let e = ap (λ (w : World ends). left_by quick w.controller further) first-life.is in
    subst Four (sym (four-quickly.left ∙ e)) computed.four

four-refused : numbers after four_held four_sent ≡ replicate 4 12
four-refused = (calls-quick four_held four_sent four-quickly.sound bytes.2).numbers ∙ four-held.four

pub incident : Incident
incident =
    let s = second-found in
    let q = quick-is found output (writes 0 2 0x0802) first-life.sound output-long in
    let twelve = ap (λ (a : After). a.refusal) q ∙ s.refused in
    record {
      first = ap (λ (x : Seen). x.0) first-life.seen;
      table = ap (λ (x : Seen). x.2) first-life.seen;
      behind = λ b. omega (arith, (begins found loader b).next, s.next);
      base_told = s.base_told;
      base_table = s.base_table;
      refused = twelve;
      nothing =
          refusal-keeps found output (writes 0 2 0x0802)
          (λ e. omega (arith, sym (ap (λ (r : Refusal). r.number) twelve) ∙ e));
      told = ap (λ (x : Seen). x.0) second-ends;
      waits = ap (λ (x : Seen). x.1) second-ends;
      unmarked = ap (λ (x : Seen). x.2) second-ends;
      eleven = eleven-refused;
      unchanged = refused-keep found (first_writes 11) eleven-refused;
      base_eleven = s.base_eleven;
      base_nothing = s.base_nothing;
      four_table = four-held.table;
      four = four-refused;
      four_unchanged = refused-keep four_held four_sent four-refused;
      no_more = computed.no_more;
      base_four = four-held.base_four;
      base_four_nothing = four-held.base_nothing;
    }

pub stale-repeat : StaleRepeat
stale-repeat =
    let q = calls-quick summer to_the_end summer-sound bytes.3 in
    let w = subst Whole (sym q.left) computed.whole in
    let l = lived whole again _ q.sound (output-long, tt) w.again in
    record {
      table = w.table;
      told = ap (λ (x : Seen). x.0) l.seen;
      stands = ap (λ (x : Seen). x.2) l.seen;
      asked = ap (λ (a : After). a.output) (quick-is whole output discovery_bytes q.sound output-long) ∙ w.asked;
      clears =
          ap (λ (a : After). a.controller.memory) (quick-is whole output (writes 4 0 0) q.sound output-long)
          ∙ w.clears;
    }
