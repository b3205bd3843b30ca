-- What `message` gave, not refused: `given_is`. Assumes nothing.
use Prim.Native.Nat.{ℕ, ◌<◌}
use mathlib.Core.Path.{◌≡◌, sym, ap, subst, ◌∙◌}
use mathlib.Core.List.{List}
use lib.ListN.{length}
use Rattle.word.specs.Words.{Bytes, Words}
use Rattle.word.proofs.Crossing.{bytes_below}
use Rattle.header.specs.declared.refusal.Refusal.{Refusal}
use Rattle.header.specs.Limits.{tag_count}
use Rattle.message.specs.Request.{Request, Means, request_words, written}
use Rattle.message.specs.Walk.{read}
use Rattle.message.proofs.Laws.Pieces.{written_is}
use Rattle.initiator.specs.Sender.{offer_of}
use Rattle.initiator.proofs.Laws.Places.{ok-next}
use Rattle.layout.specs.declared.Stage.{Stage}
use Rattle.layout.specs.Layout.{request_at}
use Rattle.table.specs.declared.attempt.Next.TheVariants.{Send}
use Rattle.table.specs.declared.attempt.Attempt.{Attempt}
use Rattle.table.proofs.Laws.Promises.{message-ready}
use Rattle.table.proofs.Laws.Calls.{fine, made-refusal, made_bytes}
use Rattle.trained.specs.Called.{Gives}

-- what `message` gave, not refused
pub record Given (start : ℕ) (rows : List ℕ) (a : Attempt) (message : List ℕ) (then : Attempt) : Type 0 where
  pub stage : Stage
  pub next : a.next ≡ Send stage
  pub small : a.sender.next < tag_count
  pub idle : a.sender.waiting ≡ 0
  pub means : read message ≡ Means (request_at stage a.sender.next start rows)
  pub bytes : Bytes message
  pub fits : (offer_of a.sender message).refusal.number ≡ 0
  pub sender : then.sender ≡ (offer_of a.sender message).sender
  pub same : then.next ≡ a.next

written-bytes : (r : Request) → Bytes (written r)
written-bytes r =
    subst Bytes (written_is r.byte0 r.commands) (bytes_below (request_words r.byte0 r.commands))

pub given_is : (start room : ℕ) (rows : List ℕ) (a then : Attempt) (message : List ℕ) → Words rows
    → Gives start room rows a message then → Given start rows a message then
given_is start room rows a then message w g =
    let out = g.out in
    let z = sym (made-refusal a start room rows out) ∙ g.fine in
    let f = fine a start room (length out) z in
    let r = message-ready a start room rows out w g.fine in
    let is = g.bytes ∙ made_bytes a start room rows out r.0 r.1 z in
    record {
      stage = r.0;
      next = r.1;
      small = ok-next a.sender f.ok;
      idle = f.idle;
      means = ap read g.bytes ∙ r.2.means;
      bytes = subst Bytes (sym is) (written-bytes (request_at r.0 a.sender.next start rows));
      fits =
          ap (λ (m : List ℕ). (offer_of a.sender m).refusal.number) g.bytes
          ∙ ap (λ (x : Refusal). x.number) r.2.offered;
      sender =
          ap (λ (x : Attempt). x.sender) g.attempt ∙ r.2.sender
          ∙ ap (λ (m : List ℕ). (offer_of a.sender m).sender) (sym g.bytes);
      same = ap (λ (x : Attempt). x.next) g.attempt ∙ r.2.next ∙ sym r.1;
    }
