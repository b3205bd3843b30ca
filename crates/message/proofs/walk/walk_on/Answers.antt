-- `message::walk::walk_on` meets its contract. The loop's invariant: what is left of the walk comes to the whole. Assumes nothing.
use mathlib.Core.Path.{◌≡◌, sym, ◌∙◌, ap}
use mathlib.Core.Bool.{Bool, cond}
use Prim.Native.Nat.{ℕ}
use mathlib.Core.List.{List}
use Rattle.header.specs.declared.Head.{Head}
use Rattle.std.specs.Prelude.{Ok}
use native.Mathlib.Omega.{arith}
use Rattle.word.proofs.Crossing.{length-words_of}
use Rattle.header.specs.Header.{kind_of, reply_words}
use Rattle.message.specs.Faults.{is_write}
use Rattle.message.specs.Walk.{step_at}
use Rattle.message.proofs.Laws.Going.{reply-by, got, going-starts, going-refused, going-last, going-small, going_on, going_less}
use Rattle.std.proofs.Common.{rules}
use Rattle.message.proofs.walk.walk_on.Goals as goal

-- the words of the OK answer to a header that was read
reply-is : {reply : ℕ} {writes : Bool} {head : Head} (byte0 : ℕ) (ws : List ℕ) (at : ℕ)
    → reply ≡ cond writes 0 head.count → writes ≡ is_write (kind_of byte0) → step_at byte0 ws at ≡ Ok head
    → reply ≡ reply_words (kind_of byte0) head.count
reply-is {head = head} byte0 ws at e w s =
    e ∙ ap (λ (b : Bool). cond b 0 head.count) w ∙ reply-by (kind_of byte0) head.count (got _ _ _ _ s).asking

pub loop-head-init : goal.loop-head-init
loop-head-init c = going-starts _ _ (omega (arith, length-words_of c.args.datagram.now))

pub step_at-requires : goal.step_at-requires
step_at-requires c = let g = c.loop-head.invariant in omega (arith, g.within, g.most)

pub returns-in_err-head : goal.returns-in_err-head
returns-in_err-head c =
    rw (← going-refused c.loop-head.invariant _ (sym c.step_at.ensures ∙ c.in_err-head.was)) (search rules)

pub overflow_add-answer : goal.overflow_add-answer
overflow_add-answer c = let g = c.loop-head.invariant in omega (arith, g.small, g.within, g.most)

pub overflow_add-answer-in-loop-head : goal.overflow_add-answer-in-loop-head
overflow_add-answer-in-loop-head c =
    let g = c.loop-head.invariant in
    let s = sym c.step_at.ensures ∙ c.in_ok-head.was in
    omega (arith, going-small g _ s, g.within, g.most, reply-is _ _ _ c.reply-answer.ensures c.writes-writes.ensures s)

pub returns-then-head : goal.returns-then-head
returns-then-head c =
    let s = sym c.step_at.ensures ∙ c.in_ok-head.was in
    let w = reply-is _ _ _ c.reply-answer.ensures c.writes-writes.ensures s in
    c.end.ensures ∙ rw w (going-last c.loop-head.invariant _ s c.if-head.true)

pub overflow_add-at : goal.overflow_add-at
overflow_add-at c =
    omega (arith, (got _ _ _ _ (sym c.step_at.ensures ∙ c.in_ok-head.was)).within, c.loop-head.invariant.most)

pub overflow_add-at-in-loop-head : goal.overflow_add-at-in-loop-head
overflow_add-at-in-loop-head c =
    omega (arith, (got _ _ _ _ (sym c.step_at.ensures ∙ c.in_ok-head.was)).within, c.loop-head.invariant.most)

pub loop-head-smaller : goal.loop-head-smaller
loop-head-smaller c = going_less c.loop-head.invariant _ (sym c.step_at.ensures ∙ c.in_ok-head.was)

pub loop-head-preserved : goal.loop-head-preserved
loop-head-preserved c =
    let s = sym c.step_at.ensures ∙ c.in_ok-head.was in
    let w = reply-is _ _ _ c.reply-answer.ensures c.writes-writes.ensures s in
    rw w (going_on c.loop-head.invariant _ s c.if-head.false)
