-- `completer::verdict::same_request` meets its contract: the length, then the bytes at the place of the tag. Assumes nothing.
use Prim.Native.Nat.{◌*◌, ◌-◌, ◌≤◌}
use mathlib.Core.Path.{◌≡◌, sym, ap, ◌∙◌}
use native.Mathlib.Omega.{arith}
use lib.ListN.{length, take, drop, length-drop}
use lib.Seq.{length-take-le, take-length, take-take}
use Rattle.word.specs.Words.{same}
use Rattle.word.proofs.Same.{same-long}
use Rattle.header.specs.Limits.{limit_bytes}
use Rattle.tags.specs.Record.{place_of, request_at}
use Rattle.completer.specs.Controller.{request_in}
use Rattle.completer.specs.Verdict.{as_kept}
use Rattle.completer.proofs.verdict.same_request.Goals as goal

pub returns-then-datagram-words : goal.returns-then-datagram-words
unfolding as_kept
returns-then-datagram-words c =
    let a = c.args in
    let n : length (request_in a.kept.now a.tags a.tag) ≡ 4 * request_at a.tags a.tag =
    length-take-le (4 * request_at a.tags a.tag) (drop (limit_bytes * place_of a.tag) a.kept.now) (simp length-drop (omega (arith, c.requires.tag_bound, c.requires.limit_bytes_in_bounds))) in
    sym (same-long (request_in a.kept.now a.tags a.tag) a.datagram.now (λ e. c.if-datagram-words.true (sym e ∙ n ∙ ap (λ i. 4 * i) (sym c.request_at-words.ensures))))

pub returns : goal.returns
unfolding as_kept
returns c =
    let a = c.args in
    let e : 4 * c.request_at-words.result ≡ length a.datagram.now = sym c.if-datagram-words.false in
    let w : c.request_at-words.result ≡ request_at a.tags a.tag = c.request_at-words.ensures in
    let at : limit_bytes * c.place-at.result ≡ limit_bytes * place_of a.tag = ap (λ i. limit_bytes * i) c.place-at.ensures.value in
    let m : 4 * request_at a.tags a.tag ≤ length a.kept.now - limit_bytes * place_of a.tag = omega (arith, c.requires.tag_bound, c.requires.limit_bytes_in_bounds) in
    c.same_words.ensures
    ∙ ap (same _) (ap (λ n. take n a.datagram.now) e ∙ take-length a.datagram.now)
    ∙ rw (w, at, take-take (4 * request_at a.tags a.tag) (length a.kept.now - limit_bytes * place_of a.tag) (drop (limit_bytes * place_of a.tag) a.kept.now) m)
