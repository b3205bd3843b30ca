-- `night::text::Line::number` meets its contract: the digits that `io` writes are the definition's, at most 20. Assumes nothing.
use Rattle.std.proofs.Common.{◌≡◌, ◌≤◌, List, ℕ, take, subst}
use Rattle.night.specs.Text.{decimal, Wrote}
use Rattle.night.proofs.Inner.Decimal.{decimal-is, few-digits}
use Rattle.night.proofs.text.Line.number.Goals as goal

pub returns-clause-wrote : goal.returns-clause-wrote
returns-clause-wrote c =
    let a = c.args in
    let d = c.decimal-n in
    -- at most 20 digits
    let few : d.result ≤ 20 = few-digits a.n d.result c.ranges.n.fits d.ensures.len in
    let e : take d.result d.new.out ≡ decimal a.n = decimal-is a.n d.result (take d.result d.new.out) few d.ensures.len d.ensures.digits in
    subst (λ (s : List ℕ). Wrote a.self.now.bytes a.self.now.length s c.put.new.self.length c.put.new.self.bytes) e c.put.ensures
