-- The two ends of this project meet the facts that `once` asks of two ends with tags. The theorems cite `tagged`. Assumes nothing.
use Prim.Native.Nat.{ℕ, ◌+◌, ◌≤◌, ◌<◌}
use mathlib.Core.Path.{◌≡◌, refl, sym, subst}
use mathlib.Core.Option.{none, some}
use mathlib.Core.List.{List}
use native.Mathlib.Omega.{arith}
use Rattle.completer.specs.Controller.{Controller}
use Rattle.once.specs.World.{Event}
use Rattle.once.specs.Tags.{Tagged, Carried, Kept, Says}
use Rattle.once.proofs.Tagged.{tagged-says}
use Rattle.exchange.specs.Ends.{Loader, ends}
use Rattle.exchange.specs.Terms.{terms}
use Rattle.exchange.specs.Promise.{Begins, window, Night, morning}
use Rattle.exchange.specs.Sight.{sight}
use Rattle.exchange.proofs.Sender.{fits-plain, offers-one, full-still, sends-it, sent-it}
use Rattle.exchange.proofs.Taking.{ends-own, refuses-other, refuses-strange}
use Rattle.exchange.proofs.Going.{goes_back}
use Rattle.exchange.proofs.Begins.{begins}
use Rattle.exchange.proofs.Controller.{does-new, does-again, does-late, does-quiet}

pub tagged : Tagged ends terms sight window
tagged =
    record {
      back = goes_back;
      fits = λ w room f. fits-plain w f;
      new =
          λ {c} {b} {d} {x} h l p e v.
          subst (λ (y : List ℕ). Carried ends terms sight window c d (ends.serve c b y)) (sym e) (does-new c b d h l p v);
      again =
          λ {c} {b} {d} {x} j a h l p e s k.
          subst (λ (y : List ℕ). ((ends.serve c b y).1 ≡ some a) × Kept ends terms sight c (ends.serve c b y).0) (sym e) (does-again c b h l j a p s k);
      late =
          λ {c} {b} {d} {x} h l p e n u.
          subst (λ (y : List ℕ). ((ends.serve c b y).1 ≡ none) × Kept ends terms sight c (ends.serve c b y).0) (sym e) (does-late c b h l p n u);
      quiet = λ {c} {b} h l q. does-quiet c b h l q;
      offers = λ w room f. offers-one w room f;
      full = λ d w l. full-still w d l;
      sends = λ {s} {d} p w e. (d, sends-it w p e, refl);
      sent = λ p w l e. sent-it w p e;
      own = λ p w e h. ends-own w p e h;
      others = λ w p h n. refuses-other w p h n;
      strange = λ w h. refuses-strange w h;
    }

-- four may wait, and twice four is at most 16
pub some-wait : 0 < window
some-wait = omega arith

pub not_wide : window + window ≤ 16
not_wide = omega arith

-- what the two records say at any moment of a night
pub records-say : (c : Controller) (s : Loader) → Begins c s → (es : List (Event ends)) → Night c s es
    → Says ends terms sight window c s (morning c s es)
records-say c s b es n = tagged-says tagged some-wait not_wide c s (begins c s b) es n
