-- The contracts of both ends' calls are determined: each is an equation, whose other side is of what came in. Assumes
-- nothing.
use mathlib.Core.Path.{◌≡◌, sym, ap, ◌∙◌}
use mathlib.Core.Bool.{true, false, false≢true}
use Rattle.std.specs.Prelude.{ℕ, ◌≢◌, List, Result, Ok, Err, IfErr, MatchResult}
use Rattle.header.specs.declared.refusal.Refusal.{Refusal}
use Rattle.header.specs.Refusal.{refusal}
use Rattle.completer.specs.Controller.{Controller, After}
use Rattle.completer.specs.declared.serving.Done.{Done}
use Rattle.completer.specs.Settling.{gave, sent_by}
use Rattle.initiator.specs.declared.sender.Sender.{Sender}
use Rattle.initiator.specs.declared.places.Checked.{Checked}
use Rattle.initiator.specs.Places.{sender_ok}
use Rattle.determined.specs.Public.{beside, seen_by, Controlling, Building, Sending, Training, InC}
use Rattle.determined.proofs.Equal.{both, clauses, one_of, first_of, two-of}

pair-is : {A B : Type 0} {x y : A} {u v : B} → x ≡ y → u ≡ v → beside x u ≡ beside y v
pair-is p q = rw (p, q)

-- what the controller's call gave is told by what it leaves: a refusal by its number, which is not 0
gave-same : (x y : Result ℕ Refusal) (c d : Controller) (o p : List ℕ) (z : After)
    → gave x c o ≡ z → IfErr x (λ r. r.number ≢ 0) → gave y d p ≡ z → IfErr y (λ r. r.number ≢ 0)
    → beside x (gave x c o) ≡ beside y (gave y d p)
gave-same (Ok n) (Ok m) c d o p z e f g h = pair-is (ap (λ a. Ok a.sent) (e ∙ sym g)) (e ∙ sym g)
gave-same (Ok n) (Err r) c d o p z e f g h = absurd (h (ap (λ a. a.refusal.number) (g ∙ sym e)))
gave-same (Err r) (Ok n) c d o p z e f g h = absurd (f (ap (λ a. a.refusal.number) (e ∙ sym g)))
gave-same (Err r) (Err s) c d o p z e f g h = pair-is (ap (λ a. Err a.refusal) (e ∙ sym g)) (e ∙ sym g)

-- and what `dispatch` gave, as far as it says what is sent
sent-err : (r : Result Done Refusal) → IfErr r (λ e. e.number ≢ 0) → IfErr (sent_by r) (λ e. e.number ≢ 0)
sent-err (Ok d) p = p
sent-err (Err r) p = p

pub controlling : Controlling
controlling =
    record {
      verdict-of = λ M 𝓤 𝓛 mem run κs a g one other. one_of 𝓤;
      dispatch = λ M 𝓤 𝓛 mem run κs a g one other. clauses 𝓤 (λ e p f q. gave-same _ _ _ _ _ _ _ e (sent-err one.0 p) f (sent-err other.0 q));
      follow = λ M 𝓤 𝓛 mem run κs a g one other. one_of 𝓤;
      serve = λ M 𝓤 𝓛 mem run κs a g one other. clauses 𝓤 (gave-same _ _ _ _ _ _ _);
      in_place = λ M 𝓤 𝓛 mem run κs a g one other. one_of 𝓤;
    }

pub building : Building
building =
    record {
      begin = λ M 𝓤 𝓛 mem run κs a g one other. one_of 𝓤;
      add = λ M 𝓤 𝓛 mem run κs a g one other. two-of 𝓤;
      close = λ M 𝓤 𝓛 mem run κs a g one other. two-of 𝓤;
    }

-- a sender is checked, or is not, by its record alone
checked-same : (s : Sender) (x y : Result Checked Refusal)
    → MatchResult x (λ c. (c.sender ≡ s) × (sender_ok s ≡ true)) (λ r. (r ≡ refusal 37) × (sender_ok s ≡ false))
    → MatchResult y (λ c. (c.sender ≡ s) × (sender_ok s ≡ true)) (λ r. (r ≡ refusal 37) × (sender_ok s ≡ false))
    → seen_by (λ (c : Checked). c.sender) x ≡ seen_by (λ (c : Checked). c.sender) y
checked-same s (Ok c) (Ok d) p q = ap Ok (p.0 ∙ sym q.0)
checked-same s (Ok c) (Err r) p q = absurd (false≢true (sym q.1 ∙ p.1))
checked-same s (Err r) (Ok d) p q = absurd (false≢true (sym p.1 ∙ q.1))
checked-same s (Err r) (Err z) p q = ap Err (p.0 ∙ sym q.0)

-- and what is sent is one
sent-same : {A B : Type 0} (see : A → B) (x : Result B Refusal) (r : Result A Refusal)
    → MatchResult r (λ part. Ok (see part) ≡ x) (λ e. Err e ≡ x) → seen_by see r ≡ x
sent-same see x (Ok a) p = p
sent-same see x (Err e) p = p

pub sending : Sending
sending =
    record {
      checked = λ M 𝓤 𝓛 mem run κs a g one other. both 𝓤 (λ p q. checked-same _ one.0 other.0 p q);
      ask = λ M 𝓤 𝓛 mem run κs a g one other. one_of 𝓤;
      ask-as = λ M 𝓤 𝓛 mem run κs a g one other. one_of 𝓤;
      fresh = λ M 𝓤 𝓛 mem run κs a g one other. one_of 𝓤;
      stopped = λ M 𝓤 𝓛 mem run κs a g one other. one_of 𝓤;
      discovered = λ M 𝓤 𝓛 mem run κs a g one other. one_of 𝓤;
      moved = λ M 𝓤 𝓛 mem run κs a g one other. one_of 𝓤;
      taken = λ M 𝓤 𝓛 mem run κs a g one other. one_of 𝓤;
      offer = λ M 𝓤 𝓛 mem run κs a g one other. one_of 𝓤;
      send = λ M 𝓤 𝓛 mem run κs a g one other. both 𝓤 (λ p q. sent-same (λ part. part.now) _ one.0 p ∙ sym (sent-same (λ part. part.now) _ other.0 q));
      take = λ M 𝓤 𝓛 mem run κs a g one other. one_of 𝓤;
      told = λ M 𝓤 𝓛 mem run κs a g one other. one_of 𝓤;
      answered = λ M 𝓤 𝓛 mem run κs a g one other. one_of 𝓤;
      ended = λ M 𝓤 𝓛 mem run κs a g one other. one_of 𝓤;
      read-span = λ M 𝓤 𝓛 mem run κs a g one other. first_of 𝓤;
      read-data = λ M 𝓤 𝓛 mem run κs a g one other. both 𝓤 (λ p q. p.place ∙ sym q.place);
    }

pub training : Training
training =
    record {
      set-up = λ M 𝓤 𝓛 mem run κs a g one other. one_of 𝓤;
      row_of = λ M 𝓤 𝓛 mem run κs a g one other. first_of 𝓤;
      write = λ M 𝓤 𝓛 mem run κs a g one other. two-of 𝓤;
      begin = λ M 𝓤 𝓛 mem run κs a g one other. one_of 𝓤;
      message = λ M 𝓤 𝓛 mem run κs a g one other. two-of 𝓤;
      take = λ M 𝓤 𝓛 mem run κs a g one other. one_of 𝓤;
    }

pub in_c : InC
in_c =
    record {
      refusal = λ M 𝓤 𝓛 mem run κs a g one other. one_of 𝓤;
      begin = λ M 𝓤 𝓛 mem run κs a g one other. one_of 𝓤;
      add = λ M 𝓤 𝓛 mem run κs a g one other. two-of 𝓤;
      close = λ M 𝓤 𝓛 mem run κs a g one other. two-of 𝓤;
      discovery = λ M 𝓤 𝓛 mem run κs a g one other. one_of 𝓤;
      fresh = λ M 𝓤 𝓛 mem run κs a g one other. one_of 𝓤;
      discovered = λ M 𝓤 𝓛 mem run κs a g one other. one_of 𝓤;
      offer = λ M 𝓤 𝓛 mem run κs a g one other. one_of 𝓤;
      send = λ M 𝓤 𝓛 mem run κs a g one other. one_of 𝓤;
      take = λ M 𝓤 𝓛 mem run κs a g one other. one_of 𝓤;
      count = λ M 𝓤 𝓛 mem run κs a g one other. one_of 𝓤;
      status = λ M 𝓤 𝓛 mem run κs a g one other. one_of 𝓤;
      read-data = λ M 𝓤 𝓛 mem run κs a g one other. first_of 𝓤;
      attempt-of = λ M 𝓤 𝓛 mem run κs a g one other. one_of 𝓤;
      numbers-of = λ M 𝓤 𝓛 mem run κs a g one other. one_of 𝓤;
      set-up = λ M 𝓤 𝓛 mem run κs a g one other. one_of 𝓤;
      attempt = λ M 𝓤 𝓛 mem run κs a g one other. one_of 𝓤;
      table-message = λ M 𝓤 𝓛 mem run κs a g one other. two-of 𝓤;
      table-take = λ M 𝓤 𝓛 mem run κs a g one other. one_of 𝓤;
    }
