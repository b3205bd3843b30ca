-- Ends whose datagrams cross the channel wrapped, as in frames of another carrier: what is sent and what is given is
-- wrapped, and what comes is unwrapped first. If the ends meet the laws, so do these (proofs/Wrapped.antt). Assumes
-- nothing.
use Rattle.std.specs.Prelude.{ℕ, ◌≡◌, List, []}
use Rattle.std.proofs.Math.Option.{Option, none, some}
use Rattle.once.specs.World.{Ends}
use Rattle.once.specs.Promise.{Terms}

-- A way to wrap a datagram behind a head, and to unwrap a frame: none where the frame is refused.
pub record Wrap (D : Type 0) : Type 1 where
  pub Frame : Type 0
  pub Head : Type 0
  pub wrap : Head → D → Frame
  pub unwrap : Frame → Option D

module _ (E : Ends) (X : Wrap E.Datagram) where
  -- what was given, wrapped
  abbrev pub wrap_any : X.Head → Option E.Datagram → Option X.Frame
  wrap_any h none = none
  wrap_any h (some y) = some (X.wrap h y)

  -- what a frame unwraps to comes to the controller, and to the sender; a refused frame comes to neither
  abbrev pub serve_any : E.Controller → E.Lent × X.Head → Option E.Datagram → E.Controller × Option X.Frame
  serve_any c b none = (c, none)
  serve_any c b (some y) = ((E.serve c b.0 y).0, wrap_any b.1 (E.serve c b.0 y).1)

  abbrev pub take_any : E.Sender → Option E.Datagram → E.Sender × List E.Outcome
  take_any s none = (s, [])
  take_any s (some a) = E.take s a

  -- The head of an answer is lent with the output, and that of a message is the caller's, by what it knows.
  abbrev pub wrapped : (E.Sender → ℕ → X.Head) → Ends
  wrapped head =
      record {
        Message = E.Message;
        Datagram = X.Frame;
        Outcome = E.Outcome;
        Lent = E.Lent × X.Head;
        Controller = E.Controller;
        Sender = E.Sender;
        serve = λ c b x. serve_any c b (X.unwrap x);
        offer = E.offer;
        send = λ s p. wrap_any (head s p) (E.send s p);
        take = λ s x. take_any s (X.unwrap x);
      }

  -- The same promise, of the wrapped datagrams.
  abbrev pub wrapped_terms : (head : E.Sender → ℕ → X.Head) → Terms E → Terms (wrapped head)
  wrapped_terms head T =
      record {
        Memory = T.Memory;
        memory = T.memory;
        carry = T.carry;
        outcome = T.outcome;
        Fits = T.Fits;
        Quiet = λ x. (y : E.Datagram) → X.unwrap x ≡ some y → T.Quiet y;
        Lendable = λ b. T.Lendable b.0;
      }

  -- What carries a message and what answers one comes through whole; what answers none still answers none.
  pub record Crosses (Copy : E.Message → E.Datagram → Type 0)
      (Answer : E.Message → E.Outcome → E.Datagram → Type 0) (Strange : E.Datagram → Type 0) : Type 0 where
    pub messages : (h : X.Head) {d : E.Message} {y : E.Datagram} → Copy d y → X.unwrap (X.wrap h y) ≡ some y
    pub answers : (h : X.Head) {d : E.Message} {o : E.Outcome} {a : E.Datagram} → Answer d o a
        → X.unwrap (X.wrap h a) ≡ some a
    pub strangers : (h : X.Head) {a b : E.Datagram} → Strange a → X.unwrap (X.wrap h a) ≡ some b → Strange b
