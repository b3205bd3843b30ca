-- The laws: what each call of two ends must do, by the number of a message in the list, so that the promise holds of
-- them. proofs/Promise.antt takes them; proofs/Tags.antt gives them for tags modulo 16. Assumes nothing.
use Rattle.std.specs.Prelude.{ℕ, ◌+◌, ◌≤◌, ◌<◌, ◌≡◌, List, [], ◌∷◌, ◌++◌, length, take}
use Rattle.std.proofs.Math.Option.{Option, none, some}
use Rattle.std.proofs.Math.ListN.{get_elem?}
use Rattle.once.specs.World.{Ends}
use Rattle.once.specs.Promise.{Terms, Ages, made, results}

module _ (E : Ends) where
  open E use {Message, Datagram, Outcome, Lent, Controller, Sender}

  -- The controller gave an answer that says what it should, and is as it should be.
  pub record Answered (Is : Controller → Type 0) (Says : Datagram → Type 0)
      (r : Controller × Option Datagram) : Type 0 where
    pub answer : Datagram
    pub given : r.1 ≡ some answer
    pub says : Says answer
    pub state : Is r.0

  -- The controller gave nothing, and is as it should be.
  pub record Refused (Is : Controller → Type 0) (r : Controller × Option Datagram) : Type 0 where
    pub nothing : r.1 ≡ none
    pub state : Is r.0

  module _ (T : Terms E) where
    -- the outcome of the message d, number i of the messages ds
    abbrev pub outcome_at : T.Memory → List Message → ℕ → Message → Outcome
    outcome_at m ds i d = T.outcome (made T m (take i ds)) d

    -- The sender, having finished the first f of the messages ds, took the answer to message i, and that gave r: it
    -- handed over the outcomes up to some message, in order, and surely that of message i where it is the oldest that
    -- waits.
    pub record Heard (Has : ℕ → Sender → Type 0) (m : T.Memory) (ds : List Message) (f i : ℕ)
        (r : Sender × List Outcome) : Type 0 where
      pub upto : ℕ
      pub up : f ≤ upto
      pub oldest : i ≡ f → f < upto
      pub outcomes : results T m (take f ds) ++ r.1 ≡ results T m (take upto ds)
      pub state : Has upto r.0

    -- The laws of two ends that start as c₀ and s₀. The messages are numbered from 0.
    pub record Laws (W : ℕ) (A : Ages) (c₀ : Controller) (s₀ : Sender) : Type 1 where
      -- Numbered i d: d may be message i. Copy d x: the datagram x carries the message d. Answer d o a: the datagram a
      -- answers the message d and gives it the outcome o. Strange a: the datagram a answers no message.
      pub Numbered : ℕ → Message → Type 0
      pub Copy : Message → Datagram → Type 0
      pub Answer : Message → Outcome → Datagram → Type 0
      pub Strange : Datagram → Type 0
      -- Took ds c: the controller c has accepted the messages ds, each once, in order, and no other.
      pub Took : List Message → Controller → Type 0
      -- Has ds k f s: the sender s was offered the messages ds and has finished the first f; only the first k can have
      -- been answered.
      pub Has : List Message → ℕ → ℕ → Sender → Type 0
      -- At the start nothing was accepted and nothing offered.
      pub took-none : Took [] c₀
      pub has-none : Has [] 0 0 s₀
      -- What was accepted is carried out.
      pub carried : {ds : List Message} {c : Controller} → Took ds c → T.memory c ≡ made T (T.memory c₀) ds
      -- The next message is accepted, carried out and answered.
      pub next :
          {ds : List Message} {c : Controller} {d : Message} {x : Datagram} {b : Lent} → Took ds c
          → Numbered (length ds) d → Copy d x → T.Lendable b →
          Answered (Took (ds ++ d ∷ [])) (Answer d (T.outcome (T.memory c) d)) (E.serve c b x)
      -- One of the last W accepted is answered as it was, and nothing else happens.
      pub again :
          {ds : List Message} {c : Controller} (i : ℕ) {d : Message} {x : Datagram} {b : Lent} → Took ds c
          → get_elem? ds i ≡ some d → length ds ≤ i + W →
          Copy d x → T.Lendable b → Answered (Took ds) (Answer d (outcome_at (T.memory c₀) ds i d)) (E.serve c b x)
      -- An older one is refused, and nothing happens.
      pub late :
          {ds : List Message} {c : Controller} (i : ℕ) {d : Message} {x : Datagram} {b : Lent} → Took ds c
          → get_elem? ds i ≡ some d → i + W < length ds →
          length ds ≤ i + A.request → Copy d x → T.Lendable b → Refused (Took ds) (E.serve c b x)
      -- One before its turn is refused, and nothing happens.
      pub early :
          {ds : List Message} {c : Controller} (i : ℕ) {d : Message} {x : Datagram} {b : Lent} → Took ds c
          → Numbered i d → length ds < i →
          i < length ds + W → Copy d x → T.Lendable b → Refused (Took ds) (E.serve c b x)
      -- A quiet datagram changes nothing, and its answer answers no message.
      pub quiet :
          {ds : List Message} {c : Controller} {x : Datagram} {b : Lent} → Took ds c → T.Quiet x → T.Lendable b →
          Took ds (E.serve c b x).0 × ((a : Datagram) → (E.serve c b x).1 ≡ some a → Strange a)
      -- An offer is accepted where there is room, and refused elsewhere.
      pub offers :
          {ds : List Message} {k f : ℕ} {s : Sender} {d : Message} → Has ds k f s → length ds < f + W → T.Fits s d →
          Numbered (length ds) d × Has (ds ++ d ∷ []) k f (E.offer s d)
      pub full : {ds : List Message} {k f : ℕ} {s : Sender} (d : Message) → Has ds k f s → f + W ≤ length ds
          → Has ds k f (E.offer s d)
      -- Sending hands back the oldest waiting message, and never another than one that waits.
      pub oldest :
          {ds : List Message} {k f : ℕ} {s : Sender} {d : Message} → Has ds k f s → get_elem? ds f ≡ some d
          → (x : Datagram) × (E.send s 0 ≡ some x) × Copy d x
      pub sends :
          {ds : List Message} {k f : ℕ} (p : ℕ) {s : Sender} {x : Datagram} → Has ds k f s → p < W
          → E.send s p ≡ some x →
          (d : Message) × (get_elem? ds (f + p) ≡ some d) × Copy d x
      -- The answer to a message hands over outcomes that are from the carrying out.
      pub hears :
          {ds : List Message} {k f : ℕ} (i : ℕ) {s : Sender} {d : Message} {a : Datagram} → Has ds k f s → i < k
          → get_elem? ds i ≡ some d →
          (f < length ds → length ds ≤ i + A.answer) → Answer d (outcome_at (T.memory c₀) ds i d) a
          → Heard (Has ds k) (T.memory c₀) ds f i (E.take s a)
      -- An answer that answers no message is refused, and nothing happens.
      pub ignores :
          {ds : List Message} {k f : ℕ} {s : Sender} {a : Datagram} → Has ds k f s → Strange a
          → ((E.take s a).1 ≡ []) × Has ds k f (E.take s a).0
      -- More messages may have been answered than the sender heard of, and not fewer.
      pub later : {ds : List Message} {k f : ℕ} {s : Sender} (l : ℕ) → k ≤ l → Has ds k f s → Has ds l f s
      pub within : {ds : List Message} {k f : ℕ} {s : Sender} → Has ds k f s → f ≤ k
