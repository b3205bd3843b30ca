-- Tags modulo 16, up to W messages waiting: the tag rule, and the facts about single calls by which two ends meet the
-- laws of Laws.antt (proofs/Tags.antt), where twice W is at most 16 and the ages are at most the usual ones. Nothing
-- else in this crate knows of tags, but for the pair of ends of Pair.antt and its runs. Assumes nothing.
use Rattle.std.specs.Prelude.{ℕ, zero, suc, ◌+◌, ◌%◌, ◌≤◌, ◌<◌, ◌≡◌, List, [], ◌∷◌, ◌++◌, length, take}
use Rattle.std.proofs.Math.Option.{Option, none, some}
use Rattle.std.proofs.Math.ListN.{get_elem?}
use Rattle.once.specs.World.{Ends, World, finished, sent}
use Rattle.once.specs.Promise.{Terms, usual, made}

-- the tags of what is stored; here and below the newest comes first
abbrev pub tags_in : {A : Type 0} → List (ℕ × A) → List ℕ
tags_in [] = []
tags_in (p ∷ ps) = p.0 ∷ tags_in ps

-- "the next tag, stored plus 1 modulo 16, or 0 if none": by the newest. "a fresh controller now takes only tag 0".
abbrev pub next_tag : List ℕ → ℕ
next_tag [] = 0
next_tag (u ∷ us) = (u + 1) % 16

-- "holds one to four, their tags going back from the newest by one, modulo 16": at most W, and each at most 15
abbrev pub Back : ℕ → List ℕ → Type 0
Back W us = (j u : ℕ) → get_elem? us j ≡ some u → (u < 16) × (j < W) × ((u + suc j) % 16 ≡ next_tag us)

-- t is none of the tags
abbrev pub Unlike : List ℕ → ℕ → Type 0
Unlike us t = (j : ℕ) → get_elem? us j ≡ some t → ⊥

-- A message that waits: not yet answered, or answered with that outcome while an older one waits.
pub data Slot (M O : Type 0) : Type 0 where
  asked : M → Slot M O
  answered : M → O → Slot M O

module _ {M O : Type 0} where
  abbrev pub message_in : Slot M O → M
  message_in (asked d) = d
  message_in (answered d o) = d

  -- the message of place p, the oldest being 0, is answered now with the outcome o
  abbrev pub mark : ℕ → O → List (Slot M O) → List (Slot M O)
  mark p o [] = []
  mark zero o (asked d ∷ l) = answered d o ∷ l
  mark zero o (answered d q ∷ l) = answered d q ∷ l
  mark (suc p) o (x ∷ l) = x ∷ mark p o l

  -- "A message answered before an older one still counts as waiting until the older one ends"; "Outcomes are handed
  -- over in order of tag": those of the answered ones up to the first that is not, and who waits then
  abbrev pub ready : List (Slot M O) → List O
  ready [] = []
  ready (asked d ∷ l) = []
  ready (answered d o ∷ l) = o ∷ ready l

  abbrev pub rest : List (Slot M O) → List (Slot M O)
  rest [] = []
  rest (asked d ∷ l) = asked d ∷ l
  rest (answered d o ∷ l) = rest l

module _ (E : Ends) (T : Terms E) where
  open E use {Message, Datagram, Outcome, Lent, Controller, Sender}

  -- What is seen of two ends with tags. A controller's state may hold more, as words past a stored answer: it is not
  -- looked at.
  pub record Sight : Type 1 where
    -- the message is well-formed and no discovery; its tag
    pub Plain : Message → Type 0
    pub tag : Message → ℕ
    -- the controller's buffers have allowed lengths and its record is allowed; the stored tags with the stored answers,
    -- as they are sent, the newest first
    pub Sound : Controller → Type 0
    pub stored : Controller → List (ℕ × Datagram)
    -- Holds c j d: as far as the controller c can tell, d is the message whose answer is stored at place j, the newest
    -- being 0
    pub Holds : Controller → ℕ → Message → Type 0
    -- the tag of the oldest message that waits, or of the next to be offered; and who waits, the oldest first
    pub next : Sender → ℕ
    pub waiting : Sender → List (Slot Message Outcome)
    -- Copy d x: x carries d. Answer d o a: a answers d and gives it the outcome o. Strange a: a answers no plain
    -- message.
    pub Copy : Message → Datagram → Type 0
    pub Answer : Message → Outcome → Datagram → Type 0
    pub Strange : Datagram → Type 0

  module _ (S : Sight) where
    -- "Send .. from a fresh pair or a discovery answer made since the last accepted request": nothing waits, and the
    -- sender's next tag is the one after the newest stored.
    pub record Start (c : Controller) (s : Sender) : Type 0 where
      pub sound : S.Sound c
      pub nothing : S.waiting s ≡ []
      pub next : S.next s ≡ next_tag (tags_in (S.stored c))

    -- Memory, stored tags and stored answers are as they were.
    pub record Kept (c c' : Controller) : Type 0 where
      pub sound : S.Sound c'
      pub memory : T.memory c' ≡ T.memory c
      pub stored : S.stored c' ≡ S.stored c
      pub holds : (j : ℕ) (d : Message) → S.Holds c j d → S.Holds c' j d

    -- The sender is as it was.
    pub record Still (s s' : Sender) : Type 0 where
      pub next : S.next s' ≡ S.next s
      pub waiting : S.waiting s' ≡ S.waiting s

    -- The sender took an answer, and that gave r: it refused it, and is as it was.
    pub record Turned (s : Sender) (r : Sender × List Outcome) : Type 0 where
      pub nothing : r.1 ≡ []
      pub still : Still s r.0

    -- The sender took an answer, and that gave r: the message of place p is answered, with the outcome o, and all that
    -- is ready then is finished.
    pub record Ended (s : Sender) (p : ℕ) (o : Outcome) (r : Sender × List Outcome) : Type 0 where
      pub outcomes : r.1 ≡ ready (mark p o (S.waiting s))
      pub next : S.next r.0 ≡ (S.next s + length (ready (mark p o (S.waiting s)))) % 16
      pub waiting : S.waiting r.0 ≡ rest (mark p o (S.waiting s))

    module _ (W : ℕ) where
      -- The message is carried out, its answer sent, and both tag and answer stored; of those before, the last W - 1
      -- stay stored.
      pub record Carried (c : Controller) (d : Message) (r : Controller × Option Datagram) : Type 0 where
        pub answer : Datagram
        pub given : r.1 ≡ some answer
        pub says : S.Answer d (T.outcome (T.memory c) d) answer
        pub sound : S.Sound r.0
        pub memory : T.memory r.0 ≡ T.carry (T.memory c) d
        pub stored : S.stored r.0 ≡ take W ((S.tag d, answer) ∷ S.stored c)
        pub holds : S.Holds r.0 0 d
        pub older : (j : ℕ) (e : Message) → suc j < W → j < length (S.stored c) → S.Holds c j e
            → S.Holds r.0 (suc j) e

      -- The sender is in order: at most W messages wait, each plain, their tags going on from the next by one, and the
      -- oldest is not answered.
      pub record Waits (s : Sender) : Type 0 where
        pub few : length (S.waiting s) ≤ W
        pub small : S.next s < 16
        pub row : (p : ℕ) (x : Slot Message Outcome) → get_elem? (S.waiting s) p ≡ some x
            → S.Plain (message_in x) × (S.tag (message_in x) ≡ (S.next s + p) % 16)
        pub first : (d : Message) (o : Outcome) → get_elem? (S.waiting s) 0 ≡ some (answered d o) → ⊥

      -- The facts, each about one call.
      pub record Tagged : Type 0 where
        -- the stored tags of an allowed controller go back from the newest
        pub back : (c : Controller) → S.Sound c → Back W (tags_in (S.stored c))
        -- a message that fits where there is room is plain, and has "the tag after the newest"
        pub fits :
            {s : Sender} {d : Message} → Waits s → length (S.waiting s) < W → T.Fits s d
            → S.Plain d × (S.tag d ≡ (S.next s + length (S.waiting s)) % 16)
        -- a copy of a message arrives: "the controller still takes only the next tag, and keeps the last four answers
        -- with their tags to answer repeats of any. Older and early ones are 11"
        pub new :
            {c : Controller} {b : Lent} {d : Message} {x : Datagram} → S.Sound c → T.Lendable b → S.Plain d
            → S.Copy d x →
            S.tag d ≡ next_tag (tags_in (S.stored c)) → Carried c d (E.serve c b x)
        pub again :
            {c : Controller} {b : Lent} {d : Message} {x : Datagram} (j : ℕ) (a : Datagram) → S.Sound c
            → T.Lendable b → S.Plain d → S.Copy d x →
            get_elem? (S.stored c) j ≡ some (S.tag d, a) → S.Holds c j d
            → ((E.serve c b x).1 ≡ some a) × Kept c (E.serve c b x).0
        pub late :
            {c : Controller} {b : Lent} {d : Message} {x : Datagram} → S.Sound c → T.Lendable b → S.Plain d
            → S.Copy d x →
            (S.tag d ≡ next_tag (tags_in (S.stored c)) → ⊥) → Unlike (tags_in (S.stored c)) (S.tag d)
            → ((E.serve c b x).1 ≡ none) × Kept c (E.serve c b x).0
        -- a quiet datagram arrives
        pub quiet :
            {c : Controller} {b : Lent} {x : Datagram} → S.Sound c → T.Lendable b → T.Quiet x →
            Kept c (E.serve c b x).0 × ((a : Datagram) → (E.serve c b x).1 ≡ some a → S.Strange a)
        -- an offer, where there is room and where there is none
        pub offers :
            {s : Sender} {d : Message} → Waits s → length (S.waiting s) < W → T.Fits s d
            → (S.next (E.offer s d) ≡ S.next s) × (S.waiting (E.offer s d) ≡ S.waiting s ++ asked d ∷ [])
        pub full : {s : Sender} (d : Message) → Waits s → W ≤ length (S.waiting s) → Still s (E.offer s d)
        -- a send hands back a message that waits and is not answered, and nothing else
        pub sends :
            {s : Sender} {d : Message} (p : ℕ) → Waits s → get_elem? (S.waiting s) p ≡ some (asked d)
            → (x : Datagram) × (E.send s p ≡ some x) × S.Copy d x
        pub sent :
            {s : Sender} {x : Datagram} (p : ℕ) → Waits s → p < W → E.send s p ≡ some x
            → (d : Message) × (get_elem? (S.waiting s) p ≡ some (asked d)) × S.Copy d x
        -- the answer to a message that waits and is not answered; to one of another tag than these; to none
        pub own :
            {s : Sender} {d : Message} {o : Outcome} {a : Datagram} (p : ℕ) → Waits s
            → get_elem? (S.waiting s) p ≡ some (asked d) → S.Answer d o a → Ended s p o (E.take s a)
        pub others :
            {s : Sender} {e : Message} {o : Outcome} {a : Datagram} → Waits s → S.Plain e → S.Answer e o a
            → ((p : ℕ) (d : Message) → get_elem? (S.waiting s) p ≡ some (asked d) → S.tag e ≡ S.tag d → ⊥)
            → Turned s (E.take s a)
        pub strange : {s : Sender} {a : Datagram} → Waits s → S.Strange a → Turned s (E.take s a)

      -- What the two records say at any moment of a run that started with the controller c and the sender s.
      pub record Says (c : Controller) (s : Sender) (w : World E) : Type 0 where
        -- each message is plain, and message i has the tag that is i after the first next tag
        pub plain : (i : ℕ) (d : Message) → get_elem? w.offered i ≡ some d → S.Plain d
        pub tags : (i : ℕ) (d : Message) → get_elem? w.offered i ≡ some d → S.tag d ≡ (S.next s + i) % 16
        -- "tagged as offering asks": the sender's record says the tag of the message to be finished next, and all that
        -- were offered since wait
        pub next : S.next w.sender ≡ (S.next s + finished E w) % 16
        pub waits : finished E w + length (S.waiting w.sender) ≡ length w.offered
        -- and the sender is in order
        pub order : Waits w.sender
        -- "the last accepted": the controller stores the tags of the last W of those that the world counts as taken, at
        -- place 0 the last one's, and takes next the first that is not counted so
        pub last : (i j : ℕ) (d : Message) → suc (i + j) ≡ w.taken → j < W → get_elem? w.offered i ≡ some d
            → get_elem? (tags_in (S.stored w.controller)) j ≡ some (S.tag d)
        pub taken : next_tag (tags_in (S.stored w.controller)) ≡ (S.next s + w.taken) % 16
        -- where none is counted so, it stores what it did at the start
        pub kept : w.taken ≡ 0 → S.stored w.controller ≡ S.stored c
        -- those that are counted so have been offered, and memory is what they make of it, each carried out once in
        -- order
        pub within : w.taken ≤ length w.offered
        pub memory : T.memory w.controller ≡ made T (T.memory c) (take w.taken w.offered)
        -- the controller's buffers and its record are allowed
        pub sound : S.Sound w.controller
        -- what was sent j-th, where something was, is a copy of the message whose number stands beside it
        pub sent : (j : ℕ) (x : Datagram) → j < length w.air → (sent E w j).1 ≡ some x
            → (d : Message) × (get_elem? w.offered (sent E w j).0 ≡ some d) × S.Copy d x
        -- a message that may arrive with a stored tag is the one whose answer is stored under it
        pub repeats : (i j : ℕ) (d : Message) → w.taken ≤ i + usual.request → get_elem? w.offered i ≡ some d
            → get_elem? (tags_in (S.stored w.controller)) j ≡ some (S.tag d) → S.Holds w.controller j d
        -- a sender made anew from what the controller stores is a start with it, whatever waited
        pub anew : (s' : Sender) → S.waiting s' ≡ [] → S.next s' ≡ next_tag (tags_in (S.stored w.controller))
            → Start w.controller s'
        -- and when all that was offered is finished, the two are again a start
        pub again : length w.offered ≤ finished E w → Start w.controller w.sender
