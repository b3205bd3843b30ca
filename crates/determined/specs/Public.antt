-- "Every public function says what it returns and what each lent buffer and record then holds, refusals too, so that
-- any two results allowed for one input are shown equal": of the calls of both ends, about their contracts as the
-- checker has them. proofs/Public.antt proves it. Assumes nothing.
use Rattle.std.specs.Prelude.{◌≡◌, Result, Ok, Err}
use seplogic.Ra.Ura.{Ura}
use base.Logic.{SProp, ent}
use contract.Lifetimes.{Lfts}
use contract.Monad.{Fun, conj, fact}
use prog.Memory.{Memory}
use prog.Routine.{Routine}
use types.Logic.{Logic}
use denote.Triple.Entry.{Args, Res}
use denote.Triple.Clauses.{Ended, AtExit, Clauses}
use Rattle.completer.specs.Controller.{lent, left}
use Rattle.completer.specs.Settling.{gave, sent_by, follows}
use Rattle.completer.specs.contracts.verdict.verdict_of as VerdictOf
use Rattle.completer.specs.contracts.serving.dispatch as Dispatch
use Rattle.completer.specs.contracts.serving.follow as Follow
use Rattle.completer.specs.contracts.serving.serve as Serve
use Rattle.controller.specs.contracts.charkhavo_serve as ServeInPlace
use Rattle.building.specs.contracts.build.begin as Begin
use Rattle.building.specs.contracts.build.add as Add
use Rattle.building.specs.contracts.build.close as Close
use Rattle.header.specs.declared.refusal.Refusal.{Refusal}
use Rattle.initiator.specs.declared.sender.Sender.{Sender}
use Rattle.initiator.specs.declared.places.Checked.{Checked}
use Rattle.initiator.specs.contracts.sender.Sender.checked as CheckedBy
use Rattle.initiator.specs.contracts.asking.ask as Ask
use Rattle.initiator.specs.contracts.asking.ask_as as AskAs
use Rattle.initiator.specs.contracts.sender.Sender.fresh as Fresh
use Rattle.initiator.specs.contracts.sender.Sender.discovered as Discovered
use Rattle.initiator.specs.contracts.sender.Sender.stopped as Stopped
use Rattle.initiator.specs.contracts.sender.Sender.offer as Offer
use Rattle.initiator.specs.contracts.sender.Sender.send as Send
use Rattle.initiator.specs.contracts.sender.Sender.take as Take
use Rattle.initiator.specs.contracts.sender.Moved.of as MovedOf
use Rattle.initiator.specs.contracts.sender.Taken.of as TakenOf
use Rattle.initiator.specs.contracts.outcome.told as Told
use Rattle.initiator.specs.contracts.outcome.answered as Answered
use Rattle.initiator.specs.contracts.outcome.ended as EndedBy
use Rattle.initiator.specs.contracts.outcome.read_span as ReadSpan
use Rattle.initiator.specs.contracts.outcome.read_data as ReadData
use Rattle.layout.specs.contracts.set_up as SetUp
use Rattle.layout.specs.contracts.row_of as RowOf
use Rattle.layout.specs.contracts.writing.write as Write
use Rattle.table.specs.contracts.attempt.Attempt.begin as BeginAttempt
use Rattle.table.specs.contracts.attempt.message as Message
use Rattle.table.specs.contracts.attempt.take as TakeOn
use Rattle.loader.specs.Build.{leaves}
use Rattle.loader.specs.contracts.build.charkhavo_refusal as RefusalInC
use Rattle.loader.specs.contracts.build.charkhavo_begin as BeginInC
use Rattle.loader.specs.contracts.build.charkhavo_add as AddInC
use Rattle.loader.specs.contracts.build.charkhavo_close as CloseInC
use Rattle.loader.specs.contracts.sending.charkhavo_discovery as DiscoveryInC
use Rattle.loader.specs.contracts.sending.charkhavo_fresh as FreshInC
use Rattle.loader.specs.contracts.sending.charkhavo_discovered as DiscoveredInC
use Rattle.loader.specs.contracts.sending.charkhavo_offer as OfferInC
use Rattle.loader.specs.contracts.sending.charkhavo_send as SendInC
use Rattle.loader.specs.contracts.sending.charkhavo_take as TakeInC
use Rattle.loader.specs.contracts.outcome.charkhavo_count as CountInC
use Rattle.loader.specs.contracts.outcome.charkhavo_status as StatusInC
use Rattle.loader.specs.contracts.outcome.charkhavo_read_data as ReadDataInC
use Rattle.loader.specs.contracts.training.AttemptFromTableAttempt.from as AttemptOf
use Rattle.loader.specs.contracts.training.TableAttemptFromAttempt.from as NumbersOf
use Rattle.loader.specs.contracts.training.charkhavo_set_up as SetUpInC
use Rattle.loader.specs.contracts.training.charkhavo_attempt as AttemptInC
use Rattle.loader.specs.contracts.training.charkhavo_table_message as MessageInC
use Rattle.loader.specs.contracts.training.charkhavo_table_take as TakeOnInC

-- A contract, by its clauses, in any model of the program logic.
abbrev pub Contract : Ended → Type 2
Contract T = (M : Type 1) (𝓤 : Ura M) (𝓛 : Logic 𝓤) → (Memory → SProp 𝓤) → (Routine → Fun 𝓤) → Clauses 𝓤 T

-- Any two results allowed for one input are equal. The input is a, all arguments at entry; a result is what is
-- returned, r, and the parameters at exit, e, of which `back` takes what each buffer and record that may be changed
-- then holds. `Determined` is of a `back` that does not look at the input.
abbrev pub DeterminedWith : (T : Ended) → Contract T → {O : Type 0}
    → ((κs : Lfts T.signature.lifetimes) → Args T.signature κs → Res T.signature κs → AtExit T κs → O)
    → Type 2
DeterminedWith T contract back =
    (M : Type 1) (𝓤 : Ura M) (𝓛 : Logic 𝓤) (mem : Memory → SProp 𝓤) (run : Routine → Fun 𝓤)
    (κs : Lfts T.signature.lifetimes) (a : Args T.signature κs) (g : (contract M 𝓤 𝓛 mem run κs a).ghost)
    (one other : Res T.signature κs × AtExit T κs)
    → ent 𝓤
    (conj 𝓤 ((contract M 𝓤 𝓛 mem run κs a).ensures g one.0 one.1)
    ((contract M 𝓤 𝓛 mem run κs a).ensures g other.0 other.1))
    (fact 𝓤 (back κs a one.0 one.1 ≡ back κs a other.0 other.1))

abbrev pub Determined : (T : Ended) → Contract T → {O : Type 0}
    → ((κs : Lfts T.signature.lifetimes) → Res T.signature κs → AtExit T κs → O) → Type 2
Determined T contract back = DeterminedWith T contract (λ κs a r e. back κs r e)

-- what is returned, and what the output then holds
abbrev pub beside : {A B : Type 0} → A → B → A × B
beside r output = (r, output)

-- The controller: the refusal or the bytes sent, memory, stored answers, kept requests, record and output, all of them.
-- `dispatch` gives no record: it is the one that `follow` makes of what it gives and of the record that came in. What a
-- message is kept with stands in that record, and is open where it does not.
pub record Controlling : Type 2 where
  pub verdict-of : Determined VerdictOf.ended (λ M 𝓤. VerdictOf.clauses) (λ κs r e. r)
  pub dispatch :
      DeterminedWith Dispatch.ended (λ M 𝓤. Dispatch.clauses)
      (λ κs a r e. beside (sent_by r) (gave (sent_by r)
      (lent e.0.now e.1.0.now e.1.1.0.now (follows a.1.1.1.1.0 r)) e.1.1.1.0.now))
  pub follow : Determined Follow.ended (λ M 𝓤. Follow.clauses) (λ κs r e. r)
  pub serve :
      Determined Serve.ended (λ M 𝓤. Serve.clauses)
      (λ κs r e.
      beside r (gave r (lent e.0.now e.1.0.now e.1.1.0.now e.1.1.1.1.0.now)
      e.1.1.1.0.now))
  pub in_place :
      Determined ServeInPlace.ended (λ M 𝓤. ServeInPlace.clauses)
      (λ κs r e.
      left r.refusal r.sent
      (lent e.0.now e.1.1.0.now e.1.0.now e.1.1.1.1.0.now)
      e.1.1.1.0.now)

-- Building: the refusal and the record, and what the output then holds.
pub record Building : Type 2 where
  pub begin : Determined Begin.ended (λ M 𝓤. Begin.clauses) (λ κs r e. r)
  pub add : Determined Add.ended (λ M 𝓤. Add.clauses) (λ κs r e. beside r e.0.now)
  pub close : Determined Close.ended (λ M 𝓤. Close.clauses) (λ κs r e. beside r e.0.now)

-- what a call gave back, each value seen so; a refusal is seen as it is
abbrev pub seen_by : {A B : Type 0} → (A → B) → Result A Refusal → Result B Refusal
seen_by see (Ok a) = Ok (see a)
seen_by see (Err r) = Err r

-- Sending and outcomes: nothing that is lent can be changed. A part that comes back is its bytes, and a sender that was
-- checked is its record.
pub record Sending : Type 2 where
  pub checked : Determined CheckedBy.ended (λ M 𝓤. CheckedBy.clauses) (λ κs r e. seen_by (λ (c : Checked). c.sender) r)
  pub ask : Determined Ask.ended (λ M 𝓤. Ask.clauses) (λ κs r e. r)
  pub ask-as : Determined AskAs.ended (λ M 𝓤. AskAs.clauses) (λ κs r e. r)
  pub fresh : Determined Fresh.ended (λ M 𝓤. Fresh.clauses) (λ κs r e. r)
  pub stopped : Determined Stopped.ended (λ M 𝓤. Stopped.clauses) (λ κs r e. r)
  pub discovered : Determined Discovered.ended (λ M 𝓤. Discovered.clauses) (λ κs r e. r)
  pub moved : Determined MovedOf.ended (λ M 𝓤. MovedOf.clauses) (λ κs r e. r)
  pub taken : Determined TakenOf.ended (λ M 𝓤. TakenOf.clauses) (λ κs r e. r)
  pub offer : Determined Offer.ended (λ M 𝓤. Offer.clauses) (λ κs r e. r)
  pub send : Determined Send.ended (λ M 𝓤. Send.clauses) (λ κs r e. seen_by (λ part. part.now) r)
  pub take : Determined Take.ended (λ M 𝓤. Take.clauses) (λ κs r e. r)
  pub told : Determined Told.ended (λ M 𝓤. Told.clauses) (λ κs r e. r)
  pub answered : Determined Answered.ended (λ M 𝓤. Answered.clauses) (λ κs r e. r)
  pub ended : Determined EndedBy.ended (λ M 𝓤. EndedBy.clauses) (λ κs r e. r)
  pub read-span : Determined ReadSpan.ended (λ M 𝓤. ReadSpan.clauses) (λ κs r e. r)
  pub read-data : Determined ReadData.ended (λ M 𝓤. ReadData.clauses) (λ κs r e. r.now)

-- The training table: where it stands, its rows and messages, and an attempt at loading it.
pub record Training : Type 2 where
  pub set-up : Determined SetUp.ended (λ M 𝓤. SetUp.clauses) (λ κs r e. r)
  pub row_of : Determined RowOf.ended (λ M 𝓤. RowOf.clauses) (λ κs r e. r)
  pub write : Determined Write.ended (λ M 𝓤. Write.clauses) (λ κs r e. beside r e.0.now)
  pub begin : Determined BeginAttempt.ended (λ M 𝓤. BeginAttempt.clauses) (λ κs r e. r)
  pub message : Determined Message.ended (λ M 𝓤. Message.clauses) (λ κs r e. beside r e.0.now)
  pub take : Determined TakeOn.ended (λ M 𝓤. TakeOn.clauses) (λ κs r e. r)

-- The same for C, the building record lent and changed in place.
pub record InC : Type 2 where
  pub refusal : Determined RefusalInC.ended (λ M 𝓤. RefusalInC.clauses) (λ κs r e. r)
  pub begin : Determined BeginInC.ended (λ M 𝓤. BeginInC.clauses) (λ κs r e. leaves r e.1.0.now)
  pub add : Determined AddInC.ended (λ M 𝓤. AddInC.clauses) (λ κs r e. beside (leaves r e.1.0.now) e.0.now)
  pub close :
      Determined CloseInC.ended (λ M 𝓤. CloseInC.clauses) (λ κs r e. beside (leaves r e.1.0.now) e.0.now)
  pub discovery : Determined DiscoveryInC.ended (λ M 𝓤. DiscoveryInC.clauses) (λ κs r e. r)
  pub fresh : Determined FreshInC.ended (λ M 𝓤. FreshInC.clauses) (λ κs r e. r)
  pub discovered : Determined DiscoveredInC.ended (λ M 𝓤. DiscoveredInC.clauses) (λ κs r e. r)
  pub offer : Determined OfferInC.ended (λ M 𝓤. OfferInC.clauses) (λ κs r e. r)
  pub send : Determined SendInC.ended (λ M 𝓤. SendInC.clauses) (λ κs r e. r)
  pub take : Determined TakeInC.ended (λ M 𝓤. TakeInC.clauses) (λ κs r e. r)
  pub count : Determined CountInC.ended (λ M 𝓤. CountInC.clauses) (λ κs r e. r)
  pub status : Determined StatusInC.ended (λ M 𝓤. StatusInC.clauses) (λ κs r e. r)
  pub read-data : Determined ReadDataInC.ended (λ M 𝓤. ReadDataInC.clauses) (λ κs r e. r)
  pub attempt-of : Determined AttemptOf.ended (λ M 𝓤. AttemptOf.clauses) (λ κs r e. r)
  pub numbers-of : Determined NumbersOf.ended (λ M 𝓤. NumbersOf.clauses) (λ κs r e. r)
  pub set-up : Determined SetUpInC.ended (λ M 𝓤. SetUpInC.clauses) (λ κs r e. r)
  pub attempt : Determined AttemptInC.ended (λ M 𝓤. AttemptInC.clauses) (λ κs r e. r)
  pub table-message : Determined MessageInC.ended (λ M 𝓤. MessageInC.clauses) (λ κs r e. beside r e.0.now)
  pub table-take : Determined TakeOnInC.ended (λ M 𝓤. TakeOnInC.clauses) (λ κs r e. r)
