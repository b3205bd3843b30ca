-- The public functions that the ends stand on are determined too: each by its contract, as in Public.antt. Where a
-- function is lent something that it can change, what that then holds stands beside what is returned, or alone where
-- nothing is returned. Assumes nothing.
use Rattle.determined.specs.Public.{Determined, beside}
use Rattle.word.specs.contracts.from_byte as FromByte
use Rattle.word.specs.contracts.word_at as WordAt
use Rattle.word.specs.contracts.put_word as PutWord
use Rattle.word.specs.contracts.merge as Merge
use Rattle.word.specs.contracts.run.put_words as PutWords
use Rattle.word.specs.contracts.run.get_words as GetWords
use Rattle.word.specs.contracts.run.copy_words as CopyWords
use Rattle.word.specs.contracts.run.copy_bytes as CopyBytes
use Rattle.word.specs.contracts.run.same_words as SameWords
use Rattle.header.specs.contracts.tag as Tag
use Rattle.header.specs.contracts.next_tag as NextTag
use Rattle.header.specs.contracts.KindFromU32.from as KindNo
use Rattle.header.specs.contracts.kind_of as KindOf
use Rattle.header.specs.contracts.U32FromKind.from as Number
use Rattle.header.specs.contracts.wide as Wide
use Rattle.header.specs.contracts.discovery as Discovery
use Rattle.header.specs.contracts.byte0 as Byte0
use Rattle.header.specs.contracts.byte1 as Byte1
use Rattle.header.specs.contracts.first_field as FirstField
use Rattle.header.specs.contracts.last_field as LastField
use Rattle.header.specs.contracts.count as Count
use Rattle.header.specs.contracts.reserved as Reserved
use Rattle.header.specs.contracts.last as Last
use Rattle.header.specs.contracts.byte0_from as Byte0From
use Rattle.header.specs.contracts.header_from as HeaderFrom
use Rattle.header.specs.contracts.address_words as AddressWords
use Rattle.header.specs.contracts.data_words as DataWords
use Rattle.header.specs.contracts.reply_words as ReplyWords
use Rattle.header.specs.contracts.body_words as BodyWords
use Rattle.header.specs.contracts.size as Size
use Rattle.header.specs.contracts.as_asked as AsAsked
use Rattle.header.specs.contracts.head_of as HeadOf
use Rattle.header.specs.contracts.ends_ok as EndsOk
use Rattle.header.specs.contracts.limits.length_ok as LengthOk
use Rattle.header.specs.contracts.refusal.Refusal.of as OfHeader
use Rattle.header.specs.contracts.refusal.check as Check
use Rattle.message.specs.contracts.address.address_at as AddressAt
use Rattle.message.specs.contracts.address.put_address as PutAddress
use Rattle.message.specs.contracts.discovery.bytes as BytesOf
use Rattle.message.specs.contracts.faults.count_ok as CountOk
use Rattle.message.specs.contracts.faults.pattern_ok as PatternOk
use Rattle.message.specs.contracts.walk.walk as Walk
use Rattle.answer.specs.contracts.StatusTryFromU32.try_from as StatusNo
use Rattle.answer.specs.contracts.U32FromStatus.from as Code
use Rattle.answer.specs.contracts.answer_byte as AnswerByte
use Rattle.answer.specs.contracts.look_on as LookOn
use Rattle.answer.specs.contracts.look_at as LookAt
use Rattle.answer.specs.contracts.check_head as CheckHead
use Rattle.memory.specs.contracts.moves.outside as Outside
use Rattle.memory.specs.contracts.moves.store as Store
use Rattle.memory.specs.contracts.moves.store_all as StoreAll
use Rattle.carrying.specs.contracts.carry.carry as Carry
use Rattle.tags.specs.contracts.record.TagRecord.fresh as FreshTags
use Rattle.tags.specs.contracts.record.place as Place
use Rattle.tags.specs.contracts.record.record_ok as RecordOk
use Rattle.tags.specs.contracts.record.kept_ok as KeptOk
use Rattle.tags.specs.contracts.record.words_at as WordsAt
use Rattle.tags.specs.contracts.record.request_at as RequestAt
use Rattle.tags.specs.contracts.record.record_after as RecordAfter
use Rattle.tags.specs.contracts.sound.Sound.of as OfTags
use Rattle.tags.specs.contracts.sound.Sound.mark as Mark
use Rattle.tags.specs.contracts.sound.Sound.rule as Rule

-- `word`
pub record InWord : Type 2 where
  pub from_byte : Determined FromByte.ended (λ M 𝓤. FromByte.clauses) (λ κs r e. r)
  pub word_at : Determined WordAt.ended (λ M 𝓤. WordAt.clauses) (λ κs r e. r)
  pub put_word : Determined PutWord.ended (λ M 𝓤. PutWord.clauses) (λ κs r e. e.0.now)
  pub merge : Determined Merge.ended (λ M 𝓤. Merge.clauses) (λ κs r e. r)
  pub put-words : Determined PutWords.ended (λ M 𝓤. PutWords.clauses) (λ κs r e. e.0.now)
  pub get-words : Determined GetWords.ended (λ M 𝓤. GetWords.clauses) (λ κs r e. e.0.now)
  pub copy-words : Determined CopyWords.ended (λ M 𝓤. CopyWords.clauses) (λ κs r e. e.0.now)
  pub copy-bytes : Determined CopyBytes.ended (λ M 𝓤. CopyBytes.clauses) (λ κs r e. e.0.now)
  pub same-words : Determined SameWords.ended (λ M 𝓤. SameWords.clauses) (λ κs r e. r)

-- `header`
pub record InHeader : Type 2 where
  pub tag : Determined Tag.ended (λ M 𝓤. Tag.clauses) (λ κs r e. r)
  pub next-tag : Determined NextTag.ended (λ M 𝓤. NextTag.clauses) (λ κs r e. r)
  pub kind-no : Determined KindNo.ended (λ M 𝓤. KindNo.clauses) (λ κs r e. r)
  pub kind-of : Determined KindOf.ended (λ M 𝓤. KindOf.clauses) (λ κs r e. r)
  pub number : Determined Number.ended (λ M 𝓤. Number.clauses) (λ κs r e. r)
  pub wide : Determined Wide.ended (λ M 𝓤. Wide.clauses) (λ κs r e. r)
  pub discovery : Determined Discovery.ended (λ M 𝓤. Discovery.clauses) (λ κs r e. r)
  pub byte0 : Determined Byte0.ended (λ M 𝓤. Byte0.clauses) (λ κs r e. r)
  pub byte1 : Determined Byte1.ended (λ M 𝓤. Byte1.clauses) (λ κs r e. r)
  pub first_field : Determined FirstField.ended (λ M 𝓤. FirstField.clauses) (λ κs r e. r)
  pub last-field : Determined LastField.ended (λ M 𝓤. LastField.clauses) (λ κs r e. r)
  pub count : Determined Count.ended (λ M 𝓤. Count.clauses) (λ κs r e. r)
  pub reserved : Determined Reserved.ended (λ M 𝓤. Reserved.clauses) (λ κs r e. r)
  pub last : Determined Last.ended (λ M 𝓤. Last.clauses) (λ κs r e. r)
  pub byte0-from : Determined Byte0From.ended (λ M 𝓤. Byte0From.clauses) (λ κs r e. r)
  pub header-from : Determined HeaderFrom.ended (λ M 𝓤. HeaderFrom.clauses) (λ κs r e. r)
  pub address-words : Determined AddressWords.ended (λ M 𝓤. AddressWords.clauses) (λ κs r e. r)
  pub data-words : Determined DataWords.ended (λ M 𝓤. DataWords.clauses) (λ κs r e. r)
  pub reply-words : Determined ReplyWords.ended (λ M 𝓤. ReplyWords.clauses) (λ κs r e. r)
  pub body-words : Determined BodyWords.ended (λ M 𝓤. BodyWords.clauses) (λ κs r e. r)
  pub size : Determined Size.ended (λ M 𝓤. Size.clauses) (λ κs r e. r)
  pub as-asked : Determined AsAsked.ended (λ M 𝓤. AsAsked.clauses) (λ κs r e. r)
  pub head-of : Determined HeadOf.ended (λ M 𝓤. HeadOf.clauses) (λ κs r e. r)
  pub ends-ok : Determined EndsOk.ended (λ M 𝓤. EndsOk.clauses) (λ κs r e. r)
  pub length-ok : Determined LengthOk.ended (λ M 𝓤. LengthOk.clauses) (λ κs r e. r)
  pub of : Determined OfHeader.ended (λ M 𝓤. OfHeader.clauses) (λ κs r e. r)
  pub check : Determined Check.ended (λ M 𝓤. Check.clauses) (λ κs r e. r)

-- `message`
pub record InMessage : Type 2 where
  pub address-at : Determined AddressAt.ended (λ M 𝓤. AddressAt.clauses) (λ κs r e. r)
  pub put-address : Determined PutAddress.ended (λ M 𝓤. PutAddress.clauses) (λ κs r e. e.0.now)
  pub bytes : Determined BytesOf.ended (λ M 𝓤. BytesOf.clauses) (λ κs r e. r)
  pub count-ok : Determined CountOk.ended (λ M 𝓤. CountOk.clauses) (λ κs r e. r)
  pub pattern-ok : Determined PatternOk.ended (λ M 𝓤. PatternOk.clauses) (λ κs r e. r)
  pub walk : Determined Walk.ended (λ M 𝓤. Walk.clauses) (λ κs r e. r)

-- `answer`
pub record InAnswer : Type 2 where
  pub status-no : Determined StatusNo.ended (λ M 𝓤. StatusNo.clauses) (λ κs r e. r)
  pub code : Determined Code.ended (λ M 𝓤. Code.clauses) (λ κs r e. r)
  pub answer-byte : Determined AnswerByte.ended (λ M 𝓤. AnswerByte.clauses) (λ κs r e. r)
  pub look-on : Determined LookOn.ended (λ M 𝓤. LookOn.clauses) (λ κs r e. r)
  pub look_at : Determined LookAt.ended (λ M 𝓤. LookAt.clauses) (λ κs r e. r)
  pub check-head : Determined CheckHead.ended (λ M 𝓤. CheckHead.clauses) (λ κs r e. r)

-- `memory`
pub record InMemory : Type 2 where
  pub outside : Determined Outside.ended (λ M 𝓤. Outside.clauses) (λ κs r e. r)
  pub store : Determined Store.ended (λ M 𝓤. Store.clauses) (λ κs r e. e.0.now)
  pub store-all : Determined StoreAll.ended (λ M 𝓤. StoreAll.clauses) (λ κs r e. beside r e.0.now)

-- `carrying`
pub record InCarrying : Type 2 where
  pub carry :
      Determined Carry.ended (λ M 𝓤. Carry.clauses)
      (λ κs r e. beside r (beside e.0.now (beside e.1.0.now e.1.1.0.now)))

-- `tags`
pub record InTags : Type 2 where
  pub fresh : Determined FreshTags.ended (λ M 𝓤. FreshTags.clauses) (λ κs r e. r)
  pub place : Determined Place.ended (λ M 𝓤. Place.clauses) (λ κs r e. r)
  pub record-ok : Determined RecordOk.ended (λ M 𝓤. RecordOk.clauses) (λ κs r e. r)
  pub kept-ok : Determined KeptOk.ended (λ M 𝓤. KeptOk.clauses) (λ κs r e. r)
  pub words-at : Determined WordsAt.ended (λ M 𝓤. WordsAt.clauses) (λ κs r e. r)
  pub request-at : Determined RequestAt.ended (λ M 𝓤. RequestAt.clauses) (λ κs r e. r)
  pub record-after : Determined RecordAfter.ended (λ M 𝓤. RecordAfter.clauses) (λ κs r e. r)
  pub of : Determined OfTags.ended (λ M 𝓤. OfTags.clauses) (λ κs r e. r.tags)
  pub mark : Determined Mark.ended (λ M 𝓤. Mark.clauses) (λ κs r e. r)
  pub rule : Determined Rule.ended (λ M 𝓤. Rule.clauses) (λ κs r e. r)
