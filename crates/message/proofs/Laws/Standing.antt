-- A second pass over an accepted datagram: the next command, and where the one behind it stands. Whoever carries a request out, or
-- takes an answer to it, cites `stands-starts` and `stands-next`. Assumes nothing.
use Prim.Native.Nat.{ℕ, ◌+◌, ◌-◌, ◌<◌, ◌≤◌}
use mathlib.Core.Path.{◌≡◌, sym, ap, ◌∙◌}
use mathlib.Core.List.{List, ◌∷◌, ◌++◌, append_assoc}
use native.Mathlib.Omega.{arith}
use lib.ListN.{length, get_or, take, drop, length-append, length-drop}
use lib.Seq.{take_at, drop_at, drop-drop, get_or-drop}
use Rattle.word.specs.Words.{words_of, Bytes}
use Rattle.word.proofs.Crossing.{words_back}
use Rattle.header.specs.Header.{kind_of, byte1_of, count_of, last_of, header_from, address_words, data_words, body_words}
use Rattle.header.proofs.Laws.Header.{byte1-back, count-back, last-back, address-le}
use Rattle.message.specs.Request.{Command, Request, Means, command_words, none, request_words, written, FitsCommand, All}
use Rattle.message.specs.Address.{address_from, address_in}
use Rattle.message.specs.Walk.{read}
use Rattle.message.proofs.Laws.Addresses.{address-long, address-back}
use Rattle.message.proofs.Laws.Round.{request-words}
use Rattle.message.proofs.Laws.Back.{written_read}

-- from word `at` on, the words ws are the writing of the commands cs: what a second pass goes by, which judges nothing again
pub record Stands (byte0 : ℕ) (ws : List ℕ) (at : ℕ) (cs : List Command) : Type 0 where
  pub byte : byte0 < 256
  pub fit : All (FitsCommand byte0) cs
  pub is : drop at ws ≡ request_words byte0 cs

-- an accepted datagram's commands stand in it from its first word on
pub stands-starts : (dg : List ℕ) (r : Request) → Bytes dg → read dg ≡ Means r → Stands r.byte0 (words_of dg) 0 r.commands
unfolding written
stands-starts dg r hb m =
    let w = written_read dg r hb m in
    let a = w.0.asked in
    record { byte = a.byte; fit = a.all; is = ap words_of w.1 ∙ words_back _ (request-words r.byte0 a.byte a.asking r.commands a.all) }

-- what stands at word `at`: the fields of the header h, the body, and the commands behind it
pub record Next (byte0 : ℕ) (ws : List ℕ) (at : ℕ) (c : Command) (cs : List Command) : Type 0 where
  pub here : at < length ws
  pub byte1 : byte1_of (get_or ws at 0) ≡ c.byte1
  pub count : count_of (get_or ws at 0) ≡ c.count
  pub last : last_of (get_or ws at 0) ≡ none cs
  pub inside : at + 1 + body_words byte0 c.count ≤ length ws
  pub address : address_from (address_words byte0) (drop (at + 1) ws) ≡ c.address
  pub payload : take (data_words (kind_of byte0) c.count) (drop (at + 1 + address_words byte0) ws) ≡ c.payload
  pub fits : FitsCommand byte0 c
  pub on : Stands byte0 ws (at + 1 + body_words byte0 c.count) cs

module _ (byte0 : ℕ) (ws : List ℕ) (at : ℕ) (c : Command) (cs : List Command) (s : Stands byte0 ws at (c ∷ cs)) where
  abbrev h : ℕ
  h = header_from byte0 c.byte1 c.count (none cs)

  abbrev ad : List ℕ
  ad = address_in (address_words byte0) c.address

  abbrev behind : List ℕ
  behind = request_words byte0 cs

  fit : FitsCommand byte0 c
  unfolding All
  fit = s.fit.0

  -- the words from the header on
  here-is : drop at ws ≡ h ∷ (ad ++ c.payload ++ behind)
  unfolding request_words command_words
  here-is = s.is

  past-header : drop (at + 1) ws ≡ ad ++ (c.payload ++ behind)
  past-header = sym (drop-drop 1 at ws) ∙ ap (drop 1) here-is ∙ append_assoc ad c.payload behind

  ad-long : length ad ≡ address_words byte0
  ad-long = address-long (address_words byte0) c.address (address-le byte0)

  past-address : drop (at + 1 + address_words byte0) ws ≡ c.payload ++ behind
  past-address = sym (drop-drop (address_words byte0) (at + 1) ws) ∙ ap (drop (address_words byte0)) past-header ∙ drop_at ad (c.payload ++ behind) _ ad-long

  past-body : drop (at + 1 + body_words byte0 c.count) ws ≡ behind
  past-body =
      let e : at + 1 + address_words byte0 + data_words (kind_of byte0) c.count ≡ at + 1 + body_words byte0 c.count = omega arith in
      ap (λ (n : ℕ). drop n ws) (sym e) ∙ sym (drop-drop (data_words (kind_of byte0) c.count) (at + 1 + address_words byte0) ws)
      ∙ ap (drop (data_words (kind_of byte0) c.count)) past-address ∙ drop_at c.payload behind _ fit.long

  head-is : get_or ws at 0 ≡ h
  head-is = let z : at ≡ at + 0 = omega arith in ap (λ (n : ℕ). get_or ws n 0) z ∙ sym (get_or-drop at ws 0 0) ∙ ap (λ (l : List ℕ). get_or l 0 0) here-is

  long : length ws - at ≡ 1 + body_words byte0 c.count + length behind
  long =
      sym (length-drop at ws) ∙ ap length here-is
      ∙ omega (arith, length-append (ad ++ c.payload) behind, length-append ad c.payload, ad-long, fit.long)

  pub stands-next : Next byte0 ws at c cs
  unfolding All
  stands-next =
      record {
        here = omega (arith, long);
        byte1 = rw head-is (byte1-back byte0 _ _ (none cs) s.byte fit.byte fit.twelve);
        count = rw head-is (count-back byte0 _ _ (none cs) s.byte fit.byte fit.twelve);
        last = rw head-is (last-back byte0 _ _ (none cs) s.byte fit.byte fit.twelve);
        inside = omega (arith, long);
        address = rw past-header (address-back (address_words byte0) c.address (c.payload ++ behind) fit.reaches);
        payload = rw past-address (take_at c.payload behind _ fit.long);
        fits = fit;
        on = record { byte = s.byte; fit = s.fit.1; is = past-body };
      }
