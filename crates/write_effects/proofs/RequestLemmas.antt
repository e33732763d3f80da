-- Which requests the messages are that went out on a stream.
use Rattle.std.proofs.Common.{◌≡◌, ◌≤◌, ℕ, zero, suc, List, [], ◌∷◌, ◌++◌, length, map, Option, None, Some, refl, sym, ap, ◌∙◌, subst, arith, append_assoc, append-nil, length-append}
use Rattle.std.specs.List.{flat_map, slice_get}
use Rattle.msg_wire.specs.Framing.{Framed}
use Rattle.msg_wire.specs.Messages.{Begins, IsFirst, behind_messages, messages}
use Rattle.msg_wire.specs.declared.message.Message.{Message}
use Rattle.msg_wire.proofs.Partings.{first-once, messages-begin, parted}
use Rattle.msg_wire.proofs.Whole.{length-Framed}
use Rattle.net_link.specs.Seen.{Seen}
use Rattle.desk_trail.specs.declared.request.Request.{Request}
use Rattle.desk_trail.specs.Streams.{Account, Exchange}
use Rattle.wired_trail.specs.Wired.{IsStreamWired, bytes_answered, bytes_of}
use Rattle.request_keys.specs.Requests.{last_of, requests_in}

-- Each frames a message.
abbrev pub AreFramed : List Request → Type 0
AreFramed rs = (n : ℕ) (r : Request) → slice_get rs n ≡ Some r → (m : Message) × Framed r.bytes m

abbrev pub bytes_in : List Request → List ℕ
bytes_in rs = flat_map (λ (r : Request). r.bytes) rs

-- No message begins where there are no bytes.
none_first : (bytes more : List ℕ) (m : Message) (behind : List ℕ) → IsFirst bytes m behind → bytes ++ more ≡ [] → ⊥
none_first bytes more m behind first none =
    let long : 26 ≤ length first.text = length-Framed first.text m first.framed in
    omega (arith, ap length none, length-append bytes more, ap length first.parts, length-append first.text behind, long)

-- The first message is that of the first request, and the rest behind it is a front of the others' bytes.
first_framed : (bytes more text others : List ℕ) (x m : Message) (behind : List ℕ) → IsFirst bytes x behind → bytes ++ more ≡ text ++ others → Framed text m
    → (m ≡ x) × (behind ++ more ≡ others)
first_framed bytes more text others x m behind first joined framed =
    let here : IsFirst (bytes ++ more) x (behind ++ more) = record {
      text = first.text;
      parts = ap (λ (l : List ℕ). l ++ more) first.parts ∙ append_assoc first.text behind more;
      framed = first.framed;
    } in
    let same = first-once (bytes ++ more) m x others (behind ++ more) (record { text = text; parts = joined; framed = framed }) here in
    (same.0, sym same.1)

-- Where bytes are a front of those of requests, the message of a number frames the request of that number.
nth_framed : (ms : List Message) (rs : List Request) (n : ℕ) (m : Message) (bytes more rest : List ℕ) → Begins bytes ms rest
    → bytes ++ more ≡ bytes_in rs → AreFramed rs → slice_get ms n ≡ Some m → (r : Request) × (slice_get rs n ≡ Some r) × Framed r.bytes m
nth_framed [] rs n m bytes more rest begins joined framed e = absurd cc
nth_framed (x ∷ ms) [] n m bytes more rest begins joined framed e = absurd (none_first bytes more x begins.0 begins.1 joined)
nth_framed (x ∷ ms) (r ∷ rs) zero m bytes more rest begins joined framed e =
    let has = framed 0 r refl in
    let same = first_framed bytes more r.bytes (bytes_in rs) x has.0 begins.0 begins.1 joined has.1 in
    let is : x ≡ m = cc in
    (r, refl, subst (Framed r.bytes) (same.0 ∙ is) has.1)
nth_framed (x ∷ ms) (r ∷ rs) (suc n) m bytes more rest begins joined framed e =
    let has = framed 0 r refl in
    let same = first_framed bytes more r.bytes (bytes_in rs) x has.0 begins.0 begins.1 joined has.1 in
    nth_framed ms rs n m begins.0 more rest begins.2 same.1 (λ k q there. framed (suc k) q there) e

-- The bytes of the requests that were answered, and of the one behind them, are those of all.
bytes-requests : (xs : List Exchange) (o : Option Request) → bytes_answered xs ++ bytes_of o ≡ bytes_in (map (λ (x : Exchange). x.request) xs ++ last_of o)
bytes-requests [] None = refl
bytes-requests [] (Some r) = sym (append-nil r.bytes)
bytes-requests (x ∷ xs) o = append_assoc x.request.bytes (bytes_answered xs) (bytes_of o) ∙ ap (λ l. x.request.bytes ++ l) (bytes-requests xs o)

-- The message of a number that went out on a stream frames the stream's request of that number.
pub request_out : (v : Seen) (a : Account) → IsStreamWired v a → AreFramed (requests_in a) → (n : ℕ) (m : Message) → slice_get (messages v.out) n ≡ Some m
    → (r : Request) × (slice_get (requests_in a) n ≡ Some r) × Framed r.bytes m
request_out v a wired framed n m e =
    let joined : v.out ++ wired.cut.more ≡ bytes_in (requests_in a) =
    ap (λ (l : List ℕ). l ++ wired.cut.more) wired.out
    ∙ append_assoc (bytes_answered a.answered) wired.front wired.cut.more
    ∙ ap (λ (l : List ℕ). bytes_answered a.answered ++ l) wired.cut.joined
    ∙ bytes-requests a.answered a.last in
    nth_framed (messages v.out) (requests_in a) n m v.out wired.cut.more (behind_messages v.out) (parted v.out).begins joined framed e

-- Bytes that frame a message hold it.
pub message_in : (bytes : List ℕ) (m : Message) → Framed bytes m → slice_get (messages bytes) 0 ≡ Some m
message_in bytes m framed =
    let begins : Begins bytes (m ∷ []) [] = ([], record { text = bytes; parts = sym (append-nil bytes); framed = framed }, refl) in
    ap (λ (ms : List Message). slice_get ms 0) (messages-begin bytes (m ∷ []) [] begins).0
